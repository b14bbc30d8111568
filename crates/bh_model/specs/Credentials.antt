-- Whether a request's credentials are right.
use Rattle.std.specs.Prelude.{Option, option_and_then, ok_or, Result, bytes_eq}
use Rattle.std.specs.FinMap.{get}
use Rattle.bh_types.specs.declared.access_key.AccessKeyId.{AccessKeyId}
use Rattle.bh_types.specs.declared.refusal.Refusal.{Refusal}
use Rattle.bh_types.specs.declared.refusal.Refusal.TheVariants.{AccessDenied, InvalidAccessKeyId}
use Rattle.bh_model.specs.State.{Octets, State}
use Rattle.bh_types.specs.Outcomes.{◌>>=◌, require}

abbrev pub secret_of : Octets → Option State → Option Octets
secret_of name s = option_and_then (λ t. get t.keys name) s

-- S3 has the codes (Amazon S3 API Reference, "Error responses"); the rule on the state of the key's
-- tenant is this host's
abbrev pub authenticate : AccessKeyId → Octets → Option State → Result (Unit {0}) Refusal
authenticate key secret s = do
  name ← ok_or key.name InvalidAccessKeyId
  known ← ok_or (secret_of name s) InvalidAccessKeyId
  require (bytes_eq secret known) AccessDenied
