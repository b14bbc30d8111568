-- A request's tenant, and its credentials.
use Rattle.std.specs.Prelude.{ℕ, List, codes, Option, None, option_map, Result, Ok, Err}
use Rattle.bh_types.specs.AccessKeys.{access_key}
use Rattle.bh_types.specs.declared.access_key.AccessKeyId.{AccessKeyId}
use Rattle.bh_types.specs.declared.refusal.Refusal.{Refusal}
use Rattle.bh_types.specs.declared.refusal.Refusal.TheVariants.{AccessDenied}
use Rattle.bh_http.specs.Fields.{Occurrence, Missing, Once, Repeated, field_named}
use Rattle.bh_http.specs.Views.{Taken}

abbrev pub key_field : Taken → Occurrence
key_field request = field_named (codes "x-access-key") request.fields

abbrev pub secret_field : Taken → Occurrence
secret_field request = field_named (codes "x-secret-key") request.fields

-- the secret, if an access key's id and a secret occur once each
abbrev pub secret_of_both : Occurrence → Occurrence → Result (List ℕ) Refusal
secret_of_both (Once id) (Once secret) = Ok secret
secret_of_both (Once id) Missing = Err AccessDenied
secret_of_both (Once id) Repeated = Err AccessDenied
secret_of_both Missing secret = Err AccessDenied
secret_of_both Repeated secret = Err AccessDenied

-- a request's secret, beside its access key
abbrev pub secret_given : Taken → Result (List ℕ) Refusal
secret_given request = secret_of_both (key_field request) (secret_field request)

abbrev pub key_in : Occurrence → Option AccessKeyId
key_in (Once id) = access_key id
key_in Missing = None
key_in Repeated = None

-- a request's access key, if it has one that a tenant may have
abbrev pub key_given : Taken → Option AccessKeyId
key_given request = key_in (key_field request)

-- a request's tenant, by its only access key
abbrev pub owner : Taken → Option (List ℕ)
owner request = option_map (λ (key : AccessKeyId). key.tenant) (key_given request)
