-- The operation in a request's head, if its credentials are right.
use Rattle.std.specs.Prelude.{Option, Result}
use Rattle.bh_types.specs.Outcomes.{◌>>=◌}
use Rattle.bh_types.specs.Rejections.{plainly}
use Rattle.bh_types.specs.declared.access_key.AccessKeyId.{AccessKeyId}
use Rattle.bh_types.specs.declared.rejection.Rejection.{Rejection}
use Rattle.bh_http.specs.Credentials.{secret_given}
use Rattle.bh_http.specs.Views.{Taken}
use Rattle.bh_model.specs.Credentials.{authenticate}
use Rattle.bh_model.specs.State.{State}
use Rattle.bh_operation.specs.Operations.{operation}
use Rattle.bh_operation.specs.declared.operation.Operation.{Operation}

-- the operation of a request with this access key, or its first refusal
abbrev pub asked_for : AccessKeyId → Taken → Option State → Result Operation Rejection
asked_for key request s = do
  secret ← plainly (secret_given request)
  _ ← plainly (authenticate key secret s)
  plainly (operation key.tenant request)
