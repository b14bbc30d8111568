-- The refusals of a request's operation.
use Rattle.std.specs.Prelude.{ℕ, Bool, true, false, List}
use Rattle.bh_types.specs.Refusing.{RefusedOnly}
use Rattle.bh_types.specs.declared.refusal.Refusal.{Refusal}
use Rattle.bh_types.specs.declared.refusal.Refusal.TheVariants.{NotImplemented, AccessDenied, InvalidUri, InvalidBucketName, KeyTooLong}
use Rattle.bh_types.specs.declared.refusal.Refusal.TheVariants.{InvalidArgument, MethodNotAllowed}
use Rattle.bh_http.specs.Views.{Taken}
use Rattle.bh_operation.specs.Operations.{operation}

abbrev pub is_operation_refusal : Refusal → Bool
is_operation_refusal NotImplemented = true
is_operation_refusal AccessDenied = true
is_operation_refusal InvalidUri = true
is_operation_refusal InvalidBucketName = true
is_operation_refusal KeyTooLong = true
is_operation_refusal InvalidArgument = true
is_operation_refusal MethodNotAllowed = true
is_operation_refusal refusal = false

-- whoever the caller is, and whatever the request is
abbrev pub OperationRefusals : Type 0
OperationRefusals = (caller : List ℕ) (request : Taken) → RefusedOnly is_operation_refusal (operation caller request)
