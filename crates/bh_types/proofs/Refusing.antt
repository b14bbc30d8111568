-- Steps that are refused only as a test allows.
use Rattle.std.proofs.Common.{◌≡◌, Bool, true, false, Option, Some, None, Ok, Err, Result, cond}
use Rattle.std.specs.Prelude.{ok_or}
use Rattle.bh_types.specs.Outcomes.{◌>>=◌, require}
use Rattle.bh_types.specs.Refusing.{RefusedOnly}
use Rattle.bh_types.specs.declared.refusal.Refusal.{Refusal}

module _ (may : Refusal → Bool) where
  pub then_only : {A B : Type 0} (r : Result A Refusal) (f : A → Result B Refusal) → RefusedOnly may r → ((x : A) → RefusedOnly may (f x)) → RefusedOnly may (r >>= f)
  then_only (Ok x) f only next = next x
  then_only (Err e) f only next = only

  pub if_only : {A : Type 0} (holds : Bool) (x : A) (refusal : Refusal) → may refusal ≡ true → RefusedOnly may (cond holds (Ok x) (Err refusal))
  if_only true x refusal only = tt
  if_only false x refusal only = only

  pub unless_only : {A : Type 0} (holds : Bool) (refusal : Refusal) (x : A) → may refusal ≡ true → RefusedOnly may (cond holds (Err refusal) (Ok x))
  unless_only true refusal x only = only
  unless_only false refusal x only = tt

  pub require_only : (holds : Bool) (refusal : Refusal) → may refusal ≡ true → RefusedOnly may (require holds refusal)
  require_only holds refusal only = if_only holds tt refusal only

  pub ok_or_only : {A : Type 0} (o : Option A) (refusal : Refusal) → may refusal ≡ true → RefusedOnly may (ok_or o refusal)
  ok_or_only None refusal only = only
  ok_or_only (Some x) refusal only = tt

pub weaker_only : {A : Type 0} (may might : Refusal → Bool) → ((refusal : Refusal) → may refusal ≡ true → might refusal ≡ true) → (r : Result A Refusal) → RefusedOnly may r → RefusedOnly might r
weaker_only may might weaker (Ok x) only = tt
weaker_only may might weaker (Err e) only = weaker e only
