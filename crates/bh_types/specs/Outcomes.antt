-- Answers that may be refusals, and what code may return for them.
use Rattle.std.specs.Prelude.{◌≡◌, Bool, Result, Ok, Err, if◌then◌else◌}
use Rattle.bh_types.specs.declared.refusal.Refusal.{Refusal}
use Rattle.bh_types.specs.declared.error.RequestError.{RequestError}
use Rattle.bh_types.specs.declared.error.RequestError.TheVariants.{Refused, OutOfMemory}

-- one step after another: the first refusal is the answer
infixl 10 ◌>>=◌
abbrev pub ◌>>=◌ : {A B E : Type 0} → Result A E → (A → Result B E) → Result B E
(Ok x) >>= f = f x
(Err e) >>= f = Err e

-- refused unless a test holds
abbrev pub require : {E : Type 0} → Bool → E → Result (Unit {0}) E
require holds refusal = if holds then Ok tt else Err refusal

-- an error is the answer's refusal, unless memory ran out
abbrev pub Fails : {Y : Type 0} → RequestError → Result Y Refusal → Type 0
Fails OutOfMemory answer = Unit {0}
Fails (Refused r) answer = answer ≡ Err r

-- the result, through view, is the answer, unless memory ran out
abbrev pub Gives : {X Y : Type 0} → (X → Y) → Result X RequestError → Result Y Refusal → Type 0
Gives view (Ok x) answer = answer ≡ Ok (view x)
Gives view (Err e) answer = Fails e answer
