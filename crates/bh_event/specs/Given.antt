-- The values of an order's fields, wherever they are found.
use Rattle.std.specs.Prelude.{◌≡◌, ℕ, Bool, List, Option, Some, None, Result, Ok, Err}
use Rattle.bh_event.specs.declared.given.GivenError.{GivenError}
use Rattle.bh_event.specs.declared.given.GivenError.TheVariants.{NotGiven, OutOfMemory}
use Rattle.bh_event.specs.declared.name.Field.{Field}

infixl 10 ◌>>=◌
abbrev pub ◌>>=◌ : {A B : Type 0} → Option A → (A → Option B) → Option B
None >>= f = None
(Some a) >>= f = f a

-- of each kind of value, as far as there is one
pub record Given : Type 0 where
  pub text : Field → Option (List ℕ)
  pub number : Field → Option ℕ
  pub choice : Field → Option Bool

-- the result, through view, is the answer, unless memory ran out
abbrev pub Gives : {X Y : Type 0} → (X → Y) → Result X GivenError → Option Y → Type 0
Gives view (Ok x) answer = answer ≡ Some (view x)
Gives view (Err NotGiven) answer = answer ≡ None
Gives view (Err OutOfMemory) answer = Unit {0}
