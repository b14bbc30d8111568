-- The first place that passes a test.
use Rattle.std.proofs.Common.{◌≡◌, Bool, List, length, sym, ◌∙◌, inl, inr}
use Rattle.std.specs.Prelude.{slice_get, position, option_and_then}
use Rattle.std.specs.List.{find, position_or_len}
use Rattle.std.proofs.lemmas.Bool.{cases_lt, lt-ltb, le-ltb}
use Rattle.std.proofs.lemmas.Option.{slice_get_past}
use Rattle.std.proofs.lemmas.List.Folds.{find_at}

-- what stands at the first place that passes is the first element that passes
pub at_position : {X : Type 0} (p : X → Bool) (xs : List X) → option_and_then (slice_get xs) (position p xs) ≡ find p xs
at_position p xs = elim (cases_lt (position_or_len p xs) (length xs)) [
  | inl within ↦ rw (lt-ltb (position_or_len p xs) (length xs) within) (sym (find_at p xs))
  | inr past ↦ rw (le-ltb (position_or_len p xs) (length xs) past) (sym (find_at p xs ∙ slice_get_past xs (position_or_len p xs) past))
]
