-- Rows of a page, one after another.
use Rattle.std.proofs.Common.{arith, ◌≡◌, ◌<◌, ℕ, List, length, take, flat_map, ap, ◌∙◌}
use Rattle.std.proofs.lemmas.List.{take_all}

-- once each has its row, they are the rows of all
pub all_rows : {X : Type 0} (row : X → List ℕ) (xs : List X) (i : ℕ) (text : List ℕ) → (i < length xs → ⊥) → text ≡ flat_map row (take i xs)
    → text ≡ flat_map row xs
all_rows row xs i text end is = is ∙ ap (λ l. flat_map row l) (take_all i xs (omega (arith, end)))
