-- A walk over references that stand in the order of their places.
use Rattle.std.proofs.Common.{arith, ◌≡◌, ℕ, zero, suc, ◌+◌, ◌<◌, if◌then◌else◌, List, [], ◌∷◌, length, drop, get_or, sym, ap, ◌∙◌, subst}
use Rattle.sqlite.specs.Order.{Row}
use Rattle.bh_tables.specs.Bodies.{Name, same_name}
use Rattle.bh_check.specs.Holds.{first_two, number_at}
use Rattle.bh_check.specs.Placed.{IsPlaced}

-- the row at a place, and those after it
pub left_is : {T : Type 0} (rows : List T) (i : ℕ) (row : T) → i < length rows → row ≡ get_or rows i row → drop i rows ≡ row ∷ drop (i + 1) rows
left_is {T} rows i row low is = go rows i low is ∙ ap (λ n. row ∷ drop n rows) (one i)
  where
    one : (n : ℕ) → suc n ≡ n + 1
    one n = omega arith

    go : (rows : List T) (i : ℕ) → i < length rows → row ≡ get_or rows i row → drop i rows ≡ row ∷ drop (suc i) rows
    go [] i low is = absurd (omega (arith, low))
    go (r ∷ rows) zero low is = ap (λ x. x ∷ rows) (sym is)
    go (r ∷ rows) (suc i) low is = go rows i (omega (arith, low)) is

pub placed_next : (of : Name → ℕ) (rows : List Row) (i : ℕ) (row : Row) → i < length rows → row ≡ get_or rows i row → number_at 3 row ≡ of (first_two row)
    → IsPlaced (λ q. of q + (if same_name (first_two row) q then 1 else 0)) (drop (i + 1) rows) → IsPlaced of (drop i rows)
placed_next of rows i row low is at rest = subst (IsPlaced of) (sym (left_is rows i row low is)) (at, rest)

pub placed_end : (of : Name → ℕ) (rows : List Row) (i : ℕ) → (i < length rows → ⊥) → IsPlaced of (drop i rows)
placed_end of [] zero high = tt
placed_end of [] (suc i) high = tt
placed_end of (r ∷ rows) zero high = absurd (high (omega arith))
placed_end of (r ∷ rows) (suc i) high = placed_end of rows i (λ low. high (omega (arith, low)))
