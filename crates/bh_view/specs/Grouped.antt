-- Finite maps that are built from the rows of a table.
use Rattle.std.specs.Prelude.{◌≡◌, ◌≤◌, ℕ, Bool, List, [], length, Option, None, option_map, pos, Decides}
use Rattle.std.specs.declared.cmp.Ordering.{Ordering}
use Rattle.std.specs.Cmp.{IsTotalOrder}
use Rattle.std.specs.Ordering.{int_eq}
use Rattle.std.specs.FinMap.{FinMap, IsAntisymmetric}
use Rattle.bh_model.specs.FinMaps.{tabulate}
pub use Rattle.bh_tables.specs.Bodies.{first, matching}

-- SQL's `=` at numbers
abbrev pub same_number : ℕ → ℕ → Bool
same_number a b = int_eq (pos a) (pos b)

-- a kind of key: an order for maps and a test for tables, by which the same keys are equal
pub record IsKey {K : Type 0} (R : K → K → Ordering) (is : K → K → Bool) : Type 0 where
  pub total : IsTotalOrder R
  pub same : IsAntisymmetric R
  pub decides : (x y : K) → Decides (is x y) (x ≡ y)

-- no two rows have the same key
abbrev pub HasUnique : {K T : Type 0} → (K → K → Bool) → (T → K) → List T → Type 0
HasUnique {K} is key rows = (k : K) → length (matching is key k rows) ≤ 1

-- if no row of a table has a key, no row of another table names it
abbrev pub Refers : {K T U : Type 0} → (K → K → Bool) → (T → K) → List T → (U → K) → List U → Type 0
Refers {K} is parent parents child children = (k : K) → first (matching is parent k parents) ≡ None → matching is child k children ≡ []

module _ {K X : Type 0} (R : K → K → Ordering) where
  -- at each key what `build` makes of the key and its rows
  unfoldable pub grouped : {T : Type 0} → (K → K → Bool) → (T → K) → (K → List T → Option X) → List T → FinMap R X
  grouped is key build rows = tabulate R key (λ k. build k (matching is key k rows)) rows

  -- for a table in which no two rows have the same key
  abbrev pub keyed : {T : Type 0} → (K → K → Bool) → (T → K) → (K → T → X) → List T → FinMap R X
  keyed is key value = grouped is key (λ k rows. option_map (value k) (first rows))
