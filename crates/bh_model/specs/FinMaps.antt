-- Finite maps: setting or deleting one key's value, changing each value, the sum of a size over
-- the values, and whether some value passes a test.
use Rattle.std.specs.Prelude.{ℕ, Bool, ◌==◌, List, [], ◌∷◌, Option, Some, None, option_map, option_and_then}
use Rattle.std.specs.List.{filter_map, sum_by, list_any}
use Rattle.std.specs.declared.cmp.Ordering.{Ordering}
use Rattle.std.specs.FinMap.{FinMap, from_entries, entries, get, insert, remove, len}

-- a list as the value of a key; a key with an empty list is not in the map
abbrev pub non_empty : {X : Type 0} → List X → Option (List X)
non_empty [] = None
non_empty (x ∷ xs) = Some (x ∷ xs)

module _ {K X : Type 0} (R : K → K → Ordering) where
  -- the map of the keys in a list: each has its value, if there is one
  abbrev pub tabulate : {T : Type 0} → (T → K) → (K → Option X) → List T → FinMap R X
  tabulate key value items = from_entries (filter_map (λ t. option_map (λ x. (key t, x)) (value (key t))) items)

module _ {K X : Type 0} {R : K → K → Ordering} where
  -- whether no key has a value
  abbrev pub is_empty : FinMap R X → Bool
  is_empty m = len m == 0

  -- the map with this value at a key, or with none there
  abbrev pub set_at : FinMap R X → K → Option X → FinMap R X
  set_at m k None = remove m k
  set_at m k (Some x) = insert m k x

  -- the map with each value changed, or deleted
  unfoldable pub adjusted : {Y : Type 0} → (X → Option Y) → FinMap R X → FinMap R Y
  adjusted f m = tabulate R (λ e. e.0) (λ k. option_and_then f (get m k)) (entries m)

  -- the sum of a size over all values
  unfoldable pub total : (X → ℕ) → FinMap R X → ℕ
  total f m = sum_by (λ e. f e.1) (entries m)

  -- whether some value passes a test
  unfoldable pub any_value : (X → Bool) → FinMap R X → Bool
  any_value test m = list_any (λ e. test e.1) (entries m)
