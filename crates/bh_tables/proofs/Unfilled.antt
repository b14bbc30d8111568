-- The tables that nothing fills have no row, so no row of theirs names another.
use Rattle.std.proofs.Common.{◌≡◌, inl, inr, ℕ, Bool, false, List, [], ◌∷◌, ◌++◌, flat_map, refl, ap, ◌∙◌}
use Rattle.std.specs.List.{list_any}
use Rattle.sqlite.specs.Effect.{Database}
use Rattle.sqlite.specs.Tree.{Trees}
use Rattle.sqlite_rules.specs.Lists.{Has}
use Rattle.bh_tables.specs.Typed.{Totals, IsHostBy, unfilled_trees}

none_first : {X : Type 0} (xs ys : List X) → xs ++ ys ≡ [] → xs ≡ []
none_first [] ys none = refl
none_first (x ∷ xs) ys none = absurd (cc)

none_after : {X : Type 0} (xs ys : List X) → xs ++ ys ≡ [] → ys ≡ []
none_after [] ys none = none
none_after (x ∷ xs) ys none = absurd (cc)

none_of : (db : Trees) (ts : List ℕ) → flat_map db ts ≡ [] → (t : ℕ) → Has ts t → db t ≡ []
none_of db [] none t h = absurd h
none_of db (u ∷ ts) none t (inl is) = ap db is ∙ none_first (db u) (flat_map db ts) none
none_of db (u ∷ ts) none t (inr h) = none_of db ts (none_after (db u) (flat_map db ts) none) t h

pub unfilled_none : {sums : Totals} (db : Database) → IsHostBy sums db → (t : ℕ) → Has unfilled_trees t → db.trees t ≡ []
unfilled_none db host = none_of db.trees unfilled_trees host.held.unfilled

pub none_names : {X : Type 0} (p : X → Bool) (rows : List X) → rows ≡ [] → list_any p rows ≡ false
none_names p rows none = ap (list_any p) none
