-- A database without rows, with the bytes of packs: it has none either.
use Rattle.std.proofs.Common.{◌≡◌, inl, inr, ℕ, List, [], ◌∷◌, map, IsTrue, Result, refl, sym, ap, ◌∙◌}
use Rattle.std.proofs.lemmas.Bool.{cases_eq}
use Rattle.std.proofs.lemmas.Result.{on_ok_weaker}
use Rattle.std.specs.List.{AllByRecursion}
use Rattle.sqlite.specs.Order.{Row}
use Rattle.sqlite.specs.Schema.{Schema}
use Rattle.sqlite.specs.State.{State}
use Rattle.sqlite.specs.Table.{Table}
use Rattle.sqlite.specs.Tree.{Trees}
use Rattle.sqlite.specs.declared.error.Error.{Error}
use Rattle.bh_rows.specs.Means.{IsBlank, Grows}
use Rattle.bh_tables.specs.Packs.{places_in, packs_in}
use Rattle.bh_shelf.specs.Contents.{Contents}
use Rattle.bh_base.specs.Placed.{below, filled_row, filled_trees}
use Rattle.bh_base.specs.Shown.{Backing, named, shown}
use Rattle.bh_base.proofs.Endings.{disk_clean}
use Rattle.bh_base.proofs.Lifting.{doubtless}
use Rattle.bh_base.proofs.Statements.{outside}

unmapped : {A B : Type 0} (f : A → B) (l : List A) → map f l ≡ [] → l ≡ []
unmapped f [] is = refl
unmapped f (x ∷ l) is = absurd (cc)

module _ (packs : Contents) (trees : Trees) where
  empty_bare : (t : ℕ) → filled_trees packs trees t ≡ [] → trees t ≡ []
  unfolding filled_trees
  empty_bare t is = elim (cases_eq t 10) [
    | inl here ↦ ap trees here ∙ unmapped (filled_row (below (packs_in trees) packs) (places_in trees)) (trees 10) (ap (filled_trees packs trees) (sym here) ∙ is)
    | inr other ↦ sym (outside packs trees t other) ∙ is
  ]

  empty_shown : (t : ℕ) → trees t ≡ [] → filled_trees packs trees t ≡ []
  unfolding filled_trees
  empty_shown t is = elim (cases_eq t 10) [
    | inl here ↦ ap (filled_trees packs trees) here ∙ ap (λ (l : List Row). map (filled_row (below (packs_in trees) packs) (places_in trees)) l) (ap trees (sym here) ∙ is)
    | inr other ↦ outside packs trees t other ∙ is
  ]

  all_bare : (ts : List Table) → AllByRecursion (λ (t : Table). filled_trees packs trees t.tree ≡ []) ts → AllByRecursion (λ (t : Table). trees t.tree ≡ []) ts
  all_bare [] h = tt
  all_bare (t ∷ ts) h = (empty_bare t.tree h.0, all_bare ts h.1)

  all_shown : (ts : List Table) → AllByRecursion (λ (t : Table). trees t.tree ≡ []) ts → AllByRecursion (λ (t : Table). filled_trees packs trees t.tree ≡ []) ts
  all_shown [] h = tt
  all_shown (t ∷ ts) h = (empty_shown t.tree h.0, all_shown ts h.1)

module _ (a : Backing) (schema : Schema) (s : State) where
  pub blank_bare : IsBlank schema (shown a s) → IsBlank schema s
  blank_bare h = record { schema_is = h.schema_is; blank = all_bare (named a s.in_transaction) s.now.trees schema.tables h.blank }

  pub blank_shown : IsBlank schema s → IsBlank schema (shown a s)
  blank_shown h = record { schema_is = h.schema_is; blank = all_shown (named a s.in_transaction) s.now.trees schema.tables h.blank }

-- a call that leaves no rows
pub grows_shown : {X : Type 0} (a : Backing) (after : Schema) (old new : State) (result : Result X Error) → (IsTrue a.is_clean → Grows after old new result) → Grows after (shown a old) (shown a new) result
grows_shown a after old new result it = record {
  blank = λ h up. let clean = disk_clean a old new new h in on_ok_weaker result (blank_shown a after new) ((it clean.1).blank clean.0 up);
  is_open = λ h up. let clean = disk_clean a old new new h in (it clean.1).is_open clean.0 up;
  clean = λ h. let clean = disk_clean a old new new h in doubtless old.is_clean a.is_clean ((it clean.1).clean clean.0) clean.1;
  up = λ h up. let clean = disk_clean a old new new h in (it clean.1).up clean.0 up;
}
