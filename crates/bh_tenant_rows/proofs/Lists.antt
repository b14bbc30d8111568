-- Lists of rows, one tenant's rows after those of others, and rows whose numbers differ.
use Rattle.std.proofs.Common.{◌≡◌, ◌≢◌, ℕ, ◌≤◌, Bool, true, false, cond, List, [], ◌∷◌, ◌++◌, length, filter, append-nil, refl, sym, ap, ◌∙◌, subst, arith}
use Rattle.std.specs.List.{AllByRecursion}
use Rattle.std.proofs.lemmas.List.Elements.{filter-append}
use Rattle.sqlite_keyed.proofs.ListLemmas.{all_weaker, filter_none}
use Rattle.sqlite_typed.specs.Tests.{bytes_eq}
use Rattle.bh_model.specs.State.{Octets}
use Rattle.bh_view.specs.Grouped.{same_number, matching, HasUnique}
use Rattle.bh_view.proofs.Keys.{octets, numbers}
use Rattle.bh_view.proofs.GroupedLemmas.{is_itself, is_other}
use Rattle.bh_view.proofs.NameLemmas.{none_pass}
use Rattle.bh_view.proofs.OwnLemmas.{rows_at}

-- ---- tests

module _ {T : Type 0} where
  -- one that all pass
  pub filter_all : (rows : List T) → filter (λ _. true) rows ≡ rows
  filter_all [] = refl
  filter_all (r ∷ rs) = ap (λ l. r ∷ l) (filter_all rs)

  pub all_pass : (p : T → Bool) (rows : List T) → AllByRecursion (λ r. p r ≡ true) rows → filter p rows ≡ rows
  all_pass p [] all = refl
  all_pass p (r ∷ rs) all = ap (λ b. cond b (r ∷ filter p rs) (filter p rs)) all.0 ∙ ap (λ l. r ∷ l) (all_pass p rs all.1)

  -- those that pass do
  pub passed : (p : T → Bool) (rows : List T) → AllByRecursion (λ r. p r ≡ true) (filter p rows)
  passed p [] = tt
  passed p (r ∷ rs) = elim (p r) as (λ b. p r ≡ b → AllByRecursion (λ x. p x ≡ true) (cond b (r ∷ filter p rs) (filter p rs))) [ true ↦ λ e. (e, passed p rs) | false ↦ λ e. passed p rs ] refl

-- ---- one tenant's rows

module _ {T : Type 0} (own : T → Octets) (t : Octets) where
  abbrev pub AreOf : List T → Type 0
  AreOf = AllByRecursion (λ r. bytes_eq (own r) t ≡ true)

  pub are_of : (rows : List T) → AreOf (rows_at own t rows)
  are_of = passed (λ r. bytes_eq (own r) t)

  -- after those of others
  pub mine_after : (rows mine : List T) → rows_at own t rows ≡ [] → AreOf mine → rows_at own t (rows ++ mine) ≡ mine
  mine_after rows mine none all = filter-append (λ r. bytes_eq (own r) t) rows mine ∙ ap (λ l. l ++ rows_at own t mine) none ∙ all_pass _ mine all

  pub others_after : (u : Octets) → u ≢ t → (rows mine : List T) → AreOf mine → rows_at own u (rows ++ mine) ≡ rows_at own u rows
  others_after u apart rows mine all =
      filter-append (λ r. bytes_eq (own r) u) rows mine
      ∙ ap (λ l. rows_at own u rows ++ l) (filter_none _ mine (all_weaker _ _ (λ r is. is_other octets (own r) u (λ same. apart (sym same ∙ (octets.decides (own r) t).0 is))) mine all))
      ∙ append-nil (rows_at own u rows)

-- ---- numbers

module _ {T : Type 0} (number : T → ℕ) where
  -- each row's differs from those after it
  abbrev pub Differ : List T → Type 0
  Differ [] = Unit {0}
  Differ (r ∷ rs) = AllByRecursion (λ x. same_number (number x) (number r) ≡ false) rs × Differ rs

  none_more : (r : T) (rs : List T) → length (r ∷ rs) ≤ 1 → rs ≡ []
  none_more r [] h = refl
  none_more r (x ∷ rs) h = absurd (omega (arith, h))

  pub differ : (rows : List T) → HasUnique same_number number rows → Differ rows
  differ [] one = tt
  differ (r ∷ rs) one = (
    none_pass _ rs (none_more r _ (subst (λ b. length (cond b (r ∷ matching same_number number (number r) rs) (matching same_number number (number r) rs)) ≤ 1) (is_itself numbers (number r)) (one (number r)))),
    differ rs (λ q. fewer q (one q)),
  )
    where
      fewer : (q : ℕ) → length (matching same_number number q (r ∷ rs)) ≤ 1 → length (matching same_number number q rs) ≤ 1
      fewer q = elim (same_number (number r) q) as (λ b. length (cond b (r ∷ matching same_number number q rs) (matching same_number number q rs)) ≤ 1 → length (matching same_number number q rs) ≤ 1) [ true ↦ λ h. omega (arith, h) | false ↦ λ h. h ]
