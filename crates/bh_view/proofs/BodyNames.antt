-- Which names of bodies no version and no part has: that of the next entry, that of a version among parts, and those of parts that are taken out.
use Rattle.std.proofs.Common.{◌≡◌, ℕ, ◌<◌, Bool, true, false, true≢false, not, cond, ◌||◌, ◌&&◌, List, [], ◌∷◌, map, filter, Some, refl, sym, ap, ◌∙◌, subst, arith}
use Rattle.std.specs.List.{AllByRecursion, list_any}
use Rattle.sqlite_keyed.specs.Lists.{delete_where}
use Rattle.sqlite_keyed.proofs.ListLemmas.{all_weaker, all_both, all-filter, none_from_any, any_from_none}
use Rattle.sqlite_typed.specs.Tests.{bytes_eq}
use Rattle.bh_model.specs.State.{Octets, State}
use Rattle.bh_tables.specs.Bodies.{same_name, part_name}
use Rattle.bh_tables.specs.Typed.{VersionRow, PartRow, Tables}
use Rattle.bh_tables.specs.Shown.{is_entry}
use Rattle.bh_view.specs.Grouped.{first, matching, same_number}
use Rattle.bh_view.specs.View.{rows_of, view}
use Rattle.bh_view.specs.Sound.{IsSound}
use Rattle.bh_view.specs.Bodies.{IsUnnamed}
use Rattle.bh_view.proofs.Keys.{numbers}
use Rattle.bh_view.proofs.FactLemmas.{all_first, each_first}
use Rattle.bh_view.proofs.FilterLemmas.{single, filter_both, filter_swap}
use Rattle.bh_view.proofs.GroupedLemmas.{is_other}
use Rattle.bh_view.proofs.NameLemmas.{name_swap, none_pass}
use Rattle.bh_view.proofs.OwnLemmas.{rows_at}
use Rattle.bh_view.proofs.PutLemmas.{older, parts_older}

-- ---- one tenant's rows, by their number

module _ {T : Type 0} (own : T → Octets) (number : T → ℕ) where
  -- a name among those of all rows is a number among those of its tenant's
  named_in : (t : Octets) (n : ℕ) (rows : List T) → list_any (same_name (t, n)) (map (λ x. (own x, number x)) rows) ≡ list_any (λ x. same_number (number x) n) (rows_at own t rows)
  named_in t n [] = refl
  named_in t n (x ∷ xs) =
      ap (λ c. c || list_any (same_name (t, n)) (map (λ y. (own y, number y)) xs)) (name_swap (t, n) (own x, number x))
      ∙ elim (bytes_eq (own x) t) as (λ b. ((b && same_number (number x) n) || list_any (same_name (t, n)) (map (λ y. (own y, number y)) xs)) ≡ list_any (λ y. same_number (number y) n) (cond b (x ∷ rows_at own t xs) (rows_at own t xs))) [
        | true ↦ ap (λ c. same_number (number x) n || c) (named_in t n xs)
        | false ↦ named_in t n xs
      ]

  below_unnamed : (t : Octets) (n : ℕ) (rows : List T) → AllByRecursion (λ x. number x < n) (rows_at own t rows) → list_any (same_name (t, n)) (map (λ x. (own x, number x)) rows) ≡ false
  below_unnamed t n rows below = named_in t n rows ∙ any_from_none _ _ (all_weaker (λ x. number x < n) (λ x. same_number (number x) n ≡ false) (λ x less. is_other numbers (number x) n (λ e. absurd (omega (arith, less, e)))) (rows_at own t rows) below)

-- what none of one list says of any of another
all_swapped : {T U : Type 0} (r : T → U → Bool) (ts : List T) (us : List U) → AllByRecursion (λ u. list_any (λ t. r t u) ts ≡ false) us → AllByRecursion (λ t. list_any (r t) us ≡ false) ts
all_swapped r [] us all = tt
all_swapped r (t ∷ ts) us all =
    let each = all_weaker _ (λ u. (r t u ≡ false) × (list_any (λ x. r x u) ts ≡ false)) (λ u none. parts (r t u) none) us all in
    (any_from_none (r t) us (all_weaker _ _ (λ u h. h.0) us each), all_swapped r ts us (all_weaker _ _ (λ u h. h.1) us each))
  where
    parts : (a : Bool) {b : Bool} → (a || b) ≡ false → (a ≡ false) × (b ≡ false)
    parts true h = absurd (cc)
    parts false h = (refl, h)

-- ---- the next entry

-- a tenant's next entry number is that of no body
pub next_unnamed : (tables : Tables) (t : Octets) (s : State) → IsSound tables → view tables t ≡ Some s → IsUnnamed (t, s.next_entry) tables
next_unnamed tables t s sound is = record {
  versions = below_unnamed (λ (v : VersionRow). v.tenant) (λ v. v.seq) t s.next_entry tables.versions (older tables t s sound is);
  parts = below_unnamed (λ (p : PartRow). p.tenant) (λ p. p.body) t s.next_entry tables.parts (parts_older tables t s sound is);
}

-- ---- versions and parts

module _ (tables : Tables) (t : Octets) (sound : IsSound tables) where
  -- no version of a tenant has a body that is a part's
  versions_apart : AllByRecursion (λ (v : VersionRow). list_any (same_name (t, v.seq)) (map part_name tables.parts) ≡ false) (rows_of t tables).versions
  versions_apart = all_weaker _ _
      (λ (v : VersionRow) none. named_in (λ (p : PartRow). p.tenant) (λ p. p.body) t v.seq tables.parts ∙ any_from_none _ _ (all_weaker _ _ (λ (p : PartRow) other. swapped v.seq p.body other) (rows_of t tables).parts (none_from_any _ _ none)))
      (rows_of t tables).versions (all_swapped (λ (v : VersionRow) (p : PartRow). same_number v.seq p.body) (rows_of t tables).versions (rows_of t tables).parts (sound.tenants t).parts.apart)
    where
      swapped : (m n : ℕ) → same_number m n ≡ false → same_number n m ≡ false
      swapped m n e = is_other numbers n m (λ h. true≢false (sym ((numbers.decides m n).1 (sym h)) ∙ e))

  pub version_apart : (v : VersionRow) → first (filter (is_entry t v.seq) tables.versions) ≡ Some v → list_any (same_name (t, v.seq)) (map part_name tables.parts) ≡ false
  version_apart v there = all_first _ _ v there (subst (AllByRecursion (λ (w : VersionRow). list_any (same_name (t, w.seq)) (map part_name tables.parts) ≡ false)) (filter_both (λ (x : VersionRow). bytes_eq x.tenant t) (λ x. same_number x.seq v.seq) tables.versions)
      (all-filter _ _ (rows_of t tables).versions versions_apart))

  -- parts of a test are taken out: none of their bodies is a row's any more
  pub taken_unnamed : (test : PartRow → Bool) → AllByRecursion (λ (p : PartRow). test p ≡ true → IsUnnamed (t, p.body) (record tables { parts = delete_where test tables.parts })) (rows_of t tables).parts
  taken_unnamed test = all_both _ _ _ one mine (each_first numbers (λ (p : PartRow). p.body) mine (sound.tenants t).parts.one_body) (sound.tenants t).parts.apart
    where
      mine : List PartRow
      mine = (rows_of t tables).parts

      one : (p : PartRow) → first (matching same_number (λ (x : PartRow). x.body) p.body mine) ≡ Some p → list_any (λ (v : VersionRow). same_number v.seq p.body) (rows_of t tables).versions ≡ false
          → test p ≡ true → IsUnnamed (t, p.body) (record tables { parts = delete_where test tables.parts })
      one p its apart passes = record {
        versions = named_in (λ (v : VersionRow). v.tenant) (λ v. v.seq) t p.body tables.versions ∙ apart;
        parts = named_in (λ (x : PartRow). x.tenant) (λ x. x.body) t p.body (delete_where test tables.parts)
            ∙ any_from_none _ _ (subst (AllByRecursion (λ (x : PartRow). same_number x.body p.body ≡ false)) (sym (filter_swap (λ (x : PartRow). bytes_eq x.tenant t) (λ x. not (test x)) tables.parts)) left);
      }
        where
          alone : matching same_number (λ (x : PartRow). x.body) p.body mine ≡ p ∷ []
          alone = single _ ((sound.tenants t).parts.one_body p.body) p its

          left : AllByRecursion (λ (x : PartRow). same_number x.body p.body ≡ false) (delete_where test mine)
          left = none_pass _ (delete_where test mine) (filter_swap (λ x. same_number x.body p.body) (λ x. not (test x)) mine ∙ ap (delete_where test) alone ∙ ap (λ b. cond (not b) (p ∷ []) []) passes)
