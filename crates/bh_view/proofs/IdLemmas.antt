-- That no two entries of a key in a tenant's state have one id.
use Rattle.std.proofs.Common.{◌≡◌, ℕ, zero, suc, ◌<◌, ◌≤◌, cond, List, [], ◌∷◌, length, map, filter, Option, Some, None, refl, sym, subst, ap, ◌∙◌, arith}
use Rattle.std.specs.List.{AllByRecursion}
use Rattle.std.proofs.lemmas.List.{length-map}
use Rattle.std.specs.FinMap.{get}
use Rattle.sqlite_keyed.specs.Lists.{sort_by}
use Rattle.sqlite_keyed.proofs.ListLemmas.{all_weaker, all-filter, all_map, filter-map}
use Rattle.bh_types.specs.declared.id.VersionId.TheVariants.{Null, Numbered}
use Rattle.bh_model.specs.Entries.{has_id}
use Rattle.bh_model.specs.FinMaps.{non_empty}
use Rattle.bh_model.specs.Ids.{HaveOwnIds, WasGiven, AreNumbered, IsNumbered}
use Rattle.bh_model.specs.State.{Entry, State}
use Rattle.bh_tables.specs.Typed.{VersionRow}
use Rattle.bh_tables.specs.Shown.{newer}
use Rattle.bh_view.specs.Grouped.{same_number, HasUnique}
use Rattle.bh_view.specs.Laws.{ViewsAreNumbered}
use Rattle.bh_view.specs.View.{rows_of, id_of, entry_of, entries_of, view, in_bucket, at_key}
use Rattle.bh_view.proofs.FilterLemmas.{none_some, same_Some}
use Rattle.bh_view.proofs.SortLemmas.{sorted_single, sort_by-filter, all-sort_by}
use Rattle.bh_view.proofs.ObjectLemmas.{newer_total, get-objects_of}
use Rattle.bh_view.proofs.BucketLemmas.{objects_shown}
use Rattle.bh_view.proofs.ViewLemmas.{own_row}
use Rattle.bh_view.proofs.VersionChanges.{at_id, same_ids}
use Rattle.bh_view.proofs.PutLemmas.{below_next}
use Rattle.bh_view.proofs.WantedLemmas.{not_zero}

-- no row shows the number 0
none_shown : (rows : List VersionRow) → filter (has_id (Numbered 0)) (map entry_of rows) ≡ []
none_shown [] = refl
none_shown (v ∷ rows) =
    ap (λ b. cond b (entry_of v ∷ filter (has_id (Numbered 0)) (map entry_of rows)) (filter (has_id (Numbered 0)) (map entry_of rows))) (not_zero v.id) ∙ none_shown rows

module _ (rows : List VersionRow) (one : HasUnique same_number (λ (v : VersionRow). v.id) rows) where
  -- the entries of an id are those of its rows, of which there is one at most
  of_number : (n : ℕ) → filter (has_id (id_of n)) (entries_of rows) ≡ map entry_of (at_id n rows)
  of_number n =
      filter-map (has_id (id_of n)) entry_of (sort_by newer rows) ∙ (λ i. map entry_of (filter (λ v. sym (same_ids v.id n) i) (sort_by newer rows)))
      ∙ ap (map entry_of) (sym (sort_by-filter newer newer_total (λ v. same_number v.id n) rows) ∙ sorted_single newer (at_id n rows) (one n))

  few : (n : ℕ) → length (filter (has_id (id_of n)) (entries_of rows)) ≤ 1
  few n = subst (λ k. k ≤ 1) (sym (ap (λ l. length l) (of_number n) ∙ length-map (at_id n rows) entry_of)) (one n)

  own_ids : HaveOwnIds (entries_of rows)
  own_ids Null = few 0
  own_ids (Numbered zero) = (let none : length (filter (has_id (Numbered 0)) (entries_of rows)) ≡ 0 = ap (λ l. length l) (none_shown (sort_by newer rows)) in omega (arith, none))
  own_ids (Numbered (suc n)) = few (suc n)

was_given : (next n : ℕ) → n < next → WasGiven next (id_of n)
was_given next zero less = tt
was_given next (suc n) less = less

listed_as : (entries versions : List Entry) → non_empty entries ≡ Some versions → entries ≡ versions
listed_as [] versions is = absurd (none_some is)
listed_as (e ∷ es) versions is = same_Some is

pub views_are_numbered : ViewsAreNumbered
views_are_numbered tables t sound = go (view tables t) refl
  where
    go : (o : Option State) → view tables t ≡ o → IsNumbered o
    go None is = tt
    go (Some s) is = λ name b there key versions here.
        let mine = (rows_of t tables).versions in
        let rows = at_key key (in_bucket name mine) in
        let shown = objects_shown (rows_of t tables) name b (ap (λ (x : State). get x.buckets name) (own_row tables t s is).2 ∙ there) in
        let same : entries_of rows ≡ versions = listed_as (entries_of rows) versions (sym (get-objects_of (in_bucket name mine) key) ∙ ap (λ m. get m key) shown ∙ here) in
        let below : AllByRecursion (λ v. v.id < s.next_version) rows = all-filter _ _ _ (all-filter _ _ _ (all_weaker _ (λ v. v.id < s.next_version) (λ v less. less.1) mine (below_next tables t s sound is))) in
        subst (AreNumbered s.next_version) same
        (record { own = own_ids rows ((sound.tenants t).versions.one_id name key); given = all_map (λ e. WasGiven s.next_version e.id) entry_of (sort_by newer rows) (all_weaker _ _ (λ v less. was_given s.next_version v.id less) _ (all-sort_by newer _ rows below)) })
