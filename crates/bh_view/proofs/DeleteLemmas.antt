-- A delete: the entry of an id taken out, nothing taken out, and the version `null` where versions were never kept.
use Rattle.std.proofs.Common.{◌≡◌, Bool, true, false, cond, not, ◌&&◌, List, [], ◌∷◌, Option, Some, None, option_map, option_to_list, find, filter, unwrap_or, refl, sym, ap, ◌∙◌, subst}
use Rattle.std.specs.List.{AllByRecursion}
use Rattle.std.specs.Option.{option_map_or}
use Rattle.std.specs.FinMap.{get}
use Rattle.sqlite_keyed.specs.Lists.{delete_where}
use Rattle.bh_types.specs.declared.id.VersionId.{VersionId}
use Rattle.bh_types.specs.declared.id.VersionId.TheVariants.{Null}
use Rattle.bh_model.specs.FinMaps.{non_empty, set_at}
use Rattle.bh_model.specs.State.{Octets, Entry, Bucket, State}
use Rattle.bh_model.specs.Entries.{has_id, is_body, is_version as is_object, without, without_null_version}
use Rattle.bh_model.specs.Operations.{with_bucket, with_entries, listed}
use Rattle.bh_tables.specs.Typed.{VersionRow, Tables}
use Rattle.bh_tables.specs.Shown.{is_version}
use Rattle.bh_view.specs.View.{rows_of, in_bucket, at_key, content_of, entry_of, entries_of, view}
use Rattle.bh_view.specs.Sound.{IsSound}
use Rattle.bh_view.specs.Becomes.{Becomes}
use Rattle.bh_view.proofs.Keys.{octets}
use Rattle.bh_view.proofs.FilterLemmas.{none_some}
use Rattle.bh_view.proofs.GroupedLemmas.{unwrapped, set_at_same}
use Rattle.bh_view.proofs.ObjectLemmas.{get-objects_of}
use Rattle.bh_view.proofs.BucketLemmas.{objects_shown}
use Rattle.bh_view.proofs.ViewLemmas.{own_row}
use Rattle.bh_view.proofs.VersionChanges.{null_undated, version_removed}
use Rattle.bh_view.proofs.FindLemmas.{id_found}

-- an id that no entry has
without_absent : (id : VersionId) (entries : List Entry) → find (has_id id) entries ≡ None → without id entries ≡ entries
without_absent id [] none = refl
without_absent id (e ∷ es) none = elim (has_id id e) as (λ b. cond b (Some e) (find (has_id id) es) ≡ None → cond (not b) (e ∷ without id es) (without id es) ≡ e ∷ es) [
  | true ↦ λ some. absurd (none_some (sym some))
  | false ↦ λ rest. ap (λ l. e ∷ l) (without_absent id es rest)
] none

-- of entries of which those that pass a test all fail another, or all pass it, those that don't pass both
module _ {X : Type 0} (p q : X → Bool) where
  abbrev kept : List X → List X
  kept xs = filter (λ x. not (p x && q x)) xs

  all_kept : (xs : List X) → AllByRecursion (λ x. q x ≡ false) (filter p xs) → kept xs ≡ xs
  all_kept [] = λ h. refl
  all_kept (x ∷ xs) = elim (p x) as (λ b. AllByRecursion (λ x. q x ≡ false) (cond b (x ∷ filter p xs) (filter p xs)) → cond (not (b && q x)) (x ∷ kept xs) (kept xs) ≡ x ∷ xs) [
    | true ↦ λ h. ap (λ b. cond (not b) (x ∷ kept xs) (kept xs)) h.0 ∙ ap (λ l. x ∷ l) (all_kept xs h.1)
    | false ↦ λ h. ap (λ l. x ∷ l) (all_kept xs h)
  ]

  none_kept : (xs : List X) → AllByRecursion (λ x. q x ≡ true) (filter p xs) → kept xs ≡ filter (λ x. not (p x)) xs
  none_kept [] = λ h. refl
  none_kept (x ∷ xs) = elim (p x) as (λ b. AllByRecursion (λ x. q x ≡ true) (cond b (x ∷ filter p xs) (filter p xs)) → cond (not (b && q x)) (x ∷ kept xs) (kept xs) ≡ cond (not b) (x ∷ filter (λ x. not (p x)) xs) (filter (λ x. not (p x)) xs)) [
    | true ↦ λ h. ap (λ b. cond (not b) (x ∷ kept xs) (kept xs)) h.0 ∙ none_kept xs h.1
    | false ↦ λ h. ap (λ l. x ∷ l) (none_kept xs h)
  ]

module _ (tables : Tables) (t : Octets) (s : State) (is : view tables t ≡ Some s) (b k : Octets) (B : Bucket) (at : get s.buckets b ≡ Some B) where
  -- a key's entries written again are no change
  pub entries_same : with_bucket b (with_entries k (listed k B) B) s ≡ s
  entries_same =
      let shown = objects_shown (rows_of t tables) b B (ap (λ (x : State). get x.buckets b) (own_row tables t s is).2 ∙ at) in
      let here : get B.objects k ≡ non_empty (entries_of (at_key k (in_bucket b (rows_of t tables).versions))) = ap (λ m. get m k) (sym shown) ∙ get-objects_of (in_bucket b (rows_of t tables).versions) k in
      let again : non_empty (listed k B) ≡ get B.objects k = ap (λ o. non_empty (unwrap_or o [])) here ∙ ap non_empty (unwrapped (entries_of (at_key k (in_bucket b (rows_of t tables).versions)))) ∙ sym here in
      ap (λ m. with_bucket b (record B { objects = m }) s) (ap (set_at B.objects k) again ∙ set_at_same octets B.objects k)
      ∙ ap (λ m. record s { buckets = m }) (ap (set_at s.buckets b) (sym at) ∙ set_at_same octets s.buckets b)

  -- an id that no entry has changes nothing
  pub nothing_removed : (id : VersionId) → find (has_id id) (listed k B) ≡ None → with_bucket b (with_entries k (without id (listed k B)) B) s ≡ s
  nothing_removed id none = ap (λ l. with_bucket b (with_entries k l B) s) (without_absent id (listed k B) none) ∙ entries_same

  module _ (sound : IsSound tables) where
    -- the version `null` taken out, in a bucket that never had versions
    pub null_removed : (v : VersionRow) → find (is_version t b k 0) tables.versions ≡ Some v → v.marker ≡ 0 → (new : Tables) → new ≡ record tables { versions = delete_where (is_version t b k 0) tables.versions }
        → Becomes t (Some (with_bucket b (with_entries k (without_null_version (listed k B)) B) s)) tables new
    null_removed v there body new e =
        let found : filter (has_id Null) (listed k B) ≡ entry_of v ∷ [] = id_found tables t s is b k B at sound 0 ∙ ap (λ o. option_to_list (option_map entry_of o)) there in
        let objects : AllByRecursion (λ e. is_object e ≡ true) (filter (has_id Null) (listed k B)) = subst (AllByRecursion (λ e. is_object e ≡ true)) (sym found) (ap (λ m. is_body (content_of m v)) body, tt) in
        subst (λ l. Becomes t (Some (with_bucket b (with_entries k l B) s)) tables new) (sym (none_kept (has_id Null) is_object (listed k B) objects))
        (version_removed tables new t s sound is b k 0 B at (null_undated b k _ _ _ (sound.tenants t).retains.kept) e)

    -- and nothing, where none is there, or a delete marker is `null`
    pub null_kept : option_map_or (λ v. is_object (entry_of v)) (find (is_version t b k 0) tables.versions) false ≡ false → with_bucket b (with_entries k (without_null_version (listed k B)) B) s ≡ s
    null_kept none =
        let markers : AllByRecursion (λ e. is_object e ≡ false) (filter (has_id Null) (listed k B)) = subst (AllByRecursion (λ e. is_object e ≡ false)) (sym (id_found tables t s is b k B at sound 0)) (go (find (is_version t b k 0) tables.versions) none) in
        ap (λ l. with_bucket b (with_entries k l B) s) (all_kept (has_id Null) is_object (listed k B) markers) ∙ entries_same
      where
        go : (o : Option VersionRow) → option_map_or (λ v. is_object (entry_of v)) o false ≡ false → AllByRecursion (λ e. is_object e ≡ false) (option_to_list (option_map entry_of o))
        go None h = tt
        go (Some v) h = (h, tt)
