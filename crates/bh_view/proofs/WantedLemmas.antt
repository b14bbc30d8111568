-- The row that a request speaks of is the entry that the machine's lookup finds.
use Rattle.std.proofs.Common.{◌≡◌, ℕ, zero, suc, ◌<◌, ◌^◌, Bool, true, false, true≢false, cond, ◌&&◌, ◌==◌, List, [], ◌∷◌, map, Option, Some, None, option_map, find, filter, refl, sym, ap, ◌∙◌, subst, arith}
use Rattle.std.specs.Cmp.{unsigned_Decides}
use Rattle.std.specs.List.{AllByRecursion}
use Rattle.std.specs.FinMap.{get}
use Rattle.sqlite_keyed.specs.Lists.{sort_by}
use Rattle.sqlite_keyed.proofs.ListLemmas.{all_weaker, all-filter, filter_none}
use Rattle.sqlite_typed.specs.Tests.{bytes_eq}
use Rattle.bh_types.specs.declared.id.VersionId.{VersionId}
use Rattle.bh_types.specs.declared.id.VersionId.TheVariants.{Null, Numbered}
use Rattle.bh_types.specs.declared.wanted.Wanted.{Wanted}
use Rattle.bh_types.specs.declared.wanted.Wanted.TheVariants.{Current, Named, Unknown}
use Rattle.bh_model.specs.State.{Octets, Bucket, State}
use Rattle.bh_model.specs.Entries.{same_id, has_id, found_current, found_named, lookup}
use Rattle.bh_model.specs.Operations.{listed}
use Rattle.bh_tables.specs.Typed.{VersionRow, Tables}
use Rattle.bh_tables.specs.Shown.{is_version, is_at, is_entry, newer}
use Rattle.bh_view.specs.Grouped.{first, same_number}
use Rattle.bh_view.specs.View.{TenantRows, rows_of, id_of, entry_of, view, latest_of}
use Rattle.bh_view.specs.Sound.{IsVersionRow, IsSound}
use Rattle.bh_view.specs.Wanted.{has_row_id, wanted_row, newest_looked, looked}
use Rattle.bh_view.proofs.Keys.{numbers}
use Rattle.bh_view.proofs.FilterLemmas.{none_some, filter_both}
use Rattle.bh_view.proofs.SortLemmas.{all-sort_by}
use Rattle.bh_view.proofs.FactLemmas.{all_first, each_first}
use Rattle.bh_view.proofs.TenantChanges.{absent_rows}
use Rattle.bh_view.proofs.VersionChanges.{same_ids}
use Rattle.bh_view.proofs.PutLemmas.{counters_good, below_next}
use Rattle.bh_view.proofs.FindLemmas.{first_find, entries_found, version_found}

find_none : {T : Type 0} (p : T → Bool) (xs : List T) → ((x : T) → p x ≡ false) → find p xs ≡ None
find_none p [] none = refl
find_none p (x ∷ xs) none = ap (λ b. cond b (Some x) (find p xs)) (none x) ∙ find_none p xs none

-- no row has the number 0 as its id's
pub not_zero : (n : ℕ) → same_id (id_of n) (Numbered 0) ≡ false
not_zero zero = refl
not_zero (suc n) = elim (suc n == 0) as (λ b. (suc n == 0) ≡ b → b ≡ false) [ true ↦ λ e. absurd (omega (arith, (unsigned_Decides (suc n) 0).0 e)) | false ↦ λ e. refl ] refl

false_last : (a b c d : Bool) → d ≡ false → (a && (b && (c && d))) ≡ false
false_last false b c d e = refl
false_last true false c d e = refl
false_last true true false d e = refl
false_last true true true d e = e

newest_found : (rows : List VersionRow) → found_current (map entry_of rows) ≡ newest_looked (first rows)
newest_found [] = refl
newest_found (v ∷ rows) = refl

-- an id that the column `id` can have
pub named_row : (t b k : Octets) (n : ℕ) (rows : List VersionRow) → wanted_row t b k (Named (id_of n)) rows ≡ find (is_version t b k n) rows
named_row t b k n rows i = find (λ v. bytes_eq v.tenant t && (bytes_eq v.bucket b && (bytes_eq v.okey k && sym (same_ids v.id n) i))) rows

module _ (tables : Tables) (t : Octets) (sound : IsSound tables) (b k : Octets) where
  module _ (s : State) (is : view tables t ≡ Some s) (B : Bucket) (at : get s.buckets b ≡ Some B) where
    of_number : (n : ℕ) → find (has_id (id_of n)) (listed k B) ≡ option_map entry_of (wanted_row t b k (Named (id_of n)) tables.versions)
    of_number n = version_found tables t s is b k B at sound n ∙ ap (option_map entry_of) (first_find (is_version t b k n) tables.versions ∙ sym (named_row t b k n tables.versions))

    -- the entry of an id
    pub named_entry : (id : VersionId) → find (has_id id) (listed k B) ≡ option_map entry_of (wanted_row t b k (Named id) tables.versions)
    named_entry Null = of_number 0
    named_entry (Numbered zero) =
        ap (find (has_id (Numbered 0))) (entries_found tables t s is b k B at) ∙ none (sort_by newer (filter (is_at t b k) tables.versions))
        ∙ ap (option_map entry_of) (sym (find_none (has_row_id t b k (Numbered 0)) tables.versions (λ v. false_last (bytes_eq v.tenant t) (bytes_eq v.bucket b) (bytes_eq v.okey k) _ (not_zero v.id))))
      where
        none : (rows : List VersionRow) → find (has_id (Numbered 0)) (map entry_of rows) ≡ None
        none [] = refl
        none (v ∷ rows) = ap (λ b. cond b (Some (entry_of v)) (find (has_id (Numbered 0)) (map entry_of rows))) (not_zero v.id) ∙ none rows
    named_entry (Numbered (suc n)) = of_number (suc n)

    -- what a lookup finds
    pub lookup_row : (wanted : Wanted) → lookup wanted (listed k B) ≡ looked wanted (wanted_row t b k wanted tables.versions)
    lookup_row Current = ap found_current (entries_found tables t s is b k B at) ∙ newest_found (sort_by newer (filter (is_at t b k) tables.versions))
    lookup_row (Named id) = ap found_named (named_entry id)
    lookup_row Unknown = refl

  -- the tenant's rows of a test
  own_filtered : (P : VersionRow → Type 0) (test : VersionRow → Bool) → AllByRecursion P (rows_of t tables).versions → AllByRecursion P (filter (λ v. bytes_eq v.tenant t && test v) tables.versions)
  own_filtered P test all = subst (AllByRecursion P) (filter_both (λ v. bytes_eq v.tenant t) test tables.versions) (all-filter P test _ all)

  -- it has what all of the tenant's rows have
  wanted_has : (P : VersionRow → Type 0) → AllByRecursion P (rows_of t tables).versions → (wanted : Wanted) (v : VersionRow) → wanted_row t b k wanted tables.versions ≡ Some v → P v
  wanted_has P all Current v there = all_first P _ v there (all-sort_by newer P _ (own_filtered P (λ v. bytes_eq v.bucket b && bytes_eq v.okey k) all))
  wanted_has P all (Named id) v there =
      let test = λ (v : VersionRow). bytes_eq v.bucket b && (bytes_eq v.okey k && same_id (id_of v.id) id) in
      all_first P _ v (first_find (has_row_id t b k id) tables.versions ∙ there) (own_filtered P test all)
  wanted_has P all Unknown v there = absurd (none_some there)

  pub wanted_good : (wanted : Wanted) (v : VersionRow) → wanted_row t b k wanted tables.versions ≡ Some v → IsVersionRow (latest_of tables) v
  wanted_good = wanted_has (IsVersionRow (latest_of tables)) (sound.tenants t).versions.each

  -- it is the row of its entry number
  pub wanted_entry : (wanted : Wanted) (v : VersionRow) → wanted_row t b k wanted tables.versions ≡ Some v → find (is_entry t v.seq) tables.versions ≡ Some v
  wanted_entry wanted v there = sym (first_find (is_entry t v.seq) tables.versions) ∙ ap first (sym (filter_both (λ x. bytes_eq x.tenant t) (λ x. same_number x.seq v.seq) tables.versions))
      ∙ wanted_has _ (each_first numbers (λ x. x.seq) (rows_of t tables).versions (sound.tenants t).versions.one_seq) wanted v there

  ids_small : AllByRecursion (λ v. v.id < 2 ^ 62) (rows_of t tables).versions
  ids_small = go (view tables t) refl
    where
      go : (o : Option State) → view tables t ≡ o → AllByRecursion (λ v. v.id < 2 ^ 62) (rows_of t tables).versions
      go None is = subst (λ (rows : TenantRows). AllByRecursion (λ v. v.id < 2 ^ 62) rows.versions) (sym (absent_rows tables t sound is)) tt
      go (Some s) is = let high = (counters_good tables t s sound is).0.1 in all_weaker _ _ (λ v less. omega (arith, less.1, high)) _ (below_next tables t s sound is)

  -- no row has an id that the column `id` can't have
  pub no_row : (id : VersionId) → ((n : ℕ) → n < 2 ^ 62 → id_of n ≡ id → ⊥) → wanted_row t b k (Named id) tables.versions ≡ None
  no_row id away = sym (first_find (has_row_id t b k id) tables.versions)
      ∙ ap first (sym (filter_both (λ v. bytes_eq v.tenant t) (λ v. bytes_eq v.bucket b && (bytes_eq v.okey k && same_id (id_of v.id) id)) tables.versions)
      ∙ filter_none _ _ (all_weaker _ _ (λ v small. third (bytes_eq v.bucket b) (bytes_eq v.okey k) _ (other v.id (away v.id small))) _ ids_small))
    where
      same : (n : ℕ) (id : VersionId) → same_id (id_of n) id ≡ true → id_of n ≡ id
      same zero Null e = refl
      same zero (Numbered m) e = absurd (true≢false (sym e))
      same (suc n) Null e = absurd (true≢false (sym e))
      same (suc n) (Numbered m) e = ap (λ x. Numbered x) ((unsigned_Decides (suc n) m).0 e)

      third : (b c d : Bool) → d ≡ false → (b && (c && d)) ≡ false
      third false c d e = refl
      third true false d e = refl
      third true true d e = e

      other : (n : ℕ) → (id_of n ≡ id → ⊥) → same_id (id_of n) id ≡ false
      other n apart = elim (same_id (id_of n) id) as (λ x. same_id (id_of n) id ≡ x → x ≡ false) [ true ↦ λ e. absurd (apart (same n id e)) | false ↦ λ e. refl ] refl
