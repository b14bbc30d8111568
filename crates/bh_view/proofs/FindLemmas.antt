-- What a SELECT finds is what the state has.
use Rattle.std.proofs.Common.{◌≡◌, ℕ, ◌≤◌, Bool, true, false, cond, ◌&&◌, ◌||◌, List, [], ◌∷◌, map, length, Option, Some, None, option_map, option_and_then, option_to_list, find, filter, unwrap_or, refl, sym, ap, ◌∙◌, subst, arith}
use Rattle.std.specs.List.{list_any}
use Rattle.std.specs.FinMap.{get}
use Rattle.sqlite_keyed.specs.Lists.{sort_by, delete_where}
use Rattle.sqlite_keyed.proofs.ListLemmas.{all_weaker, filter-map, filter_none}
use Rattle.sqlite_typed.specs.Tests.{bytes_eq}
use Rattle.bh_types.specs.declared.wanted.Wanted.TheVariants.{Named}
use Rattle.bh_model.specs.State.{Octets, Bucket, State}
use Rattle.bh_model.specs.Counting.{counts}
use Rattle.bh_model.specs.Credentials.{secret_of}
use Rattle.bh_model.specs.Entries.{has_id, found_named, lookup}
use Rattle.bh_model.specs.Operations.{listed}
use Rattle.bh_tables.specs.Typed.{TenantRow, KeyRow, BucketRow, VersionRow, Tables}
use Rattle.bh_tables.specs.Shown.{is_tenant, is_key, is_bucket, is_version, is_entry, newer}
use Rattle.bh_view.specs.Grouped.{first, matching, same_number}
use Rattle.bh_view.specs.View.{rows_of, id_of, entry_of, entries_of, bucket_shown, buckets_of, state_of, view, in_bucket, named, at_key}
use Rattle.bh_view.specs.Sound.{IsSound}
use Rattle.bh_view.proofs.Keys.{octets, numbers}
use Rattle.bh_view.proofs.FilterLemmas.{none_some, none_mapped, delete_all, filter_both}
use Rattle.bh_view.proofs.SortLemmas.{sorted_single, sort_by-filter}
use Rattle.bh_view.proofs.GroupedLemmas.{get-keyed, is_other}
use Rattle.bh_view.proofs.ObjectLemmas.{newer_total, entries_at-objects_of}
use Rattle.bh_view.proofs.BucketLemmas.{row_of, get-buckets_of, objects_shown}
use Rattle.bh_view.proofs.ViewLemmas.{view_is, own_row}
use Rattle.bh_view.proofs.VersionChanges.{at_id, one_version, same_ids}
use Rattle.bh_view.proofs.PutLemmas.{older, next_fresh}

-- ---- a row that is found or not, in the words of an answer

-- the first row that passes
pub first_find : {T : Type 0} (p : T → Bool) (rows : List T) → first (filter p rows) ≡ find p rows
first_find p [] = refl
first_find p (r ∷ rs) = elim (p r) as (λ b. first (cond b (r ∷ filter p rs) (filter p rs)) ≡ cond b (Some r) (find p rs)) [ true ↦ refl | false ↦ first_find p rs ]

pub any_found : {T : Type 0} (p : T → Bool) (rows : List T) (r : T) → first (filter p rows) ≡ Some r → list_any p rows ≡ true
any_found p [] r = λ h. absurd (none_some h)
any_found p (x ∷ xs) r = elim (p x) as (λ b. first (cond b (x ∷ filter p xs) (filter p xs)) ≡ Some r → (b || list_any p xs) ≡ true) [ true ↦ λ h. refl | false ↦ any_found p xs r ]

pub none_found : {T : Type 0} (p : T → Bool) (rows : List T) → first (filter p rows) ≡ None → list_any p rows ≡ false
none_found p [] = λ h. refl
none_found p (x ∷ xs) = elim (p x) as (λ b. first (cond b (x ∷ filter p xs) (filter p xs)) ≡ None → (b || list_any p xs) ≡ false) [ true ↦ λ h. absurd (none_some (sym h)) | false ↦ none_found p xs ]

pub none_after : {T : Type 0} (p : T → Bool) (rows : List T) → list_any p (delete_where p rows) ≡ false
none_after p rows = none_found p (delete_where p rows) (ap first (delete_all p rows))

first_map : {T U : Type 0} (f : T → U) (rows : List T) → first (map f rows) ≡ option_map f (first rows)
first_map f [] = refl
first_map f (r ∷ rs) = refl

-- of at most one row
as_option : {T U : Type 0} (f : T → U) (rows : List T) → length rows ≤ 1 → map f rows ≡ option_to_list (option_map f (first rows))
as_option f [] short = refl
as_option f (r ∷ []) short = refl
as_option f (r ∷ q ∷ rs) short = absurd (omega arith)

-- ---- tenants

-- the tenant's state is that of its row
pub tenant_found : (tables : Tables) (t : Octets) → view tables t ≡ option_map (state_of (rows_of t tables)) (first (filter (is_tenant t) tables.tenants))
tenant_found = view_is

pub counts_found : (tables : Tables) (t : Octets)
    → option_map counts (view tables t) ≡ option_map (λ (r : TenantRow). record { version = r.next_version; upload = r.next_upload; entry = r.next_entry }) (first (filter (is_tenant t) tables.tenants))
counts_found tables t = ap (option_map counts) (view_is tables t) ∙ go (first (filter (is_tenant t) tables.tenants))
  where
    go : (o : Option TenantRow) → option_map counts (option_map (state_of (rows_of t tables)) o) ≡ option_map (λ (r : TenantRow). record { version = r.next_version; upload = r.next_upload; entry = r.next_entry }) o
    go None = refl
    go (Some r) = refl

module _ (tables : Tables) (t : Octets) where
  pub tenant_there : (s : State) → view tables t ≡ Some s → list_any (is_tenant t) tables.tenants ≡ true
  tenant_there s is = any_found (is_tenant t) tables.tenants _ (own_row tables t s is).1

  pub tenant_away : view tables t ≡ None → list_any (is_tenant t) tables.tenants ≡ false
  tenant_away is = none_found (is_tenant t) tables.tenants (none_mapped (state_of (rows_of t tables)) _ (sym (view_is tables t) ∙ is))

  -- ---- keys

  pub key_of_state : (s : State) → view tables t ≡ Some s → (n : Octets) → get s.keys n ≡ option_map (λ (k : KeyRow). k.secret) (first (filter (is_key t n) tables.keys))
  key_of_state s is n =
      ap (λ (x : State). get x.keys n) (sym (own_row tables t s is).2) ∙ get-keyed octets (λ (k : KeyRow). k.name) (λ _ k. k.secret) (rows_of t tables).keys n
      ∙ ap (λ l. option_map (λ (k : KeyRow). k.secret) (first l)) (filter_both (λ (k : KeyRow). bytes_eq k.tenant t) (λ k. bytes_eq k.name n) tables.keys)

  -- one query of the keys alone
  pub secret_found : IsSound tables → (n : Octets) → secret_of n (view tables t) ≡ option_map (λ (k : KeyRow). k.secret) (first (filter (is_key t n) tables.keys))
  secret_found sound n = go (view tables t) refl
    where
      go : (o : Option State) → view tables t ≡ o → secret_of n o ≡ option_map (λ (k : KeyRow). k.secret) (first (filter (is_key t n) tables.keys))
      go (Some s) is = key_of_state s is n
      go None is = sym (ap (λ l. option_map (λ (k : KeyRow). k.secret) (first l)) (sym (filter_both (λ (k : KeyRow). bytes_eq k.tenant t) (λ k. bytes_eq k.name n) tables.keys)
          ∙ ap (matching bytes_eq (λ (k : KeyRow). k.name) n) ((sound.tenants t).keys.owned (none_mapped (state_of (rows_of t tables)) _ (sym (view_is tables t) ∙ is)))))

  pub key_away : (s : State) → view tables t ≡ Some s → (n : Octets) → get s.keys n ≡ None → list_any (is_key t n) tables.keys ≡ false
  key_away s is n none = none_found (is_key t n) tables.keys (none_mapped (λ (k : KeyRow). k.secret) _ (sym (key_of_state s is n) ∙ none))

  -- ---- buckets

  pub bucket_of_state : (s : State) → view tables t ≡ Some s → (b : Octets) → get s.buckets b ≡ option_map (bucket_shown (rows_of t tables) b) (first (filter (is_bucket t b) tables.buckets))
  bucket_of_state s is b =
      ap (λ (x : State). get x.buckets b) (sym (own_row tables t s is).2) ∙ get-buckets_of (rows_of t tables) b
      ∙ ap (λ l. option_map (bucket_shown (rows_of t tables) b) (first l)) (filter_both (λ (r : BucketRow). bytes_eq r.tenant t) (λ r. bytes_eq r.bucket b) tables.buckets)

  -- one query of the buckets alone
  pub bucket_found : IsSound tables → (b : Octets) → option_and_then (λ (s : State). get s.buckets b) (view tables t) ≡ option_map (bucket_shown (rows_of t tables) b) (first (filter (is_bucket t b) tables.buckets))
  bucket_found sound b = go (view tables t) refl
    where
      go : (o : Option State) → view tables t ≡ o → option_and_then (λ (s : State). get s.buckets b) o ≡ option_map (bucket_shown (rows_of t tables) b) (first (filter (is_bucket t b) tables.buckets))
      go (Some s) is = bucket_of_state s is b
      go None is = sym (ap (λ l. option_map (bucket_shown (rows_of t tables) b) (first l)) (sym (filter_both (λ (r : BucketRow). bytes_eq r.tenant t) (λ r. bytes_eq r.bucket b) tables.buckets)
          ∙ ap (named b) ((sound.tenants t).buckets.owned (none_mapped (state_of (rows_of t tables)) _ (sym (view_is tables t) ∙ is)))))

  pub bucket_there : (s : State) → view tables t ≡ Some s → (b : Octets) (B : Bucket) → get s.buckets b ≡ Some B → list_any (is_bucket t b) tables.buckets ≡ true
  bucket_there s is b B at =
      let row = row_of (bucket_shown (rows_of t tables) b) (first (filter (is_bucket t b) tables.buckets)) B (sym (bucket_of_state s is b) ∙ at) in
      any_found (is_bucket t b) tables.buckets row.0 row.1

  pub bucket_away : (s : State) → view tables t ≡ Some s → (b : Octets) → get s.buckets b ≡ None → list_any (is_bucket t b) tables.buckets ≡ false
  bucket_away s is b none = none_found (is_bucket t b) tables.buckets (none_mapped (bucket_shown (rows_of t tables) b) _ (sym (bucket_of_state s is b) ∙ none))

  -- ---- versions

  module _ (s : State) (is : view tables t ≡ Some s) (b k : Octets) (B : Bucket) (at : get s.buckets b ≡ Some B) where
    here : get (buckets_of (rows_of t tables)) b ≡ Some B
    here = ap (λ (x : State). get x.buckets b) (own_row tables t s is).2 ∙ at

    -- the entries of a key, by rows of the tenant's bucket
    listed_rows : listed k B ≡ entries_of (at_key k (in_bucket b (rows_of t tables).versions))
    listed_rows = ap (λ m. unwrap_or (get m k) []) (sym (objects_shown (rows_of t tables) b B here)) ∙ entries_at-objects_of (in_bucket b (rows_of t tables).versions) k

    pub entries_found : listed k B ≡ entries_of (filter (λ v. bytes_eq v.tenant t && (bytes_eq v.bucket b && bytes_eq v.okey k)) tables.versions)
    entries_found = listed_rows
        ∙ ap entries_of (filter_both (λ (v : VersionRow). bytes_eq v.bucket b) (λ v. bytes_eq v.okey k) (rows_of t tables).versions ∙ filter_both (λ (v : VersionRow). bytes_eq v.tenant t) (λ v. bytes_eq v.bucket b && bytes_eq v.okey k) tables.versions)

    pub newest_found : first (listed k B) ≡ option_map entry_of (first (sort_by newer (filter (λ v. bytes_eq v.tenant t && (bytes_eq v.bucket b && bytes_eq v.okey k)) tables.versions)))
    newest_found = ap first entries_found ∙ first_map entry_of _

    module _ (sound : IsSound tables) where
      -- the entries of an id: of `null` where it is 0
      pub id_filtered : (n : ℕ) → filter (has_id (id_of n)) (listed k B) ≡ map entry_of (filter (is_version t b k n) tables.versions)
      id_filtered n =
          let mine : List VersionRow = at_key k (in_bucket b (rows_of t tables).versions) in
          ap (filter (has_id (id_of n))) listed_rows
          ∙ filter-map (has_id (id_of n)) entry_of (sort_by newer mine) ∙ (λ i. map entry_of (filter (λ v. sym (same_ids v.id n) i) (sort_by newer mine)))
          ∙ ap (map entry_of) (sym (sort_by-filter newer newer_total (λ v. same_number v.id n) mine) ∙ sorted_single newer (at_id n mine) ((sound.tenants t).versions.one_id b k n) ∙ one_version t b k n tables.versions)

      pub version_found : (n : ℕ) → find (has_id (id_of n)) (listed k B) ≡ option_map entry_of (first (filter (is_version t b k n) tables.versions))
      version_found n = sym (first_find (has_id (id_of n)) (listed k B)) ∙ ap first (id_filtered n) ∙ first_map entry_of _

      pub named_found : (n : ℕ) → lookup (Named (id_of n)) (listed k B) ≡ found_named (option_map entry_of (first (filter (is_version t b k n) tables.versions)))
      named_found n = ap found_named (version_found n)

      -- of which there is one at most
      pub id_found : (n : ℕ) → filter (has_id (id_of n)) (listed k B) ≡ option_to_list (option_map entry_of (find (is_version t b k n) tables.versions))
      id_found n = id_filtered n
          ∙ as_option entry_of (filter (is_version t b k n) tables.versions) (subst (λ l. length l ≤ 1) (one_version t b k n tables.versions) ((sound.tenants t).versions.one_id b k n))
          ∙ ap (λ o. option_to_list (option_map entry_of o)) (first_find (is_version t b k n) tables.versions)

  -- the next numbers are of no row yet
  module _ (s : State) (sound : IsSound tables) (is : view tables t ≡ Some s) where
    pub entry_away : list_any (is_entry t s.next_entry) tables.versions ≡ false
    entry_away = none_found (is_entry t s.next_entry) tables.versions (ap first (sym (filter_both (λ (v : VersionRow). bytes_eq v.tenant t) (λ v. same_number v.seq s.next_entry) tables.versions)
        ∙ filter_none _ _ (all_weaker _ (λ v. same_number v.seq s.next_entry ≡ false) (λ v less. is_other numbers v.seq s.next_entry (λ e. absurd (omega (arith, less, e)))) _ (older tables t s sound is))))

    pub version_away : (b k : Octets) → list_any (is_version t b k s.next_version) tables.versions ≡ false
    version_away b k = none_found (is_version t b k s.next_version) tables.versions (ap first (next_fresh tables t s sound is b k))
