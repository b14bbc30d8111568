-- The buckets of a state in the order of their names are the tenant's rows in that order; a bucket has objects just where a
-- version is in it, and uploads just where one is.
use Rattle.std.proofs.Common.{◌≡◌, ℕ, ◌==◌, Bool, true, false, cond, not, List, [], ◌∷◌, map, Option, Some, None, option_map, is_some, is_none, filter, ◌||◌, Ordering, eqb-true, refl, sym, ap, ◌∙◌, is_gt}
use Rattle.std.specs.List.{list_any}
use Rattle.std.specs.Option.{option_map_or}
use Rattle.std.specs.FinMap.{FinMap, entries, len, empty, len-empty, empty_of_len, get}
use Rattle.sqlite_keyed.specs.Lists.{sort_by, insert_sorted}
use Rattle.sqlite_keyed.proofs.ListLemmas.{map-map, filter_none, none_from_any}
use Rattle.sqlite_typed.specs.Tests.{bytes_eq}
use Rattle.bh_model.specs.State.{Octets, Bucket, State}
use Rattle.bh_model.specs.FinMaps.{is_empty, non_empty}
use Rattle.bh_model.specs.Operations.{bucket_list}
use Rattle.bh_tables.specs.Typed.{BucketRow, VersionRow, UploadRow, Tables}
use Rattle.bh_tables.specs.Shown.{is_in_bucket, is_upload_in, is_owned_bucket, by_bucket, newer}
use Rattle.bh_view.specs.Grouped.{IsKey, first, grouped}
use Rattle.bh_view.specs.View.{rows_of, in_bucket, uploads_in, entry_of, entries_of, upload_shown, bucket_shown, buckets_of, view}
use Rattle.bh_view.specs.Sound.{IsSound}
use Rattle.bh_view.proofs.Keys.{octets, numbers}
use Rattle.bh_view.proofs.FilterLemmas.{none_some, filter_both}
use Rattle.bh_view.proofs.GroupedLemmas.{empty_of_no_rows, no_rows_of_empty}
use Rattle.bh_view.proofs.ListingLemmas.{entries-keyed}
use Rattle.bh_view.proofs.ViewLemmas.{own_row}
use Rattle.bh_view.proofs.BucketLemmas.{objects_shown, uploads_shown}
use Rattle.bh_view.proofs.TenantChanges.{absent_rows}

-- ---- the listing

abbrev listed_bucket : Octets × Bucket → Octets × ℕ
listed_bucket e = (e.0, e.1.created)

abbrev pub listed_row : BucketRow → Octets × ℕ
listed_row r = (r.bucket, r.created)

pub buckets_listed : (tables : Tables) (t : Octets) → IsSound tables → option_map_or bucket_list (view tables t) [] ≡ map listed_row (sort_by by_bucket (filter (is_owned_bucket t) tables.buckets))
buckets_listed tables t sound = go (view tables t) refl
  where
    go : (o : Option State) → view tables t ≡ o → option_map_or bucket_list o [] ≡ map listed_row (sort_by by_bucket (filter (is_owned_bucket t) tables.buckets))
    go None is = ap (λ rows. map listed_row (sort_by by_bucket rows.buckets)) (sym (absent_rows tables t sound is))
    go (Some s) is =
        let mine = rows_of t tables in
        ap (λ (x : State). map listed_bucket (entries x.buckets)) (sym (own_row tables t s is).2)
        ∙ ap (map listed_bucket) (entries-keyed octets (λ (r : BucketRow). r.bucket) (bucket_shown mine) mine.buckets (sound.tenants t).buckets.one)
        ∙ map-map listed_bucket _ (sort_by by_bucket mine.buckets)

-- ---- an empty bucket

some_entry : (v : VersionRow) (rows : List VersionRow) → is_some (non_empty (entries_of (v ∷ rows))) ≡ true
some_entry v rows = go (sort_by newer rows)
  where
    go : (l : List VersionRow) → is_some (non_empty (map entry_of (insert_sorted newer v l))) ≡ true
    go [] = refl
    go (x ∷ xs) = elim (is_gt (newer v x)) as (λ b. is_some (non_empty (map entry_of (cond b (x ∷ insert_sorted newer v xs) (v ∷ x ∷ xs)))) ≡ true) [ true ↦ refl | false ↦ refl ]

-- a map of rows is empty just where there are none
module _ {K X T : Type 0} {R : K → K → Ordering} {is : K → K → Bool} (k : IsKey R is) (key : T → K) (build : K → List T → Option X) (no_row : (q : K) → build q [] ≡ None)
    (some_row : (q : K) (r : T) (rs : List T) → is_some (build q (r ∷ rs)) ≡ true) where
  empty_len : (m : FinMap R X) → m ≡ empty → is_empty m ≡ true
  empty_len m e = ap (λ n. n == 0) (ap len e ∙ len-empty _ _)

  none_there : (rows : List T) → is_empty (grouped R is key build rows) ≡ is_none (first rows)
  none_there [] = empty_len (grouped R is key build []) (empty_of_no_rows k key build no_row some_row [] refl)
  none_there (r ∷ rs) = elim (is_empty (grouped R is key build (r ∷ rs))) as (λ b. is_empty (grouped R is key build (r ∷ rs)) ≡ b → b ≡ false) [
    | true ↦ λ e. absurd (none_some (ap first (sym (no_rows_of_empty k key build no_row some_row (r ∷ rs) (empty_of_len _ (eqb-true _ _ e))))))
    | false ↦ λ e. refl
  ] refl

-- whether one is there, in two words
first_any : {T : Type 0} (p : T → Bool) (rows : List T) → is_none (first (filter p rows)) ≡ not (list_any p rows)
first_any p [] = refl
first_any p (r ∷ rs) = elim (p r) as (λ b. is_none (first (cond b (r ∷ filter p rs) (filter p rs))) ≡ not (b || list_any p rs)) [ true ↦ refl | false ↦ first_any p rs ]

module _ (tables : Tables) (t b : Octets) where
  one_bucket : in_bucket b (rows_of t tables).versions ≡ filter (is_in_bucket t b) tables.versions
  one_bucket = filter_both (λ (v : VersionRow). bytes_eq v.tenant t) (λ v. bytes_eq v.bucket b) tables.versions

  its_uploads : uploads_in b (rows_of t tables).uploads ≡ filter (is_upload_in t b) tables.uploads
  its_uploads = filter_both (λ (u : UploadRow). bytes_eq u.tenant t) (λ u. bytes_eq u.bucket b) tables.uploads

  pub none_in_bucket : list_any (is_in_bucket t b) tables.versions ≡ false → in_bucket b (rows_of t tables).versions ≡ []
  none_in_bucket none = one_bucket ∙ filter_none _ tables.versions (none_from_any _ tables.versions none)

  pub no_upload_in : list_any (is_upload_in t b) tables.uploads ≡ false → uploads_in b (rows_of t tables).uploads ≡ []
  no_upload_in none = its_uploads ∙ filter_none _ tables.uploads (none_from_any _ tables.uploads none)

  module _ (s : State) (is : view tables t ≡ Some s) (B : Bucket) (at : get s.buckets b ≡ Some B) where
    here : get (buckets_of (rows_of t tables)) b ≡ Some B
    here = ap (λ (x : State). get x.buckets b) (own_row tables t s is).2 ∙ at

    -- a bucket has no objects just where no version or marker is in it
    pub objects_empty : is_empty B.objects ≡ not (list_any (is_in_bucket t b) tables.versions)
    objects_empty =
        ap is_empty (sym (objects_shown (rows_of t tables) b B here))
        ∙ none_there octets (λ (v : VersionRow). v.okey) (λ _ l. non_empty (entries_of l)) (λ _. refl) (λ _ v l. some_entry v l) (in_bucket b (rows_of t tables).versions)
        ∙ ap (λ l. is_none (first l)) one_bucket ∙ first_any (is_in_bucket t b) tables.versions

    -- and no uploads just where none is in it
    pub uploads_empty : is_empty B.uploads ≡ not (list_any (is_upload_in t b) tables.uploads)
    uploads_empty =
        ap is_empty (sym (uploads_shown (rows_of t tables) b B here))
        ∙ none_there numbers (λ (u : UploadRow). u.upload) (λ n l. option_map (upload_shown (rows_of t tables).parts n) (first l)) (λ _. refl) (λ _ u l. refl) (uploads_in b (rows_of t tables).uploads)
        ∙ ap (λ l. is_none (first l)) its_uploads ∙ first_any (is_upload_in t b) tables.uploads
