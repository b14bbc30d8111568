-- What a change of the tables does to the buckets of a tenant.
use Rattle.std.proofs.Common.{◌≡◌, ◌≢◌, Bool, true, false, ◌&&◌, List, [], ◌∷◌, ◌++◌, Option, Some, None, option_map, refl, sym, ap, ◌∙◌}
use Rattle.std.specs.FinMap.{FinMap, get, insert, remove, empty}
use Rattle.sqlite_keyed.specs.Lists.{delete_where, update_where}
use Rattle.sqlite_keyed.proofs.ListLemmas.{all-filter}
use Rattle.sqlite_typed.specs.Tests.{bytes_eq}
use Rattle.bh_model.specs.FinMaps.{non_empty, set_at}
use Rattle.bh_model.specs.State.{Octets, octets_cmp, Entry, Bucket}
use Rattle.std.specs.List.{AllByRecursion}
use Rattle.bh_tables.specs.Shown.{same_name}
use Rattle.bh_tables.specs.Typed.{BucketRow, VersionRow}
use Rattle.bh_view.specs.Grouped.{first, grouped, matching, HasUnique}
use Rattle.bh_view.specs.View.{TenantRows, named, in_bucket, uploads_in, entry_of, mode_of, objects_of, uploads_of, is_locked, version_name, date_in, dates_of, bucket_shown, buckets_of}
use Rattle.bh_view.proofs.DatedLemmas.{dates_pushed, dates_left}
use Rattle.bh_view.proofs.Keys.{octets}
use Rattle.bh_view.proofs.FilterLemmas.{push_here, push_other, delete_other, delete_mine, none_some, same_Some}
use Rattle.bh_view.proofs.GroupedLemmas.{get-keyed, grouped_changed, keyed_pushed, keyed_deleted, keyed_updated, is_itself, is_other}
use Rattle.bh_view.proofs.ObjectLemmas.{entries_at, IsLatest, objects_pushed, objects_deleted}

-- the row behind a value of a map
pub row_of : {T X : Type 0} (value : T → X) (o : Option T) (x : X) → option_map value o ≡ Some x → (r : T) × (o ≡ Some r) × (value r ≡ x)
row_of value None x e = absurd (none_some e)
row_of value (Some r) x e = (r, refl, same_Some e)

module _ (rows : TenantRows) where
  pub get-buckets_of : (b : Octets) → get (buckets_of rows) b ≡ option_map (bucket_shown rows b) (first (named b rows.buckets))
  get-buckets_of = get-keyed octets (λ (r : BucketRow). r.bucket) (bucket_shown rows) rows.buckets

  module _ (b : Octets) (B : Bucket) (at : get (buckets_of rows) b ≡ Some B) where
    pub bucket_row : (r : BucketRow) × (first (named b rows.buckets) ≡ Some r) × (bucket_shown rows b r ≡ B)
    bucket_row = row_of (bucket_shown rows b) (first (named b rows.buckets)) B (sym (get-buckets_of b) ∙ at)

    pub objects_shown : objects_of (in_bucket b rows.versions) ≡ B.objects
    objects_shown = ap (λ x. x.objects) bucket_row.2

    pub uploads_shown : uploads_of rows.parts (uploads_in b rows.uploads) ≡ B.uploads
    uploads_shown = ap (λ x. x.uploads) bucket_row.2

    -- only version rows of this bucket change, and its dates stay
    pub objects_changed : (versions : List VersionRow) (change : FinMap octets_cmp (List Entry) → FinMap octets_cmp (List Entry)) → ((q : Octets) → b ≢ q → in_bucket q versions ≡ in_bucket q rows.versions)
        → objects_of (in_bucket b versions) ≡ change (objects_of (in_bucket b rows.versions)) → dates_of rows.retains (in_bucket b versions) ≡ dates_of rows.retains (in_bucket b rows.versions) → buckets_of (record rows { versions = versions }) ≡ insert (buckets_of rows) b (record B { objects = change B.objects })
    objects_changed versions change others here dates =
        let after : TenantRows = record rows { versions = versions } in
        grouped_changed octets (λ (r : BucketRow). r.bucket) (λ (r : BucketRow). r.bucket) (λ q l. option_map (bucket_shown rows q) (first l)) (λ q l. option_map (bucket_shown after q) (first l)) (λ _. refl) (λ _. refl) rows.buckets rows.buckets b
        (λ q apart i. option_map (λ r. record (bucket_shown rows q r) { objects = objects_of (others q apart i); dates = dates_of rows.retains (others q apart i) }) (first (named q rows.buckets)))
        ∙ ap (λ o. set_at (buckets_of rows) b (option_map (bucket_shown after b) o)) bucket_row.1
        ∙ (λ i. insert (buckets_of rows) b (record (bucket_shown rows b bucket_row.0) { objects = objects_of (in_bucket b versions); dates = dates i }))
        ∙ ap (λ x. insert (buckets_of rows) b (record x { objects = objects_of (in_bucket b versions) })) bucket_row.2
        ∙ ap (λ m. insert (buckets_of rows) b (record B { objects = m })) (here ∙ ap change objects_shown)

  -- a version row with the greatest seq is its key's newest entry
  pub version_pushed : (v : VersionRow) (B : Bucket) → get (buckets_of rows) v.bucket ≡ Some B → IsLatest v rows.versions → matching same_name version_name (version_name v) (in_bucket v.bucket rows.versions) ≡ [] → date_in rows.retains v ≡ None
      → buckets_of (record rows { versions = rows.versions ++ v ∷ [] }) ≡ insert (buckets_of rows) v.bucket (record B { objects = insert B.objects v.okey (entry_of v ∷ entries_at B.objects v.okey) })
  version_pushed v B at latest fresh undated = objects_changed v.bucket B at (rows.versions ++ v ∷ []) (λ m. insert m v.okey (entry_of v ∷ entries_at m v.okey))
      (λ q apart. push_other _ rows.versions v (is_other octets v.bucket q apart))
      (ap objects_of (push_here _ rows.versions v (is_itself octets v.bucket)) ∙ objects_pushed (in_bucket v.bucket rows.versions) v (all-filter _ _ rows.versions latest))
      (ap (dates_of rows.retains) (push_here _ rows.versions v (is_itself octets v.bucket)) ∙ dates_pushed rows.retains (in_bucket v.bucket rows.versions) v fresh undated)

  -- version rows of one key taken out that have no date, by what their entries show
  pub versions_deleted : (b k : Octets) (d : Entry → Bool) (B : Bucket) → get (buckets_of rows) b ≡ Some B → HasUnique same_name version_name (in_bucket b rows.versions)
      → AllByRecursion (λ v. (bytes_eq v.okey k && d (entry_of v)) ≡ true → date_in rows.retains v ≡ None) (in_bucket b rows.versions)
      → buckets_of (record rows { versions = delete_where (λ v. bytes_eq v.bucket b && (bytes_eq v.okey k && d (entry_of v))) rows.versions })
      ≡ insert (buckets_of rows) b (record B { objects = set_at B.objects k (non_empty (delete_where d (entries_at B.objects k))) })
  versions_deleted b k d B at one undated =
      let t = λ (v : VersionRow). bytes_eq v.okey k && d (entry_of v) in
      objects_changed b B at _ (λ m. set_at m k (non_empty (delete_where d (entries_at m k))))
      (λ q apart. delete_other _ _ rows.versions (λ x here. ap (λ s. s && t x) (is_other octets x.bucket b (λ there. apart (sym there ∙ (octets.decides x.bucket q).0 here)))))
      (ap objects_of (delete_mine (λ (v : VersionRow). bytes_eq v.bucket b) t rows.versions) ∙ objects_deleted (in_bucket b rows.versions) k d)
      (ap (dates_of rows.retains) (delete_mine (λ (v : VersionRow). bytes_eq v.bucket b) t rows.versions) ∙ dates_left rows.retains (in_bucket b rows.versions) t one undated)

  -- a bucket row with a new name is an empty bucket, that is not locked
  pub bucket_pushed : (r : BucketRow) → named r.bucket rows.buckets ≡ [] → in_bucket r.bucket rows.versions ≡ [] → uploads_in r.bucket rows.uploads ≡ [] → is_locked r.bucket rows.locks ≡ false
      → buckets_of (record rows { buckets = rows.buckets ++ r ∷ [] }) ≡ insert (buckets_of rows) r.bucket (record { created = r.created; mode = mode_of r.state; days = r.days; objects = empty; uploads = empty; locked = false; dates = empty })
  unfolding grouped
  bucket_pushed r fresh no_versions no_uploads unlocked =
      keyed_pushed octets (λ (x : BucketRow). x.bucket) (bucket_shown rows) rows.buckets r fresh
      ∙ λ i. insert (buckets_of rows) r.bucket (record { created = r.created; mode = mode_of r.state; days = r.days; objects = objects_of (no_versions i); uploads = uploads_of rows.parts (no_uploads i); locked = unlocked i; dates = dates_of rows.retains (no_versions i) })

  pub bucket_deleted : (b : Octets) → buckets_of (record rows { buckets = delete_where (λ r. bytes_eq r.bucket b) rows.buckets }) ≡ remove (buckets_of rows) b
  bucket_deleted = keyed_deleted octets (λ (r : BucketRow). r.bucket) (bucket_shown rows) rows.buckets

  -- a bucket's own columns
  pub bucket_updated : (f : BucketRow → BucketRow) (change : Bucket → Bucket) (b : Octets) → ((r : BucketRow) → (f r).bucket ≡ r.bucket) → ((r : BucketRow) → bucket_shown rows b (f r) ≡ change (bucket_shown rows b r)) → (B : Bucket) → get (buckets_of rows) b ≡ Some B
      → buckets_of (record rows { buckets = update_where (λ r. bytes_eq r.bucket b) f rows.buckets }) ≡ insert (buckets_of rows) b (change B)
  bucket_updated f change b keeps same B at =
      let row = bucket_row b B at in
      keyed_updated octets (λ (r : BucketRow). r.bucket) (bucket_shown rows) f keeps rows.buckets b row.0 row.1
      ∙ ap (insert (buckets_of rows) b) (same row.0 ∙ ap change row.2)
