-- What is known of a row that a SELECT finds in sound tables.
use Rattle.std.proofs.Common.{◌≡◌, ℕ, Bool, ◌&&◌, List, Some, filter, ap, ◌∙◌}
use Rattle.std.specs.List.{AllByRecursion}
use Rattle.sqlite_keyed.proofs.ListLemmas.{all-filter}
use Rattle.sqlite_typed.specs.Tests.{bytes_eq}
use Rattle.bh_model.specs.State.{Octets}
use Rattle.bh_tables.specs.Typed.{TenantRow, KeyRow, BucketRow, VersionRow, UploadRow, PartRow, Tables}
use Rattle.bh_tables.specs.Shown.{is_tenant, is_key, is_bucket, is_version, is_upload, is_part}
use Rattle.bh_view.specs.Grouped.{first, same_number}
use Rattle.bh_view.specs.View.{latest_of}
use Rattle.bh_view.specs.Sound.{IsTenantRow, IsKeyRow, IsBucketRow, IsVersionRow, IsUploadRow, IsPartRow, IsSound}
use Rattle.bh_view.proofs.FilterLemmas.{filter_both}
use Rattle.bh_view.proofs.FactLemmas.{all_first}
use Rattle.bh_view.proofs.OwnLemmas.{rows_at}

-- the first of a tenant's rows that pass a test
first_good : {T : Type 0} (own : T → Octets) (P : T → Type 0) (t : Octets) (test : T → Bool) (rows : List T) (r : T) → AllByRecursion P (rows_at own t rows) → first (filter (λ x. bytes_eq (own x) t && test x) rows) ≡ Some r → P r
first_good own P t test rows r all there = all_first P (filter test (rows_at own t rows)) r (ap first (filter_both (λ x. bytes_eq (own x) t) test rows) ∙ there) (all-filter P test (rows_at own t rows) all)

module _ (tables : Tables) (sound : IsSound tables) (t : Octets) where
  pub tenant_good : (r : TenantRow) → first (filter (is_tenant t) tables.tenants) ≡ Some r → IsTenantRow r
  tenant_good r there = all_first IsTenantRow _ r there (sound.tenants t).tenants.each

  pub key_good : (n : Octets) (r : KeyRow) → first (filter (is_key t n) tables.keys) ≡ Some r → IsKeyRow r
  key_good n r = first_good (λ (x : KeyRow). x.tenant) IsKeyRow t (λ x. bytes_eq x.name n) tables.keys r (sound.tenants t).keys.each

  pub bucket_good : (b : Octets) (r : BucketRow) → first (filter (is_bucket t b) tables.buckets) ≡ Some r → IsBucketRow (latest_of tables) r
  bucket_good b r = first_good (λ (x : BucketRow). x.tenant) (IsBucketRow (latest_of tables)) t (λ x. bytes_eq x.bucket b) tables.buckets r (sound.tenants t).buckets.each

  pub version_good : (b k : Octets) (n : ℕ) (r : VersionRow) → first (filter (is_version t b k n) tables.versions) ≡ Some r → IsVersionRow (latest_of tables) r
  version_good b k n r = first_good (λ (x : VersionRow). x.tenant) (IsVersionRow (latest_of tables)) t (λ x. bytes_eq x.bucket b && (bytes_eq x.okey k && same_number x.id n)) tables.versions r (sound.tenants t).versions.each

  pub upload_good : (n : ℕ) (r : UploadRow) → first (filter (is_upload t n) tables.uploads) ≡ Some r → IsUploadRow (latest_of tables) r
  upload_good n r = first_good (λ (x : UploadRow). x.tenant) (IsUploadRow (latest_of tables)) t (λ x. same_number x.upload n) tables.uploads r (sound.tenants t).uploads.each

  pub part_good : (u n : ℕ) (r : PartRow) → first (filter (is_part t u n) tables.parts) ≡ Some r → IsPartRow (latest_of tables) r
  part_good u n r = first_good (λ (x : PartRow). x.tenant) (IsPartRow (latest_of tables)) t (λ x. same_number x.upload u && same_number x.part n) tables.parts r (sound.tenants t).parts.each
