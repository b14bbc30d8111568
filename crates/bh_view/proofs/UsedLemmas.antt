-- The bytes that a tenant uses are the sums of the columns `size` of its versions and of its parts.
use Rattle.std.proofs.Common.{◌≡◌, ℕ, zero, suc, ◌+◌, length, sum_by, List, Option, Some, None, option_map, filter, refl, sym, ap, ap₂, ◌∙◌, arith}
use Rattle.std.specs.Option.{option_map_or}
use Rattle.sqlite_keyed.proofs.ListLemmas.{all_weaker}
use Rattle.sqlite_typed.specs.Tests.{bytes_eq}
use Rattle.bh_model.specs.FinMaps.{total}
use Rattle.bh_model.specs.State.{Octets, Bucket, State, entry_size, part_size, content_size, upload_used, used}
use Rattle.bh_tables.specs.Typed.{BucketRow, VersionRow, UploadRow, PartRow, Tables}
use Rattle.bh_view.specs.Grouped.{first, matching, same_number, HasUnique}
use Rattle.bh_view.specs.View.{TenantRows, rows_of, content_of, part_shown, upload_shown, uploads_of, bucket_shown, buckets_of, view, latest_of, in_bucket, uploads_in, of_upload, named}
use Rattle.bh_view.specs.Sound.{IsVersionRow, IsPartRow, AreParts, AreSound, IsSound}
use Rattle.bh_view.proofs.Keys.{octets, numbers}
use Rattle.bh_view.proofs.FactLemmas.{unique_filtered}
use Rattle.bh_view.proofs.GroupedLemmas.{get-keyed}
use Rattle.bh_view.proofs.TotalLemmas.{total_is, total_add, keyed_total, sum_by_agree}
use Rattle.bh_view.proofs.ObjectLemmas.{version_size, objects_total}
use Rattle.bh_view.proofs.BucketLemmas.{get-buckets_of}
use Rattle.bh_view.proofs.ViewLemmas.{own_row}

-- ---- versions

-- a marker has no bytes
pub row_size : (latest : ℕ) (v : VersionRow) → IsVersionRow latest v → version_size v ≡ v.size
row_size latest v good = go v.marker refl
  where
    go : (n : ℕ) → v.marker ≡ n → content_size (content_of n v) ≡ v.size
    go zero e = sym good.size
    go (suc zero) e = sym (good.size ∙ ap (λ l. length l) (good.bare e).0)
    go (suc (suc n)) e = absurd (omega (arith, good.marker, e))

-- ---- parts

abbrev part_length : PartRow → ℕ
part_length p = part_size (part_shown p)

module _ (latest : ℕ) (rows : TenantRows) (all : AreParts latest rows.tenants rows.versions rows.uploads rows.parts) (one : HasUnique same_number (λ (u : UploadRow). u.upload) rows.uploads) where
  -- those of an upload
  abbrev upload_length : ℕ → ℕ
  upload_length n = sum_by part_length (of_upload n rows.parts)

  upload_size : (n : ℕ) (u : UploadRow) → upload_used (upload_shown rows.parts n u) ≡ upload_length n
  upload_size n u = keyed_total numbers part_size (λ (p : PartRow). p.part) (λ _ p. part_shown p) part_length (λ p. refl) (of_upload n rows.parts) (all.one n)

  -- those of some uploads
  uploads_size : (uploads : List UploadRow) → HasUnique same_number (λ (u : UploadRow). u.upload) uploads → total upload_used (uploads_of rows.parts uploads) ≡ sum_by (λ (u : UploadRow). upload_length u.upload) uploads
  uploads_size = keyed_total numbers upload_used (λ (u : UploadRow). u.upload) (upload_shown rows.parts) (λ u. upload_length u.upload) (λ u. upload_size u.upload u)

  -- those of all uploads are all parts, each of which has its upload
  parts_size : sum_by (λ (u : UploadRow). upload_length u.upload) rows.uploads ≡ sum_by part_length rows.parts
  parts_size =
      sym (keyed_total numbers (λ (n : ℕ). n) (λ (u : UploadRow). u.upload) (λ n _. upload_length n) (λ u. upload_length u.upload) (λ u. refl) rows.uploads one)
      ∙ total_is numbers (λ (n : ℕ). n) (λ (p : PartRow). p.upload) part_length _ rows.parts (λ q. ap (λ o. option_map_or (λ (n : ℕ). n) o 0) (get-keyed numbers (λ (u : UploadRow). u.upload) (λ n _. upload_length n) rows.uploads q)
      ∙ at q (first (matching same_number (λ (u : UploadRow). u.upload) q rows.uploads)) refl)
    where
      at : (q : ℕ) (o : Option UploadRow) → first (matching same_number (λ (u : UploadRow). u.upload) q rows.uploads) ≡ o → option_map_or (λ (n : ℕ). n) (option_map (λ (_ : UploadRow). upload_length q) o) 0 ≡ sum_by part_length (of_upload q rows.parts)
      at q None e = sym (ap (sum_by part_length) (all.owned q e))
      at q (Some u) e = refl

-- ---- both, of a tenant

pub used_is : (tables : Tables) (t : Octets) (s : State) → IsSound tables → view tables t ≡ Some s
    → used s ≡ sum_by (λ v. v.size) (filter (λ v. bytes_eq v.tenant t) tables.versions) + sum_by (λ p. p.size) (filter (λ p. bytes_eq p.tenant t) tables.parts)
used_is tables t s sound is =
    ap used (sym (own_row tables t s is).2)
    ∙ total_add bodies uploads (buckets_of mine)
    ∙ ap₂ ◌+◌
    (total_is octets bodies (λ (v : VersionRow). v.bucket) version_size (buckets_of mine) mine.versions (λ q. ap (λ o. option_map_or bodies o 0) (get-buckets_of mine q) ∙ in_versions q (first (named q mine.buckets)) refl)
    ∙ sum_by_agree version_size (λ v. v.size) mine.versions (all_weaker _ (λ v. version_size v ≡ v.size) (row_size (latest_of tables)) mine.versions all.versions.each))
    (total_is octets uploads (λ (u : UploadRow). u.bucket) lengths (buckets_of mine) mine.uploads (λ q. ap (λ o. option_map_or uploads o 0) (get-buckets_of mine q) ∙ in_uploads q (first (named q mine.buckets)) refl)
    ∙ parts_size (latest_of tables) mine all.parts all.uploads.one
    ∙ sum_by_agree part_length (λ p. p.size) mine.parts (all_weaker (IsPartRow (latest_of tables)) (λ p. part_length p ≡ p.size) (λ p good. sym good.size) mine.parts all.parts.each))
  where
    mine : TenantRows
    mine = rows_of t tables

    all : AreSound (latest_of tables) mine
    all = sound.tenants t

    bodies : Bucket → ℕ
    bodies B = total (sum_by entry_size) B.objects

    uploads : Bucket → ℕ
    uploads B = total upload_used B.uploads

    lengths : UploadRow → ℕ
    lengths u = sum_by part_length (of_upload u.upload mine.parts)

    in_versions : (q : Octets) (o : Option BucketRow) → first (named q mine.buckets) ≡ o → option_map_or bodies (option_map (bucket_shown mine q) o) 0 ≡ sum_by version_size (in_bucket q mine.versions)
    in_versions q None e = sym (ap (sum_by version_size) (all.versions.owned q e))
    in_versions q (Some r) e = objects_total (in_bucket q mine.versions)

    in_uploads : (q : Octets) (o : Option BucketRow) → first (named q mine.buckets) ≡ o → option_map_or uploads (option_map (bucket_shown mine q) o) 0 ≡ sum_by lengths (uploads_in q mine.uploads)
    in_uploads q None e = sym (ap (sum_by lengths) (all.uploads.owned q e))
    in_uploads q (Some r) e = uploads_size (latest_of tables) mine all.parts all.uploads.one (uploads_in q mine.uploads) (unique_filtered numbers (λ (u : UploadRow). u.upload) mine.uploads (λ u. bytes_eq u.bucket q) all.uploads.one)
