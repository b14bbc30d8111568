-- The listings of a bucket, from a tenant's state.
use Rattle.std.specs.Prelude.{ℕ, Option, Result, Ok}
use Rattle.std.specs.FinMap.{entries}
use Rattle.bh_types.specs.Outcomes.{◌>>=◌}
use Rattle.bh_types.specs.declared.id.UploadId.{UploadId}
use Rattle.bh_types.specs.declared.refusal.Refusal.{Refusal}
use Rattle.bh_model.specs.State.{Octets, State}
use Rattle.bh_model.specs.Operations.{Outcome, Objects, Versions, Uploads, Parts, tenant_bucket}
use Rattle.bh_model.specs.Pages.{PageAsked, ObjectsListed, objects_page, objects_told, VersionPlace, VersionsListed, versions_page}
use Rattle.bh_model.specs.Pages.{versions_told, UploadPlace, UploadsListed, uploads_page, uploads_told, PartsListed, parts_page, parts_told}
use Rattle.bh_model.specs.Uploads.{find_upload}

-- after the name in a token
-- Amazon S3 API Reference, ListObjectsV2
abbrev pub objects_listed : Octets → PageAsked → Option Octets → Option State → Result ObjectsListed Refusal
objects_listed name asked token s = do
  (_, b) ← tenant_bucket name s
  Ok (objects_told name asked (objects_page asked token (entries b.objects)))

abbrev pub list_objects : Octets → PageAsked → Option Octets → Option State → Result Outcome Refusal
list_objects name asked token s = do
  page ← objects_listed name asked token s
  Ok (Objects page, s)

-- after a key, or after one of its versions
-- Amazon S3 API Reference, ListObjectVersions
abbrev pub versions_listed : Octets → PageAsked → Option VersionPlace → Option State → Result VersionsListed Refusal
versions_listed name asked marker s = do
  (_, b) ← tenant_bucket name s
  Ok (versions_told name asked (versions_page asked marker (entries b.objects)))

abbrev pub list_versions : Octets → PageAsked → Option VersionPlace → Option State → Result Outcome Refusal
list_versions name asked marker s = do
  page ← versions_listed name asked marker s
  Ok (Versions page, s)

-- after a key, or after one of its uploads
-- Amazon S3 API Reference, ListMultipartUploads
abbrev pub uploads_listed : Octets → PageAsked → Option UploadPlace → Option State → Result UploadsListed Refusal
uploads_listed name asked marker s = do
  (_, b) ← tenant_bucket name s
  Ok (uploads_told name asked (uploads_page asked marker (entries b.uploads)))

abbrev pub list_uploads : Octets → PageAsked → Option UploadPlace → Option State → Result Outcome Refusal
list_uploads name asked marker s = do
  page ← uploads_listed name asked marker s
  Ok (Uploads page, s)

-- at most `max` parts, after the one of the number `marker`
-- Amazon S3 API Reference, ListParts
abbrev pub parts_listed : Octets → Octets → Option UploadId → ℕ → ℕ → Option State → Result PartsListed Refusal
parts_listed name key upload max marker s = do
  f ← find_upload name key upload s
  Ok (parts_told name key (record { number = f.number }) max (parts_page max marker (entries f.upload.parts)))

abbrev pub list_parts : Octets → Octets → Option UploadId → ℕ → ℕ → Option State → Result Outcome Refusal
list_parts name key upload max marker s = do
  page ← parts_listed name key upload max marker s
  Ok (Parts page, s)
