-- The page that the parameters request.
use Rattle.std.specs.Prelude.{ℕ, Bool, false, List, [], codes, Option, Some, None, unwrap_or, if◌then◌else◌, Result, Ok, Err}
use Rattle.std.specs.Str.{bytes_eq}
use Rattle.bh_types.specs.Ids.{upload_of}
use Rattle.bh_types.specs.Outcomes.{◌>>=◌}
use Rattle.bh_types.specs.declared.refusal.Refusal.{Refusal}
use Rattle.bh_types.specs.declared.refusal.Refusal.TheVariants.{InvalidArgument}
use Rattle.bh_types.specs.Tokens as tokens
use Rattle.bh_operation.specs.Numbers.{or_invalid_argument, page_size, part_marker, wanted}
use Rattle.bh_operation.specs.Queries.{value_of}
use Rattle.bh_operation.specs.declared.page.Page.{Page}
use Rattle.bh_operation.specs.declared.page.PartPage.{PartPage}
use Rattle.bh_operation.specs.declared.page.UploadMarker.{UploadMarker}
use Rattle.bh_operation.specs.declared.page.VersionMarker.{VersionMarker}
use Rattle.bh_operation.specs.declared.query.Parameter.{Parameter}

-- a text, empty by default
abbrev pub text_or_empty : List ℕ → List Parameter → List ℕ
text_or_empty name parameters = unwrap_or (value_of name parameters) []

-- a page of names, whose size is in the parameter of this name
unfoldable pub page_in : List ℕ → List Parameter → Result Page Refusal
page_in size_name parameters = do
  size ← page_size (value_of size_name parameters)
  Ok (record {
    prefix = text_or_empty (codes "prefix") parameters;
    delimiter = text_or_empty (codes "delimiter") parameters;
    size = size;
  })

-- a page of keys, or of versions of them
-- Amazon S3 API Reference, ListObjectsV2 and ListObjectVersions
unfoldable pub key_page : List Parameter → Result Page Refusal
key_page parameters = page_in (codes "max-keys") parameters

-- Amazon S3 API Reference, ListMultipartUploads
unfoldable pub upload_page : List Parameter → Result Page Refusal
upload_page parameters = page_in (codes "max-uploads") parameters

-- Amazon S3 API Reference, ListParts
unfoldable pub part_page : List Parameter → Result PartPage Refusal
part_page parameters = do
  size ← page_size (value_of (codes "max-parts") parameters)
  after ← part_marker (value_of (codes "part-number-marker") parameters)
  Ok (record { size = size; after = after })

-- the second version of ListObjects
abbrev pub is_second : Option (List ℕ) → Bool
is_second None = false
is_second (Some text) = bytes_eq text (codes "2")

-- Amazon S3 API Reference, ListObjectsV2: list-type
unfoldable pub second_version : List Parameter → Result (Unit {0}) Refusal
second_version parameters = if is_second (value_of (codes "list-type") parameters) then Ok tt else Err InvalidArgument

-- the name after which a page begins
abbrev pub token_from : Option (List ℕ) → Result (Option (List ℕ)) Refusal
token_from None = Ok None
token_from (Some text) = do
  token ← tokens.token_of text
  Ok (Some token)

-- Amazon S3 API Reference, ListObjectsV2: continuation-token
unfoldable pub token_of : List Parameter → Result (Option (List ℕ)) Refusal
token_of parameters = token_from (value_of (codes "continuation-token") parameters)

-- after a key, or after a version of it; a version needs a key
abbrev pub version_marker_from : Option (List ℕ) → Option (List ℕ) → Result (Option VersionMarker) Refusal
version_marker_from (Some key) id = Ok (Some (record { key = key; version = wanted id }))
version_marker_from None None = Ok None
version_marker_from None (Some id) = Err InvalidArgument

-- Amazon S3 API Reference, ListObjectVersions: key-marker and version-id-marker
unfoldable pub version_marker : List Parameter → Result (Option VersionMarker) Refusal
version_marker parameters =
    version_marker_from (value_of (codes "key-marker") parameters) (value_of (codes "version-id-marker") parameters)

-- after a key, or after an upload of it; without a key an upload is ignored
abbrev pub upload_marker_from : Option (List ℕ) → Option (List ℕ) → Result (Option UploadMarker) Refusal
upload_marker_from None id = Ok None
upload_marker_from (Some key) None = Ok (Some (record { key = key; upload = None }))
upload_marker_from (Some key) (Some id) = do
  upload ← or_invalid_argument (upload_of id)
  Ok (Some (record { key = key; upload = Some upload }))

-- Amazon S3 API Reference, ListMultipartUploads: key-marker and upload-id-marker
unfoldable pub upload_marker : List Parameter → Result (Option UploadMarker) Refusal
upload_marker parameters =
    upload_marker_from (value_of (codes "key-marker") parameters) (value_of (codes "upload-id-marker") parameters)
