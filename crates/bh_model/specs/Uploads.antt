-- The effect of each operation on a multipart upload on a tenant's state, and its answer. Refusals
-- are checked in order.
use Rattle.std.specs.Prelude.{ℕ, ◌+◌, false, bytes_eq, Option, Some, None, option_and_then, option_map, List, [], ok_or, Result, Ok, Err}
use Rattle.std.specs.Prelude.{if◌then◌else◌}
use Rattle.std.specs.FinMap.{empty, get, insert, remove}
use Rattle.bh_types.specs.Counts.{Counts}
use Rattle.bh_types.specs.Moments.{abort_moment}
use Rattle.bh_types.specs.Checksums.{checksum_text}
use Rattle.bh_types.specs.Outcomes.{◌>>=◌, require}
use Rattle.bh_types.specs.declared.id.UploadId.{UploadId}
use Rattle.bh_types.specs.declared.refusal.Refusal.{Refusal}
use Rattle.bh_types.specs.declared.refusal.Refusal.TheVariants.{NoSuchUpload, BadDigest, CounterExhausted}
use Rattle.bh_model.specs.State.{Octets, Content, Content.Marker, Content.Body, Part, Upload, Bucket, State}
use Rattle.bh_model.specs.Counting.{counts, with_counts, can_give, after_entry}
use Rattle.bh_model.specs.Entries.{new_id}
use Rattle.bh_model.specs.Parts.{Naming, is_checksum, completed}
use Rattle.bh_model.specs.Operations.{Answer, Outcome, Removed, Begun, PartStored, Completed, id_told, tenant_bucket, with_bucket}
use Rattle.bh_model.specs.Operations.{with_content, require_quota}

-- ---- counters

-- a new upload takes an upload number, and a new part an entry number
abbrev pub after_begin : Counts → Result Counts Refusal
after_begin c = if can_give c.upload then Ok (record c { upload = c.upload + 1 }) else Err CounterExhausted

abbrev pub after_part : Counts → Result Counts Refusal
after_part c = if can_give c.entry then Ok (record c { entry = c.entry + 1 }) else Err CounterExhausted

-- ---- uploads of a bucket

abbrev pub with_upload : ℕ → Upload → Bucket → Bucket
with_upload number u b = record b { uploads = insert b.uploads number u }

abbrev pub without_upload : ℕ → Bucket → Bucket
without_upload number b = record b { uploads = remove b.uploads number }

abbrev pub with_part : ℕ → Part → Upload → Upload
with_part number p u = record u { parts = insert u.parts number p }

-- an upload with its bucket, key and number
pub record FoundUpload : Type 0 where
  pub tenant : State
  pub bucket : Bucket
  pub number : ℕ
  pub upload : Upload

abbrev pub of_key : Octets → Upload → Option Upload
of_key key u = if bytes_eq u.key key then Some u else None

-- an id belongs to the bucket and the key of its upload
abbrev pub found_upload : Octets → Option UploadId → State → Bucket → Option FoundUpload
found_upload key None t b = None
found_upload key (Some id) t b =
    option_map (λ u. record { tenant = t; bucket = b; number = id.number; upload = u })
    (option_and_then (of_key key) (get b.uploads id.number))

-- if the request's text is not an id, no upload has it
abbrev pub find_upload : Octets → Octets → Option UploadId → Option State → Result FoundUpload Refusal
find_upload name key upload s = do
  (t, b) ← tenant_bucket name s
  ok_or (found_upload key upload t b) NoSuchUpload

-- ---- operations

abbrev pub new_upload : Octets → ℕ → Upload
new_upload key begun = record { key = key; begun = begun; parts = empty }

-- Amazon S3 API Reference, CreateMultipartUpload: x-amz-abort-date
abbrev pub create_upload : ℕ → Octets → Octets → Option State → Result Outcome Refusal
create_upload moment name key s = do
  (t, b) ← tenant_bucket name s
  c ← after_begin (counts t)
  Ok (
    Begun name key (record { number = t.next_upload }) (option_map (abort_moment moment) b.days),
    Some
        (with_bucket name (with_upload t.next_upload (new_upload key moment) b) (with_counts c t)),
  )

-- the bucket of an upload with one more part, in place of the one with the same number
abbrev pub with_stored : FoundUpload → ℕ → Part → Bucket
with_stored f number p = with_upload f.number (with_part number p f.upload) f.bucket

-- `given` is the checksum in the request, if it has one
-- Amazon S3 API Reference, UploadPart
abbrev pub upload_part : ℕ → Octets → Octets → Option UploadId → ℕ → Octets → Option Octets → Option State → Result Outcome Refusal
upload_part moment name key upload number bytes given s = do
  f ← find_upload name key upload s
  _ ← require (is_checksum given bytes) BadDigest
  _ ← require_quota name (with_stored f number (record { bytes = bytes; moment = moment })) f.tenant
  c ← after_part (counts f.tenant)
  Ok (
    PartStored (checksum_text bytes),
    Some (with_bucket name (with_stored f number (record { bytes = bytes; moment = moment }))
        (with_counts c f.tenant)),
  )

abbrev pub content_checksum : Content → Octets
content_checksum Marker = []
content_checksum (Body bytes checksum) = checksum

abbrev pub completion : Octets → Octets → FoundUpload → Content → Answer
completion name key f content =
    Completed name key (id_told f.bucket.mode (new_id f.bucket.mode f.tenant.next_version)) (content_checksum content)

-- the bucket with the object as a new version, as after a put, and without the upload
abbrev pub with_completed : ℕ → Octets → FoundUpload → Content → Bucket
with_completed moment key f content = with_content moment key f.tenant.next_version content (without_upload f.number f.bucket)

-- the version has the moment of the completion; `least` is the minimum size of a part that isn't
-- the last
-- Amazon S3 API Reference, CompleteMultipartUpload
abbrev pub complete_upload : ℕ → ℕ → Octets → Octets → Option UploadId → List Naming → Option State → Result Outcome Refusal
complete_upload moment least name key upload names s = do
  f ← find_upload name key upload s
  content ← completed least f.upload.parts names
  c ← after_entry f.bucket.mode (counts f.tenant)
  Ok (completion name key f content, Some (with_bucket name (with_completed moment key f content) (with_counts c f.tenant)))

-- Amazon S3 API Reference, AbortMultipartUpload
abbrev pub abort_upload : Octets → Octets → Option UploadId → Option State → Result Outcome Refusal
abort_upload name key upload s = do
  f ← find_upload name key upload s
  Ok (Removed None false, Some (with_bucket name (without_upload f.number f.bucket) f.tenant))
