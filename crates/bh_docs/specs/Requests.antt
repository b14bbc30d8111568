-- Request documents: MalformedJSON if the shape is wrong, anywhere in the document, and then
-- InvalidArgument if an integer is out of its range.
use Rattle.std.specs.Prelude.{ℕ, ℤ, pos, negsuc, ◌&&◌, nat_le, List, [], ◌∷◌, length, codes, Option, Some, None, option_map, ok_or, Result}
use Rattle.std.specs.Prelude.{Ok, Err, if◌then◌else◌, string_bytes}
use Rattle.std.specs.Str.{bytes_eq}
use Rattle.serde_json.specs.Data.{Data}
use Rattle.bh_types.specs.Moments.{moment_of}
use Rattle.bh_types.specs.Outcomes.{◌>>=◌}
use Rattle.bh_types.specs.declared.refusal.Refusal.{Refusal}
use Rattle.bh_types.specs.declared.refusal.Refusal.TheVariants.{InvalidArgument, MalformedJson}
use Rattle.bh_types.specs.declared.bucket_state.BucketState.{BucketState}
use Rattle.bh_types.specs.declared.wanted.Named.{Named}
use Rattle.bh_docs.specs.Shapes.{Part, data_of, versioning_shape, lifecycle_shape, retention_shape, complete_shape}

abbrev pub or_malformed : {A : Type 0} → Option A → Result A Refusal
or_malformed None = Err MalformedJson
or_malformed (Some a) = Ok a

-- a number from low to high
abbrev pub ranged : ℕ → ℕ → ℤ → Result ℕ Refusal
ranged low high (pos n) = if nat_le low n && nat_le n high then Ok n else Err InvalidArgument
ranged low high (negsuc n) = Err InvalidArgument

-- the maximum size of a request document in bytes
abbrev pub document_end : ℕ
document_end = 2097152

-- the document of a body that isn't longer
abbrev pub document_of : List ℕ → Result Data Refusal
document_of body = if nat_le (length body) document_end then or_malformed (data_of body) else Err MalformedJson

-- the new state of a bucket's versioning
-- Amazon S3 API Reference, PutBucketVersioning
abbrev pub versioning_of : List ℕ → Result BucketState Refusal
versioning_of body = do
  document ← document_of body
  or_malformed (versioning_shape document)

-- the days after which a bucket's uploads are aborted
-- Amazon S3 API Reference, PutBucketLifecycleConfiguration
abbrev pub lifecycle_of : List ℕ → Result ℕ Refusal
lifecycle_of body = do
  document ← document_of body
  days ← or_malformed (lifecycle_shape document)
  ranged 1 3650 days

-- a date in the only mode that the host supports
abbrev pub date_told : List ℕ × List ℕ → Result ℕ Refusal
date_told (mode, date) = if bytes_eq mode (codes "COMPLIANCE") then ok_or (moment_of date) InvalidArgument else Err InvalidArgument

-- the date until which a version is retained
-- Amazon S3 API Reference, PutObjectRetention
abbrev pub retention_of : List ℕ → Result ℕ Refusal
retention_of body = do
  document ← document_of body
  told ← or_malformed (retention_shape document)
  date_told told

-- a part with a number from 1 to 10,000
abbrev pub in_range : Part → Result (ℕ × Option (List ℕ)) Refusal
in_range part = do
  number ← ranged 1 10000 part.0
  Ok (number, part.1)

abbrev pub in_ranges : List Part → Result (List (ℕ × Option (List ℕ))) Refusal
in_ranges [] = Ok []
in_ranges (part ∷ rest) = do
  first ← in_range part
  others ← in_ranges rest
  Ok (first ∷ others)

-- the parts that complete an upload
-- Amazon S3 API Reference, CompleteMultipartUpload
abbrev pub complete_of : List ℕ → Result (List (ℕ × Option (List ℕ))) Refusal
complete_of body = do
  document ← document_of body
  parts ← or_malformed (complete_shape document)
  in_ranges parts

-- a part as a request names it
abbrev pub named_view : Named → ℕ × Option (List ℕ)
named_view part = (part.number, option_map string_bytes part.sum)
