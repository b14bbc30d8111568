-- The reply documents as JSON data. The reply is the compact text of the data.
use Rattle.std.specs.Prelude.{ℕ, List, codes, map, Option, Some, None, string_bytes}
use Rattle.serde_json.specs.Data.{Data, number, unsigned, string, array, object, Members, member, no_members, put, item, no_items}
use Rattle.serde_json.specs.View.{items_of}
use Rattle.serde_json.specs.Written.{compact_text}
use Rattle.bh_types.specs.Ids.{upload_text}
use Rattle.bh_types.specs.Moments.{moment_text}
use Rattle.bh_types.specs.declared.id.UploadId.{UploadId}
use Rattle.bh_types.specs.declared.bucket_state.BucketState.{BucketState}
use Rattle.bh_types.specs.declared.bucket_state.BucketState.TheVariants.{Unversioned, Enabled, Suspended}
use Rattle.bh_docs.specs.declared.reply.BucketEntry.{BucketEntry}
use Rattle.bh_model.specs.Usage.{Usage}
use Rattle.bh_docs.specs.declared.reply.Usage as told

-- ---- words

-- a number from 0 on
abbrev pub natural : ℕ → Data
natural n = number (unsigned n)

-- a moment, which is seconds since 1970, as its text
abbrev pub moment : ℕ → Data
moment m = string (moment_text m)

-- the entries, each as data
abbrev pub array_of : {A : Type 0} → (A → Data) → List A → Data
array_of shown entries = array (items_of (map shown entries))

-- an optional member
abbrev pub member_if : List ℕ → Option Data → Members → Members
member_if name None rest = rest
member_if name (Some d) rest = member name d rest

-- an object with one more member, in the order of names, if there is data for it
abbrev pub with_member : List ℕ → Option Data → Data → Data
with_member name (Some d) (object members) = object (put name d members)
with_member name other document = document

-- ---- documents

-- {"Code":code,"Resource":resource}
-- Amazon S3 API Reference, "Error responses", as JSON
abbrev pub error_data : List ℕ → List ℕ → Data
error_data code resource =
    object (member (codes "Code") (string code) (member (codes "Resource") (string resource) no_members))

-- RFC 8259
abbrev pub error_text : List ℕ → List ℕ → List ℕ
error_text code resource = compact_text (error_data code resource)

-- a bucket's name and creation time
abbrev pub bucket_view : BucketEntry → List ℕ × ℕ
bucket_view b = (string_bytes b.name, b.created)

-- {"CreationDate":created,"Name":name}
abbrev pub bucket_data : List ℕ × ℕ → Data
bucket_data b =
    object (member (codes "CreationDate") (moment b.1)
    (member (codes "Name") (string b.0) no_members))

-- {"Buckets":[..]}
-- Amazon S3 API Reference, ListBuckets, as JSON
abbrev pub buckets_data : List (List ℕ × ℕ) → Data
buckets_data buckets = object (member (codes "Buckets") (array_of bucket_data buckets) no_members)

abbrev pub buckets_text : List (List ℕ × ℕ) → List ℕ
buckets_text buckets = compact_text (buckets_data buckets)

-- a tenant's usage, as contracts see it
abbrev pub usage_view : told.Usage → Usage
usage_view u = record {
  buckets = u.buckets;
  bytes = u.bytes;
  markers = u.markers;
  objects = u.objects;
  part_bytes = u.part_bytes;
  quota = u.quota;
  uploads = u.uploads;
  version_bytes = u.version_bytes;
  versions = u.versions;
}

-- S3 has no such document
abbrev pub usage_data : Usage → Data
usage_data u =
    object (member (codes "Buckets") (natural u.buckets)
    (member (codes "Bytes") (natural u.bytes)
    (member (codes "Markers") (natural u.markers)
    (member (codes "Objects") (natural u.objects)
    (member (codes "PartBytes") (natural u.part_bytes)
    (member (codes "Quota") (natural u.quota)
    (member (codes "Uploads") (natural u.uploads)
    (member (codes "VersionBytes") (natural u.version_bytes)
    (member (codes "Versions") (natural u.versions) no_members)))))))))

abbrev pub usage_text : Usage → List ℕ
usage_text u = compact_text (usage_data u)

-- {}, {"Status":"Enabled"} or {"Status":"Suspended"}
-- Amazon S3 API Reference, GetBucketVersioning, as JSON
abbrev pub versioning_data : BucketState → Data
versioning_data Unversioned = object no_members
versioning_data Enabled = object (member (codes "Status") (string (codes "Enabled")) no_members)
versioning_data Suspended = object (member (codes "Status") (string (codes "Suspended")) no_members)

-- {"Status":status}
abbrev pub status_data : List ℕ → Data
status_data status = object (member (codes "Status") (string status) no_members)

abbrev pub versioning_text : BucketState → List ℕ
versioning_text state = compact_text (versioning_data state)

-- {"DaysAfterInitiation":days}
abbrev pub days_data : ℕ → Data
days_data days = object (member (codes "DaysAfterInitiation") (natural days) no_members)

-- {"AbortIncompleteMultipartUpload":{"DaysAfterInitiation":days},"Status":"Enabled"}
abbrev pub rule_data : ℕ → Data
rule_data days =
    object (member (codes "AbortIncompleteMultipartUpload") (days_data days)
    (member (codes "Status") (string (codes "Enabled")) no_members))

-- {"Rules":[{"AbortIncompleteMultipartUpload":{"DaysAfterInitiation":days},"Status":"Enabled"}]}
-- Amazon S3 API Reference, GetBucketLifecycleConfiguration, as JSON
abbrev pub lifecycle_data : ℕ → Data
lifecycle_data days =
    object (member (codes "Rules") (array (item
    (object (member (codes "AbortIncompleteMultipartUpload")
    (object (member (codes "DaysAfterInitiation") (natural days) no_members))
    (member (codes "Status") (string (codes "Enabled")) no_members)))
    no_items)) no_members)

abbrev pub lifecycle_text : ℕ → List ℕ
lifecycle_text days = compact_text (lifecycle_data days)

-- {} or {"Mode":"COMPLIANCE","RetainUntilDate":date}
-- Amazon S3 API Reference, GetObjectRetention, as JSON
abbrev pub retention_data : Option ℕ → Data
retention_data None = object no_members
retention_data (Some date) =
    object (member (codes "Mode") (string (codes "COMPLIANCE"))
    (member (codes "RetainUntilDate") (moment date) no_members))

abbrev pub retention_text : Option ℕ → List ℕ
retention_text date = compact_text (retention_data date)

-- {"Bucket":bucket,"Key":key,"UploadId":upload}
-- Amazon S3 API Reference, CreateMultipartUpload, as JSON
abbrev pub begun_data : List ℕ → List ℕ → UploadId → Data
begun_data bucket key upload =
    object (member (codes "Bucket") (string bucket)
    (member (codes "Key") (string key)
    (member (codes "UploadId") (string (upload_text upload)) no_members)))

abbrev pub begun_text : List ℕ → List ℕ → UploadId → List ℕ
begun_text bucket key upload = compact_text (begun_data bucket key upload)

-- {"Bucket":bucket,"ChecksumSHA256":checksum,"Key":key}
-- Amazon S3 API Reference, CompleteMultipartUpload, as JSON
abbrev pub completed_data : List ℕ → List ℕ → List ℕ → Data
completed_data bucket checksum key =
    object (member (codes "Bucket") (string bucket)
    (member (codes "ChecksumSHA256") (string checksum)
    (member (codes "Key") (string key) no_members)))

abbrev pub completed_text : List ℕ → List ℕ → List ℕ → List ℕ
completed_text bucket checksum key = compact_text (completed_data bucket checksum key)

-- {"ChecksumSHA256":checksum,"LastModified":modified}
-- Amazon S3 API Reference, CopyObject, as JSON
abbrev pub copied_data : List ℕ → ℕ → Data
copied_data checksum modified =
    object (member (codes "ChecksumSHA256") (string checksum)
    (member (codes "LastModified") (moment modified) no_members))

abbrev pub copied_text : List ℕ → ℕ → List ℕ
copied_text checksum modified = compact_text (copied_data checksum modified)
