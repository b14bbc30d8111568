-- The rows that a query finds, and the columns that it returns.
use Rattle.std.specs.Prelude.{ℕ, Bool, ◌&&◌, ◌||◌, pos, List, [], ◌∷◌, filter, take, is_some, int_lt}
use Rattle.std.specs.List.{list_any}
use Rattle.std.specs.Ordering.{int_eq, int_cmp, ordering_then}
use Rattle.std.specs.declared.cmp.Ordering.{Ordering}
use Rattle.sqlite.specs.declared.types.Value.TheVariants.{Int, Text, Blob}
use Rattle.sqlite.specs.Order.{Row}
use Rattle.sqlite_keyed.specs.Lists.{sort_by}
use Rattle.sqlite_typed.specs.Columns.{or_null}
use Rattle.sqlite_typed.specs.Tests.{bytes_eq, bytes_cmp}
use Rattle.bh_tables.specs.Schema.{Octets}
pub use Rattle.bh_tables.specs.Bodies.{Name, same_name, block_name, ref_name, body_name, part_name, by_place, is_use, is_unreferenced}
pub use Rattle.bh_tables.specs.Entries.{has_marker, is_later, is_current, current_versions, marked}
use Rattle.bh_tables.specs.Typed.{Totals, UseRow, HostRow, TenantRow, KeyRow, BucketRow, VersionRow, BlockRow, RefRow, UploadRow, PartRow}
use Rattle.bh_tables.specs.Typed.{LockRow, RetainRow, TallyRow, GarbageRow, number}

-- ---- the row of a primary key, or of the unique key of versions

abbrev pub is_tenant : Octets → TenantRow → Bool
is_tenant tenant t = bytes_eq t.tenant tenant

abbrev pub is_key : Octets → Octets → KeyRow → Bool
is_key tenant name k = bytes_eq k.tenant tenant && bytes_eq k.name name

abbrev pub is_bucket : Octets → Octets → BucketRow → Bool
is_bucket tenant bucket b = bytes_eq b.tenant tenant && bytes_eq b.bucket bucket

-- the lock of this bucket
abbrev pub is_lock : Octets → Octets → LockRow → Bool
is_lock tenant bucket l = bytes_eq l.tenant tenant && bytes_eq l.bucket bucket

-- the date of the version of this entry number
abbrev pub is_retain : Octets → ℕ → RetainRow → Bool
is_retain tenant seq r = bytes_eq r.tenant tenant && int_eq (pos r.seq) (pos seq)

-- the version of this id; 0 is `null`
abbrev pub is_version : Octets → Octets → Octets → ℕ → VersionRow → Bool
is_version tenant bucket okey id v =
    bytes_eq v.tenant tenant && (bytes_eq v.bucket bucket && (bytes_eq v.okey okey && int_eq (pos v.id) (pos id)))

-- the version with this entry number, which is unique in a tenant
abbrev pub is_entry : Octets → ℕ → VersionRow → Bool
is_entry tenant seq v = bytes_eq v.tenant tenant && int_eq (pos v.seq) (pos seq)

-- whether a version has a date
abbrev pub is_dated : List RetainRow → VersionRow → Bool
is_dated retains v = list_any (is_retain v.tenant v.seq) retains

-- a version or marker of this key
abbrev pub is_at : Octets → Octets → Octets → VersionRow → Bool
is_at tenant bucket okey v = bytes_eq v.tenant tenant && (bytes_eq v.bucket bucket && bytes_eq v.okey okey)

-- one of any key of this bucket
abbrev pub is_in_bucket : Octets → Octets → VersionRow → Bool
is_in_bucket tenant bucket v = bytes_eq v.tenant tenant && bytes_eq v.bucket bucket

-- the greatest `seq` first
abbrev pub newer : VersionRow → VersionRow → Ordering
newer a b = int_cmp (pos b.seq) (pos a.seq)

-- the order of the index on keys and ids
abbrev pub by_id : VersionRow → VersionRow → Ordering
by_id a b = ordering_then (bytes_cmp a.okey b.okey) (int_cmp (pos a.id) (pos b.id))

-- a marker has size 0 and an empty checksum
abbrev pub is_marked_right : VersionRow → Bool
is_marked_right v = int_eq (pos v.marker) (pos 0) || (int_eq (pos v.size) (pos 0) && bytes_eq v.checksum [])

-- ---- blocks and references

-- the block of this name
abbrev pub is_block : Name → BlockRow → Bool
is_block q b = same_name (block_name b) q

-- a reference of this body
abbrev pub is_of_body : Name → RefRow → Bool
is_of_body q r = same_name (body_name r) q

-- the reference at this place of this body
abbrev pub is_at_place : Name → ℕ → RefRow → Bool
is_at_place q place r = bytes_eq r.tenant q.0 && (int_eq (pos r.body) (pos q.1) && int_eq (pos r.place) (pos place))

-- a block of this digest
abbrev pub has_digest : Octets → BlockRow → Bool
has_digest digest b = bytes_eq b.digest digest

-- the block of this digest with these bytes
abbrev pub is_copy : Octets → Octets → BlockRow → Bool
is_copy digest bytes b = bytes_eq b.digest digest && bytes_eq b.bytes bytes

abbrev pub by_ord : BlockRow → BlockRow → Ordering
by_ord a b = int_cmp (pos a.ord) (pos b.ord)

abbrev pub by_name : BlockRow → BlockRow → Ordering
by_name a b = ordering_then (bytes_cmp a.digest b.digest) (int_cmp (pos a.ord) (pos b.ord))

-- the first unreferenced blocks by digest and ordinal, up to a limit
abbrev pub unreferenced : ℕ → List RefRow → List BlockRow → List BlockRow
unreferenced limit refs blocks = take limit (sort_by by_name (filter (is_unreferenced refs) blocks))

-- the count of an unreferenced block
abbrev pub is_unused : UseRow → Bool
is_unused u = int_eq u.uses (pos 0)

abbrev pub by_use_name : UseRow → UseRow → Ordering
by_use_name a b = ordering_then (bytes_cmp a.digest b.digest) (int_cmp (pos a.ord) (pos b.ord))

-- ---- uploads and their parts

-- the upload of this number
abbrev pub is_upload : Octets → ℕ → UploadRow → Bool
is_upload tenant upload u = bytes_eq u.tenant tenant && int_eq (pos u.upload) (pos upload)

-- one of any key of this bucket
abbrev pub is_upload_in : Octets → Octets → UploadRow → Bool
is_upload_in tenant bucket u = bytes_eq u.tenant tenant && bytes_eq u.bucket bucket

-- by key and number, the order of the index on keys
abbrev pub by_key : UploadRow → UploadRow → Ordering
by_key a b = ordering_then (bytes_cmp a.okey b.okey) (int_cmp (pos a.upload) (pos b.upload))

-- a part of this upload
abbrev pub is_part_of : Octets → ℕ → PartRow → Bool
is_part_of tenant upload p = bytes_eq p.tenant tenant && int_eq (pos p.upload) (pos upload)

-- the part of this number of this upload
abbrev pub is_part : Octets → ℕ → ℕ → PartRow → Bool
is_part tenant upload part p = bytes_eq p.tenant tenant && (int_eq (pos p.upload) (pos upload) && int_eq (pos p.part) (pos part))

-- the part that has this body
abbrev pub has_body : Name → PartRow → Bool
has_body q p = same_name (part_name p) q

abbrev pub by_part : PartRow → PartRow → Ordering
by_part a b = int_cmp (pos a.part) (pos b.part)

-- one of this bucket that began before a moment
abbrev pub is_begun_before : Octets → Octets → ℕ → UploadRow → Bool
is_begun_before tenant bucket moment u = bytes_eq u.tenant tenant && (bytes_eq u.bucket bucket && int_lt (pos u.begun) (pos moment))

-- by beginning and number, the order of the index on moments
abbrev pub by_begun : UploadRow → UploadRow → Ordering
by_begun a b = ordering_then (int_cmp (pos a.begun) (pos b.begun)) (int_cmp (pos a.upload) (pos b.upload))

-- a bucket of a tenant with a rule for unfinished uploads
abbrev pub is_ruled : Octets → BucketRow → Bool
is_ruled tenant b = bytes_eq b.tenant tenant && is_some b.days

-- ---- the rows of a tenant, for sums of sizes

abbrev pub is_version_of : Octets → VersionRow → Bool
is_version_of tenant v = bytes_eq v.tenant tenant

abbrev pub is_part_used : Octets → PartRow → Bool
is_part_used tenant p = bytes_eq p.tenant tenant

-- ---- the keys and uploads of a tenant

abbrev pub is_owned_key : Octets → KeyRow → Bool
is_owned_key tenant k = bytes_eq k.tenant tenant

abbrev pub is_owned_upload : Octets → UploadRow → Bool
is_owned_upload tenant u = bytes_eq u.tenant tenant

-- ---- the rows of a tenant that is removed

abbrev pub is_owned_lock : Octets → LockRow → Bool
is_owned_lock tenant l = bytes_eq l.tenant tenant

abbrev pub is_owned_retain : Octets → RetainRow → Bool
is_owned_retain tenant r = bytes_eq r.tenant tenant

-- a date of one of its versions that is after a moment
abbrev pub is_kept_after : Octets → ℕ → RetainRow → Bool
is_kept_after tenant moment r = bytes_eq r.tenant tenant && int_lt (pos moment) (pos r.until)

-- ---- the rows of a listing

-- the buckets of a tenant
abbrev pub is_owned_bucket : Octets → BucketRow → Bool
is_owned_bucket tenant b = bytes_eq b.tenant tenant

-- by name, in byte order
abbrev pub by_bucket : BucketRow → BucketRow → Ordering
by_bucket a b = bytes_cmp a.bucket b.bucket

abbrev pub by_key_name : KeyRow → KeyRow → Ordering
by_key_name a b = bytes_cmp a.name b.name

abbrev pub by_tenant : TenantRow → TenantRow → Ordering
by_tenant a b = bytes_cmp a.tenant b.tenant

-- a tenant's keys, and all tenants, in that order
abbrev pub keys_by_name : Octets → List KeyRow → List KeyRow
keys_by_name tenant keys = sort_by by_key_name (filter (is_owned_key tenant) keys)

abbrev pub tenants_by_name : List TenantRow → List TenantRow
tenants_by_name tenants = sort_by by_tenant tenants

-- ---- the columns of queries

abbrev pub shown_latest : HostRow → Row
shown_latest h = number h.latest ∷ []

abbrev pub shown_tenant : TenantRow → Row
shown_tenant t = number t.quota ∷ number t.next_version ∷ number t.next_upload ∷ number t.next_entry ∷ []

-- a tenant's numbers, with its bytes in use
abbrev pub shown_account : Totals → TenantRow → Row
shown_account sums t = number t.quota ∷ number t.next_version ∷ number t.next_upload ∷ number t.next_entry ∷ Int (sums.used t.tenant) ∷ []

-- in a list of all tenants
abbrev pub shown_quota : Totals → TenantRow → Row
shown_quota sums t = Text t.tenant ∷ number t.quota ∷ Int (sums.used t.tenant) ∷ []

-- a tenant's bytes in use, alone
abbrev pub shown_used : Totals → TenantRow → Row
shown_used sums t = Int (sums.used t.tenant) ∷ []

-- a tenant's counts
abbrev pub shown_tally : TallyRow → Row
shown_tally t = Int t.versions ∷ Int t.markers ∷ Int t.objects ∷ []

-- the bytes that nobody needs
abbrev pub shown_garbage : GarbageRow → Row
shown_garbage g = Int g.bytes ∷ []

abbrev pub shown_key : KeyRow → Row
shown_key k = Text k.name ∷ []

abbrev pub shown_secret : KeyRow → Row
shown_secret k = Text k.secret ∷ []

abbrev pub shown_bucket : BucketRow → Row
shown_bucket b = number b.created ∷ number b.state ∷ or_null number b.days ∷ []

-- in a listing
abbrev pub shown_entry : BucketRow → Row
shown_entry b = Text b.bucket ∷ number b.created ∷ []

-- a bucket's rule
abbrev pub shown_rule : BucketRow → Row
shown_rule b = Text b.bucket ∷ or_null number b.days ∷ []

abbrev pub shown_lock : LockRow → Row
shown_lock l = Text l.bucket ∷ []

abbrev pub shown_until : RetainRow → Row
shown_until r = number r.until ∷ []

-- a version without its bytes
abbrev pub shown_head : VersionRow → Row
shown_head v = number v.seq ∷ number v.id ∷ number v.marker ∷ number v.stamp ∷ number v.size ∷ Text v.checksum ∷ []

-- its place among the entries of its key, and its kind
abbrev pub shown_place : VersionRow → Row
shown_place v = number v.seq ∷ number v.id ∷ number v.marker ∷ []

abbrev pub shown_seq : VersionRow → Row
shown_seq v = number v.seq ∷ []

abbrev pub shown_ord : BlockRow → Row
shown_ord b = number b.ord ∷ []

abbrev pub shown_name : BlockRow → Row
shown_name b = Blob b.digest ∷ number b.ord ∷ []

abbrev pub shown_use_name : UseRow → Row
shown_use_name u = Blob u.digest ∷ number u.ord ∷ []

abbrev pub shown_bytes : BlockRow → Row
shown_bytes b = Blob b.bytes ∷ []

-- the block of a reference, and its size in bytes
abbrev pub shown_ref : RefRow → Row
shown_ref r = Blob r.digest ∷ number r.ord ∷ number r.size ∷ []

abbrev pub shown_upload : UploadRow → Row
shown_upload u = Text u.bucket ∷ Blob u.okey ∷ number u.begun ∷ []

-- the bytes of its parts
abbrev pub shown_kept : Totals → UploadRow → Row
shown_kept sums u = Int (sums.kept (u.tenant, u.upload)) ∷ []

abbrev pub shown_number : UploadRow → Row
shown_number u = number u.upload ∷ []

-- a part without its bytes
abbrev pub shown_part : PartRow → Row
shown_part p = number p.part ∷ number p.size ∷ Text p.checksum ∷ number p.stamp ∷ number p.body ∷ []

-- the name of its bytes' body, and their number
abbrev pub shown_body : PartRow → Row
shown_body p = number p.body ∷ number p.size ∷ []
