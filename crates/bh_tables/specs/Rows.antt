-- The rows of each table as typed records, with their stored columns.
use Rattle.std.specs.Prelude.{◌≡◌, ℕ, ℤ, pos, Bool, List, [], ◌∷◌, Option, Some, None, refl, unsigned_abs}
use Rattle.sqlite.specs.declared.types.Value.{Value}
use Rattle.sqlite.specs.declared.types.Value.TheVariants.{Null, Int, Text, Blob}
use Rattle.sqlite.specs.Order.{Row, column}
use Rattle.sqlite_typed.specs.Columns.{bytes_of, int_of, or_null}
use Rattle.bh_rows.specs.Form.{Form}
use Rattle.bh_tables.specs.Schema.{Octets}

-- ---- numbers in columns

abbrev pub column_number : Value → ℕ
column_number v = unsigned_abs (int_of v)

abbrev pub maybe_number : Value → Option ℕ
maybe_number Null = None
maybe_number (Int n) = Some (unsigned_abs n)
maybe_number _ = None

abbrev pub number : ℕ → Value
number n = Int (pos n)

pub maybe_back : (o : Option ℕ) → maybe_number (or_null number o) ≡ o
maybe_back None = refl
maybe_back (Some n) = refl

-- ---- sums over other rows. A tenant has the bytes of its versions and parts, and an upload those
-- of its parts. Each block, in the order of the blocks, has its number of references. Each tenant,
-- in the order of the tenants, has its numbers of versions, markers and current versions. One row has
-- the bytes of the blocks that no reference names. The columns and the tables of these sums have
-- CHECKs from 0 to 2^62

pub record UseRow : Type 0 where
  pub digest : Octets
  pub ord : ℕ
  pub uses : ℤ

abbrev pub use_columns : UseRow → Row
use_columns u = Blob u.digest ∷ number u.ord ∷ Int u.uses ∷ []

abbrev pub use_of : Row → UseRow
use_of r = record { digest = bytes_of (column r 1); ord = column_number (column r 2); uses = int_of (column r 3) }

abbrev pub use_form : Form UseRow
use_form = record { encode = use_columns; decode = use_of; back = λ _ x. refl }

pub record TallyRow : Type 0 where
  pub tenant : Octets
  pub versions : ℤ
  pub markers : ℤ
  -- the versions that are the newest entries of their keys
  pub objects : ℤ

abbrev pub tally_columns : TallyRow → Row
tally_columns t = Text t.tenant ∷ Int t.versions ∷ Int t.markers ∷ Int t.objects ∷ []

abbrev pub tally_read : Row → TallyRow
tally_read r = record {
  tenant = bytes_of (column r 1);
  versions = int_of (column r 2);
  markers = int_of (column r 3);
  objects = int_of (column r 4);
}

abbrev pub tally_form : Form TallyRow
tally_form = record { encode = tally_columns; decode = tally_read; back = λ _ x. refl }

-- its id is the row's number and so is not a column of the record
pub record GarbageRow : Type 0 where
  pub bytes : ℤ

abbrev pub garbage_columns : GarbageRow → Row
garbage_columns g = Null ∷ Int g.bytes ∷ []

abbrev pub garbage_of : Row → GarbageRow
garbage_of r = record { bytes = int_of (column r 2) }

abbrev pub garbage_form : Form GarbageRow
garbage_form = record { encode = garbage_columns; decode = garbage_of; back = λ _ x. refl }

pub record Totals : Type 0 where
  pub used : Octets → ℤ
  pub kept : Octets × ℕ → ℤ
  pub uses : List UseRow
  pub tallies : List TallyRow
  pub garbage : List GarbageRow
  -- whether each reference has the size of its block
  pub measured : Bool

-- ---- the host: one row, whose id is the row's number and so is not a column of the record

pub record HostRow : Type 0 where
  pub version : ℕ
  -- the last stamp, in seconds since 1970
  pub latest : ℕ
  pub min_part : ℕ
  pub max_body : ℕ
  -- the function that names blocks: 0 is SHA-256 (FIPS 180-4)
  pub digest : ℕ

abbrev pub host_columns : HostRow → Row
host_columns x = Null ∷ number x.version ∷ number x.latest ∷ number x.min_part ∷ number x.max_body ∷ number x.digest ∷ []

abbrev pub host_of : Row → HostRow
host_of r = record {
  version = column_number (column r 2);
  latest = column_number (column r 3);
  min_part = column_number (column r 4);
  max_body = column_number (column r 5);
  digest = column_number (column r 6);
}

abbrev pub host_form : Form HostRow
host_form = record { encode = host_columns; decode = host_of; back = λ _ x. refl }

-- ---- tenants, with the next number of each counter

pub record TenantRow : Type 0 where
  pub tenant : Octets
  pub quota : ℕ
  pub next_version : ℕ
  pub next_upload : ℕ
  pub next_entry : ℕ

abbrev pub tenant_columns : ℤ → TenantRow → Row
tenant_columns used x = Text x.tenant ∷ number x.quota ∷ number x.next_version ∷ number x.next_upload ∷ number x.next_entry ∷ Int used ∷ []

abbrev pub tenant_of : Row → TenantRow
tenant_of r = record {
  tenant = bytes_of (column r 1);
  quota = column_number (column r 2);
  next_version = column_number (column r 3);
  next_upload = column_number (column r 4);
  next_entry = column_number (column r 5);
}

abbrev pub tenant_form : Totals → Form TenantRow
tenant_form sums = record { encode = λ x. tenant_columns (sums.used x.tenant) x; decode = tenant_of; back = λ _ x. refl }

-- as it is stored, whatever its total
pub record TenantColumns : Type 0 where
  pub row : TenantRow
  pub used : ℤ

abbrev pub stored_tenant_form : Form TenantColumns
stored_tenant_form = record {
  encode = λ c. tenant_columns c.used c.row;
  decode = λ r. record { row = tenant_of r; used = int_of (column r 6) };
  back = λ _ x. refl;
}

-- ---- access keys

pub record KeyRow : Type 0 where
  pub tenant : Octets
  pub name : Octets
  pub secret : Octets

abbrev pub key_columns : KeyRow → Row
key_columns x = Text x.tenant ∷ Text x.name ∷ Text x.secret ∷ []

abbrev pub key_of : Row → KeyRow
key_of r = record { tenant = bytes_of (column r 1); name = bytes_of (column r 2); secret = bytes_of (column r 3) }

abbrev pub key_form : Form KeyRow
key_form = record { encode = key_columns; decode = key_of; back = λ _ x. refl }

-- ---- buckets

pub record BucketRow : Type 0 where
  pub tenant : Octets
  pub bucket : Octets
  -- seconds since 1970
  pub created : ℕ
  -- 0, 1, 2: Unversioned, Enabled, Suspended
  pub state : ℕ
  -- the number of days after which an upload is stale, if the bucket has that rule
  pub days : Option ℕ

abbrev pub bucket_columns : BucketRow → Row
bucket_columns x = Text x.tenant ∷ Text x.bucket ∷ number x.created ∷ number x.state ∷ or_null number x.days ∷ []

abbrev pub bucket_of : Row → BucketRow
bucket_of r = record {
  tenant = bytes_of (column r 1);
  bucket = bytes_of (column r 2);
  created = column_number (column r 3);
  state = column_number (column r 4);
  days = maybe_number (column r 5);
}

abbrev pub bucket_form : Form BucketRow
bucket_form = record { encode = bucket_columns; decode = bucket_of; back = λ _ x. (λ i. record x { days = maybe_back x.days i }) }

-- ---- the buckets that are locked

pub record LockRow : Type 0 where
  pub tenant : Octets
  pub bucket : Octets

abbrev pub lock_columns : LockRow → Row
lock_columns x = Text x.tenant ∷ Text x.bucket ∷ []

abbrev pub lock_of : Row → LockRow
lock_of r = record { tenant = bytes_of (column r 1); bucket = bytes_of (column r 2) }

abbrev pub lock_form : Form LockRow
lock_form = record { encode = lock_columns; decode = lock_of; back = λ _ x. refl }

-- ---- versions and markers of a key, a later one having the greater seq

-- as it is stored: its bytes are those of a body
pub record VersionColumns : Type 0 where
  pub tenant : Octets
  pub seq : ℕ
  pub bucket : Octets
  pub okey : Octets
  -- 0 is `null`
  pub id : ℕ
  -- 1 for a delete marker, 0 for a version
  pub marker : ℕ
  -- seconds since 1970
  pub stamp : ℕ
  -- bytes
  pub size : ℕ
  -- the column `sum`
  pub checksum : Octets

abbrev pub version_columns : VersionColumns → Row
version_columns x = Text x.tenant ∷ number x.seq ∷ Text x.bucket ∷ Blob x.okey ∷ number x.id ∷ number x.marker ∷ number x.stamp
    ∷ number x.size ∷ Text x.checksum ∷ []

abbrev pub version_of : Row → VersionColumns
version_of r = record {
  tenant = bytes_of (column r 1);
  seq = column_number (column r 2);
  bucket = bytes_of (column r 3);
  okey = bytes_of (column r 4);
  id = column_number (column r 5);
  marker = column_number (column r 6);
  stamp = column_number (column r 7);
  size = column_number (column r 8);
  checksum = bytes_of (column r 9);
}

abbrev pub version_form : Form VersionColumns
version_form = record { encode = version_columns; decode = version_of; back = λ _ x. refl }

-- with the bytes of its body
pub record VersionRow : Type 0 where
  pub tenant : Octets
  pub seq : ℕ
  pub bucket : Octets
  pub okey : Octets
  pub id : ℕ
  pub marker : ℕ
  pub stamp : ℕ
  pub size : ℕ
  pub checksum : Octets
  pub bytes : Octets

-- ---- the retention dates of versions

pub record RetainRow : Type 0 where
  pub tenant : Octets
  -- of the version
  pub seq : ℕ
  -- seconds since 1970
  pub until : ℕ

abbrev pub retain_columns : RetainRow → Row
retain_columns x = Text x.tenant ∷ number x.seq ∷ number x.until ∷ []

abbrev pub retain_of : Row → RetainRow
retain_of r = record { tenant = bytes_of (column r 1); seq = column_number (column r 2); until = column_number (column r 3) }

abbrev pub retain_form : Form RetainRow
retain_form = record { encode = retain_columns; decode = retain_of; back = λ _ x. refl }

-- ---- blocks of bytes, shared by all tenants

pub record BlockRow : Type 0 where
  -- of the bytes
  pub digest : Octets
  -- rows of one digest differ by it
  pub ord : ℕ
  pub bytes : Octets

abbrev pub block_columns : BlockRow → Row
block_columns b = Blob b.digest ∷ number b.ord ∷ Blob b.bytes ∷ []

abbrev pub block_of : Row → BlockRow
block_of r = record { digest = bytes_of (column r 1); ord = column_number (column r 2); bytes = bytes_of (column r 3) }

abbrev pub block_form : Form BlockRow
block_form = record { encode = block_columns; decode = block_of; back = λ _ x. refl }

-- ---- references of a body to its blocks

pub record RefRow : Type 0 where
  pub tenant : Octets
  -- an entry number of the tenant
  pub body : ℕ
  -- counted from 0
  pub place : ℕ
  -- of the block at this place
  pub digest : Octets
  pub ord : ℕ
  -- bytes, of that block
  pub size : ℕ

abbrev pub ref_columns : RefRow → Row
ref_columns r = Text r.tenant ∷ number r.body ∷ number r.place ∷ Blob r.digest ∷ number r.ord ∷ number r.size ∷ []

abbrev pub ref_of : Row → RefRow
ref_of r = record {
  tenant = bytes_of (column r 1);
  body = column_number (column r 2);
  place = column_number (column r 3);
  digest = bytes_of (column r 4);
  ord = column_number (column r 5);
  size = column_number (column r 6);
}

abbrev pub ref_form : Form RefRow
ref_form = record { encode = ref_columns; decode = ref_of; back = λ _ x. refl }

-- ---- unfinished multipart uploads

pub record UploadRow : Type 0 where
  pub tenant : Octets
  -- its number among those of the tenant
  pub upload : ℕ
  pub bucket : Octets
  pub okey : Octets
  -- seconds since 1970
  pub begun : ℕ

abbrev pub upload_columns : ℤ → UploadRow → Row
upload_columns kept x = Text x.tenant ∷ number x.upload ∷ Text x.bucket ∷ Blob x.okey ∷ number x.begun ∷ Int kept ∷ []

abbrev pub upload_of : Row → UploadRow
upload_of r = record {
  tenant = bytes_of (column r 1);
  upload = column_number (column r 2);
  bucket = bytes_of (column r 3);
  okey = bytes_of (column r 4);
  begun = column_number (column r 5);
}

abbrev pub upload_form : Totals → Form UploadRow
upload_form sums = record { encode = λ x. upload_columns (sums.kept (x.tenant, x.upload)) x; decode = upload_of; back = λ _ x. refl }

-- as it is stored, whatever its total
pub record UploadColumns : Type 0 where
  pub row : UploadRow
  pub kept : ℤ

abbrev pub stored_upload_form : Form UploadColumns
stored_upload_form = record {
  encode = λ c. upload_columns c.kept c.row;
  decode = λ r. record { row = upload_of r; kept = int_of (column r 6) };
  back = λ _ x. refl;
}

-- ---- parts of uploads

-- as it is stored: its bytes are those of a body
pub record PartColumns : Type 0 where
  pub tenant : Octets
  pub upload : ℕ
  -- the column `number`
  pub part : ℕ
  -- bytes
  pub size : ℕ
  -- the column `sum`
  pub checksum : Octets
  -- seconds since 1970
  pub stamp : ℕ
  -- an entry number of the tenant
  pub body : ℕ

abbrev pub part_columns : PartColumns → Row
part_columns x = Text x.tenant ∷ number x.upload ∷ number x.part ∷ number x.size ∷ Text x.checksum ∷ number x.stamp ∷ number x.body ∷ []

abbrev pub part_of : Row → PartColumns
part_of r = record {
  tenant = bytes_of (column r 1);
  upload = column_number (column r 2);
  part = column_number (column r 3);
  size = column_number (column r 4);
  checksum = bytes_of (column r 5);
  stamp = column_number (column r 6);
  body = column_number (column r 7);
}

abbrev pub part_form : Form PartColumns
part_form = record { encode = part_columns; decode = part_of; back = λ _ x. refl }

-- with the bytes of its body
pub record PartRow : Type 0 where
  pub tenant : Octets
  pub upload : ℕ
  pub part : ℕ
  pub size : ℕ
  pub checksum : Octets
  pub stamp : ℕ
  pub body : ℕ
  pub bytes : Octets

-- ---- the packs of bytes of blocks

-- how many bytes of a pack are committed, and how many of these a place names
pub record PackRow : Type 0 where
  pub pack : ℕ
  pub length : ℕ
  pub live : ℕ

abbrev pub pack_columns : PackRow → Row
pack_columns p = number p.pack ∷ number p.length ∷ number p.live ∷ []

abbrev pub pack_of : Row → PackRow
pack_of r = record { pack = column_number (column r 1); length = column_number (column r 2); live = column_number (column r 3) }

abbrev pub pack_form : Form PackRow
pack_form = record { encode = pack_columns; decode = pack_of; back = λ _ x. refl }

-- where the bytes of a block are
pub record PlaceRow : Type 0 where
  pub digest : Octets
  pub ord : ℕ
  pub pack : ℕ
  -- the column `place`
  pub offset : ℕ
  pub size : ℕ
  -- of the bytes: 64 bits, as the number that has them
  pub sum : ℤ

abbrev pub place_columns : PlaceRow → Row
place_columns p = Blob p.digest ∷ number p.ord ∷ number p.pack ∷ number p.offset ∷ number p.size ∷ Int p.sum ∷ []

abbrev pub place_of : Row → PlaceRow
place_of r = record {
  digest = bytes_of (column r 1);
  ord = column_number (column r 2);
  pack = column_number (column r 3);
  offset = column_number (column r 4);
  size = column_number (column r 5);
  sum = int_of (column r 6);
}

abbrev pub place_form : Form PlaceRow
place_form = record { encode = place_columns; decode = place_of; back = λ _ x. refl }
