-- Rows with their bytes: the tenant is known, and the bytes are those of the body in the tables.
use Rattle.std.specs.Prelude.{ℕ, List, [], ◌∷◌}
use Rattle.std.specs.String.{string_bytes}
use Rattle.bh_tables.specs.Schema.{Octets}
use Rattle.bh_tables.specs.Bodies.{whole}
use Rattle.bh_tables.specs.Typed.{TenantRow, KeyRow, BucketRow, VersionRow, UploadRow, LockRow, RetainRow, Tables}
use Rattle.bh_schema.specs.declared.rows.tenants.TenantNumbers.{TenantNumbers}
use Rattle.bh_moved.specs.declared.versions.ReadVersion.{ReadVersion}

-- the tables after rows were added to them, one after another
abbrev pub all_added : {R : Type 0} → (R → Tables → Tables) → List R → Tables → Tables
all_added added [] tables = tables
all_added added (r ∷ rs) tables = all_added added rs (added r tables)

abbrev pub tenant_row : Octets → TenantNumbers → TenantRow
tenant_row t n = record {
  tenant = t;
  quota = n.quota;
  next_version = n.next_version;
  next_upload = n.next_upload;
  next_entry = n.next_entry;
}

abbrev pub key_of : Octets → KeyRow → KeyRow
key_of t k = record k { tenant = t }

abbrev pub bucket_of : Octets → BucketRow → BucketRow
bucket_of t b = record b { tenant = t }

abbrev pub lock_of : Octets → LockRow → LockRow
lock_of t l = record l { tenant = t }

abbrev pub upload_of : Octets → UploadRow → UploadRow
upload_of t u = record u { tenant = t }

abbrev pub retain_of : Octets → RetainRow → RetainRow
retain_of t r = record r { tenant = t }

abbrev pub version_of : Octets → Tables → VersionRow → VersionRow
version_of t tables v = record v { tenant = t; bytes = whole tables.refs tables.blocks (t, v.seq) }

-- ---- a version's columns

abbrev pub own_version : Octets → VersionRow → VersionRow
own_version t v = record v { tenant = t }

pub record SeenVersion : Type 0 where
  pub seq : ℕ
  pub bucket : Octets
  pub okey : Octets
  pub id : ℕ
  pub stamp : ℕ
  pub size : ℕ
  pub checksum : Octets

abbrev pub seen_version : VersionRow → SeenVersion
seen_version v = record { seq = v.seq; bucket = v.bucket; okey = v.okey; id = v.id; stamp = v.stamp; size = v.size; checksum = v.checksum }

abbrev pub version_seen : ReadVersion → SeenVersion
version_seen v = record {
  seq = v.seq;
  bucket = string_bytes v.bucket;
  okey = v.okey.items;
  id = v.id;
  stamp = v.stamp;
  size = v.size;
  checksum = string_bytes v.checksum;
}
