-- The writes of a new version or delete marker, by the state of its bucket.
use Rattle.std.specs.Prelude.{ℕ, List, [], length}
use Rattle.sqlite_keyed.specs.Lists.{delete_where}
use Rattle.bh_types.specs.Checksums.{checksum_text}
use Rattle.bh_types.specs.Counts.{Counts}
use Rattle.bh_types.specs.declared.bucket_state.BucketState.{BucketState}
use Rattle.bh_types.specs.declared.bucket_state.BucketState.TheVariants.{Unversioned, Enabled, Suspended}
use Rattle.bh_model.specs.State.{Octets, Content, Content.Marker, Content.Body, content_size}
use Rattle.bh_tables.specs.Typed.{TenantRow, VersionRow, PartRow}
use Rattle.bh_tables.specs.Shown.{is_version}

-- the column `id` of a new one: 0, which is `null`, unless versions are numbered
abbrev pub row_number : BucketState → ℕ → ℕ
row_number Unversioned next = 0
row_number Enabled next = next
row_number Suspended next = 0

-- ---- the columns of an entry

-- 1 for a delete marker
abbrev pub marker_number : Content → ℕ
marker_number Marker = 1
marker_number (Body bytes checksum) = 0

abbrev pub checksum_in : Content → Octets
checksum_in Marker = []
checksum_in (Body bytes checksum) = checksum

abbrev pub bytes_in : Content → Octets
bytes_in Marker = []
bytes_in (Body bytes checksum) = bytes

-- the row of a new version or delete marker
abbrev pub entry_row : Octets → Octets → Octets → ℕ → ℕ → ℕ → Content → VersionRow
entry_row tenant bucket key seq id moment content = record {
  tenant = tenant;
  seq = seq;
  bucket = bucket;
  okey = key;
  id = id;
  marker = marker_number content;
  stamp = moment;
  size = content_size content;
  checksum = checksum_in content;
  bytes = bytes_in content;
}

-- ---- the changes by a new one

-- the tenant's row with its advanced counters
abbrev pub counters_row : BucketState → Counts → TenantRow → TenantRow
counters_row Unversioned c r = record r { next_entry = c.entry }
counters_row Enabled c r = record r { next_version = c.version; next_entry = c.entry }
counters_row Suspended c r = record r { next_entry = c.entry }

-- the rows that a new one leaves: if it is `null`, it replaces the row of `null`
abbrev pub rows_left : BucketState → Octets → Octets → Octets → List VersionRow → List VersionRow
rows_left Unversioned tenant bucket key versions = delete_where (is_version tenant bucket key 0) versions
rows_left Enabled tenant bucket key versions = versions
rows_left Suspended tenant bucket key versions = delete_where (is_version tenant bucket key 0) versions

-- the row of a part under an entry number
abbrev pub part_row : Octets → ℕ → ℕ → Octets → ℕ → ℕ → PartRow
part_row tenant upload part bytes moment body =
    record {
      tenant = tenant;
      upload = upload;
      part = part;
      size = length bytes;
      checksum = checksum_text bytes;
      stamp = moment;
      body = body;
      bytes = bytes;
    }
