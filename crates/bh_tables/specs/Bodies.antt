-- The bytes of a body: those of its references' blocks, by place; and the versions and parts with
-- these bytes.
use Rattle.std.specs.Prelude.{ℕ, Bool, ◌==◌, ◌&&◌, not, pos, List, [], ◌∷◌, filter, length, flat_map, Option, Some, None}
use Rattle.std.specs.List.{list_any, sum_by}
use Rattle.std.specs.Option.{option_map_or}
use Rattle.std.specs.Ordering.{int_eq, int_cmp}
use Rattle.std.specs.declared.cmp.Ordering.{Ordering}
use Rattle.sqlite_keyed.specs.Lists.{sort_by}
use Rattle.sqlite_typed.specs.Tests.{bytes_eq}
use Rattle.bh_tables.specs.Schema.{Octets}
use Rattle.bh_tables.specs.Rows.{VersionColumns, VersionRow, PartColumns, PartRow, BlockRow, RefRow}

abbrev pub first : {X : Type 0} → List X → Option X
first [] = None
first (x ∷ xs) = Some x

-- the rows at a key
abbrev pub matching : {K T : Type 0} → (K → K → Bool) → (T → K) → K → List T → List T
matching is key k = filter (λ r. is (key r) k)

-- ---- names

-- of a block its digest and ordinal; of a body its tenant and entry number
abbrev pub Name : Type 0
Name = Octets × ℕ

-- SQL's `=` at both columns
abbrev pub same_name : Name → Name → Bool
same_name a b = bytes_eq a.0 b.0 && int_eq (pos a.1) (pos b.1)

abbrev pub block_name : BlockRow → Name
block_name b = (b.digest, b.ord)

-- the block of a reference
abbrev pub ref_name : RefRow → Name
ref_name r = (r.digest, r.ord)

-- the body of a reference
abbrev pub body_name : RefRow → Name
body_name r = (r.tenant, r.body)

abbrev pub by_place : RefRow → RefRow → Ordering
by_place a b = int_cmp (pos a.place) (pos b.place)

-- ---- bytes

-- the row of this name
abbrev pub row_at : List BlockRow → Name → Option BlockRow
row_at blocks q = first (matching same_name block_name q blocks)

-- the bytes of the block of this name, or none if there is no such row
abbrev pub block_at : List BlockRow → Name → Octets
block_at blocks q = option_map_or (λ (b : BlockRow). b.bytes) (row_at blocks q) []

-- a body's references, by place
abbrev pub placed : List RefRow → Name → List RefRow
placed refs body = sort_by by_place (matching same_name body_name body refs)

-- whether a reference has the size of its block
abbrev pub has_size : List BlockRow → RefRow → Bool
has_size blocks r = r.size == length (block_at blocks (ref_name r))

-- ---- the blocks that nobody needs

-- a reference to the block of this name
abbrev pub is_use : Name → RefRow → Bool
is_use q r = same_name (ref_name r) q

abbrev pub is_unreferenced : List RefRow → BlockRow → Bool
is_unreferenced refs b = not (list_any (is_use (block_name b)) refs)

-- the bytes of the blocks that no reference names
abbrev pub unneeded : List RefRow → List BlockRow → ℕ
unneeded refs blocks = sum_by (λ (b : BlockRow). length b.bytes) (filter (is_unreferenced refs) blocks)

-- ---- bodies

-- the bytes of each body
unfoldable pub whole : List RefRow → List BlockRow → Name → Octets
whole refs blocks body = flat_map (λ (r : RefRow). block_at blocks (ref_name r)) (placed refs body)

-- ---- versions

-- the body of a version
abbrev pub version_name : VersionRow → Name
version_name v = (v.tenant, v.seq)

-- with these bytes
abbrev pub with_bytes : Octets → VersionRow → VersionRow
with_bytes bytes v = record v { bytes = bytes }

-- without bytes
abbrev pub bare : VersionColumns → VersionRow
bare c = record {
  tenant = c.tenant;
  seq = c.seq;
  bucket = c.bucket;
  okey = c.okey;
  id = c.id;
  marker = c.marker;
  stamp = c.stamp;
  size = c.size;
  checksum = c.checksum;
  bytes = [];
}

-- as it is stored
abbrev pub columns_of : VersionRow → VersionColumns
columns_of v = record {
  tenant = v.tenant;
  seq = v.seq;
  bucket = v.bucket;
  okey = v.okey;
  id = v.id;
  marker = v.marker;
  stamp = v.stamp;
  size = v.size;
  checksum = v.checksum;
}

-- with the bytes of its body
abbrev pub resolved : List RefRow → List BlockRow → VersionColumns → VersionRow
resolved refs blocks c = with_bytes (whole refs blocks (c.tenant, c.seq)) (bare c)

-- with the bytes of its body among these rows
abbrev pub resolved_again : List RefRow → List BlockRow → VersionRow → VersionRow
resolved_again refs blocks v = with_bytes (whole refs blocks (version_name v)) v

-- ---- parts

-- the body of a part
abbrev pub part_name : PartRow → Name
part_name p = (p.tenant, p.body)

abbrev pub part_with_bytes : Octets → PartRow → PartRow
part_with_bytes bytes p = record p { bytes = bytes }

-- without bytes
abbrev pub bare_part : PartColumns → PartRow
bare_part c = record {
  tenant = c.tenant;
  upload = c.upload;
  part = c.part;
  size = c.size;
  checksum = c.checksum;
  stamp = c.stamp;
  body = c.body;
  bytes = [];
}

-- as it is stored
abbrev pub part_columns_of : PartRow → PartColumns
part_columns_of p = record {
  tenant = p.tenant;
  upload = p.upload;
  part = p.part;
  size = p.size;
  checksum = p.checksum;
  stamp = p.stamp;
  body = p.body;
}

-- with the bytes of its body
abbrev pub resolved_part : List RefRow → List BlockRow → PartColumns → PartRow
resolved_part refs blocks c = part_with_bytes (whole refs blocks (c.tenant, c.body)) (bare_part c)

-- with the bytes of its body among these rows
abbrev pub resolved_part_again : List RefRow → List BlockRow → PartRow → PartRow
resolved_part_again refs blocks p = part_with_bytes (whole refs blocks (part_name p)) p
