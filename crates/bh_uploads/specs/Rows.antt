-- The meaning of the columns of uploads and parts that are read, and which new rows no key forbids.
use Rattle.std.specs.Prelude.{◌≡◌, ℕ, true, false, List, map, filter}
use Rattle.std.specs.List.{list_any}
use Rattle.std.specs.Str.{IsUtf8}
use Rattle.std.specs.String.{string_bytes}
use Rattle.sqlite_keyed.specs.Lists.{sort_by}
use Rattle.bh_core.specs.declared.parts.PartRow as core
use Rattle.bh_tables.specs.Schema.{Octets}
use Rattle.bh_tables.specs.Typed.{UploadRow, PartColumns, PartRow, Tables}
use Rattle.bh_tables.specs.Shown.{is_bucket, is_upload, is_part, is_part_of, has_body, by_part, is_begun_before, by_begun}
use Rattle.bh_tables.specs.Shown.{shown_upload, shown_body}
use Rattle.bh_schema.specs.Reading.{Reading, read_as, textless}
use Rattle.bh_uploads.specs.declared.rows.uploads.UploadHead.{UploadHead}
use Rattle.bh_uploads.specs.declared.rows.uploads.UploadRecord.{UploadRecord}
use Rattle.bh_uploads.specs.declared.rows.parts.PartBody.{PartBody}
use Rattle.bh_uploads.specs.declared.rows.parts.PartList.{PartList}
use Rattle.bh_uploads.specs.declared.rows.parts.PartRecord.{PartRecord}

-- ---- uploads

pub record SeenUpload : Type 0 where
  pub bucket : Octets
  pub key : Octets
  pub begun : ℕ

abbrev pub seen_upload : UploadRow → SeenUpload
seen_upload u = record { bucket = u.bucket; key = u.okey; begun = u.begun }

abbrev pub upload_seen : UploadHead → SeenUpload
upload_seen u = record { bucket = string_bytes u.bucket; key = u.key.items; begun = u.begun }

abbrev pub upload_reading : Reading UploadHead
upload_reading = read_as shown_upload upload_seen seen_upload (λ u. IsUtf8 u.bucket)

abbrev pub stored_upload : UploadRecord → UploadRow
stored_upload u = record { tenant = u.tenant.now; upload = u.upload; bucket = u.bucket.now; okey = u.okey.now; begun = u.begun }

-- the uploads of a bucket that began before a moment, oldest first
abbrev pub begun_before : Octets → Octets → ℕ → List UploadRow → List UploadRow
begun_before tenant bucket moment uploads = sort_by by_begun (filter (is_begun_before tenant bucket moment) uploads)

pub record IsNewUpload (tables : Tables) (tenant bucket : Octets) (upload : ℕ) : Type 0 where
  pub free : list_any (is_upload tenant upload) tables.uploads ≡ false
  pub owned : list_any (is_bucket tenant bucket) tables.buckets ≡ true

-- ---- parts

-- the facts about a part that its upload's completion needs
pub record SeenRow : Type 0 where
  pub number : ℕ
  pub size : ℕ
  pub checksum : Octets

abbrev pub seen_row : PartRow → SeenRow
seen_row p = record { number = p.part; size = p.size; checksum = p.checksum }

abbrev pub row_seen : core.PartRow → SeenRow
row_seen p = record { number = p.number; size = p.size; checksum = string_bytes p.sum }

abbrev pub part_body : PartRow → PartBody
part_body p = record { body = p.body; size = p.size }

abbrev pub body_reading : Reading PartBody
body_reading = textless shown_body part_body

abbrev pub stored_part : PartRecord → PartColumns
stored_part p = record {
  tenant = p.tenant.now;
  upload = p.upload;
  part = p.number;
  size = p.size;
  checksum = p.checksum.now;
  stamp = p.stamp;
  body = p.body;
}

-- the values of these parts
pub record AreListed (list : PartList) (parts : List PartRow) : Type 0 where
  pub rows : map row_seen list.rows.items ≡ map seen_row parts
  pub bodies : list.bodies.items ≡ map (λ p. p.body) parts

-- the parts of an upload, in the order of their numbers
abbrev pub listed_parts : Octets → ℕ → Tables → List PartRow
listed_parts tenant upload tables = sort_by by_part (filter (is_part_of tenant upload) tables.parts)

pub record IsNewPart (tables : Tables) (tenant : Octets) (upload part body : ℕ) : Type 0 where
  pub free : list_any (is_part tenant upload part) tables.parts ≡ false
  pub unshared : list_any (has_body (tenant, body)) tables.parts ≡ false
  pub owned : list_any (is_upload tenant upload) tables.uploads ≡ true
