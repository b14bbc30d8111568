-- The pages of listings as JSON data. A page has the position of the next one if and only if it is
-- truncated.
use Rattle.std.specs.Prelude.{ℕ, ◌+◌, List, map, length, codes, true, false, is_some, Option, Some, None, option_map, option_and_then}
use Rattle.std.specs.Prelude.{string_bytes}
use Rattle.std.specs.declared.alloc.Global.{Global}
use Rattle.std.specs.declared.string.String.{String}
use Rattle.serde_json.specs.Data.{Data, boolean, string, object, Members, member, no_members}
use Rattle.serde_json.specs.Written.{compact_text}
use Rattle.bh_types.specs.Ids.{version_text, upload_text}
use Rattle.bh_types.specs.declared.id.UploadId.{UploadId}
use Rattle.bh_types.specs.declared.id.VersionId.{VersionId}
use Rattle.bh_docs.specs.Documents.{natural, moment, array_of, member_if, with_member}
use Rattle.bh_model.specs.State.{Octets}
use Rattle.bh_model.specs.Pages.{ObjectItem, ObjectsListed, StoredItem, VersionItem, VersionNext, VersionsListed, UploadItem, UploadNext}
use Rattle.bh_model.specs.Pages.{UploadsListed, PartItem, PartsListed}
use Rattle.bh_types.specs.Tokens.{token_text}
use Rattle.bh_docs.specs.declared.objects.ObjectEntry.{ObjectEntry}
use Rattle.bh_docs.specs.declared.prefix.CommonPrefix.{CommonPrefix}
use Rattle.bh_docs.specs.declared.parts.PartEntry.{PartEntry}
use Rattle.bh_docs.specs.declared.parts.PartsPage.{PartsPage}
use Rattle.bh_docs.specs.declared.stored.Stored.{Stored}
use Rattle.bh_docs.specs.declared.uploads.UploadEntry.{UploadEntry}
use Rattle.bh_docs.specs.declared.versions.StoredObject.{StoredObject}
use Rattle.bh_docs.specs.declared.versions.VersionEntry.{VersionEntry}
use Rattle.bh_docs.specs.declared.page.Page.{Page}
use Rattle.bh_docs.specs.declared.page.Next.{Next}

-- an object or a part, and the member that names it
abbrev pub stored_data : List ℕ → Option Data → Stored → Data
stored_data name shown s =
    with_member name shown
    (with_member (codes "Size") (Some (natural s.size))
    (with_member (codes "LastModified") (Some (moment s.modified))
    (with_member (codes "ChecksumSHA256") (Some (string (string_bytes s.checksum))) (object no_members))))

-- ---- ListObjectsV2

-- a page as contracts see it
abbrev pub prefix_view : CommonPrefix → Octets
prefix_view p = string_bytes p.prefix

abbrev pub object_view : ObjectEntry → ObjectItem
object_view o = record {
  key = string_bytes o.key;
  moment = o.stored.modified;
  size = o.stored.size;
  checksum = string_bytes o.stored.checksum;
}

abbrev pub page_view : Page ObjectEntry (String Global) → ObjectsListed
page_view p = record {
  bucket = string_bytes p.bucket;
  prefix = string_bytes p.prefix;
  max = p.max;
  prefixes = map prefix_view p.prefixes.items;
  objects = map object_view p.entries.items;
  next = option_map string_bytes p.next;
}

-- an object as data
abbrev pub item_data : ObjectItem → Data
item_data o =
    object (member (codes "ChecksumSHA256") (string o.checksum)
    (member (codes "Key") (string o.key)
    (member (codes "LastModified") (moment o.moment)
    (member (codes "Size") (natural o.size) no_members))))

abbrev pub object_data : ObjectEntry → Data
object_data o = item_data (object_view o)

abbrev pub common_data : Octets → Data
common_data name = object (member (codes "Prefix") (string name) no_members)

-- KeyCount counts both lists
-- Amazon S3 API Reference, ListObjectsV2, as JSON
abbrev pub objects_with : ObjectsListed → Option Data → Data
objects_with p token =
    object (member (codes "CommonPrefixes") (array_of common_data p.prefixes)
    (member (codes "Contents") (array_of item_data p.objects)
    (member (codes "IsTruncated") (boolean (is_some p.next))
    (member (codes "KeyCount") (natural (length p.prefixes + length p.objects))
    (member (codes "MaxKeys") (natural p.max)
    (member (codes "Name") (string p.bucket)
    (member_if (codes "NextContinuationToken") token
    (member (codes "Prefix") (string p.prefix) no_members))))))))

-- the token is that of the last name listed
abbrev pub token_data : Option Octets → Option Data
token_data next = option_map (λ name. string (token_text name)) next

abbrev pub objects_data : ObjectsListed → Data
objects_data p = objects_with p (token_data p.next)

abbrev pub objects_text : ObjectsListed → List ℕ
objects_text p = compact_text (objects_data p)

-- ---- ListObjectVersions

-- a page as contracts see it
abbrev pub stored_view : StoredObject → StoredItem
stored_view o = record { size = o.size; checksum = string_bytes o.checksum }

abbrev pub version_view : VersionEntry → VersionItem
version_view v = record {
  key = string_bytes v.key;
  id = v.id;
  moment = v.modified;
  latest = v.latest;
  object = option_map stored_view v.object;
}

abbrev pub next_view : Next VersionId → VersionNext
next_view n = record { name = string_bytes n.name; id = n.id }

abbrev pub versions_view : Page VersionEntry (Next VersionId) → VersionsListed
versions_view p = record {
  bucket = string_bytes p.bucket;
  prefix = string_bytes p.prefix;
  max = p.max;
  prefixes = map prefix_view p.prefixes.items;
  versions = map version_view p.entries.items;
  next = option_map next_view p.next;
}

-- a version, or a delete marker if no object is stored
abbrev pub version_end : VersionItem → Members → Members
version_end v rest =
    member (codes "IsLatest") (boolean v.latest)
    (member (codes "Key") (string v.key)
    (member (codes "LastModified") (moment v.moment) rest))

abbrev pub version_id : VersionItem → Members
version_id v = member (codes "VersionId") (string (version_text v.id)) no_members

abbrev pub version_members : VersionItem → Option StoredItem → Members
version_members v None = member (codes "DeleteMarker") (boolean true) (version_end v (version_id v))
version_members v (Some o) =
    member (codes "ChecksumSHA256") (string o.checksum)
    (member (codes "DeleteMarker") (boolean false)
    (version_end v (member (codes "Size") (natural o.size) (version_id v))))

abbrev pub version_data : VersionItem → Data
version_data v = object (version_members v v.object)

abbrev pub version_entry_data : VersionEntry → Data
version_entry_data v = version_data (version_view v)

-- Amazon S3 API Reference, ListObjectVersions, as JSON
abbrev pub versions_with : VersionsListed → Option Data → Option Data → Data
versions_with p name id =
    object (member (codes "CommonPrefixes") (array_of common_data p.prefixes)
    (member (codes "IsTruncated") (boolean (is_some p.next))
    (member (codes "MaxKeys") (natural p.max)
    (member (codes "Name") (string p.bucket)
    (member_if (codes "NextKeyMarker") name
    (member_if (codes "NextVersionIdMarker") id
    (member (codes "Prefix") (string p.prefix)
    (member (codes "Versions") (array_of version_data p.versions) no_members))))))))

abbrev pub version_name_data : Option VersionNext → Option Data
version_name_data next = option_map (λ n. string n.name) next

abbrev pub version_id_data : Option VersionNext → Option Data
version_id_data next = option_map (λ id. string (version_text id)) (option_and_then (λ n. n.id) next)

abbrev pub versions_data : VersionsListed → Data
versions_data p = versions_with p (version_name_data p.next) (version_id_data p.next)

abbrev pub versions_text : VersionsListed → List ℕ
versions_text p = compact_text (versions_data p)

-- ---- ListMultipartUploads

-- a page as contracts see it
abbrev pub upload_view : UploadEntry → UploadItem
upload_view u = record { key = string_bytes u.key; id = u.id; begun = u.initiated }

abbrev pub upload_next_view : Next UploadId → UploadNext
upload_next_view n = record { name = string_bytes n.name; id = n.id }

abbrev pub uploads_view : Page UploadEntry (Next UploadId) → UploadsListed
uploads_view p = record {
  bucket = string_bytes p.bucket;
  prefix = string_bytes p.prefix;
  max = p.max;
  prefixes = map prefix_view p.prefixes.items;
  uploads = map upload_view p.entries.items;
  next = option_map upload_next_view p.next;
}

abbrev pub upload_data : UploadItem → Data
upload_data u =
    object (member (codes "Initiated") (moment u.begun)
    (member (codes "Key") (string u.key)
    (member (codes "UploadId") (string (upload_text u.id)) no_members)))

abbrev pub upload_entry_data : UploadEntry → Data
upload_entry_data u = upload_data (upload_view u)

-- Amazon S3 API Reference, ListMultipartUploads, as JSON
abbrev pub uploads_with : UploadsListed → Option Data → Option Data → Data
uploads_with p name id =
    object (member (codes "Bucket") (string p.bucket)
    (member (codes "CommonPrefixes") (array_of common_data p.prefixes)
    (member (codes "IsTruncated") (boolean (is_some p.next))
    (member (codes "MaxUploads") (natural p.max)
    (member_if (codes "NextKeyMarker") name
    (member_if (codes "NextUploadIdMarker") id
    (member (codes "Prefix") (string p.prefix)
    (member (codes "Uploads") (array_of upload_data p.uploads) no_members))))))))

abbrev pub upload_name_data : Option UploadNext → Option Data
upload_name_data next = option_map (λ n. string n.name) next

abbrev pub upload_id_data : Option UploadNext → Option Data
upload_id_data next = option_map (λ id. string (upload_text id)) (option_and_then (λ n. n.id) next)

abbrev pub uploads_data : UploadsListed → Data
uploads_data p = uploads_with p (upload_name_data p.next) (upload_id_data p.next)

abbrev pub uploads_text : UploadsListed → List ℕ
uploads_text p = compact_text (uploads_data p)

-- ---- ListParts

-- a page as contracts see it
abbrev pub part_view : PartEntry → PartItem
part_view p = record { number = p.number; moment = p.stored.modified; size = p.stored.size; checksum = string_bytes p.stored.checksum }

abbrev pub parts_view : PartsPage → PartsListed
parts_view p = record {
  bucket = string_bytes p.bucket;
  key = string_bytes p.key;
  upload = p.upload;
  max = p.max;
  parts = map part_view p.parts.items;
  next = p.next;
}

abbrev pub part_data : PartItem → Data
part_data p =
    object (member (codes "ChecksumSHA256") (string p.checksum)
    (member (codes "LastModified") (moment p.moment)
    (member (codes "PartNumber") (natural p.number)
    (member (codes "Size") (natural p.size) no_members))))

abbrev pub part_entry_data : PartEntry → Data
part_entry_data p = part_data (part_view p)

-- Amazon S3 API Reference, ListParts, as JSON
abbrev pub parts_with : PartsListed → Option Data → Data
parts_with p number =
    object (member (codes "Bucket") (string p.bucket)
    (member (codes "IsTruncated") (boolean (is_some p.next))
    (member (codes "Key") (string p.key)
    (member (codes "MaxParts") (natural p.max)
    (member_if (codes "NextPartNumberMarker") number
    (member (codes "Parts") (array_of part_data p.parts)
    (member (codes "UploadId") (string (upload_text p.upload)) no_members)))))))

-- a page with neither list nor marker
abbrev pub parts_plain : PartsListed → Data
parts_plain p =
    object (member (codes "Bucket") (string p.bucket)
    (member (codes "IsTruncated") (boolean (is_some p.next))
    (member (codes "Key") (string p.key)
    (member (codes "MaxParts") (natural p.max)
    (member (codes "UploadId") (string (upload_text p.upload)) no_members)))))

abbrev pub parts_data : PartsListed → Data
parts_data p = parts_with p (option_map natural p.next)

abbrev pub parts_text : PartsListed → List ℕ
parts_text p = compact_text (parts_data p)
