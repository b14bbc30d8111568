-- The members of a page, its markers and lists put in last, stand in the order of names.
use Rattle.std.proofs.Common.{◌≡◌, ◌+◌, length, Option, Some, None, option_map, is_some, string_bytes, refl, ap, ◌∙◌}
use Rattle.std.proofs.lemmas.List.{length-map}
use Rattle.std.proofs.lemmas.Simd.{map-map}
use Rattle.std.specs.Prelude.{codes}
use Rattle.std.specs.declared.alloc.Global.{Global}
use Rattle.std.specs.declared.string.String.{String}
use Rattle.serde_json.specs.Data.{Data}
use Rattle.bh_types.specs.Ids.{version_text, upload_text}
use Rattle.bh_types.specs.declared.id.UploadId.{UploadId}
use Rattle.bh_types.specs.declared.id.VersionId.{VersionId}
use Rattle.bh_docs.specs.Documents.{natural, array_of, with_member}
use Rattle.bh_docs.specs.Heads.{head_data, name_data, id_data, with_markers, with_lists}
use Rattle.bh_docs.specs.Pages.{prefix_view, common_data, object_data, object_view, item_data, page_view, token_data, objects_with, objects_data, version_entry_data, version_view, version_data, next_view, versions_view, version_name_data, version_id_data, versions_with, versions_data, upload_entry_data, upload_view, upload_data, upload_next_view, uploads_view, upload_name_data, upload_id_data, uploads_with, uploads_data, part_entry_data, part_view, part_data, parts_view, parts_plain, parts_with}
use Rattle.bh_docs.specs.declared.objects.ObjectEntry.{ObjectEntry}
use Rattle.bh_docs.specs.declared.page.Next.{Next}
use Rattle.bh_docs.specs.declared.page.Page.{Page}
use Rattle.bh_docs.specs.declared.parts.PartsPage.{PartsPage}
use Rattle.bh_docs.specs.declared.uploads.UploadEntry.{UploadEntry}
use Rattle.bh_docs.specs.declared.versions.VersionEntry.{VersionEntry}

some_seen : {A B : Type 0} (see : A → B) (next : Option A) → is_some (option_map see next) ≡ is_some next
some_seen see None = refl
some_seen see (Some n) = refl

-- ---- ListObjectsV2

objects-ordered : (p : Page ObjectEntry (String Global)) (token : Option Data)
    → with_lists object_data (codes "Contents") p (with_member (codes "NextContinuationToken") token
    (with_member (codes "KeyCount") (Some (natural (length p.prefixes.items + length p.entries.items))) (head_data (codes "Name") (codes "MaxKeys") p)))
    ≡ objects_with (page_view p) token
objects-ordered p None = rw (some_seen string_bytes p.next, length-map p.prefixes.items prefix_view, length-map p.entries.items object_view, map-map common_data prefix_view p.prefixes.items, map-map item_data object_view p.entries.items) refl
objects-ordered p (Some t) = rw (some_seen string_bytes p.next, length-map p.prefixes.items prefix_view, length-map p.entries.items object_view, map-map common_data prefix_view p.prefixes.items, map-map item_data object_view p.entries.items) refl

pub objects-told : (p : Page ObjectEntry (String Global))
    → with_lists object_data (codes "Contents") p (with_member (codes "NextContinuationToken") (token_data (option_map string_bytes p.next))
    (with_member (codes "KeyCount") (Some (natural (length p.prefixes.items + length p.entries.items))) (head_data (codes "Name") (codes "MaxKeys") p)))
    ≡ objects_data (page_view p)
objects-told p = objects-ordered p (token_data (option_map string_bytes p.next))

-- ---- ListObjectVersions

versions-ordered : (p : Page VersionEntry (Next VersionId)) (name id : Option Data)
    → with_lists version_entry_data (codes "Versions") p
    (with_member (codes "NextVersionIdMarker") id (with_member (codes "NextKeyMarker") name (head_data (codes "Name") (codes "MaxKeys") p)))
    ≡ versions_with (versions_view p) name id
versions-ordered p None None = rw (some_seen next_view p.next, map-map common_data prefix_view p.prefixes.items, map-map version_data version_view p.entries.items) refl
versions-ordered p None (Some i) = rw (some_seen next_view p.next, map-map common_data prefix_view p.prefixes.items, map-map version_data version_view p.entries.items) refl
versions-ordered p (Some n) None = rw (some_seen next_view p.next, map-map common_data prefix_view p.prefixes.items, map-map version_data version_view p.entries.items) refl
versions-ordered p (Some n) (Some i) = rw (some_seen next_view p.next, map-map common_data prefix_view p.prefixes.items, map-map version_data version_view p.entries.items) refl

version_name : (next : Option (Next VersionId)) → name_data next ≡ version_name_data (option_map next_view next)
version_name None = refl
version_name (Some n) = refl

version_id : (next : Option (Next VersionId)) → id_data version_text next ≡ version_id_data (option_map next_view next)
version_id None = refl
version_id (Some n) = refl

pub versions-told : (p : Page VersionEntry (Next VersionId))
    → with_lists version_entry_data (codes "Versions") p (with_markers version_text (codes "NextVersionIdMarker") p.next (head_data (codes "Name") (codes "MaxKeys") p))
    ≡ versions_data (versions_view p)
versions-told p =
    versions-ordered p (name_data p.next) (id_data version_text p.next)
    ∙ ap (λ name. versions_with (versions_view p) name (id_data version_text p.next)) (version_name p.next)
    ∙ ap (versions_with (versions_view p) (version_name_data (option_map next_view p.next))) (version_id p.next)

-- ---- ListMultipartUploads

uploads-ordered : (p : Page UploadEntry (Next UploadId)) (name id : Option Data)
    → with_lists upload_entry_data (codes "Uploads") p
    (with_member (codes "NextUploadIdMarker") id (with_member (codes "NextKeyMarker") name (head_data (codes "Bucket") (codes "MaxUploads") p)))
    ≡ uploads_with (uploads_view p) name id
uploads-ordered p None None = rw (some_seen upload_next_view p.next, map-map common_data prefix_view p.prefixes.items, map-map upload_data upload_view p.entries.items) refl
uploads-ordered p None (Some i) = rw (some_seen upload_next_view p.next, map-map common_data prefix_view p.prefixes.items, map-map upload_data upload_view p.entries.items) refl
uploads-ordered p (Some n) None = rw (some_seen upload_next_view p.next, map-map common_data prefix_view p.prefixes.items, map-map upload_data upload_view p.entries.items) refl
uploads-ordered p (Some n) (Some i) = rw (some_seen upload_next_view p.next, map-map common_data prefix_view p.prefixes.items, map-map upload_data upload_view p.entries.items) refl

upload_name : (next : Option (Next UploadId)) → name_data next ≡ upload_name_data (option_map upload_next_view next)
upload_name None = refl
upload_name (Some n) = refl

upload_id : (next : Option (Next UploadId)) → id_data upload_text next ≡ upload_id_data (option_map upload_next_view next)
upload_id None = refl
upload_id (Some n) = refl

pub uploads-told : (p : Page UploadEntry (Next UploadId))
    → with_lists upload_entry_data (codes "Uploads") p (with_markers upload_text (codes "NextUploadIdMarker") p.next (head_data (codes "Bucket") (codes "MaxUploads") p))
    ≡ uploads_data (uploads_view p)
uploads-told p =
    uploads-ordered p (name_data p.next) (id_data upload_text p.next)
    ∙ ap (λ name. uploads_with (uploads_view p) name (id_data upload_text p.next)) (upload_name p.next)
    ∙ ap (uploads_with (uploads_view p) (upload_name_data (option_map upload_next_view p.next))) (upload_id p.next)

-- ---- ListParts

pub parts-ordered : (p : PartsPage) (number : Option Data)
    → with_member (codes "Parts") (Some (array_of part_entry_data p.parts.items))
    (with_member (codes "NextPartNumberMarker") number (parts_plain (parts_view p)))
    ≡ parts_with (parts_view p) number
parts-ordered p None = rw (map-map part_data part_view p.parts.items) refl
parts-ordered p (Some n) = rw (map-map part_data part_view p.parts.items) refl
