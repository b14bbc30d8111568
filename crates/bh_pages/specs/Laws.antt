-- Evidence that a page is the intended one: pages that follow one another by their markers list
-- each entry once and in order.
use Rattle.std.specs.Prelude.{◌≡◌, ℕ, ◌+◌, ◌≤◌, List, [], ◌∷◌, ◌++◌, take, Option, None, Some}
use Rattle.std.specs.Option.{option_map_or}
use Rattle.std.specs.List.{AllByRecursion}
use Rattle.std.specs.FinMap.{FinMap, entries, get}
use Rattle.std.specs.Ordering.{nat_cmp}
use Rattle.bh_types.specs.declared.wanted.Wanted.TheVariants.{Current, Named}
use Rattle.bh_model.specs.State.{Octets, octets_cmp, Entry, Part, Upload, Bucket, State}
use Rattle.bh_model.specs.Ids.{IsNumbered}
use Rattle.bh_model.specs.Pages.{PageAsked, Listed, Paged, name_of, entries_after, ObjectItem, after_name, objects_in, objects_page}
use Rattle.bh_model.specs.Pages.{VersionItem, VersionPlace, VersionNext, all_versions, passes_version, versions_page, version_next}
use Rattle.bh_model.specs.Pages.{UploadItem, UploadPlace, UploadNext, all_uploads, passes_upload, uploads_page, upload_next, PartItem}
use Rattle.bh_model.specs.Pages.{parts_after, parts_page}
use Rattle.bh_pages.specs.Uploads.{upload_key}

abbrev pub total : List ℕ → ℕ
total [] = 0
total (m ∷ sizes) = m + total sizes

-- the entries of pages of these sizes, each begun by the marker of the last entry before, until one
-- is not truncated
abbrev pub chained : {E M : Type 0} → (E → M) → (ℕ → M → Paged E) → List ℕ → M → List E
chained marked page [] marker = []
chained marked page (m ∷ sizes) marker =
    (page m marker).shown ++ option_map_or (λ e. chained marked page sizes (marked e)) (page m marker).next []

abbrev pub asked : Octets → Octets → ℕ → PageAsked
asked prefix delimiter m = record { prefix = prefix; delimiter = delimiter; max = m }

-- ---- objects

abbrev pub object_key : ObjectItem → Octets
object_key o = o.key

-- the next page comes after the name that the page returns
abbrev pub object_marked : Listed ObjectItem → Option Octets
object_marked e = Some (name_of object_key e)

-- the pages of objects, by their sizes
abbrev pub objects_paged : Octets → Octets → List (Octets × List Entry) → ℕ → Option Octets → Paged (Listed ObjectItem)
objects_paged prefix delimiter keys m token = objects_page (asked prefix delimiter m) token keys

-- all entries
abbrev pub object_entries : Octets → Octets → List (Octets × List Entry) → List (Listed ObjectItem)
object_entries prefix delimiter keys = entries_after prefix delimiter object_key (after_name object_key None) (objects_in keys)

-- whatever their sizes, the pages list the first of all entries, as many as the sizes add up to
abbrev pub PagesChain : Type 0
PagesChain = (prefix delimiter : Octets) (objects : FinMap octets_cmp (List Entry)) (sizes : List ℕ)
    → AllByRecursion (λ m. 1 ≤ m) sizes
    → chained object_marked (objects_paged prefix delimiter (entries objects)) sizes None
    ≡ take (total sizes) (object_entries prefix delimiter (entries objects))

-- ---- versions and delete markers

abbrev pub version_key : VersionItem → Octets
version_key v = v.key

-- the next page comes after the key and the version that the page returns
abbrev pub version_place : VersionNext → VersionPlace
version_place next = record { key = next.name; version = option_map_or Named next.id Current }

abbrev pub version_marked : Listed VersionItem → Option VersionPlace
version_marked e = Some (version_place (version_next e))

abbrev pub versions_paged : Octets → Octets → List (Octets × List Entry) → ℕ → Option VersionPlace → Paged (Listed VersionItem)
versions_paged prefix delimiter keys m marker = versions_page (asked prefix delimiter m) marker keys

abbrev pub version_entries : Octets → Octets → List (Octets × List Entry) → List (Listed VersionItem)
version_entries prefix delimiter keys = entries_after prefix delimiter version_key (passes_version None) (all_versions keys)

-- pages of the versions of a tenant's bucket, in whose state no two entries of a key have the same
-- id, list each once and in order
abbrev pub VersionsChain : Type 0
VersionsChain = (prefix delimiter : Octets) (t : State) (name : Octets) (b : Bucket) (sizes : List ℕ)
    → IsNumbered (Some t) → get t.buckets name ≡ Some b
    → AllByRecursion (λ m. 1 ≤ m) sizes
    → chained version_marked (versions_paged prefix delimiter (entries b.objects)) sizes None
    ≡ take (total sizes) (version_entries prefix delimiter (entries b.objects))

-- ---- uploads

-- the next page comes after the key and the upload that the page returns
abbrev pub upload_place : UploadNext → UploadPlace
upload_place next = record { key = next.name; upload = next.id }

abbrev pub upload_marked : Listed UploadItem → Option UploadPlace
upload_marked e = Some (upload_place (upload_next e))

abbrev pub uploads_paged : Octets → Octets → List (ℕ × Upload) → ℕ → Option UploadPlace → Paged (Listed UploadItem)
uploads_paged prefix delimiter numbered m marker = uploads_page (asked prefix delimiter m) marker numbered

abbrev pub upload_entries : Octets → Octets → List (ℕ × Upload) → List (Listed UploadItem)
upload_entries prefix delimiter numbered = entries_after prefix delimiter upload_key (passes_upload None) (all_uploads numbered)

-- pages of uploads list each once and in order
abbrev pub UploadsChain : Type 0
UploadsChain = (prefix delimiter : Octets) (uploads : FinMap nat_cmp Upload) (sizes : List ℕ)
    → AllByRecursion (λ m. 1 ≤ m) sizes
    → chained upload_marked (uploads_paged prefix delimiter (entries uploads)) sizes None
    ≡ take (total sizes) (upload_entries prefix delimiter (entries uploads))

-- ---- parts

abbrev pub part_number : PartItem → ℕ
part_number p = p.number

abbrev pub parts_paged : List (ℕ × Part) → ℕ → ℕ → Paged PartItem
parts_paged parts m marker = parts_page m marker parts

-- they list the first of all parts after the marker, as many as the sizes add up to
abbrev pub PartsChain : Type 0
PartsChain = (parts : FinMap nat_cmp Part) (sizes : List ℕ) (marker : ℕ)
    → AllByRecursion (λ m. 1 ≤ m) sizes
    → chained part_number (parts_paged (entries parts)) sizes marker ≡ take (total sizes) (parts_after marker (entries parts))
