-- The pages that worked rows give, computed.
use Rattle.std.proofs.Common.{◌≡◌, ℕ, Bool, true, false, codes, List, [], ◌∷◌, map, flat_map, Option, Some, None, option_map, refl}
use Rattle.bh_types.specs.declared.id.VersionId.{VersionId}
use Rattle.bh_types.specs.declared.id.VersionId.TheVariants.{Null, Numbered}
use Rattle.std.specs.FinMap.{empty}
use Rattle.bh_model.specs.State.{Octets, Content.Marker, Content.Body, Entry, Part, Upload}
use Rattle.bh_model.specs.Pages.{PageAsked, Paged, Listed, Listed.Single, Listed.Common, ObjectItem, VersionItem, StoredItem, UploadItem, PartItem, name_of, single_in, rolled, objects_page, objects_told, uploads_page, parts_page}
use Rattle.bh_pages.specs.Laws.{chained, version_marked, versions_paged, upload_marked, uploads_paged, upload_entries}

abbrev names : Paged (Listed ObjectItem) → List Octets × Option Octets
names p = (map (name_of (λ o. o.key)) p.shown, option_map (name_of (λ (o : ObjectItem). o.key)) p.next)

abbrev asked : (prefix delimiter : Octets) → ℕ → PageAsked
asked prefix delimiter max = record { prefix = prefix; delimiter = delimiter; max = max }

abbrev object : Octets → Octets × List Entry
object key = (key, record { id = Null; moment = 0; content = Body [] [] } ∷ [])

-- the key é, in UTF-8
abbrev e_acute : Octets
e_acute = 195 ∷ 169 ∷ []

abbrev five : List (Octets × List Entry)
five = object (codes "a") ∷ object (codes "a/1") ∷ object (codes "a/2") ∷ object (codes "b") ∷ object e_acute ∷ []

first_page : names (objects_page (asked [] (codes "/") 2) None five) ≡ (codes "a" ∷ codes "a/" ∷ [], Some (codes "a/"))
first_page = refl

-- the rolled-up name isn't shown again
second_page : names (objects_page (asked [] (codes "/") 2) (Some (codes "a/")) five) ≡ (codes "b" ∷ e_acute ∷ [], None)
second_page = refl

-- a marker within what is rolled up lets no more of it through
within_page : names (objects_page (asked [] (codes "/") 2) (Some (codes "a/1")) five) ≡ (codes "b" ∷ e_acute ∷ [], None)
within_page = refl

under_prefix : names (objects_page (asked (codes "a/") (codes "/") 1) None five) ≡ (codes "a/1" ∷ [], Some (codes "a/1"))
under_prefix = refl

-- as many as there are: nothing is left over
last_page : names (objects_page (asked [] [] 5) None five) ≡ (codes "a" ∷ codes "a/1" ∷ codes "a/2" ∷ codes "b" ∷ e_acute ∷ [], None)
last_page = refl

no_page : names (objects_page (asked [] (codes "/") 0) None five) ≡ ([], None)
no_page = refl

-- entries are counted and not rows
third_entry : names (objects_page (asked [] (codes "/") 3) None five) ≡ (codes "a" ∷ codes "a/" ∷ codes "b" ∷ [], Some (codes "b"))
third_entry = refl

long_delimiter : rolled (codes "x") (codes "--") (codes "x-a--b--c") ≡ Some (codes "x-a--")
long_delimiter = refl

-- a delimiter within the prefix rolls up nothing
delimiter_before : rolled (codes "a/") (codes "/") (codes "a/1") ≡ None
delimiter_before = refl

-- x was put and then deleted, y was put
abbrev versions : List (Octets × List Entry)
versions = (codes "x", record { id = Numbered 2; moment = 0; content = Marker } ∷ record { id = Numbered 1; moment = 0; content = Body (codes "a") [] } ∷ [])
    ∷ (codes "y", record { id = Numbered 3; moment = 0; content = Body (codes "b") [] } ∷ []) ∷ []

only_y : names (objects_page (asked [] [] 1000) None versions) ≡ (codes "y" ∷ [], None)
only_y = refl

-- a page's two lists
told_apart : objects_told (codes "docs") (asked [] (codes "/") 2) (objects_page (asked [] (codes "/") 2) None five) ≡ record {
  bucket = codes "docs";
  prefix = [];
  max = 2;
  prefixes = codes "a/" ∷ [];
  objects = record { key = codes "a"; moment = 0; size = 0; checksum = [] } ∷ [];
  next = Some (codes "a/");
}
told_apart = refl

-- ---- uploads: 1 of b, 2 and 3 of a, 4 of a/1

abbrev begun : Octets → Upload
begun key = record { key = key; begun = 0; parts = empty }

abbrev four : List (ℕ × Upload)
four = (1, begun (codes "b")) ∷ (2, begun (codes "a")) ∷ (3, begun (codes "a")) ∷ (4, begun (codes "a/1")) ∷ []

abbrev upload : Octets → ℕ → Listed UploadItem
upload key n = Single (record { key = key; id = record { number = n }; begun = 0 })

first_upload : uploads_page (asked [] [] 1) None four ≡ record { shown = upload (codes "a") 2 ∷ []; next = Some (upload (codes "a") 2) }
first_upload = refl

-- after both markers
second_upload : uploads_page (asked [] [] 1) (Some (record { key = codes "a"; upload = Some (record { number = 2 }) })) four ≡ record { shown = upload (codes "a") 3 ∷ []; next = Some (upload (codes "a") 3) }
second_upload = refl

-- after a key alone
greater_keys : uploads_page (asked [] [] 9) (Some (record { key = codes "a"; upload = None })) four ≡ record { shown = upload (codes "a/1") 4 ∷ upload (codes "b") 1 ∷ []; next = None }
greater_keys = refl

rolled_uploads : uploads_page (asked [] (codes "/") 3) None four ≡ record { shown = upload (codes "a") 2 ∷ upload (codes "a") 3 ∷ Common (codes "a/") ∷ []; next = Some (Common (codes "a/")) }
rolled_uploads = refl

-- the name of the marker's key passes no more
rolled_behind : uploads_page (asked [] (codes "/") 3) (Some (record { key = codes "a/1"; upload = Some (record { number = 1 }) })) four ≡ record { shown = upload (codes "b") 1 ∷ []; next = None }
rolled_behind = refl

no_uploads : uploads_page (asked [] [] 0) None four ≡ record { shown = []; next = None }
no_uploads = refl

-- page after page of one, each at the markers of the one before
each_upload : chained upload_marked (uploads_paged [] (codes "/") four) (1 ∷ 1 ∷ 1 ∷ []) None ≡ upload (codes "a") 2 ∷ upload (codes "a") 3 ∷ Common (codes "a/") ∷ []
each_upload = refl

all_the_uploads : chained upload_marked (uploads_paged [] (codes "/") four) (3 ∷ 3 ∷ []) None ≡ upload_entries [] (codes "/") four
all_the_uploads = refl

-- ---- the versions of x and y, page after page

abbrev version : Octets → VersionId → Bool → Option StoredItem → Listed VersionItem
version key id latest stored = Single (record { key = key; id = id; moment = 0; latest = latest; object = stored })

abbrev one_byte : Option StoredItem
one_byte = Some (record { size = 1; checksum = [] })

each_version : chained version_marked (versions_paged [] [] versions) (1 ∷ 1 ∷ 1 ∷ 1 ∷ []) None
    ≡ version (codes "x") (Numbered 2) true None ∷ version (codes "x") (Numbered 1) false one_byte ∷ version (codes "y") (Numbered 3) true one_byte ∷ []
each_version = refl

-- where three of a key had one id, the second would be shown again, and the third never: why the law wants ids of their own
abbrev alike : List (Octets × List Entry)
alike = (codes "x", record { id = Null; moment = 3; content = Marker } ∷ record { id = Null; moment = 2; content = Marker } ∷ record { id = Null; moment = 1; content = Marker } ∷ []) ∷ []

abbrev moments : List (Listed VersionItem) → List ℕ
moments es = map (λ (v : VersionItem). v.moment) (flat_map single_in es)

second_again : moments (chained version_marked (versions_paged [] [] alike) (1 ∷ 1 ∷ 1 ∷ 1 ∷ []) None) ≡ 3 ∷ 2 ∷ 2 ∷ 2 ∷ []
second_again = refl

-- ---- parts 1, 2, 5 and 10,000

abbrev numbers : Paged PartItem → List ℕ × Option ℕ
numbers p = (map (λ (x : PartItem). x.number) p.shown, option_map (λ (x : PartItem). x.number) p.next)

abbrev stored : ℕ → ℕ × Part
stored n = (n, record { bytes = []; moment = 0 })

abbrev four_parts : List (ℕ × Part)
four_parts = stored 1 ∷ stored 2 ∷ stored 5 ∷ stored 10000 ∷ []

first_parts : numbers (parts_page 2 0 four_parts) ≡ (1 ∷ 2 ∷ [], Some 2)
first_parts = refl

last_parts : numbers (parts_page 2 2 four_parts) ≡ (5 ∷ 10000 ∷ [], None)
last_parts = refl

no_parts : numbers (parts_page 0 0 four_parts) ≡ ([], None)
no_parts = refl
