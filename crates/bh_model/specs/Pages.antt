-- Pages of a listing: keys under a prefix; the keys that share a part up to a delimiter are listed
-- as one name.
use Rattle.std.specs.Prelude.{ℕ, Bool, true, false, ◌==◌, ◌&&◌, ◌||◌, nat_lt, List, [], ◌∷◌, ◌++◌, length, map, flat_map, take, drop}
use Rattle.std.specs.Prelude.{Option, Some, None, option_map, if◌then◌else◌}
use Rattle.std.specs.List.{filter, filter_map}
use Rattle.std.specs.Ordering.{is_eq, is_gt, is_lt, is_le, nat_cmp, ordering_then}
use Rattle.std.specs.declared.cmp.Ordering.{Ordering}
use Rattle.bh_types.specs.declared.id.UploadId.{UploadId}
use Rattle.bh_types.specs.declared.id.VersionId.{VersionId}
use Rattle.bh_types.specs.declared.wanted.Wanted.{Wanted}
use Rattle.bh_types.specs.declared.wanted.Wanted.TheVariants.{Current, Named, Unknown}
use Rattle.bh_types.specs.Checksums.{checksum_text}
use Rattle.bh_model.specs.State.{Octets, octets_cmp, Content, Content.Marker, Content.Body, Entry, Part, Upload}
use Rattle.bh_model.specs.Entries.{same_id}

abbrev pub same : Octets → Octets → Bool
same a b = is_eq (octets_cmp a b)

abbrev pub is_before : Octets → Octets → Bool
is_before a b = is_lt (octets_cmp a b)

abbrev pub is_upto : Octets → Octets → Bool
is_upto a b = is_le (octets_cmp a b)

-- ---- names

-- whether the second text begins with the first
abbrev pub begins : Octets → Octets → Bool
begins [] key = true
begins (b ∷ bs) [] = false
begins (b ∷ bs) (c ∷ cs) = b == c && begins bs cs

-- a text up to and including the first occurrence of a delimiter, if it occurs
abbrev pub up_to_delimiter : Octets → Octets → Option Octets
up_to_delimiter delimiter [] = None
up_to_delimiter delimiter (b ∷ bs) =
    if begins delimiter (b ∷ bs) then Some delimiter else option_map (λ n. b ∷ n) (up_to_delimiter delimiter bs)

-- the name under which a key is grouped: the part up to and including the first delimiter after the
-- prefix. An empty delimiter groups nothing
abbrev pub rolled : Octets → Octets → Octets → Option Octets
rolled prefix [] key = None
rolled prefix (d ∷ ds) key = option_map (λ n. prefix ++ n) (up_to_delimiter (d ∷ ds) (drop (length prefix) key))

-- ---- entries

-- an entry of a listing: an item under its own key, or a grouped name for all items under it
pub data Listed (T : Type 0) : Type 0 where
  Single : T → Listed T
  Common : Octets → Listed T

abbrev pub is_name : Octets → Option Octets → Bool
is_name name None = false
is_name name (Some other) = same other name

module _ {T : Type 0} where
  abbrev pub as_listed : T → Option Octets → Listed T
  as_listed x None = Single x
  as_listed x (Some name) = Common name

  -- its name
  abbrev pub name_of : (T → Octets) → Listed T → Octets
  name_of key (Single x) = key x
  name_of key (Common name) = name

  -- equal grouped names in a row are one entry; `last` is the one that was listed last, if nothing
  -- came since
  abbrev pub merged : Option Octets → List (Listed T) → List (Listed T)
  merged last [] = []
  merged last (Single x ∷ es) = Single x ∷ merged None es
  merged last (Common name ∷ es) = if is_name name last then merged last es else Common name ∷ merged (Some name) es

  module _ (prefix delimiter : Octets) (key : T → Octets) where
    abbrev pub entry_of : T → Listed T
    entry_of x = as_listed x (rolled prefix delimiter (key x))

    -- of items in the order of their keys, the entries after a marker
    abbrev pub entries_after : (Listed T → Bool) → List T → List (Listed T)
    entries_after passes items = merged None (filter passes (map entry_of (filter (λ x. begins prefix (key x)) items)))

-- ---- a page

-- the request for a page: the keys under a prefix, grouped at a delimiter, at most `max` entries
pub record PageAsked : Type 0 where
  pub prefix : Octets
  pub delimiter : Octets
  pub max : ℕ

pub record Paged (E : Type 0) : Type 0 where
  pub shown : List E
  -- the last of them, if some are left; the next page begins after it
  pub next : Option E

module _ {E : Type 0} where
  abbrev pub last_of : List E → Option E
  last_of [] = None
  last_of (x ∷ []) = Some x
  last_of (x ∷ y ∷ l) = last_of (y ∷ l)

  -- the first `max` entries. A page of no entries is not truncated
  abbrev pub paged : ℕ → List E → Paged E
  paged max entries = record { shown = take max entries; next = if nat_lt max (length entries) then last_of (take max entries) else None }

-- the names greater than the marker, if there is one
abbrev pub after_name : {T : Type 0} → (T → Octets) → Option Octets → Listed T → Bool
after_name key None e = true
after_name key (Some marker) e = is_before marker (name_of key e)

-- ---- ListObjectsV2: the keys whose newest entry is not a delete marker
-- Amazon S3 API Reference, ListObjectsV2; Amazon S3 User Guide, "Organizing objects using prefixes"

-- an object; its moment is in seconds since 1970
pub record ObjectItem : Type 0 where
  pub key : Octets
  pub moment : ℕ
  -- in bytes
  pub size : ℕ
  pub checksum : Octets

abbrev pub object_of : Octets → ℕ → Content → Option ObjectItem
object_of key moment Marker = None
object_of key moment (Body bytes checksum) = Some (record { key = key; moment = moment; size = length bytes; checksum = checksum })

abbrev pub current_object : Octets → List Entry → Option ObjectItem
current_object key [] = None
current_object key (newest ∷ older) = object_of key newest.moment newest.content

abbrev pub objects_in : List (Octets × List Entry) → List ObjectItem
objects_in keys = filter_map (λ k. current_object k.0 k.1) keys

-- after the name in a token
abbrev pub objects_page : PageAsked → Option Octets → List (Octets × List Entry) → Paged (Listed ObjectItem)
objects_page asked token keys =
    paged asked.max (entries_after asked.prefix asked.delimiter (λ o. o.key) (after_name (λ (o : ObjectItem). o.key) token)
    (objects_in keys))

-- ---- the contents of a page of objects

-- CommonPrefixes and Contents, and the last name listed, if the page is truncated
pub record ObjectsListed : Type 0 where
  pub bucket : Octets
  pub prefix : Octets
  pub max : ℕ
  pub prefixes : List Octets
  pub objects : List ObjectItem
  pub next : Option Octets

module _ {T : Type 0} where
  abbrev pub common_in : Listed T → List Octets
  common_in (Single x) = []
  common_in (Common name) = name ∷ []

  abbrev pub single_in : Listed T → List T
  single_in (Single x) = x ∷ []
  single_in (Common name) = []

abbrev pub objects_told : Octets → PageAsked → Paged (Listed ObjectItem) → ObjectsListed
objects_told bucket asked page = record {
  bucket = bucket;
  prefix = asked.prefix;
  max = asked.max;
  prefixes = flat_map common_in page.shown;
  objects = flat_map single_in page.shown;
  next = option_map (name_of (λ (o : ObjectItem). o.key)) page.next;
}

-- ---- ListObjectVersions: versions and delete markers, those of a key newest first
-- Amazon S3 API Reference, ListObjectVersions

-- a version's stored object
pub record StoredItem : Type 0 where
  -- in bytes
  pub size : ℕ
  pub checksum : Octets

-- a version, or a delete marker, which has no object; its moment is in seconds since 1970
pub record VersionItem : Type 0 where
  pub key : Octets
  pub id : VersionId
  pub moment : ℕ
  -- whether it is the newest of its key
  pub latest : Bool
  pub object : Option StoredItem

abbrev pub stored_in : Content → Option StoredItem
stored_in Marker = None
stored_in (Body bytes checksum) = Some (record { size = length bytes; checksum = checksum })

abbrev pub version_item : Octets → Bool → Entry → VersionItem
version_item key latest e = record { key = key; id = e.id; moment = e.moment; latest = latest; object = stored_in e.content }

abbrev pub versions_of : Octets → List Entry → List VersionItem
versions_of key [] = []
versions_of key (newest ∷ older) = version_item key true newest ∷ map (version_item key false) older

-- after all versions of a key, or after one of them
pub record VersionPlace : Type 0 where
  pub key : Octets
  pub version : Wanted

-- the versions older than the one with this id; none if no version has it
abbrev pub after_id : VersionId → List VersionItem → List VersionItem
after_id id [] = []
after_id id (v ∷ older) = if same_id v.id id then older else after_id id older

-- of the marker's own key the versions after the one that it names
abbrev pub after_version : Wanted → List VersionItem → List VersionItem
after_version Current versions = []
after_version (Named id) versions = after_id id versions
after_version Unknown versions = []

-- those of the marker's own key after its version, and those of greater keys
abbrev pub versions_after : Option VersionPlace → List VersionItem → List VersionItem
versions_after None versions = versions
versions_after (Some marker) versions =
    after_version marker.version (filter (λ v. same v.key marker.key) versions) ++ filter (λ v. is_before marker.key v.key) versions

abbrev pub all_versions : List (Octets × List Entry) → List VersionItem
all_versions keys = flat_map (λ k. versions_of k.0 k.1) keys

-- a grouped name has to be greater than the marker's key
abbrev pub passes_version : Option Octets → Listed VersionItem → Bool
passes_version None e = true
passes_version (Some marker) (Single v) = true
passes_version (Some marker) (Common name) = is_before marker name

abbrev pub key_of : Option VersionPlace → Option Octets
key_of marker = option_map (λ (p : VersionPlace). p.key) marker

abbrev pub versions_page : PageAsked → Option VersionPlace → List (Octets × List Entry) → Paged (Listed VersionItem)
versions_page asked marker keys =
    paged asked.max (entries_after asked.prefix asked.delimiter (λ v. v.key) (passes_version (key_of marker))
    (versions_after marker (all_versions keys)))

-- the position after which the next page begins: a version, or all keys under a grouped name
pub record VersionNext : Type 0 where
  pub name : Octets
  pub id : Option VersionId

abbrev pub version_next : Listed VersionItem → VersionNext
version_next (Single v) = record { name = v.key; id = Some v.id }
version_next (Common name) = record { name = name; id = None }

-- CommonPrefixes and Versions, and the position of the next page, if this one is truncated
pub record VersionsListed : Type 0 where
  pub bucket : Octets
  pub prefix : Octets
  pub max : ℕ
  pub prefixes : List Octets
  pub versions : List VersionItem
  pub next : Option VersionNext

abbrev pub versions_told : Octets → PageAsked → Paged (Listed VersionItem) → VersionsListed
versions_told bucket asked page = record {
  bucket = bucket;
  prefix = asked.prefix;
  max = asked.max;
  prefixes = flat_map common_in page.shown;
  versions = flat_map single_in page.shown;
  next = option_map version_next page.next;
}

-- ---- ListMultipartUploads: the uploads in the order of their keys, those of a key in the order of their numbers
-- Amazon S3 API Reference, ListMultipartUploads

-- an upload that is neither completed nor aborted; it began that many seconds after 1970
pub record UploadItem : Type 0 where
  pub key : Octets
  pub id : UploadId
  pub begun : ℕ

abbrev pub upload_order : UploadItem → UploadItem → Ordering
upload_order a b = ordering_then (octets_cmp a.key b.key) (nat_cmp a.id.number b.id.number)

abbrev pub put_upload : UploadItem → List UploadItem → List UploadItem
put_upload u [] = u ∷ []
put_upload u (v ∷ uploads) = if is_gt (upload_order u v) then v ∷ put_upload u uploads else u ∷ v ∷ uploads

abbrev pub in_key_order : List UploadItem → List UploadItem
in_key_order [] = []
in_key_order (u ∷ uploads) = put_upload u (in_key_order uploads)

abbrev pub upload_item : ℕ × Upload → UploadItem
upload_item u = record { key = u.1.key; id = record { number = u.0 }; begun = u.1.begun }

abbrev pub all_uploads : List (ℕ × Upload) → List UploadItem
all_uploads numbered = in_key_order (map upload_item numbered)

-- after all uploads of a key, or after those up to one of them
pub record UploadPlace : Type 0 where
  pub key : Octets
  pub upload : Option UploadId

-- whether an upload of the marker's own key comes after the one that it names
abbrev pub is_later : Option UploadId → UploadItem → Bool
is_later None u = false
is_later (Some id) u = nat_lt id.number u.id.number

-- greater keys, and greater numbers of the marker's own key; a grouped name has to be greater than
-- the marker's key
abbrev pub passes_upload : Option UploadPlace → Listed UploadItem → Bool
passes_upload None e = true
passes_upload (Some marker) (Single u) = is_before marker.key u.key || (same marker.key u.key && is_later marker.upload u)
passes_upload (Some marker) (Common name) = is_before marker.key name

abbrev pub uploads_page : PageAsked → Option UploadPlace → List (ℕ × Upload) → Paged (Listed UploadItem)
uploads_page asked marker numbered =
    paged asked.max (entries_after asked.prefix asked.delimiter (λ u. u.key) (passes_upload marker) (all_uploads numbered))

-- the position after which the next page begins: an upload, or all keys under a grouped name
pub record UploadNext : Type 0 where
  pub name : Octets
  pub id : Option UploadId

abbrev pub upload_next : Listed UploadItem → UploadNext
upload_next (Single u) = record { name = u.key; id = Some u.id }
upload_next (Common name) = record { name = name; id = None }

-- CommonPrefixes and Uploads, and the position of the next page, if this one is truncated
pub record UploadsListed : Type 0 where
  pub bucket : Octets
  pub prefix : Octets
  pub max : ℕ
  pub prefixes : List Octets
  pub uploads : List UploadItem
  pub next : Option UploadNext

abbrev pub uploads_told : Octets → PageAsked → Paged (Listed UploadItem) → UploadsListed
uploads_told bucket asked page = record {
  bucket = bucket;
  prefix = asked.prefix;
  max = asked.max;
  prefixes = flat_map common_in page.shown;
  uploads = flat_map single_in page.shown;
  next = option_map upload_next page.next;
}

-- ---- ListParts: the parts of an upload in the order of their numbers
-- Amazon S3 API Reference, ListParts

-- a part; its moment is in seconds since 1970
pub record PartItem : Type 0 where
  pub number : ℕ
  pub moment : ℕ
  -- in bytes
  pub size : ℕ
  pub checksum : Octets

abbrev pub part_item : ℕ × Part → PartItem
part_item p = record { number = p.0; moment = p.1.moment; size = length p.1.bytes; checksum = checksum_text p.1.bytes }

-- the parts with greater numbers than the marker's
abbrev pub parts_after : ℕ → List (ℕ × Part) → List PartItem
parts_after marker parts = map part_item (filter (λ (p : ℕ × Part). nat_lt marker p.0) parts)

abbrev pub parts_page : ℕ → ℕ → List (ℕ × Part) → Paged PartItem
parts_page max marker parts = paged max (parts_after marker parts)

-- Parts, and the number of the last one, if the page is truncated
pub record PartsListed : Type 0 where
  pub bucket : Octets
  pub key : Octets
  pub upload : UploadId
  pub max : ℕ
  pub parts : List PartItem
  pub next : Option ℕ

abbrev pub parts_told : Octets → Octets → UploadId → ℕ → Paged PartItem → PartsListed
parts_told bucket key upload max page = record {
  bucket = bucket;
  key = key;
  upload = upload;
  max = max;
  parts = page.shown;
  next = option_map (λ (p : PartItem). p.number) page.next;
}
