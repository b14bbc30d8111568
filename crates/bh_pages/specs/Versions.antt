-- The entries gathered for a page of versions, row by row in the order of keys, those of a key by
-- falling entry numbers.
use Rattle.std.specs.Prelude.{◌≡◌, ℕ, zero, suc, pos, nat_lt, Bool, true, false, not, ◌&&◌, int_lt, List, [], ◌∷◌, length, map, take}
use Rattle.std.specs.Prelude.{Option, Some, None, if◌then◌else◌, string_bytes}
use Rattle.std.specs.List.{filter, AllByRecursion}
use Rattle.std.specs.Ordering.{int_cmp}
use Rattle.std.specs.declared.cmp.Ordering.{Ordering}
use Rattle.bh_types.specs.declared.id.VersionId.{VersionId}
use Rattle.bh_types.specs.declared.id.VersionId.TheVariants.{Null, Numbered as Given}
use Rattle.bh_model.specs.State.{Octets}
use Rattle.bh_model.specs.Pages.{Listed, is_name, same, merged, entry_of, StoredItem, VersionItem, passes_version}
pub use Rattle.bh_pages.specs.Gathered.{nothing_after}
use Rattle.bh_pages.specs.Gathered.{IsKeyUnder, IsBeginning, IsPage, Gathered, with_entry}
use Rattle.bh_pages.specs.Places as places
pub use Rattle.bh_pages.specs.Places.{Spot, Place, IsUnder, at_key, after_entry, past_row, past_few}
use Rattle.bh_pages.specs.Seen.{token_of, entry_by, gathered_by}
pub use Rattle.bh_pages.specs.Taken.{seen_place}
use Rattle.bh_pages.specs.declared.gathering.PageAsked.{PageAsked}
use Rattle.bh_pages.specs.declared.versions.VersionLine.{VersionLine}
use Rattle.bh_pages.specs.declared.versions.ShownVersion.{ShownVersion}
use Rattle.bh_pages.specs.declared.gathering.Listed as listed
use Rattle.bh_pages.specs.declared.gathering.Gathering.{Gathering}
use Rattle.bh_pages.specs.declared.places.PlaceReading.{PlaceReading}

-- a row: its entry number, and its version; the row alone doesn't determine whether it is the
-- newest
abbrev pub Numbered : Type 0
Numbered = ℕ × VersionItem

abbrev pub row_key : Numbered → Octets
row_key r = r.1.key

-- after a row of this key
abbrev pub version_after : Option Octets → Numbered → VersionItem
version_after key r = record r.1 { latest = not (is_name r.1.key key) }

abbrev pub items_next : Option Octets → List Numbered → List VersionItem
items_next key [] = []
items_next key (r ∷ rows) = version_after key r ∷ items_next (Some (row_key r)) rows

-- ---- places between rows

-- the entries of a key are ordered by falling numbers
abbrev pub falling : ℕ → ℕ → Ordering
falling m n = int_cmp (pos n) (pos m)

abbrev pub entry_number : Numbered → ℕ
entry_number r = r.0

abbrev pub spot : Numbered → Spot
spot = places.spot falling row_key entry_number

abbrev pub is_from : Place → Numbered → Bool
is_from = places.is_from falling row_key entry_number

abbrev pub IsStrict : List Numbered → Type 0
IsStrict = places.IsStrict falling row_key entry_number

-- the older entries of a key
abbrev pub is_older : Octets → ℕ → Numbered → Bool
is_older key seq r = same (row_key r) key && int_lt (pos r.0) (pos seq)

-- ---- the gathered entries

module _ (prefix delimiter : Octets) (marker : Option Octets) where
  abbrev pub version_entry : VersionItem → Listed VersionItem
  version_entry = entry_of prefix delimiter (λ v. v.key)

  abbrev pub with_passing : Gathered VersionItem → Listed VersionItem → Gathered VersionItem
  with_passing g e = if passes_version marker e then with_entry g e else g

  -- one more row
  abbrev pub with_version : Gathered VersionItem → Numbered → Gathered VersionItem
  with_version g r = with_passing (record g { key = Some (row_key r) }) (version_entry (version_after g.key r))

  -- more rows, until the page is full
  abbrev pub with_versions : ℕ → Gathered VersionItem → List Numbered → Gathered VersionItem
  with_versions max g [] = g
  with_versions max g (r ∷ rows) = if nat_lt max (length g.entries) then g else with_versions max (with_version g r) rows

  -- the entries that are still to come of these rows
  abbrev pub versions_to_come : Gathered VersionItem → List Numbered → List (Listed VersionItem)
  versions_to_come g rows = merged g.name (filter (passes_version marker) (map version_entry (items_next g.key rows)))

-- ---- spec values of the program's values

abbrev pub id_in : ℕ → VersionId
id_in zero = Null
id_in (suc n) = Given (suc n)

abbrev pub stored_of : ℕ → ℕ → Octets → Option StoredItem
stored_of zero size checksum = Some (record { size = size; checksum = checksum })
stored_of (suc n) size checksum = None

abbrev pub version_in : VersionLine → Bool → VersionItem
version_in l latest = record {
  key = l.key.items;
  id = id_in l.id;
  moment = l.stamp;
  latest = latest;
  object = stored_of l.marker l.size (string_bytes l.checksum);
}

abbrev pub seen_line : VersionLine → Numbered
seen_line l = (l.seq, version_in l false)

abbrev pub line_spot : VersionLine → Spot
line_spot l = (l.key.items, l.seq)

-- its entry in a page
abbrev pub line_item : Bool → VersionLine → ShownVersion
line_item latest l = record { line = l; latest = latest }

abbrev pub seen_version : ShownVersion → VersionItem
seen_version v = version_in v.line v.latest

abbrev pub seen_entry : listed.Listed ShownVersion → Listed VersionItem
seen_entry = entry_by seen_version

abbrev pub seen : Gathering ShownVersion → Gathered VersionItem
seen = gathered_by seen_version

abbrev pub rows_added : PageAsked → Gathered VersionItem → List Numbered → Gathered VersionItem
rows_added asked = with_versions asked.prefix.now asked.delimiter.now (token_of asked) asked.max

-- ---- the progress of reading

-- the rows of a bucket under a prefix, in the order of their keys, those of a key by falling numbers
pub record AreRows (prefix : Octets) (rows : List Numbered) : Type 0 where
  pub in_order : IsStrict rows
  pub under : AllByRecursion (λ r. IsKeyUnder prefix (row_key r)) rows

-- the page has some entries of a listing, and those of the rows from its place on complete the
-- listing
pub record IsUnderway (asked : PageAsked) (rows : List Numbered) (listing : List (Listed VersionItem))
    (reading : PlaceReading ShownVersion) : Type 0 where
  pub low : IsUnder asked.prefix.now reading.place.key.items reading.place.after
  pub part : IsBeginning asked.max (map seen_entry reading.gathering.entries.items)
      (versions_to_come asked.prefix.now asked.delimiter.now (token_of asked) (seen reading.gathering)
      (filter (is_from (seen_place reading.place)) rows)) listing

-- whether reading has ended
abbrev pub Stands : Bool → PageAsked → List Numbered → List (Listed VersionItem) → PlaceReading ShownVersion → Type 0
Stands true asked rows listing reading = IsPage asked.max (map seen_entry reading.gathering.entries.items) listing
Stands false asked rows listing reading = IsUnderway asked rows listing reading

-- the rows at a place: of a key the older ones, or all from a key on
abbrev pub rows_at : Octets → Option ℕ → List Numbered → List Numbered
rows_at key None rows = filter (is_from (at_key key)) rows
rows_at key (Some seq) rows = filter (is_older key seq) rows

-- these are the first of them, as many as are read at once
abbrev pub AreNext : List Numbered → PlaceReading ShownVersion → List VersionLine → Type 0
AreNext rows reading lines = map seen_line lines ≡ take reading.count (rows_at reading.place.key.items reading.place.after rows)

-- after the next rows the page is complete, if reading has ended, and else still underway
abbrev pub TookVersions : PageAsked → PlaceReading ShownVersion → List VersionLine → PlaceReading ShownVersion → Bool → Type 0
TookVersions asked old lines new ended = (rows : List Numbered) (listing : List (Listed VersionItem))
    → AreRows asked.prefix.now rows → IsUnderway asked rows listing old → AreNext rows old lines → Stands ended asked rows listing new
