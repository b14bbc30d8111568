-- The entries gathered for a page of uploads, row by row in the order of keys, those of a key in
-- the order of their numbers.
use Rattle.std.specs.Prelude.{◌≡◌, ℕ, Bool, true, false, List, map, filter, take, Option, None}
use Rattle.std.specs.List.{AllByRecursion}
use Rattle.std.specs.Ordering.{nat_cmp}
use Rattle.bh_model.specs.State.{Octets}
use Rattle.bh_model.specs.Pages.{Listed, UploadItem}
use Rattle.bh_pages.specs.Gathered.{IsKeyUnder, IsBeginning, IsPage, Gathered, nothing_after}
use Rattle.bh_pages.specs.Seen.{token_of, entry_by, gathered_by}
use Rattle.bh_pages.specs.Places as places
use Rattle.bh_pages.specs.Places.{Spot, Place, IsUnder}
use Rattle.bh_pages.specs.Taken.{seen_place, passes_name}
use Rattle.bh_pages.specs.declared.gathering.PageAsked.{PageAsked}
use Rattle.bh_pages.specs.declared.uploads.UploadLine.{UploadLine}
use Rattle.bh_pages.specs.declared.gathering.Listed as listed
use Rattle.bh_pages.specs.declared.gathering.Gathering.{Gathering}
use Rattle.bh_pages.specs.declared.places.PlaceReading.{PlaceReading}

abbrev pub upload_key : UploadItem → Octets
upload_key u = u.key

abbrev pub upload_number : UploadItem → ℕ
upload_number u = u.id.number

-- from a place on, and of a key after a number
abbrev pub is_from : Place → UploadItem → Bool
is_from = places.is_from nat_cmp upload_key upload_number

abbrev pub is_behind : Octets → ℕ → UploadItem → Bool
is_behind = places.is_behind nat_cmp upload_key upload_number

abbrev pub IsStrict : List UploadItem → Type 0
IsStrict = places.IsStrict nat_cmp upload_key upload_number

-- ---- the gathered entries

module _ (asked : PageAsked) where
  abbrev pub upload_added : Gathered UploadItem → UploadItem → Gathered UploadItem
  upload_added = places.with_next upload_key asked.prefix.now asked.delimiter.now (passes_name (token_of asked))

  abbrev pub uploads_added : Gathered UploadItem → List UploadItem → Gathered UploadItem
  uploads_added = places.with_items upload_key asked.prefix.now asked.delimiter.now (passes_name (token_of asked)) asked.max

  abbrev pub uploads_to_come : Gathered UploadItem → List UploadItem → List (Listed UploadItem)
  uploads_to_come = places.left_of upload_key asked.prefix.now asked.delimiter.now (passes_name (token_of asked))

-- ---- spec values of the program's values

abbrev pub seen_line : UploadLine → UploadItem
seen_line l = record { key = l.key.items; id = record { number = l.number }; begun = l.begun }

abbrev pub line_spot : UploadLine → Spot
line_spot l = (l.key.items, l.number)

-- such an entry, whether it is the newest of its key or not
abbrev pub line_item : Bool → UploadLine → UploadLine
line_item latest l = l

abbrev pub seen_entry : listed.Listed UploadLine → Listed UploadItem
seen_entry = entry_by seen_line

abbrev pub seen : Gathering UploadLine → Gathered UploadItem
seen = gathered_by seen_line

abbrev pub nothing : Gathered UploadItem
nothing = nothing_after None

-- ---- the progress of reading

-- the uploads of a bucket under a prefix, in the order of their keys, those of a key in the order of their numbers
pub record AreRows (prefix : Octets) (rows : List UploadItem) : Type 0 where
  pub in_order : IsStrict rows
  pub under : AllByRecursion (λ (u : UploadItem). IsKeyUnder prefix u.key) rows

-- the page has some entries of a listing, and those of the uploads from its place on complete the
-- listing
pub record IsUnderway (asked : PageAsked) (rows : List UploadItem) (listing : List (Listed UploadItem))
    (reading : PlaceReading UploadLine) : Type 0 where
  pub low : IsUnder asked.prefix.now reading.place.key.items reading.place.after
  pub part : IsBeginning asked.max (map seen_entry reading.gathering.entries.items)
      (uploads_to_come asked (seen reading.gathering) (filter (is_from (seen_place reading.place)) rows)) listing

-- whether reading has ended
abbrev pub Stands : Bool → PageAsked → List UploadItem → List (Listed UploadItem) → PlaceReading UploadLine → Type 0
Stands true asked rows listing reading = IsPage asked.max (map seen_entry reading.gathering.entries.items) listing
Stands false asked rows listing reading = IsUnderway asked rows listing reading

-- the uploads at a place: of a key the later ones, or all from a key on
abbrev pub rows_at : Octets → Option ℕ → List UploadItem → List UploadItem
rows_at = places.rows_at nat_cmp upload_key upload_number

-- these are the first of them, as many as are read at once
abbrev pub AreNext : List UploadItem → PlaceReading UploadLine → List UploadLine → Type 0
AreNext rows reading lines = map seen_line lines ≡ take reading.count (rows_at reading.place.key.items reading.place.after rows)

-- after the next uploads the page is complete, if reading has ended, and else still underway
abbrev pub TookUploads : PageAsked → PlaceReading UploadLine → List UploadLine → PlaceReading UploadLine → Bool → Type 0
TookUploads asked old lines new ended = (rows : List UploadItem) (listing : List (Listed UploadItem))
    → AreRows asked.prefix.now rows → IsUnderway asked rows listing old → AreNext rows old lines → Stands ended asked rows listing new
