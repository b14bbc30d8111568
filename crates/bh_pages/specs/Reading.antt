-- Reading a page of objects a few rows at a time.
use Rattle.std.specs.Prelude.{◌≡◌, ℕ, ◌≤◌, Bool, true, false, List, take, map, Some, None}
use Rattle.std.specs.List.{AllByRecursion}
use Rattle.bh_model.specs.State.{Octets}
use Rattle.bh_model.specs.Pages.{Listed, ObjectItem, begins, is_upto, entries_after, after_name}
use Rattle.bh_pages.specs.Gathered.{IsKeyUnder, InOrder, IsBeginning, IsPage, Gathered, rows_from, items_after}
use Rattle.bh_pages.specs.Seen.{Shown, item_in, seen, seen_entry, seen_line, token_of, still_to_come, read_on}
use Rattle.bh_pages.specs.declared.gathering.PageAsked.{PageAsked}
use Rattle.bh_pages.specs.declared.gathering.Line.{Line}
use Rattle.bh_pages.specs.declared.reading.Reading.{Reading}

-- some rows, and no more than 64
pub record IsCount (n : ℕ) : Type 0 where
  pub some : 1 ≤ n
  pub few : n ≤ 64

-- rows of a bucket under a prefix, in the order of their keys
pub record AreRows (prefix : Octets) (rows : List Shown) : Type 0 where
  pub in_order : InOrder (λ (r : Shown). r.0) rows
  pub under : AllByRecursion (λ (r : Shown). IsKeyUnder prefix r.0) rows

-- all entries of these rows in a listing after its marker
abbrev pub listing : PageAsked → List Shown → List (Listed ObjectItem)
listing asked rows =
    entries_after asked.prefix.now asked.delimiter.now (λ (o : ObjectItem). o.key) (after_name (λ (o : ObjectItem). o.key) (token_of asked))
    (items_after (λ (r : Shown). r.0) item_in None rows)

-- the rows that are still to be read
abbrev pub rows_left : Reading → List Shown → List Shown
rows_left reading rows = rows_from (λ (r : Shown). r.0) reading.from.items rows

-- the page has some entries, and those of the remaining rows complete the listing
pub record IsUnderway (asked : PageAsked) (rows : List Shown) (reading : Reading) : Type 0 where
  pub low : is_upto asked.prefix.now reading.from.items ≡ true
  pub few : IsCount reading.count
  pub part : IsBeginning asked.max (map seen_entry reading.gathering.entries.items)
      (still_to_come asked (seen reading.gathering) (rows_left reading rows)) (listing asked rows)

abbrev pub IsRead : PageAsked → List Shown → Reading → Type 0
IsRead asked rows reading = IsPage asked.max (map seen_entry reading.gathering.entries.items) (listing asked rows)

-- whether reading has ended
abbrev pub Stands : Bool → PageAsked → List Shown → Reading → Type 0
Stands true = IsRead
Stands false = IsUnderway

-- past the last row that was added
pub record GoesOn (asked : PageAsked) (g : Gathered ObjectItem) (from : Octets) : Type 0 where
  pub key : Octets
  pub last : g.key ≡ Some key
  pub place : begins asked.prefix.now key ≡ true → from ≡ read_on asked g key

-- these are the first of the remaining rows, as many as are read at once
abbrev pub AreNext : List Shown → Reading → List Line → Type 0
AreNext rows reading lines = map seen_line lines ≡ take reading.count (rows_left reading rows)

-- after the next rows the page is complete, if reading has ended, and else still underway
abbrev pub Took : PageAsked → Reading → List Line → Reading → Bool → Type 0
Took asked old lines new ended =
    (rows : List Shown) → AreRows asked.prefix.now rows → IsUnderway asked rows old → AreNext rows old lines → Stands ended asked rows new
