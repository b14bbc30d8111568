-- What a page takes of rows that are read from a place on. Each row has a position and an item,
-- which may depend on whether it is the first of its key.
use Rattle.std.specs.Prelude.{◌≡◌, ℕ, ◌<◌, ◌≤◌, nat_lt, Bool, true, false, not, List, [], ◌∷◌, length, Option, Some, None, is_none, IfSome}
use Rattle.std.specs.Prelude.{◌⊎◌, if◌then◌else◌}
use Rattle.std.specs.List.{AllByRecursion}
use Rattle.bh_model.specs.State.{Octets}
use Rattle.bh_model.specs.Pages.{Listed, Listed.Single, Listed.Common, is_before, is_name, begins, rolled, as_listed, last_of}
use Rattle.bh_pages.specs.Gathered.{Gathered, with_entry}
use Rattle.bh_pages.specs.Places.{Spot, Place, past_row, past_few}
use Rattle.bh_pages.specs.Seen.{token_of, gathered_by}
use Rattle.bh_pages.specs.declared.gathering.PageAsked.{PageAsked}
use Rattle.bh_pages.specs.declared.places.Place as program
use Rattle.bh_pages.specs.declared.places.PlaceReading.{PlaceReading}

abbrev pub seen_place : program.Place → Place
seen_place p = record { key = p.key.items; after = p.after }

module _ {T : Type 0} where
  -- all rows from the marker's place on are listed, and grouped names that are greater than the
  -- marker's key
  abbrev pub passes_name : Option Octets → Listed T → Bool
  passes_name None e = true
  passes_name (Some marker) (Single x) = true
  passes_name (Some marker) (Common name) = is_before marker name

  abbrev pub with_passing : PageAsked → Gathered T → Listed T → Gathered T
  with_passing asked g e = if passes_name (token_of asked) e then with_entry g e else g

module _ {R : Type 0} (spot : R → Spot) where
  -- their keys are under the prefix
  abbrev pub AreUnder : PageAsked → List R → Type 0
  AreUnder asked rows = AllByRecursion (λ r. begins asked.prefix.now (spot r).0 ≡ true) rows

  -- past the last of these rows
  pub record PastLast (asked : PageAsked) (rows : List R) (place : Place) : Type 0 where
    pub row : R
    pub last : last_of rows ≡ Some row
    pub is : begins asked.prefix.now (spot row).0 ≡ true
        → place ≡ past_row (spot row).0 (spot row).1 (rolled asked.prefix.now asked.delimiter.now (spot row).0)

  -- the place at which to read on after these rows, if any can be left
  pub record GoesOn (asked : PageAsked) (old : Place) (rows : List R) (count : ℕ) (new : Option Place) : Type 0 where
    pub few : nat_lt (length rows) count ≡ true → new ≡ past_few old
    pub on : nat_lt (length rows) count ≡ false → IfSome new (PastLast asked rows) × (is_none new ≡ false)

  module _ {X T : Type 0} (item : Bool → R → X) (see : X → T) where
    -- one more row
    abbrev pub row_added : PageAsked → Gathered T → R → Gathered T
    row_added asked g r =
        with_passing asked (record g { key = Some (spot r).0 })
        (as_listed (see (item (not (is_name (spot r).0 g.key)) r)) (rolled asked.prefix.now asked.delimiter.now (spot r).0))

    -- more rows, until the page is full
    abbrev pub rows_added : PageAsked → Gathered T → List R → Gathered T
    rows_added asked g [] = g
    rows_added asked g (r ∷ rows) = if nat_lt asked.max (length g.entries) then g else rows_added asked (row_added asked g r) rows

    -- reading ends if the page is full, or no rows are left; otherwise it goes on
    abbrev pub Goes : Bool → PageAsked → PlaceReading X → List R → PlaceReading X → Type 0
    Goes true asked old rows new =
        (asked.max < length new.gathering.entries.items) ⊎ GoesOn asked (seen_place old.place) rows old.count None
    Goes false asked old rows new =
        (length new.gathering.entries.items ≤ asked.max) × GoesOn asked (seen_place old.place) rows old.count (Some (seen_place new.place))

    -- these rows are added to the page
    pub record Taken (asked : PageAsked) (old : PlaceReading X) (rows : List R) (new : PlaceReading X) (ended : Bool) : Type 0 where
      pub added : AreUnder asked rows → gathered_by see new.gathering ≡ rows_added asked (gathered_by see old.gathering) rows
      pub goes : Goes ended asked old rows new
