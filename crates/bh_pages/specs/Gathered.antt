-- The entries gathered for a page, row by row in the order of the keys. A row has its key, and may
-- have an item of it: of the rows of one key the first decides.
use Rattle.std.specs.Prelude.{◌≡◌, ℕ, suc, ◌<◌, ◌≤◌, nat_lt, Bool, true, not, ◌||◌, List, [], ◌∷◌, ◌++◌, length, map, take, Option, Some}
use Rattle.std.specs.Prelude.{None, if◌then◌else◌}
use Rattle.std.specs.List.{filter, AllByRecursion}
use Rattle.bh_model.specs.State.{Octets}
use Rattle.bh_model.specs.Pages.{Listed, Listed.Single, Listed.Common, is_name, is_upto, begins, merged, entry_of, rolled}

-- the least text after a text, and a text after all that begin with it and have no byte of 255 there
abbrev pub past_key : Octets → Octets
past_key key = key ++ 0 ∷ []

abbrev pub past_name : Octets → Octets
past_name name = name ++ 255 ∷ []

-- the position at which reading begins: after the marker, if there is one that is not before the
-- prefix
abbrev pub start_of : Octets → Option Octets → Octets
start_of prefix None = prefix
start_of prefix (Some marker) = if is_upto prefix marker then past_key marker else prefix

-- a key under a prefix, without a byte of 255, as in any text of UTF-8
abbrev pub IsKeyUnder : Octets → Octets → Type 0
IsKeyUnder prefix key = (begins prefix key ≡ true) × AllByRecursion (λ b. b < 255) key

-- in the order of their keys
abbrev pub InOrder : {R : Type 0} → (R → Octets) → List R → Type 0
InOrder row_key [] = Unit {0}
InOrder row_key (r ∷ rows) = AllByRecursion (λ s. is_upto (row_key r) (row_key s) ≡ true) rows × InOrder row_key rows

-- the rows from this text on
abbrev pub rows_from : {R : Type 0} → (R → Octets) → Octets → List R → List R
rows_from row_key from rows = filter (λ r. is_upto from (row_key r)) rows

pub record Gathered (T : Type 0) : Type 0 where
  -- the key of the row before, if there was one
  pub key : Option Octets
  -- the grouped name that was listed last, if nothing was listed since
  pub name : Option Octets
  pub entries : List (Listed T)

-- ---- how a page relates to its listing

module _ {T : Type 0} where
  -- it isn't full, and its entries are those of the listing up to what is still to come
  pub record IsBeginning (max : ℕ) (shown to_come listing : List (Listed T)) : Type 0 where
    pub room : length shown ≤ max
    pub whole : shown ++ to_come ≡ listing

  -- it is full, and has one more entry, if there is one
  abbrev pub IsPage : ℕ → List (Listed T) → List (Listed T) → Type 0
  IsPage max shown listing = shown ≡ take (suc max) listing

-- ---- what is gathered, row by row

module _ {T : Type 0} where
  -- no entries, after a row of this key
  abbrev pub nothing_after : Option Octets → Gathered T
  nothing_after key = record { key = key; name = None; entries = [] }

  abbrev pub nothing_gathered : Gathered T
  nothing_gathered = nothing_after None

  -- with one more entry
  abbrev pub with_entry : Gathered T → Listed T → Gathered T
  with_entry g (Single x) = record g { name = None; entries = g.entries ++ Single x ∷ [] }
  with_entry g (Common name) = if is_name name g.name then g else record g { name = Some name; entries = g.entries ++ Common name ∷ [] }

  -- an item in front of others, if there is one
  abbrev pub in_front : Option T → List T → List T
  in_front None items = items
  in_front (Some x) items = x ∷ items

  module _ {R : Type 0} (row_key : R → Octets) (item : R → Option T) where
    -- the items of rows, after a row of this key
    abbrev pub items_after : Option Octets → List R → List T
    items_after key [] = []
    items_after key (r ∷ rows) =
        if is_name (row_key r) key then items_after key rows else in_front (item r) (items_after (Some (row_key r)) rows)

    module _ (prefix delimiter : Octets) (item_key : T → Octets) (passes : Listed T → Bool) where
      abbrev pub with_item : Gathered T → Option T → Gathered T
      with_item g None = g
      with_item g (Some x) =
          if passes (entry_of prefix delimiter item_key x) then with_entry g (entry_of prefix delimiter item_key x) else g

      -- one more row
      abbrev pub with_row : Gathered T → R → Gathered T
      with_row g r = if is_name (row_key r) g.key then g else with_item (record g { key = Some (row_key r) }) (item r)

      -- the entries that are still to come of these rows
      abbrev pub to_come : Gathered T → List R → List (Listed T)
      to_come g rows = merged g.name (filter passes (map (entry_of prefix delimiter item_key) (items_after g.key rows)))

      -- more rows, until the page is full
      abbrev pub with_rows : ℕ → Gathered T → List R → Gathered T
      with_rows max g [] = g
      with_rows max g (r ∷ rows) = if nat_lt max (length g.entries) then g else with_rows max (with_row g r) rows

      -- the position at which to read on after a row of this key: past its grouped name, if that is
      -- listed or not let through, or past the key
      abbrev pub place_past : Gathered T → Octets → Option Octets → Octets
      place_past g key None = past_key key
      place_past g key (Some name) = if is_name name g.name || not (passes (Common name)) then past_name name else past_key key

      abbrev pub place_after : Gathered T → Octets → Octets
      place_after g key = place_past g key (rolled prefix delimiter key)
