-- Places between rows that are ordered by key, and, within a key, by number.
use Rattle.std.specs.Prelude.{◌≡◌, ℕ, nat_lt, Bool, true, ◌&&◌, List, [], ◌∷◌, length, map, Option, Some, None, option_map, if◌then◌else◌}
use Rattle.std.specs.List.{filter, AllByRecursion}
use Rattle.std.specs.Ordering.{is_lt, ordering_then}
use Rattle.std.specs.declared.cmp.Ordering.{Ordering}
use Rattle.bh_model.specs.State.{Octets, octets_cmp}
use Rattle.bh_model.specs.Pages.{Listed, begins, is_upto, same, merged, entry_of}
use Rattle.bh_pages.specs.Gathered.{Gathered, with_entry, past_key, past_name}

-- a key and a number of it
abbrev pub Spot : Type 0
Spot = Octets × ℕ

-- from a key on, or after one of its numbers
pub record Place : Type 0 where
  pub key : Octets
  pub after : Option ℕ

abbrev pub at_key : Octets → Place
at_key key = record { key = key; after = None }

abbrev pub after_entry : Octets → ℕ → Place
after_entry key n = record { key = key; after = Some n }

-- a row of a grouped name is followed by the keys after that name
abbrev pub past_row : Octets → ℕ → Option Octets → Place
past_row key n None = after_entry key n
past_row key n (Some name) = at_key (past_name name)

-- after fewer rows than requested, later rows of a key are followed by the keys after it, and keys
-- by nothing
abbrev pub past_few : Place → Option Place
past_few place = option_map (λ _. at_key (past_key place.key)) place.after

-- no earlier than the prefix, or after an entry of a key under it
abbrev pub IsUnder : Octets → Octets → Option ℕ → Type 0
IsUnder prefix key None = is_upto prefix key ≡ true
IsUnder prefix key (Some n) = begins prefix key ≡ true

module _ (by_number : ℕ → ℕ → Ordering) where
  abbrev pub spot_order : Spot → Spot → Ordering
  spot_order a b = ordering_then (octets_cmp a.0 b.0) (by_number a.1 b.1)

  abbrev pub precedes : Spot → Spot → Bool
  precedes a b = is_lt (spot_order a b)

  abbrev pub follows : Octets → Option ℕ → Spot → Bool
  follows key None s = is_upto key s.0
  follows key (Some n) s = precedes (key, n) s

  module _ {R : Type 0} (row_key : R → Octets) (number : R → ℕ) where
    abbrev pub spot : R → Spot
    spot r = (row_key r, number r)

    abbrev pub is_from : Place → R → Bool
    is_from place r = follows place.key place.after (spot r)

    -- of this key, after this number
    abbrev pub is_behind : Octets → ℕ → R → Bool
    is_behind key n r = same (row_key r) key && is_lt (by_number n (number r))

    -- the rows at a place: of a key those after a number, or all from a key on
    abbrev pub rows_at : Octets → Option ℕ → List R → List R
    rows_at key None rows = filter (is_from (at_key key)) rows
    rows_at key (Some n) rows = filter (is_behind key n) rows

    -- each row precedes those that follow it
    abbrev pub IsStrict : List R → Type 0
    IsStrict [] = Unit {0}
    IsStrict (r ∷ rows) = AllByRecursion (λ s. precedes (spot r) (spot s) ≡ true) rows × IsStrict rows

-- ---- the entries gathered of items, each of which determines its entry alone

module _ {T : Type 0} (item_key : T → Octets) (prefix delimiter : Octets) (passes : Listed T → Bool) where
  abbrev pub with_passing : Gathered T → Listed T → Gathered T
  with_passing g e = if passes e then with_entry g e else g

  -- one more item
  abbrev pub with_next : Gathered T → T → Gathered T
  with_next g x = with_passing (record g { key = Some (item_key x) }) (entry_of prefix delimiter item_key x)

  -- more items, until the page is full
  abbrev pub with_items : ℕ → Gathered T → List T → Gathered T
  with_items max g [] = g
  with_items max g (x ∷ items) = if nat_lt max (length g.entries) then g else with_items max (with_next g x) items

  -- the entries that are still to come of these items
  abbrev pub left_of : Gathered T → List T → List (Listed T)
  left_of g items = merged g.name (filter passes (map (entry_of prefix delimiter item_key) items))
