-- A connection to a host, in the layer's terms: the state of its database with the bytes of its packs, and a call's effect on it.
use Rattle.std.specs.Prelude.{◌≡◌, ℕ, true, List, Some, None, IsTrue}
use Rattle.sqlite.specs.Held.{state as database_state}
use Rattle.sqlite.specs.State.{State}
use Rattle.sqlite.specs.declared.error.Error.{Error}
use Rattle.sqlite_trees.specs.declared.store.Store.{Ghosts}
use Rattle.bh_shelf.specs.declared.shelf.Shelf.{Ghosts as Shelves}
use Rattle.bh_base.specs.declared.connection.Connection.{Connection}
use Rattle.bh_shelf.specs.declared.no_shelf.NoShelf.{NoShelf}
use Rattle.bh_packs.specs.declared.place.Place.{Place}
use Rattle.bh_shelf.specs.Contents.{Contents, Within, nothing, HasNothing}
use Rattle.bh_base.specs.Shown.{Backing, named, shown}
use Rattle.bh_rows.specs.Form.{typed}
use Rattle.bh_rows.specs.Means.{is_trouble}
use Rattle.bh_tables.specs.Schema.{Octets}
use Rattle.bh_tables.specs.Rows.{BlockRow, block_form, PlaceRow, PackRow}
use Rattle.bh_tables.specs.Packs.{places_in, packs_in}
use Rattle.bh_tables.specs.Typed.{Totals, totals_of, IsHost, Tables, tables_in}
use Rattle.bh_base.specs.Layer.{Standing, standing, IsInside, IsReadable, IsReadableBy, IsInsideBy, IsMidst, Holds, HoldsBy, StateWithin}
use Rattle.bh_base.specs.Layer as layer

-- what its packs have
abbrev pub backing : {P : Type 0} → Shelves P → P → Backing
backing h packs = record { seen = h.seen packs; stood = h.stood packs; kept = h.kept packs; is_clean = h.is_clean packs }

abbrev pub state : {S P : Type 0} → Ghosts S → Shelves P → Connection S P → State
state g h c = shown (backing h c.packs) (database_state g c.database)

-- all that they have stands
abbrev pub AreSynced : {P : Type 0} → Shelves P → P → Type 0
AreSynced h packs = IsTrue (h.is_clean packs) → Within (h.seen packs) (h.stood packs)

module _ {S P : Type 0} (g : Ghosts S) (h : Shelves P) where
  -- its files have returned what was written to them
  abbrev pub IsIntact : Connection S P → Type 0
  IsIntact c = layer.IsIntact (state g h c)

  -- no fault has shut it
  abbrev pub IsOpen : Connection S P → Type 0
  IsOpen c = layer.IsOpen (state g h c)

  -- both
  abbrev pub IsClean : Connection S P → Type 0
  IsClean c = layer.IsStateClean (state g h c)

  -- its state, and its tables if they are a host's
  abbrev pub stands : Connection S P → Standing
  stands c = standing (state g h c)

  abbrev pub tables : Connection S P → Tables
  tables c = tables_in (stands c).now

  -- its rows of places and of packs, and of blocks as they are stored
  abbrev pub places : Connection S P → List PlaceRow
  places c = places_in (database_state g c.database).now.trees

  abbrev pub packs : Connection S P → List PackRow
  packs c = packs_in (database_state g c.database).now.trees

  abbrev pub rows_of_blocks : Connection S P → List BlockRow
  rows_of_blocks c = typed block_form ((database_state g c.database).now.trees 10)

  -- what its rows may name
  abbrev pub contents : Connection S P → Contents
  contents c = named (backing h c.packs) (database_state g c.database).in_transaction

  -- these bytes are at a place
  abbrev pub HasAt : Connection S P → Place → Octets → Type 0
  HasAt c place bytes = contents c place.pack place.offset place.size ≡ Some bytes

  -- while it is clean, a transaction is open on a host's database
  abbrev pub InTransaction : Connection S P → Type 0
  InTransaction c = IsClean c → IsInside (stands c)

  -- while it is clean, it has a host's database, in a transaction or as it was committed
  abbrev pub CanRead : Connection S P → Type 0
  CanRead c = IsClean c → IsReadable (stands c)

  -- the same, but for sums over other rows
  abbrev pub CanReadBy : Connection S P → Type 0
  CanReadBy c = IsClean c → IsReadableBy (stands c)

  -- while it is clean, it has a host's database
  abbrev pub HasHost : Connection S P → Type 0
  HasHost c = IsClean c → IsHost (stands c).now

  -- while it is clean, a transaction is open, within a write
  abbrev pub InMidst : Connection S P → Type 0
  InMidst c = IsClean c → IsMidst (stands c)

  module _ (old new : Connection S P) where
    -- a call inside a transaction commits nothing
    abbrev pub StaysWithin : Type 0
    StaysWithin = StateWithin (state g h old) (state g h new)

    -- if it succeeds, the connection was open, and still is
    abbrev pub WasOpen : Type 0
    WasOpen = IsIntact new → IsOpen old × IsOpen new

    abbrev pub StaysOpen : Type 0
    StaysOpen = IsIntact new → IsOpen old → IsOpen new

    abbrev pub ChangesNothing : Type 0
    ChangesNothing = IsIntact new → stands new ≡ stands old

    -- a transaction is open, and this function of the old tables gives the new ones
    abbrev pub Becomes : (Tables → Tables) → Type 0
    Becomes change = IsClean new → Holds (change (tables old)) (stands new)

    -- within a write: this function gives the new sums over other rows, and that one the new tables
    abbrev pub Rewrites : (Totals → Totals) → (Tables → Tables) → Type 0
    Rewrites after change =
        IsClean new → (sums : Totals) → IsInsideBy sums (stands old) → HoldsBy (after sums) (change (tables old)) (stands new)

    -- from a transaction into a write: the same for the sums that the tables had
    abbrev pub Enters : (Totals → Totals) → (Tables → Tables) → Type 0
    Enters after change = IsClean new → HoldsBy (after (totals_of (tables old))) (change (tables old)) (stands new)

    -- if no limit on steps stops a statement, its error is a failure, or is so under a premise
    abbrev pub IsTrouble : Error → Type 0
    IsTrouble e = IsIntact new → (stands old).limit ≡ None → is_trouble e ≡ true

    abbrev pub IsTroubleIf : Type 0 → Error → Type 0
    IsTroubleIf premise e = IsIntact new → (stands old).limit ≡ None → premise → is_trouble e ≡ true

-- what no packs have
abbrev pub without_packs : Shelves NoShelf
without_packs = record {
  seen = λ _. nothing;
  stood = λ _. nothing;
  kept = λ _. nothing;
  may_leave = λ _ left. (pack : ℕ) → HasNothing left pack;
  ends = λ _ _. 0;
  holds = λ _ _. 0;
  is_clean = λ _. true;
}
