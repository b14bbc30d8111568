-- The places of blocks in packs, as rows and as bh_packs has them.
use Rattle.std.specs.Prelude.{◌≡◌, ℕ, ◌+◌, ◌≤◌, true, List, [], length, Option, Some, None}
use Rattle.std.specs.Int.{w64, cast_signed, cast_unsigned}
use Rattle.sqlite_keyed.specs.Lists.{update_where}
use Rattle.sqlite_rules.specs.Lists.{Has}
use Rattle.sqlite_trees.specs.declared.store.Store.{Ghosts}
use Rattle.bh_packs.specs.declared.place.Place.{Place}
use Rattle.bh_shelf.specs.declared.shelf.Shelf.{Ghosts as Shelves}
use Rattle.bh_tables.specs.Schema.{Octets}
use Rattle.bh_tables.specs.Rows.{BlockRow, PlaceRow, PackRow}
use Rattle.bh_tables.specs.Packs.{is_pack, is_reached}
use Rattle.bh_tables.specs.Shown.{Name, block_name, is_block}
use Rattle.bh_tables.specs.Typed.{Totals, tables_in, rebodied}
use Rattle.bh_base.specs.Layer.{Standing, IsInsideBy, HoldsBy}
use Rattle.bh_base.specs.declared.connection.Connection.{Connection}
use Rattle.bh_base.specs.Connections.{tables, places, packs, rows_of_blocks, contents, HasAt}

-- the row of a block's place
abbrev pub row_of_place : Name → Place → PlaceRow
row_of_place q place = record {
  digest = q.0;
  ord = q.1;
  pack = place.pack;
  offset = place.offset;
  size = place.size;
  sum = cast_signed w64 place.sum;
}

-- a place that a row has
pub record IsPlaceOf (p : PlaceRow) (place : Place) : Type 0 where
  pub pack : place.pack ≡ p.pack
  pub offset : place.offset ≡ p.offset
  pub size : place.size ≡ p.size
  pub sum : place.sum ≡ cast_unsigned w64 p.sum

-- a place that was found, or none
abbrev pub IsFound : Option PlaceRow → Option Place → Type 0
IsFound None None = Unit {0}
IsFound None (Some place) = ⊥
IsFound (Some p) None = ⊥
IsFound (Some p) (Some place) = IsPlaceOf p place

-- the blocks of this name are others, of the same name, and else all tables are as they were
pub record ChangesBlock (q : Name) (old new : Standing) : Type 0 where
  pub change : BlockRow → BlockRow
  pub named : (b : BlockRow) → block_name (change b) ≡ block_name b
  pub holds : (sums : Totals) → IsInsideBy sums old → HoldsBy sums (rebodied (tables_in old.now) (tables_in old.now).refs
      (update_where (is_block q) change (tables_in old.now).blocks)) new

-- a pack with another length, and with so much of it named
abbrev pub measured_as : ℕ → ℕ → PackRow → PackRow
measured_as length live p = record p { length = length; live = live }

module _ {S P : Type 0} (g : Ghosts S) (h : Shelves P) where
  -- a block's place may be added: its bytes are there, below the length that its pack's row says, and it has none of its own
  pub record MayPlace (c : Connection S P) (q : Name) (place : Place) : Type 0 where
    pub bytes : Octets
    pub there : HasAt g h c place bytes
    pub size : place.size ≡ length bytes
    pub reached : is_reached (packs g h c) place.pack (place.offset + place.size) ≡ true
    pub empty : (b : BlockRow) → Has (tables g h c).blocks b → is_block q b ≡ true → b.bytes ≡ []

  -- a place has bytes, and so many
  pub record IsThere (c : Connection S P) (place : Place) : Type 0 where
    pub bytes : Octets
    pub there : HasAt g h c place bytes
    pub size : place.size ≡ length bytes

  -- no row of this pack says that it is longer
  abbrev pub IsLongest : Connection S P → ℕ → ℕ → Type 0
  IsLongest c pack length = (p : PackRow) → Has (packs g h c) p → is_pack pack p ≡ true → p.length ≤ length

  module _ (old new : Connection S P) where
    -- rows of places, of packs and of blocks are as they are stored, and may name what they might
    pub record KeepsRows : Type 0 where
      pub places : places g h new ≡ places g h old
      pub packs : packs g h new ≡ packs g h old
      pub blocks : rows_of_blocks g h new ≡ rows_of_blocks g h old
      pub contents : contents g h new ≡ contents g h old

    -- rows of places and of packs
    pub record KeepsPlaces : Type 0 where
      pub places : places g h new ≡ places g h old
      pub packs : packs g h new ≡ packs g h old
      pub contents : contents g h new ≡ contents g h old

    -- there are these places, and else all is as it was
    pub record SetsPlaces (after : List PlaceRow) : Type 0 where
      pub places : places g h new ≡ after
      pub packs : packs g h new ≡ packs g h old
      pub contents : contents g h new ≡ contents g h old

    -- there are these packs
    pub record SetsPacks (after : List PackRow) : Type 0 where
      pub packs : packs g h new ≡ after
      pub places : places g h new ≡ places g h old
      pub contents : contents g h new ≡ contents g h old

    -- a pack's row says that it reaches to the end of this place
    pub record NotesPlace (place : Place) : Type 0 where
      pub reached : is_reached (packs g h new) place.pack (place.offset + place.size) ≡ true
      pub places : places g h new ≡ places g h old
      pub contents : contents g h new ≡ contents g h old
