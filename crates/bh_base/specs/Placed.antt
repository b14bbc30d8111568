-- Blocks whose bytes are in packs: a database with these bytes put in.
use Rattle.std.specs.Prelude.{ℕ, ◌+◌, ◌==◌, if◌then◌else◌, List, [], ◌∷◌, map, length, Option, Some, None}
use Rattle.sqlite.specs.declared.types.Value.TheVariants.{Blob}
use Rattle.sqlite.specs.Order.{Row}
use Rattle.sqlite.specs.Effect.{Database}
use Rattle.sqlite.specs.Tree.{Trees}
use Rattle.sqlite_trees.specs.Tree.{with_tree}
use Rattle.bh_rows.specs.Form.{AreRows}
use Rattle.bh_shelf.specs.Contents.{Contents}
use Rattle.bh_tables.specs.Schema.{Octets}
use Rattle.bh_tables.specs.Bodies.{block_name}
use Rattle.bh_tables.specs.Rows.{BlockRow, block_of, block_form, PlaceRow, PackRow}
use Rattle.bh_tables.specs.Packs.{place_at, places_in, packs_in, is_reached}

-- ---- the bytes of a place

-- these bytes, if there are so many
abbrev pub sized : ℕ → Option Octets → Option Octets
sized size None = None
sized size (Some bytes) = if size == length bytes then Some bytes else None

-- what packs have below the lengths that their rows say: past these, bytes are nobody's
unfoldable pub below : List PackRow → Contents → Contents
below rows packs pack offset size = if is_reached rows pack (offset + size) then sized size (packs pack offset size) else None

-- ---- bytes put in

-- a block's row that has no bytes, with these; any other is no block's row then
abbrev pub with_blob : Octets → Row → Row
with_blob bytes (id ∷ digest ∷ ord ∷ Blob [] ∷ []) = id ∷ digest ∷ ord ∷ Blob bytes ∷ []
with_blob bytes row = []

-- with the bytes of its place; if the pack hasn't got them, it is no block's row
abbrev pub put_bytes : Option Octets → Row → Row
put_bytes None row = []
put_bytes (Some bytes) row = with_blob bytes row

-- a row without a place has its own bytes
abbrev pub put_in : Contents → Option PlaceRow → Row → Row
put_in packs None row = row
put_in packs (Some p) row = put_bytes (packs p.pack p.offset p.size) row

-- a row with the bytes of its block's place, of these
abbrev pub filled_row : Contents → List PlaceRow → Row → Row
filled_row packs places row = put_in packs (place_at places (block_name (block_of row))) row

-- the trees as if all bytes stood in the rows of blocks
unfoldable pub filled_trees : Contents → Trees → Trees
filled_trees packs trees = with_tree trees 10 (map (filled_row (below (packs_in trees) packs) (places_in trees)) (trees 10))

-- a database with these
abbrev pub filled : Contents → Database → Database
filled packs db = record { schema = db.schema; trees = filled_trees packs db.trees }

-- each place has its bytes
abbrev pub IsWhole : Database → Type 0
IsWhole db = AreRows block_form (db.trees 10)

-- ---- blocks

-- a block with such bytes; a block without a place has its own
abbrev pub with_bytes : Option Octets → BlockRow → BlockRow
with_bytes None b = b
with_bytes (Some bytes) b = record b { bytes = bytes }

abbrev pub with_place : Contents → Option PlaceRow → BlockRow → BlockRow
with_place packs None b = b
with_place packs (Some p) b = with_bytes (packs p.pack p.offset p.size) b

-- a block with the bytes of its place, of these
abbrev pub filled_block : Contents → List PlaceRow → BlockRow → BlockRow
filled_block packs places b = with_place packs (place_at places (block_name b)) b

abbrev pub filled_blocks : Contents → List PlaceRow → List BlockRow → List BlockRow
filled_blocks packs places = map (filled_block packs places)
