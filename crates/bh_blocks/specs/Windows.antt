-- The bytes in a window, and the bytes of references.
use Rattle.std.specs.Prelude.{◌≡◌, List, take, drop, length}
use Rattle.bh_tables.specs.Schema.{Octets}
use Rattle.bh_tables.specs.Typed.{BlockRow, RefRow}
use Rattle.bh_tables.specs.Bodies.{ref_name, block_at}
use Rattle.bh_blocks.specs.declared.reading.Window.{Window}

abbrev pub seen_in : Window → Octets → Octets
seen_in window bytes = take window.left (drop window.skip bytes)

-- the bytes of the block that a reference names
abbrev pub piece_of : List BlockRow → RefRow → Octets
piece_of blocks r = block_at blocks (ref_name r)

-- it has the size of the block that it names
abbrev pub IsMeasured : List BlockRow → RefRow → Type 0
IsMeasured blocks r = r.size ≡ length (block_at blocks (ref_name r))
