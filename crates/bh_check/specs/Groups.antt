-- Eight blocks that are hashed side by side.
use Rattle.std.specs.Prelude.{ℕ, List, nat_eq, if◌then◌else◌, length, replicate}
use Rattle.std.specs.List.{flat_map}
use Rattle.sqlite.specs.Order.{Row}
use Rattle.bh_tables.specs.Schema.{Octets}
use Rattle.bh_check.specs.Blocks.{block_octets}

-- bytes of this size, or as many zeros
abbrev pub lane : ℕ → Octets → Octets
lane size bytes = if nat_eq (length bytes) size then bytes else replicate size 0

-- those of blocks, one after another
abbrev pub lanes : ℕ → List Row → Octets
lanes size blocks = flat_map (λ r. lane size (block_octets r)) blocks
