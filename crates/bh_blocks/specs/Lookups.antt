-- What the blocks of a digest imply about some bytes.
use Rattle.std.specs.Prelude.{◌≡◌, ℕ, ◌<◌, ◌^◌, List, [], filter, Option, Some, None, option_map}
use Rattle.bh_tables.specs.Schema.{Octets}
use Rattle.bh_tables.specs.Typed.{BlockRow}
use Rattle.bh_tables.specs.Shown.{has_digest}
use Rattle.bh_view.specs.Blocks.{copy_in}
use Rattle.bh_blocks.specs.declared.blocks.Lookup.{Lookup}
use Rattle.bh_blocks.specs.declared.blocks.Lookup.TheVariants.{Held, Clashing, Absent}

-- the ordinal of the block with these bytes, if there is one
abbrev pub ord_of_copy : Octets → Octets → List BlockRow → Option ℕ
ord_of_copy digest bytes blocks = option_map (λ (b : BlockRow). b.ord) (copy_in digest bytes blocks)

-- whether a block of this digest has these bytes, and whether there is one with the digest
abbrev pub Tells : Octets → Octets → List BlockRow → Lookup → Type 0
Tells digest bytes blocks (Held ord) = Some ord ≡ ord_of_copy digest bytes blocks
Tells digest bytes blocks Clashing = None ≡ ord_of_copy digest bytes blocks
Tells digest bytes blocks Absent = filter (has_digest digest) blocks ≡ []

-- its ordinal fits in a column
abbrev pub IsSmall : Lookup → Type 0
IsSmall (Held ord) = ord < 2 ^ 63
IsSmall Clashing = Unit {0}
IsSmall Absent = Unit {0}
