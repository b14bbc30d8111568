-- The checks of blocks, of the counts of references to each, and of a body's bytes.
use Rattle.std.specs.Prelude.{◌≡◌, ℕ, List, filter}
use Rattle.std.specs.List.{AllZip, flat_map}
use Rattle.sqlite.specs.Order.{Row, column}
use Rattle.sqlite_typed.specs.Columns.{bytes_of}
use Rattle.sqlite_typed.specs.Tests.{bytes_eq}
use Rattle.bh_rows.specs.Form.{typed}
use Rattle.bh_types.specs.Checksums.{checksum_text}
use Rattle.bh_tables.specs.Schema.{Octets}
use Rattle.bh_tables.specs.Typed.{block_form}
use Rattle.bh_tables.specs.Bodies.{Name, same_name, block_at}
use Rattle.bh_view.specs.Grouped.{HasUnique}
use Rattle.bh_check.specs.Holds.{first_two, part_body, ref_block, number_at}

-- the bytes of a block
abbrev pub block_octets : Row → Octets
block_octets r = bytes_of (column r 3)

-- its digest is that of its bytes
abbrev pub HasDigest : (Octets → Octets) → Row → Type 0
HasDigest digest r = bytes_of (column r 1) ≡ digest (block_octets r)

-- no two blocks have equal bytes
abbrev pub AreOnce : List Row → Type 0
AreOnce blocks = HasUnique bytes_eq block_octets blocks

-- no two have the same name
abbrev pub AreNamed : List Row → Type 0
AreNamed blocks = HasUnique same_name first_two blocks

-- a row names a block, and has the number of its references
pub record IsUseOf (of : Name → ℕ) (used block : Row) : Type 0 where
  pub digest : bytes_of (column used 1) ≡ bytes_of (column block 1)
  pub ord : number_at 2 used ≡ number_at 2 block
  pub count : number_at 3 used ≡ of (first_two block)

-- one for each block, in the order of the blocks
abbrev pub AreUses : (Name → ℕ) → List Row → List Row → Type 0
AreUses of uses blocks = AllZip (IsUseOf of) uses blocks

-- the references of a body, in the order in which they are stored
abbrev pub refs_of : List Row → Name → List Row
refs_of refs q = filter (λ r. same_name (first_two r) q) refs

-- the bytes of references' blocks, one after the other
abbrev pub named_octets : List Row → List Row → Octets
named_octets blocks refs = flat_map (λ r. block_at (typed block_form blocks) (ref_block r)) refs

-- the checksum of a part is that of its body's bytes
abbrev pub HasChecksum : List Row → List Row → Row → Type 0
HasChecksum refs blocks r = bytes_of (column r 5) ≡ checksum_text (named_octets blocks (refs_of refs (part_body r)))
