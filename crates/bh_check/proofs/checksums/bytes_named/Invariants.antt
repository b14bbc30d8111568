use Rattle.std.proofs.Common.{◌≡◌, List, IsTrue, take}
use Rattle.sqlite.specs.Order.{Row}
use Rattle.bh_check.specs.Blocks.{AreNamed, named_octets}
use Rattle.bh_check.specs.Filled.{ReadsPacks}
use Rattle.bh_check.specs.Looked.{AreShown}
use Rattle.bh_check.proofs.checksums.bytes_named.Given as goal

-- of the references so far
abbrev pub invariant-loop-row : goal.invariant-loop-row
invariant-loop-row g l = ReadsPacks g.P.Shelf l.fn.packs l.packs
    × (IsTrue (g.P.Shelf.is_clean l.packs) → (shown : List Row) → AreShown (g.P.Shelf.seen l.fn.packs) l.stored l.known l.stored.blocks.items shown → AreNamed shown
    → l.bytes.items ≡ named_octets shown (take l.row-index l.fn.refs))
