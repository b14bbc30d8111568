use Rattle.std.proofs.Common.{IsTrue, take}
use Rattle.std.specs.List.{AllByRecursion}
use Rattle.sqlite.specs.Tree.{Trees}
use Rattle.bh_check.specs.Blocks.{AreNamed, HasChecksum}
use Rattle.bh_check.specs.Filled.{ReadsPacks}
use Rattle.bh_check.specs.Holds.{AreBodyTotals}
use Rattle.bh_check.specs.Looked.{AreReadOf, AreShown}
use Rattle.bh_check.proofs.checksums.first_missummed.Given as goal

-- each part so far has it
abbrev pub invariant-loop-part : goal.invariant-loop-part
invariant-loop-part g l = ReadsPacks g.P.Shelf l.fn.packs l.packs
    × (IsTrue (g.P.Shelf.is_clean l.packs) → (d : Trees) → AreReadOf d l.stored → AreShown (g.P.Shelf.seen l.fn.packs) l.stored l.known l.stored.blocks.items (d 10)
    → AreBodyTotals d l.totals.bodies → AreNamed (d 10) → AllByRecursion (HasChecksum (d 12) (d 10)) (take l.part-index l.stored.parts.items))
