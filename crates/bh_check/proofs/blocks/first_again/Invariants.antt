use Rattle.std.proofs.Common.{List, IsTrue, take}
use Rattle.std.specs.List.{AllByRecursion}
use Rattle.sqlite.specs.Order.{Row}
use Rattle.bh_tables.specs.Schema.{Octets}
use Rattle.bh_check.specs.Blocks.{HasDigest, AreOnce}
use Rattle.bh_check.specs.Filled.{ReadsPacks}
use Rattle.bh_check.specs.Holds.{owner, one}
use Rattle.bh_check.specs.Looked.{AreShown}
use Rattle.bh_check.specs.Sums.{Keeps, total}
use Rattle.bh_check.proofs.blocks.first_again.Given as goal

-- how many of those so far have a digest; no two of them hold equal bytes
abbrev pub invariant-loop-at : goal.invariant-loop-at
invariant-loop-at g l = record {
  reads : ReadsPacks g.P.Shelf l.fn.packs l.packs;
  counted : Keeps (total owner one (take l.at l.blocks)) l.digests;
  once : IsTrue (g.P.Shelf.is_clean l.packs) → (shown : List Row) → AreShown (g.P.Shelf.seen l.fn.packs) l.stored l.known l.blocks shown
      → (digest : Octets → Octets) → AllByRecursion (HasDigest digest) shown → AreOnce (take l.at shown);
}
