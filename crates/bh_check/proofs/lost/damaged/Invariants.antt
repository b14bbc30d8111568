use Rattle.std.proofs.Common.{IsTrue, take}
use Rattle.bh_rows.specs.Form.{typed}
use Rattle.bh_tables.specs.Rows.{pack_form, place_form}
use Rattle.bh_check.specs.Blocks.{AreNamed}
use Rattle.bh_check.specs.Filled.{ReadsPacks, AreKnown}
use Rattle.bh_check.specs.Lost.{IsReadable, CountsDamaged}
use Rattle.bh_check.proofs.lost.damaged.Given as goal

-- of the blocks so far
abbrev pub invariant-loop-block : goal.invariant-loop-block
invariant-loop-block g l = ReadsPacks g.P.Shelf l.fn.packs l.packs
    × (IsTrue (g.P.Shelf.is_clean l.packs) → AreKnown l.stored.places.items l.known → AreNamed l.stored.places.items
    → CountsDamaged (IsReadable (typed pack_form l.stored.packs.items) (g.P.Shelf.seen l.fn.packs) (typed place_form l.stored.places.items) g.D.Digester.digest_of)
    (take l.block-index l.stored.blocks.items) l.counts)
