use Rattle.std.proofs.Common.{◌≡◌, ◌++◌, List, IsTrue, length}
use Rattle.sqlite.specs.Order.{Row}
use Rattle.bh_rows.specs.Form.{typed}
use Rattle.bh_tables.specs.Rows.{pack_form, place_form}
use Rattle.bh_check.specs.Blocks.{AreNamed}
use Rattle.bh_check.specs.Filled.{ReadsPacks, AreKnown}
use Rattle.bh_check.specs.Looked.{AreLookedAt}
use Rattle.bh_check.proofs.looked.look.Given as goal

-- the blocks before the rest were looked at
abbrev pub invariant-groups : goal.invariant-groups
invariant-groups g l = ReadsPacks g.P.Shelf l.fn.packs l.packs
    × (IsTrue (g.P.Shelf.is_clean l.packs) → AreKnown l.stored.places.items l.known → AreNamed l.stored.places.items
    → (done : List Row) × (done ++ l.rest ≡ l.stored.blocks.items)
    × AreLookedAt (typed pack_form l.stored.packs.items) (g.P.Shelf.seen l.fn.packs) (typed place_form l.stored.places.items) g.D.Digester.digest_of done l.looked)

abbrev pub decreases-groups : goal.decreases-groups
decreases-groups g l = length l.rest
