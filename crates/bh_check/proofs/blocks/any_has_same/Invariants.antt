use Rattle.std.proofs.Common.{◌≡◌, List, false, IsTrue, take}
use Rattle.std.specs.List.{AllByRecursion, list_any}
use Rattle.sqlite.specs.Order.{Row}
use Rattle.sqlite_typed.specs.Tests.{bytes_eq}
use Rattle.bh_tables.specs.Schema.{Octets}
use Rattle.bh_check.specs.Blocks.{block_octets, HasDigest}
use Rattle.bh_check.specs.Filled.{ReadsPacks}
use Rattle.bh_check.specs.Looked.{AreShown}
use Rattle.bh_check.proofs.blocks.any_has_same.Given as goal

-- none of those so far has them
abbrev pub invariant-loop-block : goal.invariant-loop-block
invariant-loop-block g l = ReadsPacks g.P.Shelf l.fn.packs l.packs
    × (IsTrue (g.P.Shelf.is_clean l.packs) → (shown : List Row) → AreShown (g.P.Shelf.seen l.fn.packs) l.stored l.known l.fn.blocks shown
    → (digest : Octets → Octets) → AllByRecursion (HasDigest digest) shown → HasDigest digest l.row
    → list_any (λ r. bytes_eq (block_octets r) (block_octets l.row)) (take l.block-index shown) ≡ false)
