use Rattle.std.proofs.Common.{◌≡◌, ℕ, List}
use Rattle.bh_packs.specs.Packs.{pack_at, IsSettledIn}
use Rattle.bh_packs.proofs.packs.Packs.crash.Given as goal

abbrev pub invariant-loop-number : goal.invariant-loop-number
invariant-loop-number g l = record {
  settled : (n at : ℕ) (bytes : List ℕ) → IsSettledIn g.D.Disk (pack_at l.fn.self n) at bytes
      → IsSettledIn g.D.Disk (pack_at l.self n) at bytes;
  removed : l.self.removed ≡ l.fn.self.removed;
}
