use Rattle.std.proofs.Common.{◌≡◌, ◌<◌, ℕ, List}
use Rattle.bh_packs.specs.Packs.{pack_at, IsWrittenIn, IsSettledIn, Keeps, KeepsHolds}
use Rattle.bh_packs.proofs.packs.Packs.sync.Given as goal

abbrev pub invariant-loop-number : goal.invariant-loop-number
invariant-loop-number g l = record {
  keeps : Keeps g.D.Disk l.fn.self l.self;
  holds : KeepsHolds l.fn.self l.self;
  removed : l.self.removed ≡ l.fn.self.removed;
  done : (n : ℕ) → n < l.number → (at : ℕ) (bytes : List ℕ) → IsWrittenIn g.D.Disk (pack_at l.fn.self n) at bytes
      → IsSettledIn g.D.Disk (pack_at l.self n) at bytes;
}
