use Rattle.std.proofs.Common.{◌≡◌}
use Rattle.bh_packs.specs.Packs.{Keeps, KeepsHolds}
use Rattle.bh_packs.proofs.packs.Packs.reach.Given as goal

abbrev pub invariant-loop-reached : goal.invariant-loop-reached
invariant-loop-reached g l = record {
  keeps : Keeps g.D.Disk l.fn.self l.self;
  holds : KeepsHolds l.fn.self l.self;
  removed : l.self.removed ≡ l.fn.self.removed;
}
