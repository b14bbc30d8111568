use Rattle.std.proofs.Common.{◌≡◌, take}
use Rattle.bh_base.specs.Connections.{IsClean, InMidst, Rewrites, StaysWithin, StaysOpen, places}
use Rattle.bh_base.specs.Removal.{AreUnnamed}
use Rattle.bh_base.proofs.removal.free_packs.Given as goal

-- no place is in the packs that went so far
abbrev pub invariant-loop-row : goal.invariant-loop-row
invariant-loop-row g l = record {
  within : StaysWithin g.S.Store g.P.Shelf l.fn.connection l.connection;
  opens : StaysOpen g.S.Store g.P.Shelf l.fn.connection l.connection;
  midst : InMidst g.S.Store g.P.Shelf l.connection;
  turned : Rewrites g.S.Store g.P.Shelf l.fn.connection l.connection (λ s. s) (λ t. t);
  placed : IsClean g.S.Store g.P.Shelf l.connection → places g.S.Store g.P.Shelf l.connection ≡ places g.S.Store g.P.Shelf l.fn.connection;
  unnamed : IsClean g.S.Store g.P.Shelf l.connection → AreUnnamed g.S.Store g.P.Shelf l.connection (take l.row-index l.fn.rows);
}
