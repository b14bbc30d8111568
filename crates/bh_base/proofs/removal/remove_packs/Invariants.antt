use Rattle.std.proofs.Common.{◌≡◌}
use Rattle.bh_base.specs.Connections.{IsClean, StaysWithin, stands}
use Rattle.bh_base.proofs.removal.remove_packs.Given as goal

abbrev pub invariant-loop-row : goal.invariant-loop-row
invariant-loop-row g l = record {
  within : StaysWithin g.S.Store g.P.Shelf l.fn.connection l.connection;
  same : IsClean g.S.Store g.P.Shelf l.connection → stands g.S.Store g.P.Shelf l.connection ≡ stands g.S.Store g.P.Shelf l.fn.connection;
  still : l.connection.database ≡ l.fn.connection.database;
}
