use Rattle.std.proofs.Common.{◌≤◌, length}
use Rattle.bh_base.specs.Connections.{IsClean, InMidst, Rewrites, StaysWithin, StaysOpen, places}
use Rattle.bh_compaction.specs.Moves.{Moves}
use Rattle.bh_compaction.proofs.moving.move_rows.Given as goal

-- so many blocks of the rows so far have other places
abbrev pub invariant-loop-row : goal.invariant-loop-row
invariant-loop-row g l = record {
  within : StaysWithin g.S.Store g.P.Shelf l.fn.connection l.connection;
  opens : StaysOpen g.S.Store g.P.Shelf l.fn.connection l.connection;
  midst : InMidst g.S.Store g.P.Shelf l.connection;
  turned : Rewrites g.S.Store g.P.Shelf l.fn.connection l.connection (λ s. s) (λ t. t);
  few : l.count ≤ l.row-index;
  most : l.count ≤ length l.fn.rows;
  moved : IsClean g.S.Store g.P.Shelf l.connection → Moves l.fn.pack l.count (places g.S.Store g.P.Shelf l.fn.connection) (places g.S.Store g.P.Shelf l.connection);
}
