use Rattle.std.proofs.Common.{◌≡◌, List, map, drop}
use Rattle.bh_view.specs.Bodies.{HasBodies}
use Rattle.bh_base.specs.Connections.{IsClean, tables, InTransaction, StaysWithin, StaysOpen, ChangesNothing}
use Rattle.bh_tenant_rows.specs.Brought.{IsNext}
use Rattle.bh_moved.specs.Owned.{RowIn, shown_row, IfBodied, row_added}
use Rattle.bh_moved.specs.Rows.{all_added}
use Rattle.bh_moved.proofs.tables.bring_each.Given as goal

-- what is added so far, and then the rest, is all; tenants stay
abbrev pub invariant-loop-row : goal.invariant-loop-row
invariant-loop-row g l = record {
  reads : StaysWithin g.S.Store g.P.Shelf l.fn.from l.from;
  read : StaysOpen g.S.Store g.P.Shelf l.fn.from l.from;
  same : ChangesNothing g.S.Store g.P.Shelf l.fn.from l.from;
  within : StaysWithin g.T.Store g.Q.Shelf l.fn.to l.to;
  opens : StaysOpen g.T.Store g.Q.Shelf l.fn.to l.to;
  inside : InTransaction g.T.Store g.Q.Shelf l.to;
  added : IsClean g.S.Store g.P.Shelf l.from → IsClean g.T.Store g.Q.Shelf l.to → (rs : List (RowIn l.table)) → l.fn.rows ≡ map (shown_row l.table) rs → IfBodied l.table (HasBodies (tables g.S.Store g.P.Shelf l.fn.from)
      × IsNext l.moving.tenant.now l.moving.numbers.next_entry (tables g.T.Store g.Q.Shelf l.fn.to))
      → let add = row_added g.D.Digester.digest_of l.moving.block_size l.moving.tenant.now (tables g.S.Store g.P.Shelf l.fn.from) l.table in
      ((tables g.T.Store g.Q.Shelf l.to).tenants ≡ (tables g.T.Store g.Q.Shelf l.fn.to).tenants) × (all_added add (drop l.row-index rs) (tables g.T.Store g.Q.Shelf l.to) ≡ all_added add rs (tables g.T.Store g.Q.Shelf l.fn.to));
}
