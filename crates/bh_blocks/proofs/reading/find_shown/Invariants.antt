use Rattle.std.proofs.Common.{◌≡◌, ◌<◌, ◌≤◌, ◌-◌, ◌^◌}
use Rattle.bh_base.specs.Connections.{state}
use Rattle.bh_view.specs.Bodies.{HasBodies}
use Rattle.bh_base.specs.Layer.{standing, IsIntact, IsOpen, IsStateClean, StateWithin}
use Rattle.bh_schema.specs.Working.{tables_at}
use Rattle.bh_blocks.specs.Plans.{planned, shown_from}
use Rattle.bh_blocks.specs.Plans as plan
use Rattle.bh_blocks.proofs.reading.find_shown.Given as goal

-- the window shows of the blocks from the place on what the plan is to give
abbrev pub invariant-places : goal.invariant-places
invariant-places g l = record {
  within : StateWithin (state g.S.Store g.P.Shelf l.fn.connection) (state g.S.Store g.P.Shelf l.connection);
  opens : IsIntact (state g.S.Store g.P.Shelf l.connection) → IsOpen (state g.S.Store g.P.Shelf l.fn.connection) → IsOpen (state g.S.Store g.P.Shelf l.connection);
  same : IsIntact (state g.S.Store g.P.Shelf l.connection) → standing (state g.S.Store g.P.Shelf l.connection) ≡ standing (state g.S.Store g.P.Shelf l.fn.connection);
  small : l.place < 2 ^ 63;
  most : l.window.left ≤ l.plan.window.left;
  comes : IsStateClean (state g.S.Store g.P.Shelf l.connection) → HasBodies (tables_at (state g.S.Store g.P.Shelf l.fn.connection))
      → shown_from l.window l.place (planned l.plan) (tables_at (state g.S.Store g.P.Shelf l.fn.connection)) ≡ plan.coming l.plan (tables_at (state g.S.Store g.P.Shelf l.fn.connection));
}

abbrev pub decreases-places : goal.decreases-places
decreases-places g l = 2 ^ 63 - l.place
