use Rattle.std.proofs.Common.{◌≡◌, ◌<◌, ◌^◌, ◌++◌}
use Rattle.bh_base.specs.Connections.{state}
use Rattle.bh_view.specs.Bodies.{HasBodies}
use Rattle.bh_cache.specs.Kept.{Agrees}
use Rattle.bh_base.specs.Layer.{standing, IsIntact, IsOpen, IsStateClean, StateWithin}
use Rattle.bh_schema.specs.Working.{tables_at}
use Rattle.bh_blocks.specs.Plans.{coming}
use Rattle.bh_blocks.proofs.reading.append_planned.Given as goal

-- the bytes so far, and then what is still to come, are all
abbrev pub invariant-pieces : goal.invariant-pieces
invariant-pieces g l = record {
  within : StateWithin (state g.S.Store g.P.Shelf l.fn.connection) (state g.S.Store g.P.Shelf l.connection);
  opens : IsIntact (state g.S.Store g.P.Shelf l.connection) → IsOpen (state g.S.Store g.P.Shelf l.fn.connection) → IsOpen (state g.S.Store g.P.Shelf l.connection);
  same : IsIntact (state g.S.Store g.P.Shelf l.connection) → standing (state g.S.Store g.P.Shelf l.connection) ≡ standing (state g.S.Store g.P.Shelf l.fn.connection);
  agrees : IsStateClean (state g.S.Store g.P.Shelf l.connection) → Agrees l.cache (tables_at (state g.S.Store g.P.Shelf l.connection)).blocks;
  body : l.left.body < 2 ^ 63;
  place : l.left.place < 2 ^ 63;
  bytes : IsStateClean (state g.S.Store g.P.Shelf l.connection) → HasBodies (tables_at (state g.S.Store g.P.Shelf l.fn.connection))
      → l.bytes.items ++ coming l.left (tables_at (state g.S.Store g.P.Shelf l.fn.connection)) ≡ l.fn.bytes.items ++ coming l.fn.plan (tables_at (state g.S.Store g.P.Shelf l.fn.connection));
}

abbrev pub decreases-pieces : goal.decreases-pieces
decreases-pieces g l = l.left.window.left
