use Rattle.std.proofs.Common.{◌≡◌, drop}
use Rattle.bh_base.specs.Connections.{state}
use Rattle.bh_base.specs.Layer.{standing, IsIntact, IsOpen, IsStateClean, IsInside, StateWithin}
use Rattle.bh_schema.specs.Working.{tables_at}
use Rattle.bh_uploads.specs.Writes.{without_bodies}
use Rattle.bh_uploads.proofs.writes.drop_bodies.Given as goal

-- what is left without the other bodies is what is left without all
abbrev pub invariant-loop-body : goal.invariant-loop-body
invariant-loop-body g l = record {
  within : StateWithin (state g.S.Store g.P.Shelf l.fn.connection) (state g.S.Store g.P.Shelf l.connection);
  opens : IsIntact (state g.S.Store g.P.Shelf l.connection) → IsOpen (state g.S.Store g.P.Shelf l.fn.connection) → IsOpen (state g.S.Store g.P.Shelf l.connection);
  inside : IsStateClean (state g.S.Store g.P.Shelf l.connection) → IsInside (standing (state g.S.Store g.P.Shelf l.connection));
  left : IsStateClean (state g.S.Store g.P.Shelf l.connection) → without_bodies l.tenant (drop l.body-index l.bodies) (tables_at (state g.S.Store g.P.Shelf l.connection)) ≡ without_bodies l.tenant l.bodies (tables_at (state g.S.Store g.P.Shelf l.fn.connection));
}
