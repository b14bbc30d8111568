use Rattle.std.proofs.Common.{◌≡◌, ◌++◌, map, flat_map, drop}
use Rattle.bh_base.specs.Connections.{state}
use Rattle.bh_tables.specs.Bodies.{placed}
use Rattle.bh_tables.specs.Shown.{shown_ref}
use Rattle.bh_base.specs.Layer.{standing, IsIntact, IsOpen, IsStateClean, StateWithin}
use Rattle.bh_schema.specs.Working.{tables_at}
use Rattle.bh_blocks.proofs.bodies.rows_of_all.Given as goal

-- the rows so far, and then those of the other bodies, are all
abbrev pub invariant-loop-body : goal.invariant-loop-body
invariant-loop-body g l = record {
  within : StateWithin (state g.S.Store g.P.Shelf l.fn.connection) (state g.S.Store g.P.Shelf l.connection);
  opens : IsIntact (state g.S.Store g.P.Shelf l.connection) → IsOpen (state g.S.Store g.P.Shelf l.fn.connection) → IsOpen (state g.S.Store g.P.Shelf l.connection);
  same : IsIntact (state g.S.Store g.P.Shelf l.connection) → standing (state g.S.Store g.P.Shelf l.connection) ≡ standing (state g.S.Store g.P.Shelf l.fn.connection);
  rows : IsStateClean (state g.S.Store g.P.Shelf l.connection) → l.rows.items ++ map shown_ref (flat_map (λ body. placed (tables_at (state g.S.Store g.P.Shelf l.fn.connection)).refs (l.tenant, body)) (drop l.body-index l.fn.bodies))
      ≡ map shown_ref (flat_map (λ body. placed (tables_at (state g.S.Store g.P.Shelf l.fn.connection)).refs (l.tenant, body)) l.fn.bodies);
}
