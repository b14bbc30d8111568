use Rattle.std.proofs.Common.{◌≡◌, List, map, drop}
use Rattle.bh_base.specs.Connections.{state}
use Rattle.bh_tables.specs.Typed.{RefRow}
use Rattle.bh_tables.specs.Shown.{shown_ref}
use Rattle.bh_view.specs.Bodies.{body_again}
use Rattle.bh_base.specs.Layer.{standing, IsIntact, IsOpen, IsStateClean, IsInside, StateWithin}
use Rattle.bh_schema.specs.Working.{tables_at}
use Rattle.bh_blocks.proofs.bodies.refer_to_all.Given as goal

-- what is added so far, and then the rest, is all
abbrev pub invariant-loop-row : goal.invariant-loop-row
invariant-loop-row g l = record {
  within : StateWithin (state g.S.Store g.P.Shelf l.fn.connection) (state g.S.Store g.P.Shelf l.connection);
  opens : IsIntact (state g.S.Store g.P.Shelf l.connection) → IsOpen (state g.S.Store g.P.Shelf l.fn.connection) → IsOpen (state g.S.Store g.P.Shelf l.connection);
  inside : IsStateClean (state g.S.Store g.P.Shelf l.connection) → IsInside (standing (state g.S.Store g.P.Shelf l.connection));
  place : l.place ≡ l.row-index;
  blocks : IsStateClean (state g.S.Store g.P.Shelf l.connection) → (tables_at (state g.S.Store g.P.Shelf l.connection)).blocks ≡ (tables_at (state g.S.Store g.P.Shelf l.fn.connection)).blocks;
  again : IsStateClean (state g.S.Store g.P.Shelf l.connection) → (rs : List RefRow) → l.fn.rows ≡ map shown_ref rs
      → body_again (l.tenant, l.body) l.place (drop l.row-index rs) (tables_at (state g.S.Store g.P.Shelf l.connection)) ≡ body_again (l.tenant, l.body) 0 rs (tables_at (state g.S.Store g.P.Shelf l.fn.connection));
}
