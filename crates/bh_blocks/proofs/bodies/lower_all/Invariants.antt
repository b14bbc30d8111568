use Rattle.std.proofs.Common.{◌≡◌, List, map, take}
use Rattle.bh_base.specs.Connections.{state}
use Rattle.bh_tables.specs.Typed.{Totals, RefRow, counted, lowered_by, tables_in}
use Rattle.bh_tables.specs.Garbage.{Frees}
use Rattle.bh_tables.specs.Shown.{shown_ref}
use Rattle.bh_base.specs.Layer.{standing, IsIntact, IsOpen, IsStateClean, IsMidst, IsInsideBy, HoldsBy, StateWithin}
use Rattle.bh_blocks.proofs.bodies.lower_all.Given as goal

-- the references so far are taken off, and these bytes are needed no more
abbrev pub invariant-loop-row : goal.invariant-loop-row
invariant-loop-row g l = record {
  within : StateWithin (state g.S.Store g.P.Shelf l.fn.connection) (state g.S.Store g.P.Shelf l.connection);
  opens : IsIntact (state g.S.Store g.P.Shelf l.connection) → IsOpen (state g.S.Store g.P.Shelf l.fn.connection) → IsOpen (state g.S.Store g.P.Shelf l.connection);
  midst : IsStateClean (state g.S.Store g.P.Shelf l.connection) → IsMidst (standing (state g.S.Store g.P.Shelf l.connection));
  turned : IsStateClean (state g.S.Store g.P.Shelf l.connection) → (rs : List RefRow) → l.fn.rows ≡ map shown_ref rs → (sums : Totals) → IsInsideBy sums (standing (state g.S.Store g.P.Shelf l.fn.connection))
      → HoldsBy (counted (lowered_by (take l.row-index rs)) sums) (tables_in (standing (state g.S.Store g.P.Shelf l.fn.connection)).now) (standing (state g.S.Store g.P.Shelf l.connection));
  frees : IsStateClean (state g.S.Store g.P.Shelf l.connection) → (rs : List RefRow) → l.fn.rows ≡ map shown_ref rs → (sums : Totals) → IsInsideBy sums (standing (state g.S.Store g.P.Shelf l.fn.connection))
      → Frees (take l.row-index rs) sums.uses l.freed;
}
