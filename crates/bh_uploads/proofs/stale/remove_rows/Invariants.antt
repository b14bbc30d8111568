use Rattle.std.proofs.Common.{◌≡◌, List, map, drop}
use Rattle.bh_base.specs.Connections.{state}
use Rattle.bh_tables.specs.Due.{shown_owner}
use Rattle.bh_tables.specs.Typed.{UploadRow}
use Rattle.bh_base.specs.Layer.{IsIntact, IsOpen, IsStateClean, StateWithin}
use Rattle.bh_schema.specs.Working.{tables_at, StillWorking}
use Rattle.bh_view.specs.Sweep.{without_each}
use Rattle.bh_uploads.proofs.stale.remove_rows.Given as goal

-- what is left without the uploads of the other rows is what is left without all
abbrev pub invariant-loop-row : goal.invariant-loop-row
invariant-loop-row g l = record {
  within : StateWithin (state g.S.Store g.P.Shelf l.fn.connection) (state g.S.Store g.P.Shelf l.connection);
  opens : IsIntact (state g.S.Store g.P.Shelf l.connection) → IsOpen (state g.S.Store g.P.Shelf l.fn.connection) → IsOpen (state g.S.Store g.P.Shelf l.connection);
  working : IsStateClean (state g.S.Store g.P.Shelf l.connection) → StillWorking (state g.S.Store g.P.Shelf l.fn.connection) (state g.S.Store g.P.Shelf l.connection);
  left : IsStateClean (state g.S.Store g.P.Shelf l.connection) → (us : List UploadRow) → l.fn.rows ≡ map shown_owner us
      → without_each (drop l.row-index us) (tables_at (state g.S.Store g.P.Shelf l.connection)) ≡ without_each us (tables_at (state g.S.Store g.P.Shelf l.fn.connection));
}
