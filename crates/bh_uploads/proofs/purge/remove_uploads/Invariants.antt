use Rattle.std.proofs.Common.{◌≡◌, drop}
use Rattle.bh_base.specs.Connections.{state}
use Rattle.bh_base.specs.Layer.{IsIntact, IsOpen, IsStateClean, StateWithin}
use Rattle.bh_schema.specs.Working.{tables_at, StillWorking}
use Rattle.bh_view.specs.View.{without_uploads}
use Rattle.bh_uploads.specs.Purging.{is_among}
use Rattle.bh_uploads.proofs.purge.remove_uploads.Given as goal

-- what is left without the other uploads is what is left without all
abbrev pub invariant-loop-number : goal.invariant-loop-number
invariant-loop-number g l = record {
  within : StateWithin (state g.S.Store g.P.Shelf l.fn.connection) (state g.S.Store g.P.Shelf l.connection);
  opens : IsIntact (state g.S.Store g.P.Shelf l.connection) → IsOpen (state g.S.Store g.P.Shelf l.fn.connection) → IsOpen (state g.S.Store g.P.Shelf l.connection);
  working : IsStateClean (state g.S.Store g.P.Shelf l.connection) → StillWorking (state g.S.Store g.P.Shelf l.fn.connection) (state g.S.Store g.P.Shelf l.connection);
  left : IsStateClean (state g.S.Store g.P.Shelf l.connection) → without_uploads l.tenant (is_among (drop l.number-index l.numbers)) (tables_at (state g.S.Store g.P.Shelf l.connection)) ≡ without_uploads l.tenant (is_among l.numbers) (tables_at (state g.S.Store g.P.Shelf l.fn.connection));
}
