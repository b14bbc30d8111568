use Rattle.std.proofs.Common.{drop}
use Rattle.bh_base.specs.Connections.{state}
use Rattle.sqlite.specs.Schema.{Schema}
use Rattle.bh_tables.specs.Made.{with_uses_by_count}
use Rattle.bh_base.specs.Layer.{IsStateClean}
use Rattle.bh_create.specs.Creation.{IsMaking, Keeps}
use Rattle.bh_create.specs.Items.{Lead}
use Rattle.bh_create.proofs.tables.create_all.Given as goal

-- the items that are left lead from the schema so far to the last
abbrev pub invariant-loop-item : goal.invariant-loop-item
invariant-loop-item g l = record {
  keeps : Keeps (state g.S.Store g.P.Shelf l.fn.connection) (state g.S.Store g.P.Shelf l.connection);
  made : (at : Schema) × Lead at (drop l.item-index l.fn.items) with_uses_by_count × (IsStateClean (state g.S.Store g.P.Shelf l.connection) → IsMaking at (state g.S.Store g.P.Shelf l.connection));
}
