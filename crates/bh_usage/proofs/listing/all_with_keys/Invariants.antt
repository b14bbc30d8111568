use Rattle.std.proofs.Common.{◌≡◌, map, take}
use Rattle.bh_base.specs.Connections.{state}
use Rattle.bh_base.specs.Layer.{standing, IsIntact, IsOpen, IsStateClean, StateWithin}
use Rattle.bh_schema.specs.Working.{tables_at}
use Rattle.bh_storage.specs.Reports.{tenant_view}
use Rattle.bh_usage.specs.Listed.{tenant_seen, told_with}
use Rattle.bh_usage.proofs.listing.all_with_keys.Given as goal

abbrev pub invariant-loop-tenant : goal.invariant-loop-tenant
invariant-loop-tenant g l = record {
  within : StateWithin (state g.S.Store g.P.Shelf l.fn.connection) (state g.S.Store g.P.Shelf l.connection);
  opens : IsIntact (state g.S.Store g.P.Shelf l.connection) → IsOpen (state g.S.Store g.P.Shelf l.fn.connection) → IsOpen (state g.S.Store g.P.Shelf l.connection);
  same : IsIntact (state g.S.Store g.P.Shelf l.connection) → standing (state g.S.Store g.P.Shelf l.connection) ≡ standing (state g.S.Store g.P.Shelf l.fn.connection);
  told : IsStateClean (state g.S.Store g.P.Shelf l.connection)
      → map tenant_view l.all.items ≡ map (λ t. told_with (tables_at (state g.S.Store g.P.Shelf l.fn.connection)) (tenant_seen t)) (take l.tenant-index l.fn.listed);
}
