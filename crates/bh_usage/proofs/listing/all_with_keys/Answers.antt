use Rattle.std.proofs.Common.{◌≡◌, ◌≤◌, [], ◌∷◌, ◌++◌, arith, length, map, sym, ap, ap₂, ◌∙◌, subst}
use Rattle.std.proofs.lemmas.Grind.{common_steps}
use Rattle.std.proofs.lemmas.List.{map-append, map_more, take_all}
use Rattle.bh_base.specs.Connections.{state}
use Rattle.bh_tables.specs.Typed.{Tables, tables_in}
use Rattle.bh_base.specs.Layer.{Standing, IsInside}
use Rattle.bh_schema.specs.Working.{tables_at}
use Rattle.bh_schema.proofs.Storing.{within_then}
use Rattle.bh_storage.specs.Reports.{TenantTold, tenant_view}
use Rattle.bh_usage.specs.Listed.{tenant_seen, told_with}
use Rattle.bh_usage.specs.declared.rows.ListedTenant.{ListedTenant}
use Rattle.bh_usage.proofs.listing.all_with_keys.Goals as goal

pub with_keys-requires : goal.with_keys-requires
with_keys-requires g c = record { inside = λ clean. subst IsInside (sym (c.loop-tenant.invariant.same clean.intact)) (c.requires.inside (c.loop-tenant.invariant.within.follows.clean clean)) }

pub loop-tenant-preserved : goal.loop-tenant-preserved
loop-tenant-preserved g c =
    let inv = c.loop-tenant.invariant in
    let step = c.in_ok-told.ensures in
    let old = tables_at (state g.S.Store g.P.Shelf c.args.connection.now) in
    let f : ListedTenant → TenantTold = λ t. told_with old (tenant_seen t) in
    let pushed : c.push.new.self.items ≡ c.loop-tenant.all.items ++ c.in_ok-told.told ∷ [] = grind (arith, common_steps) in
    record {
      within = within_then _ _ _ inv.opens inv.within step.reads.within;
      opens = λ intact up. step.reads.opens intact (inv.opens (step.reads.within.follows.intact intact) up);
      same = λ intact. step.reads.same intact ∙ inv.same (step.reads.within.follows.intact intact);
      told = λ clean.
          let was = step.reads.within.follows.clean clean in
          let same : tables_at (state g.S.Store g.P.Shelf c.loop-tenant.connection) ≡ old = ap (λ (x : Standing). tables_in x.now) (inv.same was.intact) in
          ap (map tenant_view) pushed ∙ map-append tenant_view c.loop-tenant.all.items (c.in_ok-told.told ∷ [])
          ∙ ap₂ (λ l y. l ++ y ∷ []) (inv.told was) (step.told clean ∙ ap (λ (x : Tables). told_with x (tenant_seen c.tenant-item.result)) same ∙ ap f c.tenant-item.is)
          ∙ sym (map_more f c.args.listed.now c.loop-tenant.tenant-index c.tenant-item.result c.loop-tenant-test.true);
    }

pub returns-clause-told : goal.returns-clause-told
returns-clause-told g c clean =
    let old = tables_at (state g.S.Store g.P.Shelf c.args.connection.now) in
    let f : ListedTenant → TenantTold = λ t. told_with old (tenant_seen t) in
    let end = c.loop-tenant-test.false in
    let high : length c.args.listed.now ≤ c.loop-tenant.tenant-index = omega (arith, end) in
    c.loop-tenant.invariant.told clean ∙ ap (map f) (take_all c.loop-tenant.tenant-index c.args.listed.now high)
