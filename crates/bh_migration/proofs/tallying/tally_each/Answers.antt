use Rattle.std.proofs.Common.{inl, ◌≤◌, ◌<◌, refl, length, map, get_or, arith, sym, ap, subst, ◌∙◌}
use Rattle.std.proofs.lemmas.List.{length-map, map_more, take_all}
use Rattle.sqlite.specs.Held.{state}
use Rattle.bh_tables.specs.Typed.{TenantRow, TallyRow, tally_of}
use Rattle.bh_base.specs.Layer.{standing}
use Rattle.bh_schema.proofs.Storing.{within_then}
use Rattle.bh_migration.specs.Tallying.{shown_name, HoldsTallies}
use Rattle.bh_migration.proofs.Tallied.{no_tenant, at_mapped}
use Rattle.bh_migration.proofs.tallying.tally_each.Goals as goal

pub loop-row-init : goal.loop-row-init
loop-row-init g c = record {
  within = record {
    follows = record { clean = λ clean. clean; intact = λ intact. intact; limit = refl };
    kept = λ clean. refl;
    settled = λ clean. inl (c.requires clean).inside;
    survives = λ up intact db left. left;
  };
  opens = λ intact up. up;
  keeps = c.requires;
  adds = λ clean t is holds. holds;
}

pub loop-row-preserved : goal.loop-row-preserved
loop-row-preserved g c =
    let inv = c.loop-row.invariant in
    let step = c.in_ok-tally_one.ensures in
    let i = c.loop-row.row-index in
    let new = standing (state g.S.Store c.tally_one.new.connection) in
    record {
      within = within_then _ _ _ inv.opens inv.within c.tally_one.ensures.within;
      opens = λ intact up. step.opens intact (inv.opens (c.tally_one.ensures.within.follows.intact intact) up);
      keeps = step.keeps;
      adds = λ clean t is holds.
          let f : TenantRow → TallyRow = tally_of t.versions in
          let low : i < length t.tenants = subst (λ n. i < n) (ap length is ∙ length-map t.tenants shown_name) c.loop-row-test.true in
          let row = c.row-item.is ∙ ap (λ rows. get_or rows i c.row-item.result) is ∙ at_mapped shown_name t.tenants i no_tenant c.row-item.result low in
          subst (λ l. HoldsTallies t l new) (sym (map_more f t.tenants i no_tenant low))
          (step.adds clean t _ (inv.adds (c.tally_one.ensures.within.follows.clean clean) t is holds) (get_or t.tenants i no_tenant) row);
    }

pub returns-clause-adds : goal.returns-clause-adds
returns-clause-adds g c clean t is holds =
    let i = c.loop-row.row-index in
    let end = c.loop-row-test.false in
    let many = ap length is ∙ length-map t.tenants shown_name in
    let high : length t.tenants ≤ i = omega (arith, end, many) in
    subst (λ l. HoldsTallies t (map (tally_of t.versions) l) (standing (state g.S.Store c.loop-row.connection))) (take_all i t.tenants high) (c.loop-row.invariant.adds clean t is holds)
