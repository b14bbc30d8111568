use Rattle.std.proofs.Common.{List, Ok, Err, ap, map, ◌∙◌}
use Rattle.std.specs.Str.{IsUtf8}
use Rattle.sqlite.specs.Held.{state}
use Rattle.sqlite.specs.Order.{Row}
use Rattle.sqlite_keyed.specs.Lists.{sort_by}
use Rattle.bh_tables.specs.Typed.{Tables, TenantRow, totals_of, tables as tables_of}
use Rattle.bh_tables.specs.Shown.{by_tenant, shown_quota, tenants_by_name}
use Rattle.bh_tables.proofs.Places.{tenants}
use Rattle.bh_tables.proofs.Statements.{all_pass}
use Rattle.bh_tables.proofs.UsedTexts.{tenants_listed}
use Rattle.bh_base.specs.Layer.{standing}
use Rattle.bh_base.specs.Connections.{tables}
use Rattle.bh_schema.proofs.Asking.{failed_if, no_value, all}
use Rattle.bh_base.proofs.Calls.{sorted, asked}
use Rattle.bh_usage.specs.Listed.{tenant_seen, quota_in_row}
use Rattle.bh_base.specs.Connections.{backing}
use Rattle.bh_base.specs.Shown.{shown}
use Rattle.bh_base.proofs.Apart.{tenants_apart}
use Rattle.bh_usage.proofs.rows.tenant_list.Goals as goal

pub returns-in_err-rows : goal.returns-in_err-rows
unfolding standing
returns-in_err-rows g c =
    let h = c.in_err-rows.ensures in
    let old = c.args.connection.now in
    let new = c.query_all.new.self in
    let q = sorted tenants (λ _. tenants_apart) (backing g.P.Shelf old.packs) (state g.S.Store old.database) (state g.S.Store new) c.requires.inside (λ (l : List Row). l) (Err c.in_err-rows.field-0.0) (tenants_listed (totals_of (tables_of (shown (backing g.P.Shelf old.packs) (state g.S.Store old.database))))) h.ok h.err h.survives in
    let f = failed_if g.S.Store g.P.Shelf old (record old { database = new }) c.from_residual.result _ c.from_residual.ensures _ q in
    record { reads = f.reads; listed = no_value _ _ _ c.from_residual.ensures; trouble = f.trouble }

pub returns : goal.returns
unfolding standing
returns g c =
    let h = c.in_ok-rows.ensures in
    let old = c.args.connection.now in
    let new = c.query_all.new.self in
    let sums = totals_of (tables_of (shown (backing g.P.Shelf old.packs) (state g.S.Store old.database))) in
    let listed = sorted tenants (λ _. tenants_apart) (backing g.P.Shelf old.packs) (state g.S.Store old.database) (state g.S.Store new) c.requires.inside (λ (l : List Row). l) (Ok c.in_ok-rows.rows.items) (tenants_listed sums) h.ok h.err h.survives in
    let q = asked _ _ (λ t. ap (λ l. map (shown_quota sums) (sort_by by_tenant l)) (all_pass t.tenants)) listed in
    let a = all g.S.Store g.P.Shelf old (record old { database = new }) c.all_of.result _ (λ (x : Tables × TenantRow). shown_quota (totals_of x.0) x.1) (λ t. (tables g.S.Store g.P.Shelf old, t)) tenant_seen (λ (x : Tables × TenantRow). quota_in_row x.0 x.1) (λ (x : Tables × TenantRow). IsUtf8 x.1.tenant)
    c.all_of.ensures.read c.all_of.ensures.trouble q (tenants_by_name (tables g.S.Store g.P.Shelf old).tenants) (λ clean. c.deref.ensures.value ∙ q.rows clean) in
    record { reads = a.reads; listed = a.listed; trouble = a.trouble }
