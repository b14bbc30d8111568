use Rattle.bh_rows.proofs.ScanLemmas.{first_row}
use Rattle.bh_schema.proofs.Asking.{failed, no_value, plain}
use Rattle.bh_schema.proofs.TallyCalls.{tally_told}
use Rattle.bh_base.specs.Layer.{standing}
use Rattle.bh_base.specs.Connections.{tables}
use Rattle.bh_schema.specs.Tallies.{tenant_tally}
use Rattle.bh_tables.specs.Shown.{is_tenant, shown_tally}
use Rattle.bh_tables.specs.Typed.{Tables, TenantRow, tally_of}
use Rattle.sqlite.specs.Held.{state}
use Rattle.sqlite.specs.Order.{Row}
use Rattle.std.proofs.Common.{List, Ok, Err, ap, find, slice_get, ◌∙◌}
use Rattle.bh_base.specs.Connections.{backing}
use Rattle.bh_schema.proofs.rows.tallies.find_tally.Goals as goal

pub returns-in_err-rows : goal.returns-in_err-rows
unfolding standing
returns-in_err-rows g c =
    let h = rw c.to_sql.ensures at c.in_err-rows.ensures in
    let old = c.args.connection.now in
    let new = c.query_all.new.self in
    let q = tally_told (backing g.P.Shelf old.packs) (state g.S.Store old.database) (state g.S.Store new) c.requires.inside c.args.tenant.now (λ (l : List Row). l) (Err c.in_err-rows.field-0.0) h.ok h.err h.survives in
    let f = failed g.S.Store g.P.Shelf old (record old { database = new }) c.from_residual.result _ c.from_residual.ensures q in
    record { reads = f.reads; found = no_value _ _ _ c.from_residual.ensures; trouble = f.trouble }

pub returns : goal.returns
unfolding standing
returns g c =
    let h = rw c.to_sql.ensures at c.in_ok-rows.ensures in
    let old = c.args.connection.now in
    let new = c.query_all.new.self in
    let q = tally_told (backing g.P.Shelf old.packs) (state g.S.Store old.database) (state g.S.Store new) c.requires.inside c.args.tenant.now (λ (l : List Row). l) (Ok c.in_ok-rows.rows.items) h.ok h.err h.survives in
    let a = plain g.S.Store g.P.Shelf old (record old { database = new }) c.first_of.result _ (λ (x : Tables × TenantRow). shown_tally (tally_of x.0.versions x.1)) (λ t. (tables g.S.Store g.P.Shelf old, t)) (λ (x : Tables × TenantRow). tenant_tally x.0 x.1) c.first_of.ensures.found c.first_of.ensures.trouble q (find (is_tenant c.args.tenant.now) (tables g.S.Store g.P.Shelf old).tenants)
    (λ clean. ap (λ l. slice_get l 0) c.deref.ensures.value ∙ first_row (λ (t : TenantRow). shown_tally (tally_of (tables g.S.Store g.P.Shelf old).versions t)) (is_tenant c.args.tenant.now) _ _ (q.rows clean)) in
    record { reads = a.reads; found = a.found; trouble = a.trouble }
