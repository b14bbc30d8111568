use Rattle.bh_schema.proofs.Asking.{failed_sum, no_value, summed}
use Rattle.bh_schema.proofs.Counting.{sums}
use Rattle.sqlite.specs.Held.{state}
use Rattle.sqlite.specs.Order.{Row}
use Rattle.std.proofs.Common.{List, Ok, Err}
use Rattle.bh_base.specs.Connections.{backing}
use Rattle.bh_schema.proofs.rows.counts.tenant_sum.Goals as goal

pub returns-in_err-rows : goal.returns-in_err-rows
returns-in_err-rows g c =
    let h = rw c.to_sql.ensures at c.in_err-rows.ensures in
    let old = c.args.connection.now in
    let new = c.query_all.new.self in
    let q = sums (backing g.P.Shelf old.packs) (state g.S.Store old.database) (state g.S.Store new) c.requires.inside (λ (l : List Row). l) (Err c.in_err-rows.field-0.0) c.args.tenant.now c.args.sum _ c.text.ensures h.ok h.err h.survives in
    let f = failed_sum g.S.Store g.P.Shelf old (record old { database = new }) c.from_residual.result _ c.from_residual.ensures q in
    record { reads = f.reads; total = no_value _ _ _ c.from_residual.ensures; trouble = f.trouble }

pub returns : goal.returns
returns g c =
    let h = rw c.to_sql.ensures at c.in_ok-rows.ensures in
    let old = c.args.connection.now in
    let new = c.query_all.new.self in
    let q = sums (backing g.P.Shelf old.packs) (state g.S.Store old.database) (state g.S.Store new) c.requires.inside (λ (l : List Row). l) (Ok c.in_ok-rows.rows.items) c.args.tenant.now c.args.sum _ c.text.ensures h.ok h.err h.survives in
    let a = summed g.S.Store g.P.Shelf old (record old { database = new }) c.read_total.result q _ c.deref.ensures.value c.read_total.ensures.read c.read_total.ensures.trouble in
    record { reads = a.reads; total = a.total; trouble = a.trouble }
