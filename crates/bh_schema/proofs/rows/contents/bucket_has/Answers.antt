use Rattle.std.proofs.Common.{◌≡◌, ◌==◌, arith, length, List, Ok, Err, not, ap, ◌∙◌}
use Rattle.sqlite.specs.Held.{state}
use Rattle.sqlite.specs.Order.{Row}
use Rattle.bh_base.specs.Connections.{tables}
use Rattle.bh_schema.proofs.Asking.{failed, answered, no_value}
use Rattle.bh_schema.proofs.Contents.{asks_content, content_any, some_first}
use Rattle.bh_base.specs.Connections.{backing}
use Rattle.bh_schema.proofs.rows.contents.bucket_has.Goals as goal

pub returns-in_err-rows : goal.returns-in_err-rows
returns-in_err-rows g c =
    let h = rw (c.to_sql.ensures, c.to_sql-2.ensures) at c.in_err-rows.ensures in
    let old = c.args.connection.now in
    let new = c.query_all.new.self in
    let q = asks_content (backing g.P.Shelf old.packs) (state g.S.Store old.database) (state g.S.Store new) c.requires.inside (λ (l : List Row). l) (Err c.in_err-rows.field-0.0) c.args.tenant.now c.args.bucket.now c.args.content _ c.text.ensures h.ok h.err h.survives in
    let f = failed g.S.Store g.P.Shelf old (record old { database = new }) c.from_residual.result _ c.from_residual.ensures q in
    record { reads = f.reads; found = no_value _ _ _ c.from_residual.ensures; trouble = f.trouble }

pub returns : goal.returns
returns g c =
    let h = rw (c.to_sql.ensures, c.to_sql-2.ensures) at c.in_ok-rows.ensures in
    let old = c.args.connection.now in
    let new = c.query_all.new.self in
    let q = asks_content (backing g.P.Shelf old.packs) (state g.S.Store old.database) (state g.S.Store new) c.requires.inside (λ (l : List Row). l) (Ok c.in_ok-rows.rows.items) c.args.tenant.now c.args.bucket.now c.args.content _ c.text.ensures h.ok h.err h.survives in
    let long : c.in_ok-rows.rows.len ≡ length c.in_ok-rows.rows.items = omega (arith, c.in_ok-rows.rows.ok.0) in
    record {
      reads = answered g.S.Store g.P.Shelf old (record old { database = new }) (Ok _) q;
      found = λ clean. ap not (c.is_empty.ensures ∙ ap (λ n. n == 0) long) ∙ some_first c.in_ok-rows.rows.items ∙ content_any c.args.content c.args.tenant.now c.args.bucket.now (tables g.S.Store g.P.Shelf old) c.in_ok-rows.rows.items (q.rows clean);
      trouble = tt;
    }
