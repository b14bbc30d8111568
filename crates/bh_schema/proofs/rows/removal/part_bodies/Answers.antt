use Rattle.bh_schema.proofs.Asking.{failed, no_value, all}
use Rattle.bh_schema.proofs.PartCalls.{selected}
use Rattle.bh_base.specs.Connections.{tables}
use Rattle.bh_tables.proofs.RemovalTexts.{its_bodies_listed}
use Rattle.bh_tables.specs.Typed.{PartRow, number}
use Rattle.bh_tables.specs.Shown.{is_part_used}
use Rattle.sqlite.specs.Held.{state}
use Rattle.sqlite.specs.Order.{Row}
use Rattle.std.proofs.Common.{List, [], ◌∷◌, Ok, Err, ℕ, filter, sym, ◌∙◌}
use Rattle.std.proofs.lemmas.List.{map-id}
use Rattle.std.proofs.lemmas.Result.{IfOk-weaker}
use Rattle.bh_base.specs.Connections.{backing}
use Rattle.bh_schema.proofs.rows.removal.part_bodies.Goals as goal

pub returns-in_err-rows : goal.returns-in_err-rows
returns-in_err-rows g c =
    let h = rw c.to_sql.ensures at c.in_err-rows.ensures in
    let old = c.args.connection.now in
    let new = c.query_all.new.self in
    let q = selected (backing g.P.Shelf old.packs) (state g.S.Store old.database) (state g.S.Store new) c.requires.inside (λ (l : List Row). l) (Err c.in_err-rows.field-0.0) (its_bodies_listed c.args.tenant.now) h.ok h.err h.survives in
    let f = failed g.S.Store g.P.Shelf old (record old { database = new }) c.from_residual.result _ c.from_residual.ensures q in
    record { reads = f.reads; numbers = no_value _ _ _ c.from_residual.ensures }

pub returns : goal.returns
returns g c =
    let h = rw c.to_sql.ensures at c.in_ok-rows.ensures in
    let old = c.args.connection.now in
    let new = c.query_all.new.self in
    let q = selected (backing g.P.Shelf old.packs) (state g.S.Store old.database) (state g.S.Store new) c.requires.inside (λ (l : List Row). l) (Ok c.in_ok-rows.rows.items) (its_bodies_listed c.args.tenant.now) h.ok h.err h.survives in
    let a = all g.S.Store g.P.Shelf old (record old { database = new }) c.all_of.result _ (λ n. number n ∷ []) (λ (x : PartRow). x.body) (λ (n : ℕ). n) (λ n. n) (λ _. Unit {0}) c.all_of.ensures.read c.all_of.ensures.trouble q (filter (is_part_used c.args.tenant.now) (tables g.S.Store g.P.Shelf old).parts)
    (λ clean. c.deref.ensures.value ∙ q.rows clean) in
    record { reads = a.reads; numbers = IfOk-weaker c.all_of.result _ _ (λ list told clean. sym (map-id list.items) ∙ told clean) a.listed }
