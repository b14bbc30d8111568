use Rattle.bh_schema.proofs.Asking.{failed, no_value, plain}
use Rattle.bh_schema.proofs.GarbageCalls.{garbage_told}
use Rattle.bh_base.specs.Connections.{tables}
use Rattle.bh_schema.specs.Garbage.{garbage_in}
use Rattle.bh_tables.specs.Typed.{number}
use Rattle.sqlite.specs.Held.{state}
use Rattle.sqlite.specs.Order.{Row}
use Rattle.std.proofs.Common.{ℕ, List, [], ◌∷◌, Some, Ok, Err, ap, slice_get, ◌∙◌}
use Rattle.bh_base.specs.Connections.{backing}
use Rattle.bh_schema.proofs.rows.garbage.find_garbage.Goals as goal

pub returns-in_err-rows : goal.returns-in_err-rows
returns-in_err-rows g c =
    let h = c.in_err-rows.ensures in
    let old = c.args.connection.now in
    let new = c.query_all.new.self in
    let q = garbage_told (backing g.P.Shelf old.packs) (state g.S.Store old.database) (state g.S.Store new) c.requires.inside (λ (l : List Row). l) (Err c.in_err-rows.field-0.0) h.ok h.err h.survives in
    let f = failed g.S.Store g.P.Shelf old (record old { database = new }) c.from_residual.result _ c.from_residual.ensures q in
    record { reads = f.reads; found = no_value _ _ _ c.from_residual.ensures; trouble = f.trouble }

pub returns : goal.returns
returns g c =
    let h = c.in_ok-rows.ensures in
    let old = c.args.connection.now in
    let new = c.query_all.new.self in
    let q = garbage_told (backing g.P.Shelf old.packs) (state g.S.Store old.database) (state g.S.Store new) c.requires.inside (λ (l : List Row). l) (Ok c.in_ok-rows.rows.items) h.ok h.err h.survives in
    let a = plain g.S.Store g.P.Shelf old (record old { database = new }) c.first_of.result _ (λ n. number n ∷ []) (λ (n : ℕ). n) (λ n. n) c.first_of.ensures.found c.first_of.ensures.trouble q (Some (garbage_in (tables g.S.Store g.P.Shelf old)))
    (λ clean. ap (λ l. slice_get l 0) (c.deref.ensures.value ∙ q.rows clean)) in
    record { reads = a.reads; found = a.found; trouble = a.trouble }
