use Rattle.bh_rows.proofs.ScanLemmas.{first_row}
use Rattle.bh_schema.proofs.Asking.{failed, no_value, plain}
use Rattle.bh_base.proofs.Calls.{selected}
use Rattle.bh_base.specs.Connections.{tables}
use Rattle.bh_schema.specs.Rows.{until_in}
use Rattle.bh_tables.proofs.Places.{retains}
use Rattle.bh_tables.proofs.RetainTexts.{until_shown}
use Rattle.bh_tables.specs.Shown.{is_retain, shown_until}
use Rattle.bh_tables.specs.Typed.{number}
use Rattle.sqlite.specs.Held.{state}
use Rattle.sqlite.specs.Order.{Row}
use Rattle.std.proofs.Common.{List, [], ◌∷◌, Ok, Err, ap, find, slice_get, ◌∙◌}
use Rattle.bh_base.specs.Connections.{backing}
use Rattle.bh_base.proofs.Apart.{retains_apart}
use Rattle.bh_schema.proofs.rows.retains.find_until.Goals as goal

pub returns-in_err-rows : goal.returns-in_err-rows
returns-in_err-rows g c =
    let h = rw (c.to_sql.ensures, c.number.ensures) at c.in_err-rows.ensures in
    let old = c.args.connection.now in
    let new = c.query_all.new.self in
    let q = selected retains (λ _. retains_apart) (backing g.P.Shelf old.packs) (state g.S.Store old.database) (state g.S.Store new) c.requires.inside (λ (l : List Row). l) (Err c.in_err-rows.field-0.0) (until_shown c.args.tenant.now c.args.seq) h.ok h.err h.survives in
    let f = failed g.S.Store g.P.Shelf old (record old { database = new }) c.from_residual.result _ c.from_residual.ensures q in
    record { reads = f.reads; found = no_value _ _ _ c.from_residual.ensures; trouble = f.trouble }

pub returns : goal.returns
returns g c =
    let h = rw (c.to_sql.ensures, c.number.ensures) at c.in_ok-rows.ensures in
    let old = c.args.connection.now in
    let new = c.query_all.new.self in
    let q = selected retains (λ _. retains_apart) (backing g.P.Shelf old.packs) (state g.S.Store old.database) (state g.S.Store new) c.requires.inside (λ (l : List Row). l) (Ok c.in_ok-rows.rows.items) (until_shown c.args.tenant.now c.args.seq) h.ok h.err h.survives in
    let a = plain g.S.Store g.P.Shelf old (record old { database = new }) c.first_of.result _ (λ n. number n ∷ []) until_in (λ n. n) c.first_of.ensures.found c.first_of.ensures.trouble q (find (is_retain c.args.tenant.now c.args.seq) (tables g.S.Store g.P.Shelf old).retains)
    (λ clean. ap (λ l. slice_get l 0) c.deref.ensures.value ∙ first_row shown_until (is_retain c.args.tenant.now c.args.seq) _ _ (q.rows clean)) in
    record { reads = a.reads; found = a.found; trouble = a.trouble }
