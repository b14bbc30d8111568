use Rattle.bh_rows.proofs.ScanLemmas.{first_row}
use Rattle.bh_schema.proofs.Asking.{failed, no_value, plain}
use Rattle.bh_base.proofs.Calls.{selected}
use Rattle.bh_base.specs.Connections.{tables}
use Rattle.bh_schema.specs.Rows.{latest_in}
use Rattle.bh_tables.proofs.HostTexts.{latest_shown}
use Rattle.bh_tables.proofs.Places.{host}
use Rattle.bh_tables.specs.Shown.{shown_latest}
use Rattle.bh_tables.specs.Typed.{number}
use Rattle.sqlite.specs.Held.{state}
use Rattle.sqlite.specs.Order.{Row}
use Rattle.std.proofs.Common.{List, [], ◌∷◌, true, Ok, Err, ap, find, slice_get, ◌∙◌}
use Rattle.bh_base.specs.Connections.{backing}
use Rattle.bh_base.proofs.Apart.{host_apart}
use Rattle.bh_schema.proofs.rows.host.find_latest.Goals as goal

pub returns-in_err-rows : goal.returns-in_err-rows
returns-in_err-rows g c =
    let h = c.in_err-rows.ensures in
    let old = c.args.connection.now in
    let new = c.query_all.new.self in
    let q = selected host (λ _. host_apart) (backing g.P.Shelf old.packs) (state g.S.Store old.database) (state g.S.Store new) c.requires.inside (λ (l : List Row). l) (Err c.in_err-rows.field-0.0) latest_shown h.ok h.err h.survives in
    let f = failed g.S.Store g.P.Shelf old (record old { database = new }) c.from_residual.result _ c.from_residual.ensures q in
    record { reads = f.reads; found = no_value _ _ _ c.from_residual.ensures; trouble = f.trouble }

pub returns : goal.returns
returns g c =
    let h = c.in_ok-rows.ensures in
    let old = c.args.connection.now in
    let new = c.query_all.new.self in
    let q = selected host (λ _. host_apart) (backing g.P.Shelf old.packs) (state g.S.Store old.database) (state g.S.Store new) c.requires.inside (λ (l : List Row). l) (Ok c.in_ok-rows.rows.items) latest_shown h.ok h.err h.survives in
    let a = plain g.S.Store g.P.Shelf old (record old { database = new }) c.first_of.result _ (λ n. number n ∷ []) latest_in (λ n. n) c.first_of.ensures.found c.first_of.ensures.trouble q (find (λ _. true) (tables g.S.Store g.P.Shelf old).host)
    (λ clean. ap (λ l. slice_get l 0) c.deref.ensures.value ∙ first_row shown_latest (λ _. true) _ _ (q.rows clean)) in
    record { reads = a.reads; found = a.found; trouble = a.trouble }
