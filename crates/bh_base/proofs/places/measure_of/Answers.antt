use Rattle.std.proofs.Common.{◌≡◌, length, filter, arith, sym, ◌∙◌}
use Rattle.std.proofs.lemmas.Bool.{eqb-true}
use Rattle.sqlite.specs.Held.{state}
use Rattle.bh_tables.specs.Packs.{packs_in, is_pack, shown_pack}
use Rattle.bh_base.proofs.Measuring.{none_shown, measured_row}
use Rattle.bh_base.proofs.Placed.{only_one}
use Rattle.bh_base.proofs.places.measure_of.Goals as goal

pub returns-then-is_empty-clause-found : goal.returns-then-is_empty-clause-found
returns-then-is_empty-clause-found g c clean =
    let ks = packs_in (state g.S.Store c.args.connection.now.database).now.trees in
    let rows = c.in_ok-rows.rows in
    let long : rows.len ≡ length rows.items = omega (arith, rows.ok.0) in
    let none : rows.len ≡ 0 = eqb-true rows.len 0 (sym c.is_empty.ensures ∙ c.if-is_empty.true) in
    none_shown shown_pack (filter (is_pack c.args.pack) ks) rows.items (c.in_ok-rows.ensures.rows clean) (sym long ∙ none)

pub returns-clause-found : goal.returns-clause-found
returns-clause-found g c clean =
    let ks = packs_in (state g.S.Store c.args.connection.now.database).now.trees in
    let row = c.in_ok-row.row.now in
    let it = only_one shown_pack (filter (is_pack c.args.pack) ks) row (sym (c.in_ok-rows.ensures.rows clean) ∙ sym c.deref.ensures.value ∙ c.in_ok-row.ensures.only) in
    let read = measured_row it.0 row c.in_ok-number_at.field-0 c.in_ok-number_at-2.field-0 (sym it.2) c.in_ok-number_at.ensures.read c.in_ok-number_at-2.ensures.read in
    (it.0, it.1, record { length = c.in_ok-length.ensures.same ∙ read.0; live = c.in_ok-live.ensures.same ∙ read.1 })
