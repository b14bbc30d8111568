use Rattle.std.proofs.Common.{sym, subst, ◌∙◌}
use Rattle.bh_shelf.specs.Contents.{Contents}
use Rattle.bh_pack_shelf.specs.Opened.{AreOpened}
use Rattle.bh_pack_shelf.specs.Places.{rows_held}
use Rattle.bh_pack_shelf.proofs.OpenLemmas.{opened_none, kept_none}
use Rattle.bh_pack_shelf.proofs.opening.open_shelf.Goals as goal

pub fill-requires-clause-none : goal.fill-requires-clause-none
fill-requires-clause-none g c =
    let new = c.new-shelf.result in opened_none g.S.Held.held _ (kept_none _ new.packs new.marks new.sound c.new-shelf.ensures)

pub returns-clause-opened : goal.returns-clause-opened
returns-clause-opened g c = λ clean.
    let P : Contents → Type 0 = λ has. AreOpened g.S.Held.held c.args.listed.now has in
    subst P (sym (c.forget.ensures.kept clean)) (c.in_ok-fill.ensures (c.forget.ensures.clean clean))

pub returns-clause-rows : goal.returns-clause-rows
returns-clause-rows g c = λ clean.
    let rows = c.args.listed.now in
    let P : Contents → Type 0 = λ has. AreOpened g.S.Held.held rows has in
    rows_held g.S.Held.held rows _ (subst P (sym (c.forget.ensures.kept clean)) (c.in_ok-fill.ensures (c.forget.ensures.clean clean)))
    c.in_ok-folder.ensures.once

pub returns-clause-seen : goal.returns-clause-seen
returns-clause-seen g c = λ clean. c.forget.ensures.seen clean ∙ sym (c.forget.ensures.kept clean)
