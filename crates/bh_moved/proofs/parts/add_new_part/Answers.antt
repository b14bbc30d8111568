use Rattle.std.proofs.Common.{◌≡◌, None, find, sym, ap, ◌∙◌}
use Rattle.std.proofs.lemmas.Result.{on_ok_weaker}
use Rattle.bh_base.specs.Connections.{state}
use Rattle.bh_tables.specs.Typed.{Tables, tables_in}
use Rattle.bh_base.specs.Layer.{Standing}
use Rattle.bh_schema.specs.Working.{tables_at}
use Rattle.bh_tables.specs.Shown.{is_part}
use Rattle.bh_view.proofs.FilterLemmas.{none_mapped}
use Rattle.bh_blocks.proofs.Keeping.{still_inside}
use Rattle.bh_uploads.specs.Rows.{stored_part}
use Rattle.bh_uploads.specs.Writes.{part_placed}
use Rattle.bh_moved.proofs.Chains.{part_new}
use Rattle.bh_moved.proofs.parts.add_new_part.Goals as goal

pub place_part-requires-clause-inside : goal.place_part-requires-clause-inside
place_part-requires-clause-inside g c = still_inside _ _ c.in_ok-find_body.ensures.reads.within c.in_ok-find_body.ensures.reads.same c.requires.inside

pub returns-in-None-clause-added : goal.returns-in-None-clause-added
returns-in-None-clause-added g c = on_ok_weaker c.place_part.result (λ holds next clean.
    let it = holds clean in
    let was = c.place_part.ensures.writes.within.follows.clean clean in
    let p = stored_part c.args.part.now in
    let old : Tables = tables_at (state g.T.Store g.Q.Shelf c.args.to.now) in
    let same : tables_at (state g.T.Store g.Q.Shelf c.find_body.new.connection) ≡ old = ap (λ (x : Standing). tables_in x.now) (c.in_ok-find_body.ensures.reads.same was.intact) in
    let none : find (is_part p.tenant p.upload p.part) old.parts ≡ None = none_mapped _ _ (sym (c.in_ok-find_body.ensures.found was) ∙ c.in-None.is) in
    record { within = it.within; is = it.is ∙ ap (part_placed p c.args.next) same ∙ part_new p c.args.next old none next }) c.place_part.ensures.holds
