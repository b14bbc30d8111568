use Rattle.std.proofs.Common.{arith, ◌+◌, drop, sym, ap, ◌∙◌}
use Rattle.bh_base.specs.Connections.{state}
use Rattle.bh_schema.specs.Working.{tables_at}
use Rattle.bh_schema.proofs.Storing.{within_then}
use Rattle.bh_view.specs.View.{without_uploads}
use Rattle.bh_objects.proofs.Working.{works_on, works_then}
use Rattle.bh_uploads.specs.Purging.{is_among}
use Rattle.bh_uploads.proofs.Gone.{gone_twice, none_go}
use Rattle.bh_uploads.proofs.Taking.{drop_next, drop_last}
use Rattle.bh_uploads.proofs.purge.remove_uploads.Goals as goal

pub remove_upload-requires : goal.remove_upload-requires
remove_upload-requires g c clean = works_on (state g.S.Store g.P.Shelf c.args.connection.now) (state g.S.Store g.P.Shelf c.loop-number.connection) (c.loop-number.invariant.working clean)

pub loop-number-preserved : goal.loop-number-preserved
loop-number-preserved g c =
    let inv = c.loop-number.invariant in
    let step = c.in_ok-remove_upload.ensures in
    let rest = drop (c.loop-number.number-index + 1) c.args.numbers.now in
    let t = c.args.tenant.now in
    record {
      within = within_then _ _ _ inv.opens inv.within step.works.within;
      opens = λ intact up. step.works.opens intact (inv.opens (step.works.within.follows.intact intact) up);
      working = λ clean. works_then (state g.S.Store g.P.Shelf c.args.connection.now) (state g.S.Store g.P.Shelf c.loop-number.connection) (state g.S.Store g.P.Shelf c.remove_upload.new.connection) (inv.working (step.works.within.follows.clean clean)) (step.works.working clean);
      left = λ clean.
          ap (without_uploads t (is_among rest)) (step.removed clean)
          ∙ gone_twice t _ (is_among rest) (tables_at (state g.S.Store g.P.Shelf c.loop-number.connection))
          ∙ ap (λ l. without_uploads t (is_among l) (tables_at (state g.S.Store g.P.Shelf c.loop-number.connection))) (sym (drop_next c.args.numbers.now c.loop-number.number-index c.loop-number-test.true))
          ∙ inv.left (step.works.within.follows.clean clean);
    }

pub returns-clause-removed : goal.returns-clause-removed
returns-clause-removed g c clean =
    let now = tables_at (state g.S.Store g.P.Shelf c.loop-number.connection) in
    sym (none_go c.args.tenant.now now)
    ∙ ap (λ l. without_uploads c.args.tenant.now (is_among l) now) (sym (drop_last c.args.numbers.now c.loop-number.number-index (λ low. let end = c.loop-number-test.false in omega (arith, low, end))))
    ∙ c.loop-number.invariant.left clean
