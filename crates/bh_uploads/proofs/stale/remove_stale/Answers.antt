use Rattle.std.proofs.Common.{rules, ap, ◌∙◌}
use Rattle.bh_base.specs.Connections.{state}
use Rattle.bh_schema.specs.Working.{tables_at}
use Rattle.bh_view.specs.Sweep.{uploads_swept, without_each}
use Rattle.bh_objects.proofs.Working.{same_tables, asked_working, works_then}
use Rattle.bh_uploads.proofs.stale.remove_stale.Goals as goal

pub remove_rows-requires : goal.remove_rows-requires
remove_rows-requires g c clean =
    (asked_working (state g.S.Store g.P.Shelf c.args.connection.now) (state g.S.Store g.P.Shelf c.stale_rows.new.connection) c.requires c.in_ok-rows.ensures.reads.within c.in_ok-rows.ensures.reads.same clean (λ bytes. bytes)).is

pub returns-in-Ok-clause-works : goal.returns-in-Ok-clause-works
returns-in-Ok-clause-works g c = record {
  within = search rules;
  opens = search rules;
  working = λ clean.
      let old = state g.S.Store g.P.Shelf c.args.connection.now in
      let mid = state g.S.Store g.P.Shelf c.stale_rows.new.connection in
      let new = state g.S.Store g.P.Shelf c.remove_rows.new.connection in
      let clean_mid = c.in_ok-remove_rows.ensures.works.within.follows.clean clean in
      works_then old mid new (asked_working old mid c.requires c.in_ok-rows.ensures.reads.within c.in_ok-rows.ensures.reads.same clean_mid) (c.in_ok-remove_rows.ensures.works.working clean);
}

pub returns-in-Ok-clause-removed : goal.returns-in-Ok-clause-removed
returns-in-Ok-clause-removed g c clean =
    let old = state g.S.Store g.P.Shelf c.args.connection.now in
    let mid = state g.S.Store g.P.Shelf c.stale_rows.new.connection in
    let clean_mid = c.in_ok-remove_rows.ensures.works.within.follows.clean clean in
    let us = uploads_swept c.args.at c.args.limit (tables_at old) in
    c.in_ok-remove_rows.ensures.removed us (c.deref.ensures.value ∙ c.in_ok-rows.ensures.rows clean_mid) clean
    ∙ ap (without_each us) (same_tables old mid (c.in_ok-rows.ensures.reads.same clean_mid.intact))
