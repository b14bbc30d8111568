use Rattle.std.proofs.Common.{rules, ap, ◌∙◌}
use Rattle.bh_base.specs.Connections.{state}
use Rattle.bh_schema.specs.Working.{tables_at}
use Rattle.bh_view.specs.View.{without_uploads, rows_purged}
use Rattle.bh_objects.proofs.Working.{same_tables, asked_working, works_then}
use Rattle.bh_uploads.specs.Purging.{is_among}
use Rattle.bh_uploads.proofs.Staleness.{numbers_are}
use Rattle.bh_uploads.proofs.purge.purge.Goals as goal

pub stale_uploads-requires : goal.stale_uploads-requires
stale_uploads-requires g c = record { inside = λ clean. (c.requires clean).inside }

pub remove_uploads-requires : goal.remove_uploads-requires
remove_uploads-requires g c clean =
    (asked_working (state g.S.Store g.P.Shelf c.args.connection.now) (state g.S.Store g.P.Shelf c.stale_uploads.new.connection) c.requires c.in_ok-stale.ensures.reads.within c.in_ok-stale.ensures.reads.same clean (λ bytes. bytes)).is

pub returns-clause-works : goal.returns-clause-works
returns-clause-works g c = record {
  within = search rules;
  opens = search rules;
  working = λ clean.
      let old = state g.S.Store g.P.Shelf c.args.connection.now in
      let mid = state g.S.Store g.P.Shelf c.stale_uploads.new.connection in
      let new = state g.S.Store g.P.Shelf c.remove_uploads.new.connection in
      let clean_mid = c.in_ok-remove_uploads.ensures.works.within.follows.clean clean in
      works_then old mid new (asked_working old mid c.requires c.in_ok-stale.ensures.reads.within c.in_ok-stale.ensures.reads.same clean_mid) (c.in_ok-remove_uploads.ensures.works.working clean);
}

pub returns-clause-purges : goal.returns-clause-purges
unfolding rows_purged
returns-clause-purges g c clean =
    let old = state g.S.Store g.P.Shelf c.args.connection.now in
    let mid = state g.S.Store g.P.Shelf c.stale_uploads.new.connection in
    let t = c.args.tenant.now in
    let clean_mid = c.in_ok-remove_uploads.ensures.works.within.follows.clean clean in
    let clean_old = c.in_ok-stale.ensures.reads.within.follows.clean clean_mid in
    let same = same_tables old mid (c.in_ok-stale.ensures.reads.same clean_mid.intact) in
    let tables = tables_at old in
    (rw c.deref.ensures.value at (c.in_ok-remove_uploads.ensures.removed clean))
    ∙ ap (without_uploads t (is_among c.in_ok-stale.stale.numbers.items)) same
    ∙ ap (λ l. without_uploads t (is_among l) tables) (c.in_ok-stale.ensures.numbers clean_mid)
    ∙ (λ i. without_uploads t (λ n. numbers_are tables t c.args.at n (c.requires clean_old).sound i) tables)
