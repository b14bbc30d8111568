use Rattle.std.proofs.Common.{None, Some, option_map, slice_get, filter, ap, subst, ◌∙◌}
use Rattle.std.proofs.lemmas.Result.{on_ok_weaker}
use Rattle.bh_base.specs.Connections.{state}
use Rattle.bh_tables.specs.Typed.{totals_of, tables_in}
use Rattle.bh_tables.specs.Shown.{is_at}
use Rattle.bh_base.specs.Layer.{standing, HoldsBy}
use Rattle.bh_schema.specs.Rows.{entries_at, newest_at}
use Rattle.bh_schema.specs.Tallies.{place_of, marker_in, entries_changed}
use Rattle.bh_schema.proofs.TallySteps.{same_first, newer_all}
use Rattle.bh_schema.proofs.VersionSteps.{live_shown, newest_here, read_first, still_inside}
use Rattle.bh_schema.proofs.rows.versions.entry_comes.Goals as goal

pub recount-requires : goal.recount-requires
recount-requires g c = record {
  inside = λ clean.
      still_inside (state g.S.Store g.P.Shelf c.args.connection.now) (state g.S.Store g.P.Shelf c.newest_places.new.connection) (c.in_ok-newest.ensures.reads.same clean.intact) (c.requires.inside (c.in_ok-newest.ensures.reads.within.follows.clean clean));
}

pub returns-clause-enters : goal.returns-clause-enters
returns-clause-enters g c = on_ok_weaker c.recount.result (λ enters clean.
    let a = state g.S.Store g.P.Shelf c.args.connection.now in
    let b = state g.S.Store g.P.Shelf c.newest_places.new.connection in
    let d = state g.S.Store g.P.Shelf c.recount.new.connection in
    let tenant = c.args.tenant.now in
    let t = tables_in (standing a).now in
    let entries = entries_at tenant c.args.bucket.now c.args.okey.now t.versions in
    let middle = c.recount.ensures.writes.within.follows.clean clean in
    let before = c.in_ok-before.ensures.read (slice_get entries 0) (c.in_ok-newest.ensures.first middle) ∙ ap (option_map marker_in) (same_first entries) in
    subst (λ o. HoldsBy (entries_changed tenant (record { come = Some c.args.marker; gone = None; after = Some c.args.marker; before = o }) (totals_of t)) t (standing d)) before
    (read_first a b d (entries_changed tenant (record { come = Some c.args.marker; gone = None; after = Some c.args.marker; before = c.in_ok-before.before })) (λ so. c.in_ok-newest.ensures.reads.same (c.recount.ensures.writes.within.follows.clean so).intact) enters clean)) c.recount.ensures.enters

pub returns-clause-newer : goal.returns-clause-newer
returns-clause-newer g c = on_ok_weaker c.recount.result (λ enters clean.
    let a = state g.S.Store g.P.Shelf c.args.connection.now in
    let t = tables_in (standing a).now in
    let entries = entries_at c.args.tenant.now c.args.bucket.now c.args.okey.now t.versions in
    let middle = c.recount.ensures.writes.within.follows.clean clean in
    let was = c.in_ok-newest.ensures.reads.within.follows.clean middle in
    newer_all (filter (is_at c.args.tenant.now c.args.bucket.now c.args.okey.now) t.versions) (newest_at c.args.tenant.now c.args.bucket.now c.args.okey.now t.versions) c.args.seq
    (newest_here a (live_shown g.S.Store g.P.Shelf c.args.connection.now c.schema-schema.ensures.live) was (c.requires.inside was) c.args.tenant.now c.args.bucket.now c.args.okey.now)
    (λ v is. c.in_ok-before.ensures.older v (c.in_ok-newest.ensures.first middle ∙ ap (option_map place_of) (same_first entries ∙ is)))) c.recount.ensures.enters
