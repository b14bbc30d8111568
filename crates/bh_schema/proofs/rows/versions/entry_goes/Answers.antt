use Rattle.std.proofs.Common.{None, find, filter, option_map, ap, subst, ◌∙◌}
use Rattle.std.proofs.lemmas.Result.{on_ok_weaker}
use Rattle.bh_base.specs.Connections.{state}
use Rattle.sqlite_keyed.specs.Lists.{delete_where}
use Rattle.bh_tables.specs.Typed.{totals_of, tables_in}
use Rattle.bh_tables.specs.Shown.{is_at, is_version}
use Rattle.bh_view.specs.Grouped.{first}
use Rattle.bh_base.specs.Layer.{Standing, standing, HoldsBy}
use Rattle.bh_schema.specs.Rows.{entries_at}
use Rattle.bh_schema.specs.Tallies.{place_of, entries_changed}
use Rattle.bh_schema.specs.declared.rows.tallies.EntryChange.{EntryChange}
use Rattle.bh_schema.proofs.TallySteps.{same_first, place_left}
use Rattle.bh_schema.proofs.VersionSteps.{live_shown, few_here, all_here, read_first, still_inside}
use Rattle.bh_schema.proofs.rows.versions.entry_goes.Goals as goal

pub place_of_id-requires-clause-inside : goal.place_of_id-requires-clause-inside
place_of_id-requires-clause-inside g c = λ clean.
    still_inside (state g.S.Store g.P.Shelf c.args.connection.now) (state g.S.Store g.P.Shelf c.newest_places.new.connection) (c.in_ok-newest.ensures.reads.same clean.intact) (c.requires.inside (c.in_ok-newest.ensures.reads.within.follows.clean clean))

pub recount-requires : goal.recount-requires
recount-requires g c = record {
  inside = λ clean.
      let a = state g.S.Store g.P.Shelf c.args.connection.now in
      let b = state g.S.Store g.P.Shelf c.newest_places.new.connection in
      let e = state g.S.Store g.P.Shelf c.place_of_id.new.connection in
      let middle = c.in_ok-gone.ensures.reads.within.follows.clean clean in
      still_inside a e (c.in_ok-gone.ensures.reads.same clean.intact ∙ c.in_ok-newest.ensures.reads.same middle.intact) (c.requires.inside (c.in_ok-newest.ensures.reads.within.follows.clean middle));
}

pub returns-clause-enters : goal.returns-clause-enters
returns-clause-enters g c = on_ok_weaker c.recount.result (λ enters clean.
    let a = state g.S.Store g.P.Shelf c.args.connection.now in
    let b = state g.S.Store g.P.Shelf c.newest_places.new.connection in
    let e = state g.S.Store g.P.Shelf c.place_of_id.new.connection in
    let d = state g.S.Store g.P.Shelf c.recount.new.connection in
    let tenant = c.args.tenant.now in
    let bucket = c.args.bucket.now in
    let okey = c.args.okey.now in
    let t = tables_in (standing a).now in
    let m = is_version tenant bucket okey c.args.id in
    let entries = entries_at tenant bucket okey t.versions in
    let last = c.recount.ensures.writes.within.follows.clean clean in
    let middle = c.in_ok-gone.ensures.reads.within.follows.clean last in
    let was = c.in_ok-newest.ensures.reads.within.follows.clean middle in
    let same = c.in_ok-newest.ensures.reads.same middle.intact in
    let one = c.in_ok-newest.ensures.first middle in
    let two = c.in_ok-newest.ensures.second middle in
    let gone = c.marker_of.ensures (find m t.versions) (c.in_ok-gone.ensures.found last ∙ ap (λ (x : Standing). option_map place_of (find m (tables_in x.now).versions)) same) in
    let left = place_left tenant bucket okey c.args.id c.in_ok-newest.newest (filter (is_at tenant bucket okey) t.versions) (all_here a (live_shown g.S.Store g.P.Shelf c.args.connection.now c.schema-schema.ensures.live) was (c.requires.inside was) tenant bucket okey)
    (few_here a (live_shown g.S.Store g.P.Shelf c.args.connection.now c.schema-schema.ensures.live) was (c.requires.inside was) tenant bucket okey c.args.id) one two in
    let after = c.marker_of-2.ensures (first (delete_where m entries)) (c.newest_after.ensures ∙ left) in
    let before = c.marker_of-3.ensures (first entries) (one ∙ ap (option_map place_of) (same_first entries)) in
    subst (λ (x : EntryChange). HoldsBy (entries_changed tenant x (totals_of t)) t (standing d)) (λ i. record { come = None; gone = gone i; after = after i; before = before i })
    (read_first a e d (entries_changed tenant (record { come = None; gone = c.marker_of.result; after = c.marker_of-2.result; before = c.marker_of-3.result }))
    (λ so. let there = c.recount.ensures.writes.within.follows.clean so in c.in_ok-gone.ensures.reads.same there.intact ∙ c.in_ok-newest.ensures.reads.same (c.in_ok-gone.ensures.reads.within.follows.clean there).intact) enters clean)) c.recount.ensures.enters
