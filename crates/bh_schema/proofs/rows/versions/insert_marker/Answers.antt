use Rattle.std.proofs.Common.{refl, sym, subst, ◌∙◌}
use Rattle.std.proofs.lemmas.Result.{on_ok_weaker, IfErr-weaker}
use Rattle.bh_base.specs.Connections.{state}
use Rattle.bh_tables.specs.Typed.{Tables, tables_in}
use Rattle.bh_base.specs.Layer.{standing}
use Rattle.bh_schema.specs.Rows.{IsNewVersion}
use Rattle.bh_schema.specs.Tallies.{coming, entries_changed}
use Rattle.bh_schema.specs.Written.{marker_columns_of, with_marker}
use Rattle.bh_schema.proofs.Storing.{within_then}
use Rattle.bh_schema.proofs.VersionSteps.{live_shown, then_entered, ended_so, marker_law}
use Rattle.bh_schema.proofs.rows.versions.insert_marker.Goals as goal

pub returns-clause-holds : goal.returns-clause-holds
returns-clause-holds g c = on_ok_weaker c.insert_marker_row.result (λ rewrites clean.
    let m = c.args.marker.now in
    let a = state g.S.Store g.P.Shelf c.args.connection.now in
    let b = state g.S.Store g.P.Shelf c.entry_comes.new.connection in
    let e = state g.S.Store g.P.Shelf c.insert_marker_row.new.connection in
    let one = c.in_ok-entry_comes.ensures in
    let two = c.insert_marker_row.ensures.writes in
    let counted = entries_changed m.tenant.now (coming m.tenant.now m.bucket.now m.okey.now 1 (tables_in (standing a).now)) in
    let middle = two.within.follows.clean clean in
    ended_so a e counted (with_marker m) (λ so. one.writes.within.follows.clean (two.within.follows.clean so))
    (then_entered a b e counted (λ s. s) (λ t. t) (with_marker m) two.within.follows.clean one.enters rewrites)
    (λ was. marker_law a (live_shown g.S.Store g.P.Shelf c.args.connection.now c.schema-schema.ensures.live) was (c.requires.inside was) (marker_columns_of m) (one.newer middle) refl) clean) c.insert_marker_row.ensures.rewrites

pub returns-clause-writes : goal.returns-clause-writes
returns-clause-writes g c =
    let a = state g.S.Store g.P.Shelf c.args.connection.now in
    let b = state g.S.Store g.P.Shelf c.entry_comes.new.connection in
    let e = state g.S.Store g.P.Shelf c.insert_marker_row.new.connection in
    let one = c.in_ok-entry_comes.ensures.writes in
    let two = c.insert_marker_row.ensures.writes in
    record {
      within = within_then a b e one.opens one.within two.within;
      opens = on_ok_weaker c.insert_marker_row.result (λ stays intact up. stays intact (one.opens (two.within.follows.intact intact) up)) two.opens;
      inside = on_ok_weaker c.insert_marker_row.result (λ holds clean. (holds clean).within) (returns-clause-holds g c);
    }

pub returns-clause-trouble : goal.returns-clause-trouble
returns-clause-trouble g c = IfErr-weaker c.insert_marker_row.result _ _ (λ e told intact unlimited is.
    let m = c.args.marker.now in
    let one = c.in_ok-entry_comes.ensures in
    told intact (one.writes.within.follows.limit ∙ unlimited) (λ middle. subst (λ (t : Tables). IsNewVersion t m.tenant.now m.bucket.now m.okey.now m.seq m.id) (sym (one.enters middle).is) is)) c.insert_marker_row.ensures.trouble
