use Rattle.bh_base.specs.Connections.{state}
use Rattle.bh_tables.specs.Typed.{used_changed, tables_in}
use Rattle.bh_base.specs.Layer.{standing}
use Rattle.bh_schema.specs.Tallies.{going, entries_changed}
use Rattle.bh_schema.specs.Written.{without_version}
use Rattle.bh_schema.proofs.Storing.{within_then}
use Rattle.bh_schema.proofs.VersionSteps.{live_shown, then_entered, ended_so, deleted_law}
use Rattle.bh_schema.proofs.rows.versions.delete_version.Goals as goal

pub returns-clause-holds : goal.returns-clause-holds
returns-clause-holds g c =
    let tenant = c.args.tenant.now in
    let bucket = c.args.bucket.now in
    let okey = c.args.okey.now in
    let a = state g.S.Store g.P.Shelf c.args.connection.now in
    let b = state g.S.Store g.P.Shelf c.entry_goes.new.connection in
    let d = state g.S.Store g.P.Shelf c.use_less.new.connection in
    let e = state g.S.Store g.P.Shelf c.remove_version.new.connection in
    let one = c.in_ok-entry_goes.ensures in
    let two = c.in_ok-use_less.ensures in
    let three = c.in_ok-remove_version.ensures in
    let counted = entries_changed tenant (going tenant bucket okey c.args.id (tables_in (standing a).now)) in
    let used = used_changed tenant 0 c.args.size in
    let gone = without_version tenant bucket okey c.args.id in
    ended_so a e (λ s. used (counted s)) gone (λ so. one.writes.within.follows.clean (two.writes.within.follows.clean (three.writes.within.follows.clean so)))
    (then_entered a d e (λ s. used (counted s)) (λ s. s) (λ t. t) gone three.writes.within.follows.clean
    (then_entered a b d counted used (λ t. t) (λ t. t) two.writes.within.follows.clean one.enters two.rewrites) three.rewrites)
    (λ was. deleted_law a (live_shown g.S.Store g.P.Shelf c.args.connection.now c.schema-schema.ensures.live) was (c.requires.inside was) tenant bucket okey c.args.id c.args.size (c.requires.held was))

pub returns-clause-writes : goal.returns-clause-writes
returns-clause-writes g c =
    let a = state g.S.Store g.P.Shelf c.args.connection.now in
    let b = state g.S.Store g.P.Shelf c.entry_goes.new.connection in
    let d = state g.S.Store g.P.Shelf c.use_less.new.connection in
    let e = state g.S.Store g.P.Shelf c.remove_version.new.connection in
    let one = c.in_ok-entry_goes.ensures.writes in
    let two = c.in_ok-use_less.ensures.writes in
    let three = c.in_ok-remove_version.ensures.writes in
    record {
      within = within_then a d e (λ intact up. two.opens intact (one.opens (two.within.follows.intact intact) up)) (within_then a b d one.opens one.within two.within) three.within;
      opens = λ intact up. let before = three.within.follows.intact intact in three.opens intact (two.opens before (one.opens (two.within.follows.intact before) up));
      inside = λ clean. (returns-clause-holds g c clean).within;
    }
