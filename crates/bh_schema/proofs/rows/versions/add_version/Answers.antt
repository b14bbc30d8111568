use Rattle.std.proofs.Common.{refl}
use Rattle.bh_base.specs.Connections.{state}
use Rattle.bh_tables.specs.Typed.{used_changed, tables_in}
use Rattle.bh_base.specs.Layer.{standing}
use Rattle.bh_schema.specs.Tallies.{coming, entries_changed}
use Rattle.bh_schema.specs.Written.{version_columns_of, with_version, with_next}
use Rattle.bh_schema.proofs.Storing.{within_then}
use Rattle.bh_schema.proofs.VersionSteps.{live_shown, then_entered, ended_so, comes_law}
use Rattle.bh_schema.proofs.rows.versions.add_version.Goals as goal

pub returns-clause-holds : goal.returns-clause-holds
returns-clause-holds g c = λ clean.
    let v = c.args.version.now in
    let tenant = v.tenant.now in
    let a = state g.S.Store g.P.Shelf c.args.connection.now in
    let b = state g.S.Store g.P.Shelf c.entry_comes.new.connection in
    let d = state g.S.Store g.P.Shelf c.use_entry.new.connection in
    let e = state g.S.Store g.P.Shelf c.insert_version.new.connection in
    let one = c.in_ok-entry_comes.ensures in
    let two = c.in_ok-use_entry.ensures in
    let three = c.in_ok-insert_version.ensures in
    let counted = entries_changed tenant (coming tenant v.bucket.now v.okey.now 0 (tables_in (standing a).now)) in
    let numbered = with_next tenant c.args.next in
    let used = used_changed tenant v.size 0 in
    let middle = two.writes.within.follows.clean (three.writes.within.follows.clean clean) in
    ended_so a e (λ s. used (counted s)) (λ t. with_version v (numbered t)) (λ so. one.writes.within.follows.clean (two.writes.within.follows.clean (three.writes.within.follows.clean so)))
    (then_entered a d e (λ s. used (counted s)) (λ s. s) numbered (with_version v) three.writes.within.follows.clean
    (then_entered a b d counted used (λ t. t) numbered two.writes.within.follows.clean one.enters two.rewrites) three.rewrites)
    (λ was. comes_law a (live_shown g.S.Store g.P.Shelf c.args.connection.now c.schema-schema.ensures.live) was (c.requires.inside was) (version_columns_of v) (one.newer middle) (λ t. record t { next_entry = c.args.next }) (λ t. refl)) clean

pub returns-clause-writes : goal.returns-clause-writes
returns-clause-writes g c =
    let a = state g.S.Store g.P.Shelf c.args.connection.now in
    let b = state g.S.Store g.P.Shelf c.entry_comes.new.connection in
    let d = state g.S.Store g.P.Shelf c.use_entry.new.connection in
    let e = state g.S.Store g.P.Shelf c.insert_version.new.connection in
    let one = c.in_ok-entry_comes.ensures.writes in
    let two = c.in_ok-use_entry.ensures.writes in
    let three = c.in_ok-insert_version.ensures.writes in
    record {
      within = within_then a d e (λ intact up. two.opens intact (one.opens (two.within.follows.intact intact) up)) (within_then a b d one.opens one.within two.within) three.within;
      opens = λ intact up. let before = three.within.follows.intact intact in three.opens intact (two.opens before (one.opens (two.within.follows.intact before) up));
      inside = λ clean. (returns-clause-holds g c clean).within;
    }
