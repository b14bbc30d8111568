use Rattle.bh_base.specs.Connections.{state}
use Rattle.bh_tables.specs.Typed.{Totals, used_changed, kept_changed, tables_in}
use Rattle.bh_base.specs.Layer.{standing, IsIntact, IsOpen}
use Rattle.bh_base.proofs.Calls.{in_midst}
use Rattle.bh_schema.proofs.Storing.{within_then}
use Rattle.bh_schema.proofs.VersionSteps.{then_turned, ended}
use Rattle.bh_uploads.specs.Writes.{without_parts}
use Rattle.bh_uploads.proofs.Keeping.{taken_law}
use Rattle.bh_uploads.proofs.rows.kept.take_parts.Goals as goal

pub delete_parts-requires-clause-midst : goal.delete_parts-requires-clause-midst
delete_parts-requires-clause-midst g c clean = in_midst (standing (state g.S.Store g.P.Shelf c.args.connection.now)) (c.requires.inside clean)

pub returns-clause-holds : goal.returns-clause-holds
returns-clause-holds g c =
    let t = c.args.tenant.now in
    let a = state g.S.Store g.P.Shelf c.args.connection.now in
    let b = state g.S.Store g.P.Shelf c.delete_parts.new.connection in
    let d = state g.S.Store g.P.Shelf c.use_less.new.connection in
    let e = state g.S.Store g.P.Shelf c.keep_bytes.new.connection in
    let one = c.in_ok-delete_parts.ensures in
    let two = c.in_ok-use_less.ensures in
    let three = c.in_ok-keep_bytes.ensures in
    let gone = without_parts t c.args.upload in
    let used : Totals → Totals = used_changed t 0 c.args.kept in
    let kept : Totals → Totals = kept_changed (t, c.args.upload) 0 c.args.kept in
    ended a e (λ s. kept (used s)) gone (λ clean. one.writes.within.follows.clean (two.writes.within.follows.clean (three.writes.within.follows.clean clean))) c.requires.inside
    (then_turned a d e used kept gone (λ x. x) three.writes.within.follows.clean (then_turned a b d (λ s. s) used gone (λ x. x) two.writes.within.follows.clean one.rewrites two.rewrites) three.rewrites)
    (λ was. taken_law (tables_in (standing a).now) t c.args.upload c.args.kept (c.requires.held was))

pub returns-clause-writes : goal.returns-clause-writes
returns-clause-writes g c =
    let one = c.in_ok-delete_parts.ensures.writes in
    let two = c.in_ok-use_less.ensures.writes in
    let three = c.in_ok-keep_bytes.ensures.writes in
    let w1 = within_then (state g.S.Store g.P.Shelf c.args.connection.now) (state g.S.Store g.P.Shelf c.delete_parts.new.connection) (state g.S.Store g.P.Shelf c.use_less.new.connection) one.opens one.within two.within in
    let o1 : IsIntact (state g.S.Store g.P.Shelf c.use_less.new.connection) → IsOpen (state g.S.Store g.P.Shelf c.args.connection.now) → IsOpen (state g.S.Store g.P.Shelf c.use_less.new.connection) = λ intact up. two.opens intact (one.opens (two.within.follows.intact intact) up) in
    let w2 = within_then (state g.S.Store g.P.Shelf c.args.connection.now) (state g.S.Store g.P.Shelf c.use_less.new.connection) (state g.S.Store g.P.Shelf c.keep_bytes.new.connection) o1 w1 three.within in
    let o2 : IsIntact (state g.S.Store g.P.Shelf c.keep_bytes.new.connection) → IsOpen (state g.S.Store g.P.Shelf c.args.connection.now) → IsOpen (state g.S.Store g.P.Shelf c.keep_bytes.new.connection) = λ intact up. three.opens intact (o1 (three.within.follows.intact intact) up) in
    record { within = w2; opens = o2; inside = λ clean. (returns-clause-holds g c clean).within }
