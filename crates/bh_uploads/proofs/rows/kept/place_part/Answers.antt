use Rattle.std.proofs.Common.{◌++◌, ◌∷◌, []}
use Rattle.bh_base.specs.Connections.{state}
use Rattle.sqlite_keyed.specs.Lists.{delete_where}
use Rattle.bh_tables.specs.Bodies.{resolved_part}
use Rattle.bh_tables.specs.Shown.{is_part}
use Rattle.bh_tables.specs.Typed.{Totals, Tables, used_changed, kept_changed}
use Rattle.bh_base.specs.Layer.{standing, IsIntact, IsOpen}
use Rattle.bh_base.proofs.Calls.{in_midst}
use Rattle.bh_schema.proofs.Storing.{within_then}
use Rattle.bh_schema.proofs.VersionSteps.{live_shown, then_turned, ended}
use Rattle.bh_uploads.specs.Rows.{stored_part}
use Rattle.bh_uploads.specs.Writes.{with_next_entry}
use Rattle.bh_uploads.proofs.Keeping.{placed_law}
use Rattle.bh_uploads.proofs.rows.kept.place_part.Goals as goal

pub delete_part-requires-clause-midst : goal.delete_part-requires-clause-midst
delete_part-requires-clause-midst g c clean = in_midst (standing (state g.S.Store g.P.Shelf c.args.connection.now)) (c.requires.inside clean)

pub returns-clause-holds : goal.returns-clause-holds
returns-clause-holds g c =
    let p = stored_part c.args.part.now in
    let a = state g.S.Store g.P.Shelf c.args.connection.now in
    let b = state g.S.Store g.P.Shelf c.delete_part.new.connection in
    let d = state g.S.Store g.P.Shelf c.insert_part.new.connection in
    let e = state g.S.Store g.P.Shelf c.use_entry.new.connection in
    let f = state g.S.Store g.P.Shelf c.keep_bytes.new.connection in
    let one = c.in_ok-delete_part.ensures in
    let two = c.in_ok-insert_part.ensures in
    let three = c.in_ok-use_entry.ensures in
    let four = c.in_ok-keep_bytes.ensures in
    let gone : Tables → Tables = λ t. record t { parts = delete_where (is_part p.tenant p.upload p.part) t.parts } in
    let come : Tables → Tables = λ t. record t { parts = t.parts ++ resolved_part t.refs t.blocks p ∷ [] } in
    let next : Tables → Tables = with_next_entry p.tenant c.args.next in
    let used : Totals → Totals = used_changed p.tenant p.size c.args.replaced in
    let kept : Totals → Totals = kept_changed (p.tenant, p.upload) p.size c.args.replaced in
    ended a f (λ s. kept (used s)) (λ t. next (come (gone t))) (λ clean. one.writes.within.follows.clean (two.writes.within.follows.clean (three.writes.within.follows.clean (four.writes.within.follows.clean clean)))) c.requires.inside
    (then_turned a e f used kept (λ t. next (come (gone t))) (λ t. t) four.writes.within.follows.clean
    (then_turned a d e (λ s. s) used (λ t. come (gone t)) next three.writes.within.follows.clean
    (then_turned a b d (λ s. s) (λ s. s) gone come two.writes.within.follows.clean one.rewrites two.rewrites) three.rewrites) four.rewrites)
    (λ was. placed_law a (live_shown g.S.Store g.P.Shelf c.args.connection.now c.schema-schema.ensures.live) was (c.requires.inside was) p c.args.next c.args.replaced (c.requires.held was))

pub returns-clause-writes : goal.returns-clause-writes
returns-clause-writes g c =
    let one = c.in_ok-delete_part.ensures.writes in
    let two = c.in_ok-insert_part.ensures.writes in
    let three = c.in_ok-use_entry.ensures.writes in
    let four = c.in_ok-keep_bytes.ensures.writes in
    let w1 = within_then (state g.S.Store g.P.Shelf c.args.connection.now) (state g.S.Store g.P.Shelf c.delete_part.new.connection) (state g.S.Store g.P.Shelf c.insert_part.new.connection) one.opens one.within two.within in
    let o1 : IsIntact (state g.S.Store g.P.Shelf c.insert_part.new.connection) → IsOpen (state g.S.Store g.P.Shelf c.args.connection.now) → IsOpen (state g.S.Store g.P.Shelf c.insert_part.new.connection) = λ intact up. two.opens intact (one.opens (two.within.follows.intact intact) up) in
    let w2 = within_then (state g.S.Store g.P.Shelf c.args.connection.now) (state g.S.Store g.P.Shelf c.insert_part.new.connection) (state g.S.Store g.P.Shelf c.use_entry.new.connection) o1 w1 three.within in
    let o2 : IsIntact (state g.S.Store g.P.Shelf c.use_entry.new.connection) → IsOpen (state g.S.Store g.P.Shelf c.args.connection.now) → IsOpen (state g.S.Store g.P.Shelf c.use_entry.new.connection) = λ intact up. three.opens intact (o1 (three.within.follows.intact intact) up) in
    let w3 = within_then (state g.S.Store g.P.Shelf c.args.connection.now) (state g.S.Store g.P.Shelf c.use_entry.new.connection) (state g.S.Store g.P.Shelf c.keep_bytes.new.connection) o2 w2 four.within in
    let o3 : IsIntact (state g.S.Store g.P.Shelf c.keep_bytes.new.connection) → IsOpen (state g.S.Store g.P.Shelf c.args.connection.now) → IsOpen (state g.S.Store g.P.Shelf c.keep_bytes.new.connection) = λ intact up. four.opens intact (o2 (four.within.follows.intact intact) up) in
    record { within = w3; opens = o3; inside = λ clean. (returns-clause-holds g c clean).within }
