use Rattle.std.proofs.Common.{◌≡◌, ◌≤◌, ◌+◌, arith, true, sym, ap, subst, ◌∙◌}
use Rattle.std.proofs.lemmas.Result.{on_ok_weaker}
use Rattle.sqlite_keyed.specs.Lists.{update_where}
use Rattle.sqlite_rules.specs.Lists.{Has}
use Rattle.bh_tables.specs.Rows.{PackRow}
use Rattle.sqlite.specs.Held.{state as database_state}
use Rattle.bh_tables.specs.Packs.{packs_in, is_pack, is_reached}
use Rattle.bh_base.specs.Connections.{state}
use Rattle.bh_base.specs.Places.{measured_as}
use Rattle.bh_base.specs.Layer.{standing}
use Rattle.bh_base.proofs.Calls.{midst_by}
use Rattle.bh_base.proofs.Measuring.{longest, set_reaches, added_reaches}
use Rattle.bh_base.proofs.PlaceCalls.{asked_first, still_midst}
use Rattle.bh_base.proofs.places.note_place.Goals as goal

pub measure_of-requires-clause-reads : goal.measure_of-requires-clause-reads
measure_of-requires-clause-reads g c clean = midst_by (standing (state g.S.Store g.P.Shelf c.args.connection.now)) (c.requires.midst clean)

pub add_pack-requires-clause-midst : goal.add_pack-requires-clause-midst
add_pack-requires-clause-midst g c = still_midst _ _ c.in_ok-measure_of.ensures.reads.within c.in_ok-measure_of.ensures.reads.same c.requires.midst

pub set_pack-requires-clause-midst : goal.set_pack-requires-clause-midst
set_pack-requires-clause-midst g c = still_midst _ _ c.in_ok-measure_of.ensures.reads.within c.in_ok-measure_of.ensures.reads.same c.requires.midst

-- no row of it says more: it is the same rows that were read
pub set_pack-requires-clause-longest : goal.set_pack-requires-clause-longest
set_pack-requires-clause-longest g c clean =
    let read = c.in_ok-measure_of.ensures in
    let m = c.in-Some.measure in
    let low : m.length ≤ c.max.result = omega (arith, c.max.ensures) in
    subst (λ ks. (p : PackRow) → Has ks p → is_pack c.args.place.pack p ≡ true → p.length ≤ c.max.result) (sym (read.still clean).packs)
    (longest c.args.place.pack (packs_in (database_state g.S.Store c.args.connection.now.database).now.trees) m (rw c.in-Some.is at (read.found clean)) c.max.result low)

pub returns-in-None-clause-rewrites : goal.returns-in-None-clause-rewrites
returns-in-None-clause-rewrites g c = on_ok_weaker c.add_pack.result (λ turned. asked_first (λ s. s) (λ t. t)
    (state g.S.Store g.P.Shelf c.args.connection.now) (state g.S.Store g.P.Shelf c.measure_of.new.connection) (state g.S.Store g.P.Shelf c.add_pack.new.connection)
    (λ clean. c.in_ok-measure_of.ensures.reads.same (c.add_pack.ensures.writes.within.follows.clean clean).intact) turned) c.add_pack.ensures.rewrites

pub returns-in_ok-live-in-Some-clause-rewrites : goal.returns-in_ok-live-in-Some-clause-rewrites
returns-in_ok-live-in-Some-clause-rewrites g c = on_ok_weaker c.set_pack.result (λ turned. asked_first (λ s. s) (λ t. t)
    (state g.S.Store g.P.Shelf c.args.connection.now) (state g.S.Store g.P.Shelf c.measure_of.new.connection) (state g.S.Store g.P.Shelf c.set_pack.new.connection)
    (λ clean. c.in_ok-measure_of.ensures.reads.same (c.set_pack.ensures.writes.within.follows.clean clean).intact) turned) c.set_pack.ensures.rewrites

pub returns-in-None-clause-noted : goal.returns-in-None-clause-noted
returns-in-None-clause-noted g c = on_ok_weaker c.add_pack.result (λ added clean.
    let read = c.in_ok-measure_of.ensures.still (c.add_pack.ensures.writes.within.follows.clean clean) in
    let it = added clean in
    record {
      reached = ap (λ ks. is_reached ks c.args.place.pack (c.args.place.offset + c.args.place.size)) it.packs ∙ added_reaches _ c.args.place.pack (c.args.place.offset + c.args.place.size) c.args.place.size;
      places = it.places ∙ read.places;
      contents = it.contents ∙ read.contents;
    }) c.add_pack.ensures.added

pub returns-in_ok-live-in-Some-clause-noted : goal.returns-in_ok-live-in-Some-clause-noted
returns-in_ok-live-in-Some-clause-noted g c = on_ok_weaker c.set_pack.result (λ set clean.
    let mid = c.set_pack.ensures.writes.within.follows.clean clean in
    let read = c.in_ok-measure_of.ensures in
    let still = read.still mid in
    let it = set clean in
    let m = c.in-Some.measure in
    let low : c.args.place.offset + c.args.place.size ≤ c.max.result = omega (arith, c.max.ensures) in
    record {
      reached = ap (λ ks. is_reached ks c.args.place.pack (c.args.place.offset + c.args.place.size)) (it.packs ∙ ap (update_where (is_pack c.args.place.pack) (measured_as c.max.result c.in_ok-live-in-Some.live)) still.packs)
          ∙ set_reaches c.args.place.pack (packs_in (database_state g.S.Store c.args.connection.now.database).now.trees) m (rw c.in-Some.is at (read.found mid)) c.max.result c.in_ok-live-in-Some.live (c.args.place.offset + c.args.place.size) low;
      places = it.places ∙ still.places;
      contents = it.contents ∙ still.contents;
    }) c.set_pack.ensures.set
