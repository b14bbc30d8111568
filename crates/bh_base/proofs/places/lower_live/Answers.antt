use Rattle.std.proofs.Common.{◌≡◌, ◌≤◌, arith, true, sym, ap, subst, ◌∙◌}
use Rattle.std.proofs.lemmas.Result.{on_ok_weaker}
use Rattle.sqlite.specs.Held.{state as database_state}
use Rattle.sqlite_keyed.specs.Lists.{update_where}
use Rattle.sqlite_rules.specs.Lists.{Has}
use Rattle.bh_tables.specs.Rows.{PackRow}
use Rattle.bh_tables.specs.Packs.{packs_in, is_pack}
use Rattle.bh_base.specs.Connections.{state, packs}
use Rattle.bh_base.specs.Places.{measured_as}
use Rattle.bh_base.specs.Layer.{standing}
use Rattle.bh_base.proofs.Calls.{midst_by}
use Rattle.bh_base.proofs.Measuring.{longest, lowered_same}
use Rattle.bh_base.proofs.PlaceCalls.{asked_first, still_midst}
use Rattle.bh_base.proofs.places.lower_live.Goals as goal

pub measure_of-requires-clause-reads : goal.measure_of-requires-clause-reads
measure_of-requires-clause-reads g c clean = midst_by (standing (state g.S.Store g.P.Shelf c.args.connection.now)) (c.requires.midst clean)

pub set_pack-requires-clause-midst : goal.set_pack-requires-clause-midst
set_pack-requires-clause-midst g c = still_midst _ _ c.in_ok-measure_of.ensures.reads.within c.in_ok-measure_of.ensures.reads.same c.requires.midst

pub set_pack-requires-clause-longest : goal.set_pack-requires-clause-longest
set_pack-requires-clause-longest g c clean =
    let read = c.in_ok-measure_of.ensures in
    let m = c.in-Some.measure in
    subst (λ ks. (p : PackRow) → Has ks p → is_pack c.args.pack p ≡ true → p.length ≤ m.length) (sym (read.still clean).packs)
    (longest c.args.pack (packs_in (database_state g.S.Store c.args.connection.now.database).now.trees) m (rw c.in-Some.is at (read.found clean)) m.length (omega arith))

pub returns-in-Some-clause-rewrites : goal.returns-in-Some-clause-rewrites
returns-in-Some-clause-rewrites g c = on_ok_weaker c.set_pack.result (λ turned. asked_first (λ s. s) (λ t. t)
    (state g.S.Store g.P.Shelf c.args.connection.now) (state g.S.Store g.P.Shelf c.measure_of.new.connection) (state g.S.Store g.P.Shelf c.set_pack.new.connection)
    (λ clean. c.in_ok-measure_of.ensures.reads.same (c.set_pack.ensures.writes.within.follows.clean clean).intact) turned) c.set_pack.ensures.rewrites

pub returns-in-Some-clause-lowered : goal.returns-in-Some-clause-lowered
returns-in-Some-clause-lowered g c = on_ok_weaker c.set_pack.result (λ set clean.
    let mid = c.set_pack.ensures.writes.within.follows.clean clean in
    let read = c.in_ok-measure_of.ensures in
    let still = read.still mid in
    let it = set clean in
    let m = c.in-Some.measure in
    record {
      packs = it.packs ∙ ap (update_where (is_pack c.args.pack) _) still.packs ∙ ap (λ n. update_where (is_pack c.args.pack) (measured_as m.length n) (packs g.S.Store g.P.Shelf c.args.connection.now)) c.saturating_sub.ensures ∙ lowered_same c.args.pack (packs_in (database_state g.S.Store c.args.connection.now.database).now.trees) m (rw c.in-Some.is at (read.found mid)) c.args.size;
      places = it.places ∙ still.places;
      contents = it.contents ∙ still.contents;
    }) c.set_pack.ensures.set
