use Rattle.std.proofs.Common.{Some, sym, subst}
use Rattle.bh_tables.specs.Packs.{place_at}
use Rattle.bh_base.specs.Connections.{state, places}
use Rattle.bh_base.specs.Layer.{standing}
use Rattle.bh_base.specs.Places.{IsFound}
use Rattle.bh_base.proofs.Calls.{midst_by}
use Rattle.bh_base.proofs.PlaceCalls.{asked_first, still_midst}
use Rattle.bh_compaction.specs.Moves.{MovesPlace}
use Rattle.bh_compaction.proofs.Chains.{where_found, writes_then}
use Rattle.bh_compaction.proofs.moving.move_row.Goals as goal

pub place_in-requires-clause-reads : goal.place_in-requires-clause-reads
place_in-requires-clause-reads g c clean = midst_by (standing (state g.S.Store g.P.Shelf c.args.connection.now)) (c.requires.midst clean)

pub replace-requires-clause-midst : goal.replace-requires-clause-midst
replace-requires-clause-midst g c = still_midst _ _ c.in_ok-old.ensures.reads.within c.in_ok-old.ensures.reads.same c.requires.midst

pub replace-requires-clause-placed : goal.replace-requires-clause-placed
replace-requires-clause-placed g c clean =
    let one = c.in_ok-old.ensures in
    subst (λ ps. IsFound (place_at ps (c.as_slice-digest.result.now, c.in_ok-name.name.ord)) (Some c.in_ok-old.old)) (sym (one.still clean)) (one.found clean)

pub returns-clause-writes : goal.returns-clause-writes
returns-clause-writes g c =
    let one = c.in_ok-old.ensures.reads in
    writes_then g.S.Store g.P.Shelf c.args.connection.now c.place_in.new.connection c.replace.new.connection (λ intact up. (one.opens intact).1) one.within c.replace.ensures.writes

pub returns-clause-rewrites : goal.returns-clause-rewrites
returns-clause-rewrites g c = where_found c.replace.result (λ place turned. asked_first (λ s. s) (λ t. t)
    (state g.S.Store g.P.Shelf c.args.connection.now) (state g.S.Store g.P.Shelf c.place_in.new.connection) (state g.S.Store g.P.Shelf c.replace.new.connection)
    (λ clean. c.in_ok-old.ensures.reads.same (c.replace.ensures.writes.within.follows.clean clean).intact) turned) c.replace.ensures.rewrites

pub returns-clause-moved : goal.returns-clause-moved
returns-clause-moved g c = where_found c.replace.result (λ place moved clean.
    let one = c.in_ok-old.ensures in
    let mid = c.replace.ensures.writes.within.follows.clean clean in
    let now = places g.S.Store g.P.Shelf c.replace.new.connection in
    subst (λ k. MovesPlace k (places g.S.Store g.P.Shelf c.args.connection.now) now) one.in_pack (subst (λ ps. MovesPlace c.in_ok-old.old.pack ps now) (one.still mid) (moved clean))) c.replace.ensures.moved
