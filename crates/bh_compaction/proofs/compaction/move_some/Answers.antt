use Rattle.std.proofs.Common.{arith, refl, subst}
use Rattle.bh_base.specs.Connections.{state, places, packs}
use Rattle.bh_base.specs.Layer.{standing}
use Rattle.bh_base.proofs.Calls.{midst_by}
use Rattle.bh_base.proofs.PlaceCalls.{asked_first, still_midst}
use Rattle.bh_compaction.specs.Moves.{Moves}
use Rattle.bh_compaction.proofs.Chains.{where_found, writes_then}
use Rattle.bh_compaction.proofs.Others.{compacts, compacts_none}
use Rattle.bh_compaction.proofs.compaction.move_some.Goals as goal

pub sparse_pack-requires-clause-reads : goal.sparse_pack-requires-clause-reads
sparse_pack-requires-clause-reads g c clean = midst_by (standing (state g.S.Store g.P.Shelf c.args.connection.now)) (c.requires.midst clean)

pub move_in-requires-clause-midst : goal.move_in-requires-clause-midst
move_in-requires-clause-midst g c = still_midst _ _ c.in_ok-sparse_pack.ensures.reads.within c.in_ok-sparse_pack.ensures.reads.same c.requires.midst

pub returns-in-None-clause-writes : goal.returns-in-None-clause-writes
returns-in-None-clause-writes g c =
    let one = c.in_ok-sparse_pack.ensures.reads in
    record { within = one.within; opens = λ intact up. (one.opens intact).1; midst = still_midst _ _ one.within one.same c.requires.midst }

pub returns-in-None-clause-rewrites : goal.returns-in-None-clause-rewrites
returns-in-None-clause-rewrites g c = asked_first (λ s. s) (λ t. t)
    (state g.S.Store g.P.Shelf c.args.connection.now) (state g.S.Store g.P.Shelf c.sparse_pack.new.connection) (state g.S.Store g.P.Shelf c.sparse_pack.new.connection)
    (λ clean. c.in_ok-sparse_pack.ensures.reads.same clean.intact) (λ clean sums by. record { within = by; is = refl })

pub returns-in-None-clause-moved : goal.returns-in-None-clause-moved
returns-in-None-clause-moved g c clean =
    compacts_none c.args.sparse (packs g.S.Store g.P.Shelf c.args.connection.now) (places g.S.Store g.P.Shelf c.args.connection.now) (places g.S.Store g.P.Shelf c.sparse_pack.new.connection) (c.in_ok-sparse_pack.ensures.still clean).places

pub returns-in-Some-clause-writes : goal.returns-in-Some-clause-writes
returns-in-Some-clause-writes g c =
    let one = c.in_ok-sparse_pack.ensures.reads in
    writes_then g.S.Store g.P.Shelf c.args.connection.now c.sparse_pack.new.connection c.move_in.new.connection (λ intact up. (one.opens intact).1) one.within c.move_in.ensures.writes

pub returns-in-Some-clause-rewrites : goal.returns-in-Some-clause-rewrites
returns-in-Some-clause-rewrites g c = where_found c.move_in.result (λ count turned. asked_first (λ s. s) (λ t. t)
    (state g.S.Store g.P.Shelf c.args.connection.now) (state g.S.Store g.P.Shelf c.sparse_pack.new.connection) (state g.S.Store g.P.Shelf c.move_in.new.connection)
    (λ clean. c.in_ok-sparse_pack.ensures.reads.same (c.move_in.ensures.writes.within.follows.clean clean).intact) turned) c.move_in.ensures.rewrites

pub returns-in-Some-clause-moved : goal.returns-in-Some-clause-moved
returns-in-Some-clause-moved g c = where_found c.move_in.result (λ count moved clean.
    let mid = c.move_in.ensures.writes.within.follows.clean clean in
    let now = places g.S.Store g.P.Shelf c.move_in.new.connection in
    compacts c.args.sparse count (packs g.S.Store g.P.Shelf c.args.connection.now) (places g.S.Store g.P.Shelf c.args.connection.now) now c.in-Some.pack
    (λ some. (rw c.in-Some.is at c.in_ok-sparse_pack.ensures.found) mid)
    (subst (λ ps. Moves c.in-Some.pack count ps now) (c.in_ok-sparse_pack.ensures.still mid).places (moved clean))) c.move_in.ensures.moved

pub returns-in-None-clause-few : goal.returns-in-None-clause-few
returns-in-None-clause-few g c clean = omega arith

pub returns-in-Some-clause-few : goal.returns-in-Some-clause-few
returns-in-Some-clause-few g c = c.move_in.ensures.few
