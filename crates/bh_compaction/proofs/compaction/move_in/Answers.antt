use Rattle.std.proofs.Common.{◌≤◌, arith, length, sym, subst, ◌∙◌}
use Rattle.bh_base.specs.Connections.{state, places}
use Rattle.bh_base.specs.Layer.{standing}
use Rattle.bh_base.proofs.Calls.{midst_by}
use Rattle.bh_base.proofs.PlaceCalls.{asked_first, still_midst}
use Rattle.bh_compaction.specs.Moves.{Moves}
use Rattle.bh_compaction.proofs.Chains.{where_found, writes_then}
use Rattle.bh_compaction.proofs.Found.{few_taken}
use Rattle.bh_compaction.proofs.compaction.move_in.Goals as goal

pub name_rows-requires-clause-reads : goal.name_rows-requires-clause-reads
name_rows-requires-clause-reads g c clean = midst_by (standing (state g.S.Store g.P.Shelf c.args.connection.now)) (c.requires.midst clean)

pub move_rows-requires : goal.move_rows-requires
move_rows-requires g c = record { midst = still_midst _ _ c.in_ok-rows.ensures.reads.within c.in_ok-rows.ensures.reads.same c.requires.midst }

pub returns-clause-writes : goal.returns-clause-writes
returns-clause-writes g c =
    let one = c.in_ok-rows.ensures.reads in
    writes_then g.S.Store g.P.Shelf c.args.connection.now c.name_rows.new.connection c.move_rows.new.connection (λ intact up. (one.opens intact).1) one.within c.move_rows.ensures.writes

pub returns-clause-rewrites : goal.returns-clause-rewrites
returns-clause-rewrites g c = where_found c.move_rows.result (λ count turned. asked_first (λ s. s) (λ t. t)
    (state g.S.Store g.P.Shelf c.args.connection.now) (state g.S.Store g.P.Shelf c.name_rows.new.connection) (state g.S.Store g.P.Shelf c.move_rows.new.connection)
    (λ clean. c.in_ok-rows.ensures.reads.same (c.move_rows.ensures.writes.within.follows.clean clean).intact) turned) c.move_rows.ensures.rewrites

pub returns-clause-moved : goal.returns-clause-moved
returns-clause-moved g c = where_found c.move_rows.result (λ count moved clean.
    let mid = c.move_rows.ensures.writes.within.follows.clean clean in
    subst (λ ps. Moves c.args.pack count ps (places g.S.Store g.P.Shelf c.move_rows.new.connection)) (c.in_ok-rows.ensures.still mid).places (moved clean)) c.move_rows.ensures.moved

pub returns-clause-few : goal.returns-clause-few
returns-clause-few g c = where_found c.move_rows.result (λ count few clean.
    let mid = c.move_rows.ensures.writes.within.follows.clean clean in
    let is = c.deref.ensures.value ∙ c.in_ok-rows.ensures.rows mid in
    let most : length c.deref.result.now ≤ c.args.step.blocks = subst (λ rows. length rows ≤ c.args.step.blocks) (sym is) (few_taken c.args.step.blocks _) in
    omega (arith, few, most)) c.move_rows.ensures.few
