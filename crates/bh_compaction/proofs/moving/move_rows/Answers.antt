use Rattle.std.proofs.Common.{arith, refl}
use Rattle.bh_base.specs.Connections.{state, places}
use Rattle.bh_base.proofs.Freeing.{stays, midst_settled, within_next}
use Rattle.bh_base.proofs.PlaceCalls.{then_turned}
use Rattle.bh_compaction.proofs.Replacing.{moves_more, moves_none}
use Rattle.bh_compaction.proofs.moving.move_rows.Goals as goal

pub loop-row-init : goal.loop-row-init
loop-row-init g c =
    let s = state g.S.Store g.P.Shelf c.args.connection.now in
    record {
      within = stays s (midst_settled s c.requires.midst);
      opens = λ intact up. up;
      midst = c.requires.midst;
      turned = λ clean sums by. record { within = by; is = refl };
      few = omega arith;
      most = omega arith;
      moved = λ clean. moves_none c.args.pack (places g.S.Store g.P.Shelf c.args.connection.now);
    }

pub loop-row-preserved : goal.loop-row-preserved
loop-row-preserved g c =
    let inv = c.loop-row.invariant in
    let step = c.in_ok-move_row.ensures in
    let first = state g.S.Store g.P.Shelf c.args.connection.now in
    let mid = state g.S.Store g.P.Shelf c.loop-row.connection in
    let last = state g.S.Store g.P.Shelf c.move_row.new.connection in
    record {
      within = within_next first mid last inv.opens inv.within step.writes.within;
      opens = λ intact up. step.writes.opens intact (inv.opens (step.writes.within.follows.intact intact) up);
      midst = step.writes.midst;
      turned = then_turned first mid last (λ s. s) (λ s. s) (λ t. t) (λ t. t) step.writes.within.follows.clean inv.turned (rw c.in-Some.is at step.rewrites);
      few = let low = inv.few in omega (arith, low);
      most = let low = inv.few in let within = c.loop-row-test.true in omega (arith, low, within);
      moved = λ clean. moves_more c.args.pack c.loop-row.count (places g.S.Store g.P.Shelf c.args.connection.now) (places g.S.Store g.P.Shelf c.loop-row.connection) (places g.S.Store g.P.Shelf c.move_row.new.connection)
          (inv.moved (step.writes.within.follows.clean clean)) ((rw c.in-Some.is at step.moved) clean);
    }

pub returns-clause-writes : goal.returns-clause-writes
returns-clause-writes g c = let inv = c.loop-row.invariant in record { within = inv.within; opens = inv.opens; midst = inv.midst }

pub returns-clause-rewrites : goal.returns-clause-rewrites
returns-clause-rewrites g c = c.loop-row.invariant.turned

pub returns-clause-moved : goal.returns-clause-moved
returns-clause-moved g c = c.loop-row.invariant.moved

pub returns-in-None-clause-writes : goal.returns-in-None-clause-writes
returns-in-None-clause-writes g c =
    let inv = c.loop-row.invariant in
    let step = c.in_ok-move_row.ensures.writes in
    record {
      within = within_next (state g.S.Store g.P.Shelf c.args.connection.now) (state g.S.Store g.P.Shelf c.loop-row.connection) (state g.S.Store g.P.Shelf c.move_row.new.connection) inv.opens inv.within step.within;
      opens = λ intact up. step.opens intact (inv.opens (step.within.follows.intact intact) up);
      midst = step.midst;
    }
