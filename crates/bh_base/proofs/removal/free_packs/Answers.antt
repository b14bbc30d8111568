use Rattle.std.proofs.Common.{inl, inr, arith, refl, subst, ◌∙◌}
use Rattle.sqlite_rules.specs.Lists.{Has}
use Rattle.bh_base.specs.Connections.{state}
use Rattle.bh_base.proofs.Freeing.{taken, all_taken, stays, within_next, midst_settled}
use Rattle.bh_base.proofs.PlaceCalls.{then_turned}
use Rattle.bh_base.proofs.removal.free_packs.Goals as goal

pub loop-row-init : goal.loop-row-init
loop-row-init g c =
    let s = state g.S.Store g.P.Shelf c.args.connection.now in
    record {
      within = stays s (midst_settled s c.requires.midst);
      opens = λ intact up. up;
      midst = c.requires.midst;
      turned = λ clean sums by. record { within = by; is = refl };
      placed = λ clean. refl;
      unnamed = λ clean row has. absurd has;
    }

pub loop-row-preserved : goal.loop-row-preserved
loop-row-preserved g c =
    let inv = c.loop-row.invariant in
    let step = c.in_ok-free_pack.ensures.frees in
    let first = state g.S.Store g.P.Shelf c.args.connection.now in
    let mid = state g.S.Store g.P.Shelf c.loop-row.connection in
    let last = state g.S.Store g.P.Shelf c.free_pack.new.connection in
    record {
      within = within_next first mid last inv.opens inv.within step.writes.within;
      opens = λ intact up. step.writes.opens intact (inv.opens (step.writes.within.follows.intact intact) up);
      midst = step.writes.midst;
      turned = then_turned first mid last (λ s. s) (λ s. s) (λ t. t) (λ t. t) step.writes.within.follows.clean inv.turned step.rewrites;
      placed = λ clean. step.places clean ∙ inv.placed (step.writes.within.follows.clean clean);
      unnamed = λ clean row has. elim (taken c.args.rows.now c.loop-row.row-index c.row-item.result row c.loop-row-test.true c.row-item.is has) [
        | inl was ↦ λ pack is p its. inv.unnamed (step.writes.within.follows.clean clean) row was pack is p (subst (λ ps. Has ps p) (step.places clean) its)
        | inr same ↦ step.unnamed clean row (inl same)
      ];
    }

pub returns : goal.returns
returns g c =
    let inv = c.loop-row.invariant in
    record {
      frees = record {
        writes = record { within = inv.within; opens = inv.opens; midst = inv.midst };
        rewrites = inv.turned;
        places = inv.placed;
        unnamed = λ clean row has. inv.unnamed clean row (all_taken c.args.rows.now c.loop-row.row-index (λ low. let end = c.loop-row-test.false in omega (arith, low, end)) row has);
      };
    }
