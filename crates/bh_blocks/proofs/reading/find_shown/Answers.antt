use Rattle.std.proofs.Common.{arith, ap, sym, subst, ◌∙◌, ◌≡◌}
use Rattle.bh_base.specs.Connections.{state}
use Rattle.bh_tables.specs.Typed.{tables_in}
use Rattle.bh_view.specs.Bodies.{HasBodies, bodies_in}
use Rattle.bh_base.specs.Layer.{Standing}
use Rattle.bh_schema.specs.Working.{tables_at}
use Rattle.bh_schema.proofs.Storing.{within_then}
use Rattle.bh_blocks.specs.Plans.{planned}
use Rattle.bh_blocks.proofs.Keeping.{still_readable}
use Rattle.bh_blocks.proofs.PlanSteps.{passed_over, first_in}
use Rattle.bh_blocks.proofs.reading.find_shown.Goals as goal

pub ref_at-requires-clause-reads : goal.ref_at-requires-clause-reads
ref_at-requires-clause-reads g c = still_readable _ _ c.places.invariant.within c.places.invariant.same c.requires.reads

pub places-preserved : goal.places-preserved
places-preserved g c =
    let inv = c.places.invariant in
    let step = c.in_ok-ref_at.ensures in
    let old = tables_at (state g.S.Store g.P.Shelf c.args.connection.now) in
    record {
      within = within_then _ _ _ inv.opens inv.within step.reads.within;
      opens = λ intact up. (step.reads.opens intact).1;
      same = λ intact. step.reads.same intact ∙ inv.same (step.reads.within.follows.intact intact);
      small = c.in_ok-place-in-Some.ensures.small;
      most = (let l = c.after-window.ensures.left in let m = inv.most in omega (arith, l, m));
      comes = λ clean bodies.
          let was = step.reads.within.follows.clean clean in
          let same : tables_at (state g.S.Store g.P.Shelf c.places.connection) ≡ old = ap (λ (x : Standing). tables_in x.now) (inv.same was.intact) in
          let first = first_in _ c.in-Some.block c.places.place (planned c.args.plan.now) _ old same c.in-Some.is (step.first clean (subst HasBodies (sym same) bodies)) in
          passed_over old.blocks (bodies_in old) old.refs bodies (planned c.args.plan.now) c.in-Some.block c.places.window.skip c.places.window.left c.places.place c.in_ok-place-in-Some.place _ _
          first c.if-block-window.false c.in_ok-place-in-Some.ensures.next c.after-window.ensures.skip c.after-window.ensures.left
          ∙ inv.comes was bodies;
    }
