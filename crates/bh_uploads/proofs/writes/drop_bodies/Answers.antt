use Rattle.std.proofs.Common.{rules, arith, ◌+◌, drop, sym, ap, ◌∙◌}
use Rattle.bh_base.specs.Connections.{state}
use Rattle.bh_schema.specs.Working.{tables_at}
use Rattle.bh_schema.proofs.Storing.{within_then}
use Rattle.bh_uploads.specs.Writes.{without_bodies}
use Rattle.bh_uploads.proofs.Taking.{drop_next, drop_last}
use Rattle.bh_uploads.proofs.writes.drop_bodies.Goals as goal

pub drop_entry_body-requires : goal.drop_entry_body-requires
drop_entry_body-requires g c = c.loop-body.invariant.inside

pub loop-body-preserved : goal.loop-body-preserved
loop-body-preserved g c =
    let inv = c.loop-body.invariant in
    let step = c.in_ok-drop_entry_body.ensures in
    record {
      within = within_then _ _ _ inv.opens inv.within step.changes.within;
      opens = λ intact up. step.changes.opens intact (inv.opens (step.changes.within.follows.intact intact) up);
      inside = λ clean. (step.changes.holds clean).within;
      left = λ clean.
          ap (without_bodies c.args.tenant.now (drop (c.loop-body.body-index + 1) c.args.bodies.now)) (step.changes.holds clean).is
          ∙ ap (λ l. without_bodies c.args.tenant.now l (tables_at (state g.S.Store g.P.Shelf c.loop-body.connection))) (sym (drop_next c.args.bodies.now c.loop-body.body-index c.loop-body-test.true))
          ∙ inv.left (step.changes.within.follows.clean clean);
    }

pub returns : goal.returns
returns g c = record {
  changes = record {
    within = search rules;
    opens = search rules;
    holds = λ clean.
        let inv = c.loop-body.invariant in
        record {
          within = inv.inside clean;
          is = ap (λ l. without_bodies c.args.tenant.now l (tables_at (state g.S.Store g.P.Shelf c.loop-body.connection))) (sym (drop_last c.args.bodies.now c.loop-body.body-index (λ low. let end = c.loop-body-test.false in omega (arith, low, end)))) ∙ inv.left clean;
        };
  };
}
