use Rattle.std.proofs.Common.{◌∙◌}
use Rattle.bh_schema.proofs.Storing.{within_then}
use Rattle.bh_blocks.proofs.groups.store_blocks.Goals as goal

pub cutting-preserved : goal.cutting-preserved
cutting-preserved g c =
    let step = c.in_ok-next.ensures in
    let inv = c.cutting.invariant in
    record {
      within = within_then _ _ _ inv.opens inv.within step.within;
      opens = λ intact up. step.opens intact (inv.opens (step.within.follows.intact intact) up);
      inside = step.inside;
      copies = step.copies;
      small = step.small;
      goes = λ clean more. step.goes clean more ∙ inv.goes (step.within.follows.clean clean) more;
    }
