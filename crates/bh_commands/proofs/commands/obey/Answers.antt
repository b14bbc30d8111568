use Rattle.std.proofs.Common.{◌∙◌}
use Rattle.bh_commands.proofs.commands.obey.Goals as goal

pub returns-clause-stays : goal.returns-clause-stays
returns-clause-stays g c =
    let first = c.apply_order.ensures.stays in
    let then = c.free_packs.ensures.stays in
    record {
      intact = λ intact. first.intact (then.intact intact);
      opened = λ intact up. first.opened (then.intact intact) (then.opened intact up);
      ready = then.ready;
      limits = then.limits ∙ first.limits;
    }

pub returns-clause-obeyed : goal.returns-clause-obeyed
returns-clause-obeyed g c = record {
  mid = c.apply_order.new.host;
  told = c.in_ok-printed.ensures.applied;
  intact = c.free_packs.ensures.stays.intact;
  back = c.free_packs.ensures.back;
  others = λ other. c.free_packs.ensures.still (c.is_sweep-sweeps.ensures ∙ other);
}
