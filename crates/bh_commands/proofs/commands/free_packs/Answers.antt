use Rattle.bh_commands.proofs.Freeing.{ready_here, back_here, ready_then, back_then}
use Rattle.bh_commands.proofs.commands.free_packs.Goals as goal

pub steps-init : goal.steps-init
steps-init g c = record { stays = ready_here c.args.host.now c.requires; back = back_here c.args.host.now }

pub steps-preserved : goal.steps-preserved
steps-preserved g c =
    let so_far = c.steps.invariant in
    let step = c.drop_packs.ensures in
    record {
      stays = ready_then c.args.host.now c.steps.host c.drop_packs.new.self so_far.stays step.intact step.stays step.ready step.limits;
      back = back_then c.args.host.now c.steps.host c.drop_packs.new.self so_far.back step.intact step.stays;
    }
