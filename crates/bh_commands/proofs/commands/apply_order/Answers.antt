use Rattle.std.proofs.Common.{sym, subst, ◌∙◌}
use Rattle.bh_event.specs.Events.{Arrival}
use Rattle.bh_host.specs.Replies.{reply_bytes}
use Rattle.bh_host.specs.Turns.{IsToldApart}
use Rattle.bh_commands.proofs.Printing.{kept_when_done}
use Rattle.bh_commands.proofs.commands.apply_order.Goals as goal

pub returns-clause-applied : goal.returns-clause-applied
returns-clause-applied g c =
    let did = c.apply-told in
    let printed = c.in_ok-printed.ensures in
    let apart : Arrival → Type 0 = λ event. IsToldApart event did.result.stamp (reply_bytes did.result.reply) in
    rw (sym c.at-event.ensures) (record {
      told = (did.result.stamp, reply_bytes did.result.reply);
      applied = record {
        applied = did.ensures.applied;
        told_apart = did.ensures.told_apart;
        acknowledged = did.ensures.acknowledged;
        crash = did.ensures.crash;
      };
      line = printed;
      kept = λ done intact.
          kept_when_done c.args.reading c.args.order did.result.stamp (reply_bytes did.result.reply)
          (subst apart c.at-event.ensures (did.ensures.told_apart intact)) did.ensures.acknowledged (sym printed.status ∙ done) intact;
    })
