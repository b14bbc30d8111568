use Rattle.std.proofs.Common.{refl, sym}
use Rattle.bh_host.specs.Replies.{reply_bytes}
use Rattle.bh_connection.proofs.ConnectionLemmas.{ends_in}
use Rattle.bh_connection.proofs.together.tell.Goals as goal

pub returns : goal.returns
returns g c =
    let sent = c.answer.ensures in
    record {
      told = record {
        stamp = sym sent.stamp;
        out = sent.out;
        took = sent.took;
        ended = ends_in c.answer.result.ended c.args.done.now.stamp c.answer.result.sent (reply_bytes c.args.done.now.reply) _ sent.ended;
        same = refl;
      };
    }
