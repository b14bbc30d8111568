use Rattle.std.proofs.Common.{[], ◌∷◌, subst}
use Rattle.std.specs.Io.KnownBytes.{Appends}
use Rattle.bh_host.specs.Replies.{reply_bytes}
use Rattle.bh_script.specs.Answers.{AppendsFront}
use Rattle.bh_script.proofs.Answering.{fails, writes_next, front_goes_on}
use Rattle.bh_script.proofs.answers.send_reply.Goals as goal

pub returns-in_err-send-clause-writes : goal.returns-in_err-send-clause-writes
returns-in_err-send-clause-writes g c =
    let old = g.W.Sink.contents c.args.writer.now.inner in
    let new = g.W.Sink.contents c.send.new.writer.inner in
    fails c.from_residual.result old new _ c.from_residual.ensures.0
    (front_goes_on old new (reply_bytes c.args.reply.now) (10 ∷ []) (subst (AppendsFront old new) c.bytes.ensures c.in_err-send.ensures.writes))

pub returns-clause-writes : goal.returns-clause-writes
returns-clause-writes g c =
    let old = g.W.Sink.contents c.args.writer.now.inner in
    let mid = g.W.Sink.contents c.send.new.writer.inner in
    let new = g.W.Sink.contents c.send-2.new.writer.inner in
    writes_next c.send-2.result old mid new (reply_bytes c.args.reply.now) (10 ∷ []) (subst (Appends old mid) c.bytes.ensures c.in_ok-send.ensures.writes) c.send-2.ensures.writes
