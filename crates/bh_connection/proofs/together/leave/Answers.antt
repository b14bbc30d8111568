use Rattle.std.proofs.Common.{◌≡◌, None, refl, sym, ap, subst, ◌∙◌}
use Rattle.bh_host.specs.Answers.{told}
use Rattle.bh_host.specs.Replies.{reply_bytes, wanting_text}
use Rattle.bh_host.specs.Runs.{Told}
use Rattle.bh_host.specs.declared.reply.Caller.TheVariants.{Request}
use Rattle.bh_connection.specs.Each.{ends}
use Rattle.bh_connection.specs.Together.{IsTold, IsLeft}
use Rattle.bh_connection.proofs.together.leave.Goals as goal

pub returns-in-ReadFailed : goal.returns-in-ReadFailed
returns-in-ReadFailed g c =
    let it = c.broken_off.ensures in
    let before = ends g.R.Source.remaining g.R.Source.transfers g.W.Sink.contents g.W.Sink.transfers c.args.arrival.now in
    record { left = subst (λ e. IsLeft e before before c.broken_off.result) (sym c.in-ReadFailed.is) (it.ended, it.stamp, it.sent, refl) }

pub returns-in-OutOfMemory : goal.returns-in-OutOfMemory
returns-in-OutOfMemory g c =
    let out = c.left_out-wanting in
    let at = ends g.R.Source.remaining g.R.Source.transfers g.W.Sink.contents g.W.Sink.transfers in
    let before = at c.args.arrival.now in
    let after = at c.tell.new.arrival in
    let is : told out.result ≡ (None, wanting_text Request) = ap (λ s. (s, reply_bytes out.result.reply)) out.ensures.stamp ∙ ap (λ r. (None, reply_bytes r)) out.ensures.reply in
    record { left = subst (λ e. IsLeft e before after c.tell.result) (sym c.in-OutOfMemory.is) (subst (λ (t : Told). IsTold before after c.tell.result t) is c.tell.ensures.told) }
