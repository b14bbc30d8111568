use Rattle.std.proofs.Common.{[], ap, ◌∙◌}
use Rattle.std.proofs.lemmas.Result.{IfOk-weaker}
use Rattle.bh_http.specs.Responses.{response_text}
use Rattle.bh_host.specs.Replies.{text, refusal_to}
use Rattle.bh_host.proofs.reply.unread_text.Goals as goal

pub returns : goal.returns
unfolding text
returns c = IfOk-weaker c.response_bytes.result _ _ (λ bytes h. h ∙ ap response_text (c.in_ok-response.ensures ∙ ap (refusal_to []) c.from.ensures)) c.response_bytes.ensures
