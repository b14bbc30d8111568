use Rattle.std.proofs.Common.{ap, ◌∙◌}
use Rattle.std.proofs.lemmas.Result.{IfOk-weaker}
use Rattle.bh_http.specs.Responses.{response_text}
use Rattle.bh_host.proofs.reply.sent_text.Goals as goal

pub returns : goal.returns
returns c = IfOk-weaker c.response_bytes.result _ _ (λ bytes h. h ∙ ap response_text c.sent_for-sent.ensures) c.response_bytes.ensures
