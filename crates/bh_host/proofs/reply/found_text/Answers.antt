use Rattle.std.proofs.Common.{ap, ◌∙◌}
use Rattle.std.proofs.lemmas.Result.{IfOk-weaker}
use Rattle.bh_http.specs.Answers.{response_view}
use Rattle.bh_http.specs.Responses.{response_text}
use Rattle.bh_host.proofs.Delivering.{bare_head}
use Rattle.bh_host.proofs.reply.found_text.Goals as goal

pub returns : goal.returns
returns c bytes count =
    let headed = bare_head (response_view c.found-response.result) _ bytes c.found-response.ensures.bare (c.found-response.ensures.is bytes count) in
    IfOk-weaker c.response_bytes.result _ _ (λ text h. h ∙ ap response_text headed) c.response_bytes.ensures
