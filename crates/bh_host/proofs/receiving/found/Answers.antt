use Rattle.std.proofs.Common.{sym, ◌∙◌}
use Rattle.bh_storage.specs.Answers.{found_answer}
use Rattle.bh_storage.specs.Plans.{to_come}
use Rattle.bh_host.specs.Replies.{response_to}
use Rattle.bh_host.proofs.Delivering.{alone_text, followed_text}
use Rattle.bh_host.proofs.receiving.found.Goals as goal

pub returns-then-is_head-clause-told : goal.returns-then-is_head-clause-told
returns-then-is_head-clause-told c tables measured =
    alone_text c.args.head.now.method.now (response_to (found_answer tables c.args.version)) c.in_ok-bytes.bytes.items (c.in_ok-bytes.ensures (to_come c.args.version.plan tables) measured) (sym c.is_head.ensures ∙ c.if-is_head.true)

pub returns-else-is_head-clause-told : goal.returns-else-is_head-clause-told
returns-else-is_head-clause-told c tables measured =
    followed_text c.args.head.now.method.now (response_to (found_answer tables c.args.version)) c.in_ok-bytes.bytes.items (c.in_ok-bytes.ensures (to_come c.args.version.plan tables) measured) (sym c.is_head.ensures ∙ c.if-is_head.false)
