-- A head that was found announces its body; one that isn't there after so many bytes never is.
use Rattle.std.proofs.Common.{inr}
use Rattle.bh_stage.proofs.WholeLemmas.{found_extends, never_of_limit}
use Rattle.bh_stage.proofs.whole.request_extent.Goals as goal

pub returns-in-Found : goal.returns-in-Found
returns-in-Found c = found_extends c.args.limits.now c.args.bytes.now _ c.in-Found.head c.head_and_body.result c.in-Found.ensures.finds c.head_and_body.ensures.never c.head_and_body.ensures.bytes

pub returns-else-bytes-lt-MAX_HEAD : goal.returns-else-bytes-lt-MAX_HEAD
returns-else-bytes-lt-MAX_HEAD c = inr (never_of_limit c.args.limits.now c.args.bytes.now c.in-NotYet.ensures.says c.if-bytes-lt-MAX_HEAD.false)
