use Rattle.std.proofs.Common.{sym, ◌∙◌, ap, Some}
use Rattle.bh_operation.proofs.Texts.{text_of-IsUtf8, text_of-other}
use Rattle.bh_operation.proofs.target.text_of.Goals as goal

pub returns-in-Ok : goal.returns-in-Ok
returns-in-Ok c = ap Some c.in-Ok.ensures.cases.0 ∙ sym (text_of-IsUtf8 c.args.bytes.now c.in-Ok.ensures.cases.1)

pub returns-in-Err : goal.returns-in-Err
returns-in-Err c = sym (text_of-other c.args.bytes.now c.in-Err.ensures.cases.0)
