use Rattle.std.proofs.Common.{sym, ◌∙◌, append_assoc, codes, decimal}
use Rattle.std.proofs.lemmas.Result.{IfOk-weaker}
use Rattle.bh_types.specs.Refusals.{number_of, code_of}
use Rattle.bh_host.proofs.reply.refusal_line.Goals as goal

pub returns : goal.returns
returns c =
    IfOk-weaker c.format.result _ _ (λ text h. h ∙ sym (append_assoc (decimal (number_of c.args.refusal)) (codes " ") (code_of c.args.refusal)))
    (rw (c.number-number.ensures, c.code-code.ensures) at c.format.ensures.ok)
