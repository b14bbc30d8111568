use Rattle.std.proofs.Common.{◌≡◌, codes, refl, sym, ap, ◌∙◌}
use Rattle.std.specs.Fmt.{digits}
use Rattle.bh_host.specs.declared.reply.Caller.TheVariants.{Operator}
use Rattle.bh_host.specs.Replies.{wanting_text}
use Rattle.bh_host.proofs.reply.wanting_bytes.Goals as goal

line : codes "48 Unavailable" ≡ wanting_text Operator
unfolding digits
line = refl

pub returns-in-Operator : goal.returns-in-Operator
returns-in-Operator c = line ∙ ap wanting_text (sym c.in-Operator.is)
