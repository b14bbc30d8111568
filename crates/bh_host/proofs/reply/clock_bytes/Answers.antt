use Rattle.std.proofs.Common.{◌≡◌, codes, refl, sym, ap, ◌∙◌}
use Rattle.std.specs.Fmt.{digits}
use Rattle.bh_host.specs.declared.reply.Caller.TheVariants.{Operator}
use Rattle.bh_host.specs.Replies.{clock_text}
use Rattle.bh_host.proofs.reply.clock_bytes.Goals as goal

line : codes "30 ClockOutOfRange" ≡ clock_text Operator
unfolding digits
line = refl

pub returns-in-Operator : goal.returns-in-Operator
returns-in-Operator c = line ∙ ap clock_text (sym c.in-Operator.is)
