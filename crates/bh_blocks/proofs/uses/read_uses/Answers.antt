use Rattle.std.proofs.Common.{sym, ◌∙◌}
use Rattle.bh_blocks.proofs.Loops.{one_use}
use Rattle.bh_blocks.proofs.uses.read_uses.Goals as goal

pub returns-in-Ok-clause-read : goal.returns-in-Ok-clause-read
returns-in-Ok-clause-read c us is = one_use us c.in_ok-only_row.field-0.now c.in-Ok.uses (sym is ∙ c.in_ok-only_row.ensures.only) c.in-Ok.ensures.ok.1
