use Rattle.std.proofs.Common.{arith, ap, ◌∙◌}
use Rattle.std.proofs.lemmas.List.{take_all}
use Rattle.bh_figures.specs.Figures.{total}
use Rattle.bh_figures.proofs.figures.total.Goals as goal

pub returns : goal.returns
returns c = c.loop-count.invariant ∙ ap total (take_all c.loop-count.count-index c.args.counts.now (let end = c.loop-count-test.false in omega (arith, end)))
