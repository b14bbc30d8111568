use Rattle.std.proofs.Common.{◌≡◌, take}
use Rattle.bh_figures.specs.Figures.{total}
use Rattle.bh_figures.proofs.figures.total.Given as goal

-- the sum so far
abbrev pub invariant-loop-count : goal.invariant-loop-count
invariant-loop-count l = l.sum ≡ total (take l.count-index l.counts)
