use Rattle.std.proofs.Common.{take}
use Rattle.bh_check.specs.Tallies.{IsNewest}
use Rattle.bh_check.proofs.tallies.newest_of.Given as goal

-- of the entries so far
abbrev pub invariant-loop-row : goal.invariant-loop-row
invariant-loop-row l = IsNewest (take l.row-index l.fn.rows) l.newest
