use Rattle.std.proofs.Common.{take}
use Rattle.bh_check.specs.Holds.{owner}
use Rattle.bh_check.specs.Sums.{Keeps, total}
use Rattle.bh_check.specs.Tallies.{current_one}
use Rattle.bh_check.proofs.tallies.objects_of.Given as goal

-- of the entries so far
abbrev pub invariant-loop-row : goal.invariant-loop-row
invariant-loop-row l = Keeps (total owner (current_one l.fn.rows) (take l.row-index l.fn.rows)) l.objects
