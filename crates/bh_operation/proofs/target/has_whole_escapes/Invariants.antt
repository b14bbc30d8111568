use Rattle.std.proofs.Common.{◌≡◌, length}
use Rattle.bh_operation.specs.Targets.{has_whole_escapes}
use Rattle.bh_operation.proofs.target.has_whole_escapes.Given as goal

-- what is left tells of all
abbrev pub invariant-loop-rest : goal.invariant-loop-rest
invariant-loop-rest l = has_whole_escapes l.bytes ≡ has_whole_escapes l.rest

abbrev pub decreases-loop-rest : goal.decreases-loop-rest
decreases-loop-rest l = length l.rest
