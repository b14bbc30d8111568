use Rattle.std.proofs.Common.{◌≡◌, take}
use Rattle.bh_check.specs.Groups.{lanes}
use Rattle.bh_check.proofs.groups.gather.Given as goal

-- of the blocks so far
abbrev pub invariant-loop-row : goal.invariant-loop-row
invariant-loop-row l = l.buffer.items ≡ lanes l.size (take l.row-index l.fn.blocks)
