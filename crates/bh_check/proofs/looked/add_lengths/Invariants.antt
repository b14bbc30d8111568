use Rattle.std.proofs.Common.{◌≡◌, ◌++◌, map, take}
use Rattle.bh_check.specs.Holds.{block_length}
use Rattle.bh_check.proofs.looked.add_lengths.Given as goal

-- of the rows so far
abbrev pub invariant-loop-row : goal.invariant-loop-row
invariant-loop-row l = l.lengths.items ≡ l.fn.lengths.items ++ map block_length (take l.row-index l.fn.rows)
