use Rattle.std.proofs.Common.{take}
use Rattle.std.specs.List.{AllByRecursion}
use Rattle.bh_check.specs.Blocks.{HasDigest}
use Rattle.bh_check.proofs.blocks.first_misnamed.Given as goal

-- each block so far has it
abbrev pub invariant-loop-row : goal.invariant-loop-row
invariant-loop-row g l = AllByRecursion (HasDigest g.D.Digester.digest_of) (take l.row-index l.fn.blocks)
