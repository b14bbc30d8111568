use Rattle.std.proofs.Common.{ℕ, take}
use Rattle.bh_tables.specs.Bodies.{Name}
use Rattle.bh_check.specs.Blocks.{AreUses}
use Rattle.bh_check.specs.Sums.{Keeps}
use Rattle.bh_check.proofs.uses.first_miscounted.Given as goal

-- of the blocks so far
abbrev pub invariant-loop-at : goal.invariant-loop-at
invariant-loop-at l = (of : Name → ℕ) → Keeps of l.refs → AreUses of (take l.at l.uses) (take l.at l.blocks)
