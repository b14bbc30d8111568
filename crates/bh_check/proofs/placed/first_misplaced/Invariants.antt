use Rattle.std.proofs.Common.{ℕ, drop}
use Rattle.bh_tables.specs.Bodies.{Name}
use Rattle.bh_check.specs.Placed.{IsPlaced}
use Rattle.bh_check.specs.Sums.{Keeps}
use Rattle.bh_check.proofs.placed.first_misplaced.Given as goal

-- if those that are left are placed behind those so far, all are
abbrev pub invariant-loop-row : goal.invariant-loop-row
invariant-loop-row l = (of : Name → ℕ) × Keeps of l.counts × (IsPlaced of (drop l.row-index l.fn.rows) → IsPlaced (λ _. 0) l.fn.rows)
