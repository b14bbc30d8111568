use Rattle.std.proofs.Common.{◌≡◌, ◌⊎◌, ℕ, take}
use Rattle.std.specs.List.{AllByRecursion}
use Rattle.sqlite_rules.specs.Lists.{Has}
use Rattle.bh_tables.specs.Bodies.{Name}
use Rattle.bh_check.specs.Holds.{first_two}
use Rattle.bh_check.specs.Sums.{Keeps}
use Rattle.bh_check.proofs.lost.rows_lost.Given as goal

-- of the rows so far
abbrev pub invariant-loop-row : goal.invariant-loop-row
invariant-loop-row l = (of : Name → ℕ) → Keeps of l.counts → AllByRecursion (λ r. (of (first_two r) ≡ 0) ⊎ Has l.lost.items r) (take l.row-index l.fn.rows)
