use Rattle.std.proofs.Common.{ℕ, ◌+◌, take}
use Rattle.bh_tables.specs.Bodies.{Name}
use Rattle.bh_check.specs.Sums.{Keeps, total, name_in, amount_in}
use Rattle.bh_check.proofs.sums.Sums.add_rows.Given as goal

-- of the rows so far
abbrev pub invariant-loop-row : goal.invariant-loop-row
invariant-loop-row l = (of : Name → ℕ) → Keeps of l.fn.self → Keeps (λ q. of q + total (name_in l.by) (amount_in l.by) (take l.row-index l.fn.rows) q) l.self
