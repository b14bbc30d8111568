use Rattle.std.proofs.Common.{◌≡◌, ℕ, take}
use Rattle.sqlite.specs.Order.{column}
use Rattle.sqlite_typed.specs.Columns.{bytes_of}
use Rattle.bh_tables.specs.Bodies.{Name}
use Rattle.bh_check.specs.Holds.{number_at}
use Rattle.bh_check.specs.Lost.{CountsDamaged}
use Rattle.bh_check.specs.Sums.{Keeps}
use Rattle.bh_check.proofs.lost.users_of.Given as goal

-- of the rows so far
abbrev pub invariant-loop-row : goal.invariant-loop-row
invariant-loop-row l = (of : Name → ℕ) → Keeps of l.damaged → CountsDamaged (λ r. of (bytes_of (column r l.text), number_at l.number r) ≡ 0) (take l.row-index l.fn.rows) l.users
