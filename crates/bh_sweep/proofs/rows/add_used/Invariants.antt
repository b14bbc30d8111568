use Rattle.std.proofs.Common.{◌≡◌, ◌≤◌, ◌*◌, List, map, take, sum_by}
use Rattle.bh_tables.specs.Typed.{TenantRow, Tables, totals_of}
use Rattle.bh_tables.specs.Shown.{shown_used}
use Rattle.bh_sweep.specs.Counted.{used_by}
use Rattle.bh_sweep.proofs.rows.add_used.Given as goal

-- each number is below 2^64
abbrev pub invariant-loop-row : goal.invariant-loop-row
invariant-loop-row l = record {
  bound : l.total ≤ l.row-index * 18_446_744_073_709_551_616;
  sum : (tables : Tables) (ts : List TenantRow) → l.rows ≡ map (shown_used (totals_of tables)) ts → l.total ≡ sum_by (used_by tables) (take l.row-index ts);
}
