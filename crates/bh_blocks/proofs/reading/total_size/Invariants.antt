use Rattle.std.proofs.Common.{◌≡◌, ◌+◌, List, map, drop}
use Rattle.bh_tables.specs.Typed.{RefRow}
use Rattle.bh_tables.specs.Shown.{shown_ref}
use Rattle.bh_blocks.proofs.WindowSteps.{size_sum}
use Rattle.bh_blocks.proofs.reading.total_size.Given as goal

abbrev pub invariant-loop-row : goal.invariant-loop-row
invariant-loop-row l = (rs : List RefRow) → l.fn.rows ≡ map shown_ref rs → l.total + size_sum (drop l.row-index rs) ≡ size_sum rs
