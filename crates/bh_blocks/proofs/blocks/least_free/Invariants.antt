use Rattle.std.proofs.Common.{◌≡◌, List, map, drop}
use Rattle.bh_tables.specs.Typed.{BlockRow}
use Rattle.bh_tables.specs.Shown.{shown_ord}
use Rattle.bh_view.specs.Blocks.{least}
use Rattle.bh_blocks.proofs.blocks.least_free.Given as goal

-- what is left of the rows says the rest
abbrev pub invariant-loop-row : goal.invariant-loop-row
invariant-loop-row l = (bs : List BlockRow) → l.fn.rows ≡ map shown_ord bs → least 0 bs ≡ least l.free (drop l.row-index bs)
