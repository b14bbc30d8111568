use Rattle.std.proofs.Common.{take}
use Rattle.std.specs.List.{AllByRecursion}
use Rattle.sqlite.specs.Tree.{Trees}
use Rattle.bh_check.specs.Holds.{AreMeasures, Holds}
use Rattle.bh_check.proofs.measures.Measures.first_unsound.Given as goal

-- each row so far is
abbrev pub invariant-loop-row : goal.invariant-loop-row
invariant-loop-row l = (d : Trees) → AreMeasures d l.self → AllByRecursion (Holds d l.self.latest l.table) (take l.row-index l.fn.rows)
