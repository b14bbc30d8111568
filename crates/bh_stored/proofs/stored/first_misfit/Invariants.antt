use Rattle.std.proofs.Common.{◌≡◌, true, take}
use Rattle.std.specs.List.{list_all}
use Rattle.bh_stored.specs.Cells.{is_fit}
use Rattle.bh_stored.proofs.stored.first_misfit.Given as goal

-- each row so far has them
abbrev pub invariant-loop-row : goal.invariant-loop-row
invariant-loop-row l = list_all (is_fit l.kinds) (take l.row-index l.fn.rows) ≡ true
