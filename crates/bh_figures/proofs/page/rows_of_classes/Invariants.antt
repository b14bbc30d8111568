use Rattle.std.proofs.Common.{◌≡◌, flat_map, take}
use Rattle.std.specs.String.{string_bytes}
use Rattle.bh_figures.specs.Page.{request_row}
use Rattle.bh_figures.proofs.page.rows_of_classes.Given as goal

-- the rows so far
abbrev pub invariant-loop-class : goal.invariant-loop-class
invariant-loop-class l = string_bytes l.rows ≡ flat_map (request_row l.figures l.method) (take l.class-index l.classes)
