use Rattle.std.proofs.Common.{◌≡◌, flat_map, take}
use Rattle.std.specs.String.{string_bytes}
use Rattle.bh_figures.specs.Page.{method_rows}
use Rattle.bh_figures.proofs.page.rows_of_methods.Given as goal

-- the rows so far
abbrev pub invariant-loop-method : goal.invariant-loop-method
invariant-loop-method l = string_bytes l.rows ≡ flat_map (method_rows l.figures) (take l.method-index l.methods)
