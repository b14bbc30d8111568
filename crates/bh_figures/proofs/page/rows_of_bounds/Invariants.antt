use Rattle.std.proofs.Common.{◌≡◌, flat_map, take}
use Rattle.std.specs.String.{string_bytes}
use Rattle.bh_figures.specs.Page.{bucket_row}
use Rattle.bh_figures.proofs.page.rows_of_bounds.Given as goal

-- the rows so far
abbrev pub invariant-loop-bound : goal.invariant-loop-bound
invariant-loop-bound l = string_bytes l.rows ≡ flat_map (bucket_row l.figures) (take l.bound-index l.bounds)
