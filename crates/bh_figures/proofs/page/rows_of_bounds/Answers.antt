use Rattle.std.proofs.Common.{arith}
use Rattle.std.specs.String.{string_bytes}
use Rattle.bh_figures.specs.Page.{bucket_row}
use Rattle.bh_figures.proofs.Rows.{all_rows}
use Rattle.bh_figures.proofs.page.rows_of_bounds.Goals as goal

pub returns : goal.returns
returns c = all_rows (bucket_row c.args.figures.now) c.args.bounds.now c.loop-bound.bound-index (string_bytes c.loop-bound.rows) (λ low. let end = c.loop-bound-test.false in omega (arith, low, end)) c.loop-bound.invariant
