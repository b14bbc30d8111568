use Rattle.std.proofs.Common.{arith}
use Rattle.std.specs.String.{string_bytes}
use Rattle.bh_figures.specs.Page.{request_row}
use Rattle.bh_figures.proofs.Rows.{all_rows}
use Rattle.bh_figures.proofs.page.rows_of_classes.Goals as goal

pub returns : goal.returns
returns c = all_rows (request_row c.args.figures.now c.args.method) c.args.classes.now c.loop-class.class-index (string_bytes c.loop-class.rows) (λ low. let end = c.loop-class-test.false in omega (arith, low, end)) c.loop-class.invariant
