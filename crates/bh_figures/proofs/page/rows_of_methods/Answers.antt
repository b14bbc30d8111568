use Rattle.std.proofs.Common.{arith}
use Rattle.std.specs.String.{string_bytes}
use Rattle.bh_figures.specs.Page.{method_rows}
use Rattle.bh_figures.proofs.Rows.{all_rows}
use Rattle.bh_figures.proofs.page.rows_of_methods.Goals as goal

pub returns : goal.returns
returns c = all_rows (method_rows c.args.figures.now) c.args.methods.now c.loop-method.method-index (string_bytes c.loop-method.rows) (λ low. let end = c.loop-method-test.false in omega (arith, low, end)) c.loop-method.invariant
