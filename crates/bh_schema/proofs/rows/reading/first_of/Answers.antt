use Rattle.std.proofs.Common.{ap, ◌∙◌}
use Rattle.bh_rows.specs.Means.{is_trouble}
use Rattle.bh_schema.proofs.Finds.{none_first, first_of, first_read, handed_on}
use Rattle.bh_schema.proofs.rows.reading.first_of.Goals as goal

pub returns-in-None-clause-found : goal.returns-in-None-clause-found
returns-in-None-clause-found g c sought is = none_first g.R.FromRow.reading.shown sought c.args.rows.now is g.R.FromRow.reading.told c.in-None.ensures.value

pub returns-in_ok-read-in-Some-clause-found : goal.returns-in_ok-read-in-Some-clause-found
returns-in_ok-read-in-Some-clause-found g c sought is = first_read g.R.FromRow.reading.shown sought c.args.rows.now is g.R.FromRow.reading.told _ c.in-Some.row.now c.in-Some.ensures.value c.in_ok-read-in-Some.ensures.read

pub returns-in_err-read-in-Some-clause-trouble : goal.returns-in_err-read-in-Some-clause-trouble
returns-in_err-read-in-Some-clause-trouble g c = handed_on _ _ _ c.from_residual.ensures (λ e same sought is readable.
    ap is_trouble same ∙ first_of g.R.FromRow.reading.shown sought c.args.rows.now is c.in-Some.row.now c.in-Some.ensures.value (λ t found row. c.in_err-read-in-Some.ensures.trouble t row (readable t found)))
