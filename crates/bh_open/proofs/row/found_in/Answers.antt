use Rattle.std.proofs.Common.{sym, subst}
use Rattle.std.proofs.lemmas.Result.{IfOk-weaker, IfErr-weaker}
use Rattle.bh_open.specs.Opening.{Reads}
use Rattle.bh_open.proofs.Rows.{sole}
use Rattle.bh_open.proofs.row.found_in.Goals as goal

pub returns-in-Some-clause-read : goal.returns-in-Some-clause-read
returns-in-Some-clause-read c = IfOk-weaker c.read_row.result _ _ (λ found read hosts all.
    sole hosts c.args.rows.now c.in-Some.row.now all c.if-rows-ne1.false c.in-Some.ensures.value (λ h is row. subst (λ l. Reads c.args.version l found) (sym is) (read h row))) c.read_row.ensures.read

pub returns-in-Some-clause-trouble : goal.returns-in-Some-clause-trouble
returns-in-Some-clause-trouble c = IfErr-weaker c.read_row.result _ _ (λ e trouble hosts all.
    sole hosts c.args.rows.now c.in-Some.row.now all c.if-rows-ne1.false c.in-Some.ensures.value (λ h is row. trouble h row)) c.read_row.ensures.trouble
