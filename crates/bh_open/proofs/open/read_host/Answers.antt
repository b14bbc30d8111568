use Rattle.std.proofs.Common.{map, subst, ◌≡◌, ◌∙◌}
use Rattle.std.proofs.lemmas.Result.{IfOk-weaker, IfErr-weaker}
use Rattle.sqlite.specs.Held.{state}
use Rattle.bh_rows.specs.Form.{AreRows}
use Rattle.bh_tables.specs.Typed.{tables_in, host_form}
use Rattle.bh_base.specs.Layer.{Standing, standing, IsStateClean}
use Rattle.bh_open.specs.Opening.{shown_row}
use Rattle.bh_open.proofs.open.read_host.Given as given
use Rattle.bh_open.proofs.open.read_host.Goals as goal

-- the rows that were read are those that were there before the transaction
rows : (g : given.Over) (c : goal.After-drop-rows g) → IsStateClean (state g.S.Store c.host_rows.new.connection) → AreRows host_form ((standing (state g.S.Store c.args.connection.now)).now.trees 0)
    → c.as_slice.result.now ≡ map shown_row (tables_in (standing (state g.S.Store c.args.connection.now)).now).host
rows g c clean host =
    let begun = c.in_ok-begin.ensures.begins (c.host_rows.ensures.within.follows.intact clean.intact) in
    c.as_slice.ensures.value ∙ subst (λ (x : Standing). AreRows host_form (x.now.trees 0) → c.in_ok-rows.rows.items ≡ map shown_row (tables_in x.now).host) begun (c.in_ok-rows.ensures.rows clean) host

pub returns-clause-read : goal.returns-clause-read
returns-clause-read g c = IfOk-weaker c.found_in.result _ _ (λ found read clean host. read _ (rows g c clean host)) c.found_in.ensures.read

pub returns-clause-trouble : goal.returns-clause-trouble
returns-clause-trouble g c = IfErr-weaker c.found_in.result _ _ (λ e trouble intact unlimited outside host.
    trouble _ (rows g c (record { intact = intact; is_open = (c.in_ok-rows.ensures.opens intact).1 }) host)) c.found_in.ensures.trouble
