use Rattle.std.proofs.Common.{◌∙◌}
use Rattle.std.proofs.lemmas.Result.{IfErr-weaker}
use Rattle.bh_base.specs.Connections.{state}
use Rattle.bh_tables.specs.Typed.{tables_in}
use Rattle.bh_base.specs.Layer.{standing, IsStateClean}
use Rattle.bh_sweep.proofs.rows.used_total.Goals as goal

pub returns-clause-trouble : goal.returns-clause-trouble
returns-clause-trouble g c = IfErr-weaker c.add_used.result _ _ (λ e trouble intact unlimited.
    let clean : IsStateClean (state g.S.Store g.P.Shelf c.used_rows.new.connection) = record { intact = intact; is_open = (c.in_ok-rows.ensures.opens intact).1 } in
    trouble (tables_in (standing (state g.S.Store g.P.Shelf c.args.connection.now)).now) _ (c.deref.ensures.value ∙ c.in_ok-rows.ensures.rows clean)) c.add_used.ensures.trouble
