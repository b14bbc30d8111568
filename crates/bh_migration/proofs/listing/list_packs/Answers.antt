use Rattle.std.proofs.lemmas.Result.{IfOk-weaker, IfErr-weaker}
use Rattle.std.proofs.Common.{◌∙◌}
use Rattle.bh_migration.proofs.listing.list_packs.Goals as goal

pub returns-clause-lists : goal.returns-clause-lists
returns-clause-lists g c = IfOk-weaker c.read_all.result _ _ (λ listed read clean typed. read _ (c.as_slice.ensures.value ∙ c.in_ok-rows.ensures.rows clean typed)) c.read_all.ensures.read

pub returns-clause-trouble : goal.returns-clause-trouble
returns-clause-trouble g c = IfErr-weaker c.read_all.result _ _ (λ e trouble intact unlimited typed.
    let was = c.in_ok-rows.ensures.opens intact in
    trouble _ (c.as_slice.ensures.value ∙ c.in_ok-rows.ensures.rows (record { intact = intact; is_open = was.1 }) (typed (record { intact = c.pack_rows.ensures.within.follows.intact intact; is_open = was.0 })))) c.read_all.ensures.trouble
