use Rattle.std.proofs.Common.{is_some, sym, ap, ◌∙◌}
use Rattle.std.proofs.lemmas.List.{take-map}
use Rattle.bh_base.specs.Connections.{state}
use Rattle.bh_tables.specs.Shown.{is_unreferenced, by_name, shown_name}
use Rattle.bh_schema.specs.Working.{tables_at}
use Rattle.bh_schema.proofs.Finds.{first_any}
use Rattle.bh_blocks.proofs.removal.any_unreferenced.Goals as goal

pub returns-in-None-clause-found : goal.returns-in-None-clause-found
returns-in-None-clause-found g c clean =
    let old = tables_at (state g.S.Store g.P.Shelf c.args.connection.now) in
    ap is_some c.in-None.ensures.value ∙ first_any shown_name by_name (is_unreferenced old.refs) old.blocks _ (c.deref.ensures.value ∙ c.in_ok-rows.ensures.rows clean ∙ sym (take-map shown_name 1 _))

pub returns-clause-found : goal.returns-clause-found
returns-clause-found g c clean =
    let old = tables_at (state g.S.Store g.P.Shelf c.args.connection.now) in
    ap is_some c.in-Some.ensures.value ∙ first_any shown_name by_name (is_unreferenced old.refs) old.blocks _ (c.deref.ensures.value ∙ c.in_ok-rows.ensures.rows clean ∙ sym (take-map shown_name 1 _))
