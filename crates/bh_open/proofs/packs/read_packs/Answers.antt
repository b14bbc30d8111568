use Rattle.std.proofs.Common.{sym, ap, subst, ◌∙◌}
use Rattle.std.proofs.lemmas.Result.{IfOk-weaker, IfErr-weaker}
use Rattle.bh_rows.specs.Form.{AreRows}
use Rattle.bh_tables.specs.Rows.{pack_form}
use Rattle.bh_base.specs.Layer.{Standing}
use Rattle.bh_migration.specs.Listing.{Lists}
use Rattle.bh_open.proofs.packs.read_packs.Goals as goal

pub list_packs-requires : goal.list_packs-requires
list_packs-requires g c clean =
    let begun = c.in_ok-begin.ensures.begins clean.intact in
    record { inside = ap (λ (x : Standing). x.inside) begun; schema = ap (λ (x : Standing). x.now.schema) begun ∙ c.requires.schema (c.begin.ensures.within.follows.clean clean) }

pub returns-clause-survives : goal.returns-clause-survives
returns-clause-survives g c intact db left =
    let before = c.list_packs.ensures.within.follows.intact intact in
    c.begin.ensures.survives before db (c.list_packs.ensures.within.survives (c.in_ok-begin.ensures.opens before).1 intact db left)

pub returns-clause-lists : goal.returns-clause-lists
returns-clause-lists g c = IfOk-weaker c.list_packs.result _ _ (λ listed lists clean.
    subst (λ (x : Standing). Lists x.now listed.items) (c.in_ok-begin.ensures.begins (c.list_packs.ensures.within.follows.intact clean.intact)) (lists clean)) c.list_packs.ensures.lists

pub returns-clause-trouble : goal.returns-clause-trouble
returns-clause-trouble g c = IfErr-weaker c.list_packs.result _ _ (λ e trouble intact unlimited outside typed.
    trouble intact (c.begin.ensures.within.follows.limit ∙ unlimited) (λ clean.
    subst (λ (x : Standing). AreRows pack_form (x.now.trees 32)) (sym (c.in_ok-begin.ensures.begins clean.intact)) (typed (c.begin.ensures.within.follows.clean clean)))) c.list_packs.ensures.trouble
