use Rattle.std.proofs.Common.{Result, Ok, Err, OnOk, IfOk, ap, sym, subst, ◌∙◌}
use Rattle.std.proofs.lemmas.Result.{on_ok_weaker, IfErr-weaker}
use Rattle.sqlite.specs.Held.{state}
use Rattle.bh_rows.specs.Form.{AreRows}
use Rattle.bh_tables.specs.Rows.{pack_form}
use Rattle.bh_base.specs.Layer.{Standing, standing}
use Rattle.bh_migration.specs.Migration.{HasSchema, Brings}
use Rattle.bh_tables.specs.Schema.{host_schema}
use Rattle.bh_migration.specs.Listing.{Lists}
use Rattle.bh_migration.proofs.Stages.{packs_after}
use Rattle.bh_migration.proofs.change_whole.Goals as goal

both : {X E A : Type 0} (r : Result X E) (B C : X → Type 0) → ((x : X) → A → B x → C x) → OnOk r A → IfOk r B → IfOk r C
both (Ok x) B C f a b = f x a b
both (Err e) B C f a b = tt

pub list_packs-requires : goal.list_packs-requires
list_packs-requires g c clean =
    let it = c.in_ok-change.ensures.brings (c.none_placed.ensures.within.follows.clean clean) in
    subst (HasSchema host_schema) (sym (c.in_ok-none_placed.ensures.same clean.intact)) (record { inside = it.inside; schema = it.changed.schema })

pub returns-clause-brings : goal.returns-clause-brings
returns-clause-brings g c = on_ok_weaker c.list_packs.result (λ same clean.
    let one = c.list_packs.ensures.within.follows.clean clean in
    subst (Brings _) (sym (same clean.intact ∙ c.in_ok-none_placed.ensures.same one.intact)) (c.in_ok-change.ensures.brings (c.none_placed.ensures.within.follows.clean one))) c.list_packs.ensures.same

pub returns-clause-unplaced : goal.returns-clause-unplaced
returns-clause-unplaced g c = on_ok_weaker c.list_packs.result (λ same clean.
    let one = c.list_packs.ensures.within.follows.clean clean in
    ap (λ (x : Standing). x.now.trees 34) (same clean.intact ∙ c.in_ok-none_placed.ensures.same one.intact) ∙ c.in_ok-none_placed.ensures.none one) c.list_packs.ensures.same

pub returns-clause-lists : goal.returns-clause-lists
returns-clause-lists g c = both c.list_packs.result _ _ (λ listed same lists clean. subst (λ (x : Standing). Lists x.now listed.items) (sym (same clean.intact)) (lists clean)) c.list_packs.ensures.same c.list_packs.ensures.lists

pub returns-clause-trouble : goal.returns-clause-trouble
returns-clause-trouble g c = IfErr-weaker c.list_packs.result _ _ (λ e trouble intact unlimited host.
    trouble intact (c.none_placed.ensures.within.follows.limit ∙ c.change.ensures.within.follows.limit ∙ unlimited) (λ clean.
    let was = standing (state g.S.Store c.args.connection.now) in
    let mid = standing (state g.S.Store c.change.new.connection) in
    subst (λ (x : Standing). AreRows pack_form (x.now.trees 32)) (sym (c.in_ok-none_placed.ensures.same clean.intact))
    (packs_after c.args.version was.now mid.now (c.in_ok-change.ensures.brings (c.none_placed.ensures.within.follows.clean clean)).changed host))) c.list_packs.ensures.trouble
