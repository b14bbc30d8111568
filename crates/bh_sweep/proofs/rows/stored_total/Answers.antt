use Rattle.std.proofs.Common.{◌+◌, ◌<◌, ◌^◌, sum_by, sym, ap, ap₂, ◌∙◌, subst}
use Rattle.std.proofs.lemmas.Result.{IfOk-weaker}
use Rattle.sqlite.specs.Held.{state as database_state}
use Rattle.bh_rows.specs.Means.{is_trouble}
use Rattle.bh_tables.specs.Rows.{PlaceRow}
use Rattle.bh_base.specs.Connections.{state, backing}
use Rattle.bh_base.specs.Layer.{Standing}
use Rattle.bh_schema.proofs.Finds.{handed_on}
use Rattle.bh_objects.proofs.Working.{asked_inside}
use Rattle.bh_sweep.proofs.Sizes.{size_told, own_small, placed_small}
use Rattle.bh_sweep.proofs.rows.stored_total.Goals as goal

pub placed_total-requires : goal.placed_total-requires
placed_total-requires g c = record { inside = asked_inside (state g.S.Store g.P.Shelf c.args.connection.now) (state g.S.Store g.P.Shelf c.own_total.new.connection) c.requires.inside c.own_total.ensures.within c.in_ok-own.ensures.same }

pub returns-in_err-own-clause-trouble : goal.returns-in_err-own-clause-trouble
returns-in_err-own-clause-trouble g c = handed_on _ _ _ c.from_residual.ensures (λ e is intact unlimited small.
    let a = backing g.P.Shelf c.args.connection.now.packs in
    let s = database_state g.S.Store c.args.connection.now.database in
    ap is_trouble is ∙ c.in_err-own.ensures.trouble intact unlimited (λ clean. own_small _ _ _ (size_told a s c.schema-schema.ensures.live c.requires.inside clean) small))

pub returns-in_err-placed-clause-trouble : goal.returns-in_err-placed-clause-trouble
returns-in_err-placed-clause-trouble g c = handed_on _ _ _ c.from_residual-in_err-placed.ensures (λ e is intact unlimited small.
    let a = backing g.P.Shelf c.args.connection.now.packs in
    let s = database_state g.S.Store c.args.connection.now.database in
    let same = c.in_ok-own.ensures.same (c.placed_total.ensures.within.follows.intact intact) in
    ap is_trouble is ∙ c.in_err-placed.ensures.trouble intact (ap (λ (x : Standing). x.limit) same ∙ unlimited) (λ clean.
    subst (λ ps. sum_by (λ (p : PlaceRow). p.size) ps < 2 ^ 63) (sym (c.in_ok-own.ensures.still clean).places)
    (placed_small _ _ _ (size_told a s c.schema-schema.ensures.live c.requires.inside (c.own_total.ensures.within.follows.clean clean)) small)))

pub returns-clause-total : goal.returns-clause-total
returns-clause-total g c = IfOk-weaker c.added.result _ _ (λ n sum clean.
    let a = backing g.P.Shelf c.args.connection.now.packs in
    let s = database_state g.S.Store c.args.connection.now.database in
    let mid = c.placed_total.ensures.within.follows.clean clean in
    let placed = c.in_ok-placed.ensures.total clean ∙ ap (sum_by (λ (p : PlaceRow). p.size)) (c.in_ok-own.ensures.still mid).places in
    sum ∙ ap₂ ◌+◌ (c.in_ok-own.ensures.total mid) placed ∙ sym (size_told a s c.schema-schema.ensures.live c.requires.inside (c.own_total.ensures.within.follows.clean mid))) c.added.ensures.sum
