use Rattle.std.proofs.Common.{inl, inr, refl, sym, ap, subst, ◌∙◌}
use Rattle.sqlite.specs.Held.{Held, state as database_state}
use Rattle.sqlite_rules.specs.Lists.{Has}
use Rattle.sqlite_rules.proofs.ListLemmas.{has_at}
use Rattle.bh_tables.specs.Packs.{places_in}
use Rattle.bh_base.specs.Connections.{backing, state}
use Rattle.bh_base.specs.Removal.{IsAtRest}
use Rattle.bh_base.proofs.Freeing.{stays, within_next, rest_settled, opens_same}
use Rattle.bh_base.proofs.removal.remove_packs.Goals as goal

pub loop-row-init : goal.loop-row-init
loop-row-init g c =
    let s = state g.S.Store g.P.Shelf c.args.connection.now in
    record { within = stays s (rest_settled s c.requires.rest); same = λ clean. refl; still = refl }

pub remove_pack-requires-clause-rest : goal.remove_pack-requires-clause-rest
remove_pack-requires-clause-rest g c clean =
    let inv = c.loop-row.invariant in
    subst IsAtRest (sym (inv.same clean)) (c.requires.rest (inv.within.follows.clean clean))

pub remove_pack-requires-clause-unnamed : goal.remove_pack-requires-clause-unnamed
remove_pack-requires-clause-unnamed g c clean row has = elim has [
  | inl is ↦ λ pack read p its.
      let inv = c.loop-row.invariant in
      let listed = has_at c.args.rows.now c.loop-row.row-index c.row-item.result c.loop-row-test.true c.row-item.is in
      c.requires.unnamed (inv.within.follows.clean clean) row (subst (Has c.args.rows.now) (sym is) listed) pack read p
      (subst (λ (d : Held _). Has (places_in (database_state g.S.Store d).now.trees) p) inv.still its)
  | inr none ↦ absurd none
]

pub loop-row-preserved : goal.loop-row-preserved
loop-row-preserved g c =
    let inv = c.loop-row.invariant in
    let step = c.remove_pack.ensures in
    let first = c.args.connection.now in
    let mid = c.loop-row.connection in
    record {
      within = within_next (state g.S.Store g.P.Shelf first) (state g.S.Store g.P.Shelf mid) (state g.S.Store g.P.Shelf c.remove_pack.new.connection)
          (λ intact up. opens_same (backing g.P.Shelf first.packs) (backing g.P.Shelf mid.packs) (database_state g.S.Store first.database) (database_state g.S.Store mid.database) (ap (λ (d : Held _). (database_state g.S.Store d).is_open) inv.still) up) inv.within step.within;
      same = λ clean. step.same clean ∙ inv.same (step.within.follows.clean clean);
      still = step.rows ∙ inv.still;
    }
