use Rattle.std.proofs.Common.{None, filter, sym, subst, ◌∙◌}
use Rattle.sqlite.specs.Held.{state}
use Rattle.bh_tables.specs.Packs.{is_place, places_in, shown_place}
use Rattle.bh_tables.specs.Shown.{Name}
use Rattle.bh_base.specs.Places.{IsFound}
use Rattle.bh_base.proofs.PlaceCalls.{first_none, first_some, found_here}
use Rattle.bh_base.proofs.places.place_of.Goals as goal

pub returns-in-None-clause-found : goal.returns-in-None-clause-found
returns-in-None-clause-found g c clean =
    let q : Name = (c.args.digest.now, c.args.ord) in
    let ps = places_in (state g.S.Store c.args.connection.now.database).now.trees in
    subst (λ o. IsFound o None) (sym (first_none shown_place (filter (is_place q) ps) _ (c.deref.ensures.value ∙ c.in_ok-rows.ensures.rows clean) c.in-None.ensures.value)) tt

pub returns-clause-found : goal.returns-clause-found
returns-clause-found g c clean =
    let q : Name = (c.args.digest.now, c.args.ord) in
    let ps = places_in (state g.S.Store c.args.connection.now.database).now.trees in
    let it = first_some shown_place (filter (is_place q) ps) _ c.in-Some.row.now (c.deref.ensures.value ∙ c.in_ok-rows.ensures.rows clean) c.in-Some.ensures.value in
    found_here _ it.0 c.in_ok-read_place-in-Some.field-0 it.1 (c.in_ok-read_place-in-Some.ensures.read it.0 it.2)
