use Rattle.std.proofs.Common.{◌-◌, [], ap, ◌∙◌}
use Rattle.std.proofs.lemmas.Result.{on_ok_weaker}
use Rattle.sqlite_keyed.specs.Lists.{update_where}
use Rattle.bh_tables.specs.Packs.{place_at, is_pack}
use Rattle.bh_tables.specs.Shown.{Name, is_block}
use Rattle.bh_tables.specs.Typed.{rebodied}
use Rattle.bh_base.specs.Connections.{state, places, packs}
use Rattle.bh_base.specs.Places.{measured_as}
use Rattle.bh_base.proofs.PlaceCalls.{is_some, then_turned}
use Rattle.bh_base.proofs.places.displace.Goals as goal

pub delete_place-requires-clause-placed : goal.delete_place-requires-clause-placed
delete_place-requires-clause-placed g c clean = is_some (place_at (places g.S.Store g.P.Shelf c.args.connection.now) (c.args.digest.now, c.args.ord)) c.args.place (c.requires.placed clean)

pub returns-clause-rewrites : goal.returns-clause-rewrites
returns-clause-rewrites g c = on_ok_weaker c.lower_live.result (λ last.
    let q : Name = (c.args.digest.now, c.args.ord) in
    then_turned (state g.S.Store g.P.Shelf c.args.connection.now) (state g.S.Store g.P.Shelf c.delete_place.new.connection) (state g.S.Store g.P.Shelf c.lower_live.new.connection) (λ s. s) (λ s. s)
    (λ x. rebodied x x.refs (update_where (is_block q) (λ b. record b { bytes = [] }) x.blocks)) (λ x. x) c.lower_live.ensures.writes.within.follows.clean c.in_ok-delete_place.ensures.rewrites last) c.lower_live.ensures.rewrites

pub returns-clause-displaced : goal.returns-clause-displaced
returns-clause-displaced g c = on_ok_weaker c.lower_live.result (λ low clean.
    (low clean).places ∙ (c.in_ok-delete_place.ensures.displaced (c.lower_live.ensures.writes.within.follows.clean clean)).places) c.lower_live.ensures.lowered

pub returns-clause-lowered : goal.returns-clause-lowered
returns-clause-lowered g c = on_ok_weaker c.lower_live.result (λ low clean.
    (low clean).packs ∙ ap (update_where (is_pack c.in_ok-pack.pack) (λ p. measured_as p.length (p.live - c.args.place.size) p)) (c.in_ok-delete_place.ensures.displaced (c.lower_live.ensures.writes.within.follows.clean clean)).packs
    ∙ ap (λ n. update_where (is_pack n) (λ p. measured_as p.length (p.live - c.args.place.size) p) (packs g.S.Store g.P.Shelf c.args.connection.now)) c.in_ok-pack.ensures.same) c.lower_live.ensures.lowered
