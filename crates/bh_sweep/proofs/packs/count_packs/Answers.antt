use Rattle.bh_base.specs.Connections.{state}
use Rattle.bh_objects.proofs.Working.{asked_inside}
use Rattle.bh_sweep.proofs.packs.count_packs.Goals as goal

pub byte_rows-requires : goal.byte_rows-requires
byte_rows-requires g c =
    let old = state g.S.Store g.P.Shelf c.args.connection.now in
    let one = state g.S.Store g.P.Shelf c.count_rows.new.connection in
    record { inside = asked_inside old one c.requires.inside c.count_rows.ensures.within c.in_ok-packs.ensures.same }

pub live_rows-requires : goal.live_rows-requires
live_rows-requires g c =
    let old = state g.S.Store g.P.Shelf c.args.connection.now in
    let one = state g.S.Store g.P.Shelf c.count_rows.new.connection in
    let two = state g.S.Store g.P.Shelf c.byte_rows.new.connection in
    let inside = asked_inside old one c.requires.inside c.count_rows.ensures.within c.in_ok-packs.ensures.same in
    record { inside = asked_inside one two inside c.byte_rows.ensures.within c.in_ok-bytes.ensures.same }
