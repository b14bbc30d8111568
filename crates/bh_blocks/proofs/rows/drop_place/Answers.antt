use Rattle.std.proofs.Common.{Some, sym, ap, subst, ◌∙◌}
use Rattle.bh_tables.specs.Packs.{place_at, is_place}
use Rattle.bh_tables.specs.Shown.{Name}
use Rattle.bh_base.specs.Connections.{state, places}
use Rattle.bh_base.specs.Layer.{standing}
use Rattle.bh_base.proofs.Calls.{midst_by}
use Rattle.bh_base.proofs.Filling.{none_left}
use Rattle.bh_base.specs.Places.{IsFound}
use Rattle.bh_base.proofs.PlaceCalls.{still_midst, found_none, changes_none, emptied_block}
use Rattle.bh_blocks.proofs.rows.drop_place.Goals as goal

pub place_of-requires-clause-reads : goal.place_of-requires-clause-reads
place_of-requires-clause-reads g c clean = midst_by (standing (state g.S.Store g.P.Shelf c.args.connection.now)) (c.requires.midst clean)

pub displace-requires-clause-midst : goal.displace-requires-clause-midst
displace-requires-clause-midst g c = still_midst _ _ c.in_ok-place_of.ensures.reads.within c.in_ok-place_of.ensures.reads.same c.requires.midst

pub displace-requires-clause-placed : goal.displace-requires-clause-placed
displace-requires-clause-placed g c clean =
    subst (λ ps. IsFound (place_at ps (c.args.digest.now, c.args.ord)) (Some c.in-Some.place)) (sym (c.in_ok-place_of.ensures.still clean).places) (rw c.in-Some.is at (c.in_ok-place_of.ensures.found clean))

pub returns-in-None-clause-changes : goal.returns-in-None-clause-changes
returns-in-None-clause-changes g c clean = changes_none (c.args.digest.now, c.args.ord) _ _ (c.in_ok-place_of.ensures.reads.same clean.intact)

pub returns-in-None-clause-dropped : goal.returns-in-None-clause-dropped
returns-in-None-clause-dropped g c clean =
    ap (λ ps. place_at ps (c.args.digest.now, c.args.ord)) (c.in_ok-place_of.ensures.still clean).places ∙ found_none (place_at (places g.S.Store g.P.Shelf c.args.connection.now) (c.args.digest.now, c.args.ord)) (rw c.in-None.is at (c.in_ok-place_of.ensures.found clean))

pub returns-in_ok-displace-in-Some-clause-changes : goal.returns-in_ok-displace-in-Some-clause-changes
returns-in_ok-displace-in-Some-clause-changes g c clean =
    let asked = c.in_ok-displace-in-Some.ensures.writes.within.follows.clean clean in
    emptied_block (c.args.digest.now, c.args.ord) (state g.S.Store g.P.Shelf c.args.connection.now) (state g.S.Store g.P.Shelf c.place_of.new.connection) (state g.S.Store g.P.Shelf c.displace.new.connection)
    (c.in_ok-place_of.ensures.reads.same asked.intact) (c.in_ok-displace-in-Some.ensures.rewrites clean)

pub returns-in_ok-displace-in-Some-clause-dropped : goal.returns-in_ok-displace-in-Some-clause-dropped
returns-in_ok-displace-in-Some-clause-dropped g c clean =
    let q : Name = (c.args.digest.now, c.args.ord) in
    ap (λ ps. place_at ps q) (c.in_ok-displace-in-Some.ensures.displaced clean) ∙ none_left (is_place q) (is_place q) _ (λ x is. is)

pub returns-in_ok-displace-in-Some-clause-opened : goal.returns-in_ok-displace-in-Some-clause-opened
returns-in_ok-displace-in-Some-clause-opened g c intact =
    let two = c.in_ok-displace-in-Some.ensures.writes in
    let up = c.in_ok-place_of.ensures.reads.opens (two.within.follows.intact intact) in
    (up.0, two.opens intact up.1)
