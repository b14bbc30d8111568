use Rattle.std.proofs.Common.{[], Some, sym, ap, subst, ◌∙◌}
use Rattle.sqlite.specs.Held.{Held, state as database_state}
use Rattle.sqlite_keyed.specs.Lists.{update_where, delete_where}
use Rattle.bh_tables.specs.Packs.{place_at, is_place, places_in}
use Rattle.bh_tables.specs.Shown.{Name, is_block}
use Rattle.bh_tables.specs.Typed.{Tables, rebodied}
use Rattle.bh_base.specs.Connections.{backing, state, places, contents}
use Rattle.bh_base.specs.Layer.{standing}
use Rattle.bh_base.specs.Places.{IsFound}
use Rattle.bh_base.proofs.Blocks.{fills_at}
use Rattle.bh_base.proofs.Calls.{midst_by}
use Rattle.bh_base.proofs.Freeing.{within_next}
use Rattle.bh_base.proofs.PlaceCalls.{asked_first, still_midst, found_some, at_place}
use Rattle.bh_compaction.proofs.Replacing.{shown_there}
use Rattle.bh_compaction.proofs.moving.take.Goals as goal

pub displace-requires-clause-midst : goal.displace-requires-clause-midst
displace-requires-clause-midst g c = still_midst _ _ c.in_ok-bytes.ensures.within c.in_ok-bytes.ensures.same c.requires.midst

pub displace-requires-clause-placed : goal.displace-requires-clause-placed
displace-requires-clause-placed g c clean =
    subst (λ (d : Held _). IsFound (place_at (places_in (database_state g.S.Store d).now.trees) (c.args.digest.now, c.args.ord)) (Some c.args.place)) (sym c.in_ok-bytes.ensures.rows)
    (c.requires.placed (c.in_ok-bytes.ensures.within.follows.clean clean))

pub returns-clause-writes : goal.returns-clause-writes
returns-clause-writes g c =
    let one = c.in_ok-bytes.ensures in
    let two = c.in_ok-displace.ensures.writes in
    record {
      within = within_next (state g.S.Store g.P.Shelf c.args.connection.now) (state g.S.Store g.P.Shelf c.bytes_at.new.connection) (state g.S.Store g.P.Shelf c.displace.new.connection) one.opens one.within two.within;
      opens = λ intact up. two.opens intact (one.opens (two.within.follows.intact intact) up);
      midst = two.midst;
    }

pub returns-clause-rewrites : goal.returns-clause-rewrites
returns-clause-rewrites g c =
    let q : Name = (c.args.digest.now, c.args.ord) in
    asked_first (λ s. s) (λ (t : Tables). rebodied t t.refs (update_where (is_block q) (λ b. record b { bytes = [] }) t.blocks))
    (state g.S.Store g.P.Shelf c.args.connection.now) (state g.S.Store g.P.Shelf c.bytes_at.new.connection) (state g.S.Store g.P.Shelf c.displace.new.connection)
    (λ clean. c.in_ok-bytes.ensures.same (c.in_ok-displace.ensures.writes.within.follows.clean clean).intact) c.in_ok-displace.ensures.rewrites

-- its bytes are those of its place, and these were read
pub returns-clause-bytes : goal.returns-clause-bytes
returns-clause-bytes g c clean b has its =
    let q : Name = (c.args.digest.now, c.args.ord) in
    let old = c.args.connection.now in
    let mid = c.in_ok-displace.ensures.writes.within.follows.clean clean in
    let first = c.in_ok-bytes.ensures.within.follows.clean mid in
    let f = fills_at (backing g.P.Shelf old.packs) (database_state g.S.Store old.database) (midst_by (standing (state g.S.Store g.P.Shelf old)) (c.requires.midst first)) in
    let found = found_some (place_at (places g.S.Store g.P.Shelf old) q) c.args.place (c.requires.placed first) in
    let there = shown_there f q found.0 found.1 b has its in
    sym (c.in_ok-bytes.ensures.bytes mid b.bytes (at_place (contents g.S.Store g.P.Shelf old) found.0 c.args.place found.2 ∙ there))

pub returns-clause-displaced : goal.returns-clause-displaced
returns-clause-displaced g c clean =
    c.in_ok-displace.ensures.displaced clean
    ∙ ap (λ (d : Held _). delete_where (is_place (c.args.digest.now, c.args.ord)) (places_in (database_state g.S.Store d).now.trees)) c.in_ok-bytes.ensures.rows
