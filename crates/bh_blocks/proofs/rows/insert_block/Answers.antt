use Rattle.std.proofs.Common.{[], ◌∷◌, ◌++◌, subst}
use Rattle.std.proofs.lemmas.Result.{on_ok_weaker}
use Rattle.bh_base.specs.Connections.{state}
use Rattle.bh_base.specs.Layer.{Standing}
use Rattle.bh_tables.specs.Typed.{Tables, tables_in, rebodied}
use Rattle.bh_blocks.specs.Uses.{IsNewName}
use Rattle.bh_base.proofs.PlaceCalls.{asked_first, same_midst}
use Rattle.bh_schema.proofs.Storing.{within_then}
use Rattle.bh_blocks.proofs.rows.insert_block.Goals as goal

pub insert_row-requires-clause-midst : goal.insert_row-requires-clause-midst
insert_row-requires-clause-midst g c = same_midst _ _ c.in_ok-place_bytes.ensures.within c.in_ok-place_bytes.ensures.same c.requires.midst

pub insert_placed-requires-clause-midst : goal.insert_placed-requires-clause-midst
insert_placed-requires-clause-midst g c = same_midst _ _ c.in_ok-place_bytes.ensures.within c.in_ok-place_bytes.ensures.same c.requires.midst

pub insert_placed-requires-clause-there : goal.insert_placed-requires-clause-there
insert_placed-requires-clause-there g c clean = record {
  bytes = c.args.bytes.now;
  there = (rw c.in-Some.is at c.in_ok-place_bytes.ensures.placed) clean;
  size = rw c.in-Some.is at c.in_ok-place_bytes.ensures.size;
}

pub returns-in-None-clause-rewrites : goal.returns-in-None-clause-rewrites
returns-in-None-clause-rewrites g c = on_ok_weaker c.insert_row.result (λ turned. asked_first (λ s. s) (λ (t : Tables). rebodied t t.refs (t.blocks ++ record { digest = c.args.digest.now; ord = c.args.ord; bytes = c.args.bytes.now } ∷ []))
    (state g.S.Store g.P.Shelf c.args.connection.now) (state g.S.Store g.P.Shelf c.place_bytes.new.connection) (state g.S.Store g.P.Shelf c.insert_row.new.connection)
    (λ clean. c.in_ok-place_bytes.ensures.same (c.insert_row.ensures.writes.within.follows.clean clean)) turned) c.insert_row.ensures.rewrites

pub returns-in-Some-clause-rewrites : goal.returns-in-Some-clause-rewrites
returns-in-Some-clause-rewrites g c = on_ok_weaker c.insert_placed.result (λ turned clean.
    let mid = c.insert_placed.ensures.writes.within.follows.clean clean in
    asked_first (λ s. s) (λ (t : Tables). rebodied t t.refs (t.blocks ++ record { digest = c.args.digest.now; ord = c.args.ord; bytes = c.args.bytes.now } ∷ []))
    (state g.S.Store g.P.Shelf c.args.connection.now) (state g.S.Store g.P.Shelf c.place_bytes.new.connection) (state g.S.Store g.P.Shelf c.insert_placed.new.connection)
    (λ _. c.in_ok-place_bytes.ensures.same mid) (turned c.args.bytes.now ((rw c.in-Some.is at c.in_ok-place_bytes.ensures.placed) mid)) clean) c.insert_placed.ensures.rewrites

pub returns-in-None-clause-fresh : goal.returns-in-None-clause-fresh
returns-in-None-clause-fresh g c = on_ok_weaker c.insert_row.result (λ fresh clean.
    subst (λ (x : Standing). IsNewName (c.args.digest.now, c.args.ord) (tables_in x.now)) (c.in_ok-place_bytes.ensures.same (c.insert_row.ensures.writes.within.follows.clean clean)) (fresh clean)) c.insert_row.ensures.fresh

pub returns-in-Some-clause-fresh : goal.returns-in-Some-clause-fresh
returns-in-Some-clause-fresh g c = on_ok_weaker c.insert_placed.result (λ fresh clean.
    subst (λ (x : Standing). IsNewName (c.args.digest.now, c.args.ord) (tables_in x.now)) (c.in_ok-place_bytes.ensures.same (c.insert_placed.ensures.writes.within.follows.clean clean)) (fresh clean)) c.insert_placed.ensures.fresh

pub returns-in-None-clause-writes : goal.returns-in-None-clause-writes
returns-in-None-clause-writes g c =
    let one = c.in_ok-place_bytes.ensures in
    let two = c.insert_row.ensures.writes in
    record {
      within = within_then (state g.S.Store g.P.Shelf c.args.connection.now) (state g.S.Store g.P.Shelf c.place_bytes.new.connection) (state g.S.Store g.P.Shelf c.insert_row.new.connection) one.opens one.within two.within;
      opens = on_ok_weaker c.insert_row.result (λ still intact up. still intact (one.opens (two.within.follows.intact intact) up)) two.opens;
      midst = two.midst;
    }

pub returns-in-Some-clause-writes : goal.returns-in-Some-clause-writes
returns-in-Some-clause-writes g c =
    let one = c.in_ok-place_bytes.ensures in
    let two = c.insert_placed.ensures.writes in
    record {
      within = within_then (state g.S.Store g.P.Shelf c.args.connection.now) (state g.S.Store g.P.Shelf c.place_bytes.new.connection) (state g.S.Store g.P.Shelf c.insert_placed.new.connection) one.opens one.within two.within;
      opens = on_ok_weaker c.insert_placed.result (λ still intact up. still intact (one.opens (two.within.follows.intact intact) up)) two.opens;
      midst = two.midst;
    }
