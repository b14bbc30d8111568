use Rattle.std.proofs.Common.{◌++◌, ◌∷◌, [], ap, subst, ◌∙◌}
use Rattle.sqlite.specs.Held.{Held, state as database_state}
use Rattle.sqlite_keyed.specs.Lists.{update_where}
use Rattle.sqlite_rules.specs.Lists.{Has}
use Rattle.bh_tables.specs.Packs.{places_in}
use Rattle.bh_tables.specs.Shown.{Name, is_block}
use Rattle.bh_tables.specs.Typed.{Tables, tables_in, rebodied}
use Rattle.bh_base.specs.Connections.{backing, state}
use Rattle.bh_base.specs.Layer.{Standing}
use Rattle.bh_base.specs.Places.{row_of_place}
use Rattle.bh_base.proofs.Freeing.{within_next, opens_same}
use Rattle.bh_base.proofs.PlaceCalls.{asked_first, same_midst}
use Rattle.bh_compaction.proofs.Chains.{failed}
use Rattle.bh_compaction.proofs.moving.put_bytes.Goals as goal

pub put-requires-clause-midst : goal.put-requires-clause-midst
put-requires-clause-midst g c = same_midst _ _ c.in_ok-append.ensures.within c.in_ok-append.ensures.same c.requires.midst

pub put-requires-clause-there : goal.put-requires-clause-there
put-requires-clause-there g c clean = record {
  bytes = c.args.bytes.now;
  there = (rw c.in-Some.is at c.in_ok-append.ensures.placed) clean;
  size = rw c.in-Some.is at c.in_ok-append.ensures.size;
}

pub put-requires-clause-empty : goal.put-requires-clause-empty
put-requires-clause-empty g c clean b has its =
    let one = c.in_ok-append.ensures in
    c.requires.empty (one.within.follows.clean clean) b (subst (λ (x : Standing). Has (tables_in x.now).blocks b) (one.same clean) has) its

pub returns-in-None-clause-writes : goal.returns-in-None-clause-writes
returns-in-None-clause-writes g c =
    let old = c.args.connection.now in
    let mid = c.append.new.self in
    let one = c.in_ok-append.ensures in
    record {
      within = one.within;
      opens = λ intact up. opens_same (backing g.P.Shelf old.packs) (backing g.P.Shelf mid.packs) (database_state g.S.Store old.database) (database_state g.S.Store mid.database) (ap (λ (d : Held _). (database_state g.S.Store d).is_open) one.rows) up;
      midst = same_midst _ _ one.within one.same c.requires.midst;
    }

pub returns-in_err-put-in-Some-clause-writes : goal.returns-in_err-put-in-Some-clause-writes
returns-in_err-put-in-Some-clause-writes g c =
    let old = c.args.connection.now in
    let mid = c.append.new.self in
    let one = c.in_ok-append.ensures in
    record {
      within = within_next (state g.S.Store g.P.Shelf old) (state g.S.Store g.P.Shelf mid) (state g.S.Store g.P.Shelf c.put.new.connection)
          (λ intact up. opens_same (backing g.P.Shelf old.packs) (backing g.P.Shelf mid.packs) (database_state g.S.Store old.database) (database_state g.S.Store mid.database) (ap (λ (d : Held _). (database_state g.S.Store d).is_open) one.rows) up)
          one.within c.in_err-put-in-Some.ensures.writes.within;
      opens = failed _ c.from_residual-in_err-put-in-Some.result c.from_residual-in_err-put-in-Some.ensures.0;
      midst = failed _ c.from_residual-in_err-put-in-Some.result c.from_residual-in_err-put-in-Some.ensures.0;
    }

pub returns-in_ok-put-in-Some-clause-writes : goal.returns-in_ok-put-in-Some-clause-writes
returns-in_ok-put-in-Some-clause-writes g c =
    let old = c.args.connection.now in
    let mid = c.append.new.self in
    let one = c.in_ok-append.ensures in
    let two = c.in_ok-put-in-Some.ensures.writes in
    let up = opens_same (backing g.P.Shelf old.packs) (backing g.P.Shelf mid.packs) (database_state g.S.Store old.database) (database_state g.S.Store mid.database) (ap (λ (d : Held _). (database_state g.S.Store d).is_open) one.rows) in
    record {
      within = within_next (state g.S.Store g.P.Shelf old) (state g.S.Store g.P.Shelf mid) (state g.S.Store g.P.Shelf c.put.new.connection) (λ intact was. up was) one.within two.within;
      opens = λ intact was. two.opens intact (up was);
      midst = two.midst;
    }

pub returns-in_ok-put-in-Some-clause-rewrites : goal.returns-in_ok-put-in-Some-clause-rewrites
returns-in_ok-put-in-Some-clause-rewrites g c clean =
    let q : Name = (c.args.digest.now, c.args.ord) in
    let two = c.in_ok-put-in-Some.ensures in
    let mid = two.writes.within.follows.clean clean in
    asked_first (λ s. s) (λ (t : Tables). rebodied t t.refs (update_where (is_block q) (λ b. record b { bytes = c.args.bytes.now }) t.blocks))
    (state g.S.Store g.P.Shelf c.args.connection.now) (state g.S.Store g.P.Shelf c.append.new.self) (state g.S.Store g.P.Shelf c.put.new.connection)
    (λ _. c.in_ok-append.ensures.same mid) (two.rewrites c.args.bytes.now ((rw c.in-Some.is at c.in_ok-append.ensures.placed) mid)) clean

pub returns-in_ok-put-in-Some-clause-placed : goal.returns-in_ok-put-in-Some-clause-placed
returns-in_ok-put-in-Some-clause-placed g c clean = record {
  size = rw c.in-Some.is at c.in_ok-append.ensures.size;
  sum = rw c.in-Some.is at c.in_ok-append.ensures.sum;
  is = c.in_ok-put-in-Some.ensures.placed clean
      ∙ ap (λ (d : Held _). places_in (database_state g.S.Store d).now.trees ++ row_of_place (c.args.digest.now, c.args.ord) c.in-Some.place ∷ []) c.in_ok-append.ensures.rows;
}
