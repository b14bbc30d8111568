use Rattle.std.proofs.Common.{arith, inl, sym, ap, subst, ◌∙◌}
use Rattle.sqlite.specs.Held.{state as database_state}
use Rattle.bh_base.specs.Connections.{backing, state, stands, places, packs}
use Rattle.bh_base.specs.Layer.{Standing}
use Rattle.bh_base.proofs.Freeing.{begun_midst, committed_rests, left_committed, rests_back, rows_by}
use Rattle.bh_base.proofs.Lifting.{follows_then}
use Rattle.bh_compaction.specs.Moves.{Compacts}
use Rattle.bh_compaction.proofs.Others.{compacts_none}
use Rattle.bh_compaction.proofs.compaction.commit_moved.Goals as goal

pub move_some-requires-clause-midst : goal.move_some-requires-clause-midst
move_some-requires-clause-midst g c clean =
    begun_midst (stands g.S.Store g.P.Shelf c.args.connection.now) (stands g.S.Store g.P.Shelf c.begin.new.self) (c.requires.rest (c.in_ok-begin.ensures.within.follows.clean clean)) (c.in_ok-begin.ensures.begins clean.intact)

-- ---- taken back

pub returns-in-None-clause-follows : goal.returns-in-None-clause-follows
returns-in-None-clause-follows g c =
    let a = state g.S.Store g.P.Shelf c.args.connection.now in
    let b = state g.S.Store g.P.Shelf c.begin.new.self in
    let m = state g.S.Store g.P.Shelf c.move_some.new.connection in
    let n = state g.S.Store g.P.Shelf c.take_back.new.self in
    follows_then a b n c.in_ok-begin.ensures.within.follows (follows_then b m n c.in_ok-move_some.ensures.writes.within.follows c.take_back.ensures.follows)

pub returns-in-None-clause-rests : goal.returns-in-None-clause-rests
returns-in-None-clause-rests g c clean =
    let one = c.in_ok-begin.ensures in
    let two = c.in_ok-move_some.ensures.writes in
    let mid = c.take_back.ensures.follows.clean clean in
    let begun = two.within.follows.clean mid in
    rests_back (stands g.S.Store g.P.Shelf c.args.connection.now) (stands g.S.Store g.P.Shelf c.move_some.new.connection) (stands g.S.Store g.P.Shelf c.take_back.new.self)
    (c.requires.rest (one.within.follows.clean begun)) (two.within.kept mid ∙ one.within.kept begun) (c.take_back.ensures.back clean)

pub returns-in-None-clause-left : goal.returns-in-None-clause-left
returns-in-None-clause-left g c intact db leaves lists =
    let one = c.in_ok-begin.ensures in
    let two = c.in_ok-move_some.ensures.writes in
    let three = c.take_back.ensures in
    let mid = three.follows.intact intact in
    let begun = two.within.follows.intact mid in
    inl (one.survives begun db.trees (two.within.survives (one.opens begun).1 mid db.trees (three.survives intact db.trees leaves)))

pub returns-in-None-clause-moved : goal.returns-in-None-clause-moved
returns-in-None-clause-moved g c clean =
    let first = c.args.connection.now in
    let last = c.take_back.new.self in
    let one = c.in_ok-begin.ensures in
    let two = c.in_ok-move_some.ensures.writes in
    let mid = c.take_back.ensures.follows.clean clean in
    let begun = two.within.follows.clean mid in
    let rest = c.requires.rest (one.within.follows.clean begun) in
    compacts_none c.args.sparse (packs g.S.Store g.P.Shelf first) (places g.S.Store g.P.Shelf first) (places g.S.Store g.P.Shelf last)
    (rows_by (backing g.P.Shelf first.packs) (backing g.P.Shelf last.packs) (database_state g.S.Store first.database) (database_state g.S.Store last.database)
    (ap (λ (x : Standing). x.now) (c.take_back.ensures.back clean) ∙ two.within.kept mid ∙ one.within.kept begun ∙ sym rest.settled)).0

pub returns-in-None-clause-few : goal.returns-in-None-clause-few
returns-in-None-clause-few g c clean = omega arith

-- ---- committed

pub returns-in_ok-commit-in-Some-clause-few : goal.returns-in_ok-commit-in-Some-clause-few
returns-in_ok-commit-in-Some-clause-few g c clean = (rw c.in-Some.is at c.in_ok-move_some.ensures.few) (c.in_ok-commit-in-Some.ensures.follows.clean clean)

pub returns-in_err-commit-in-Some-clause-left : goal.returns-in_err-commit-in-Some-clause-left
returns-in_err-commit-in-Some-clause-left g c =
    let one = c.in_ok-begin.ensures in
    let two = c.in_ok-move_some.ensures in
    let three = c.in_err-commit-in-Some.ensures in
    left_committed (state g.S.Store g.P.Shelf c.args.connection.now) (state g.S.Store g.P.Shelf c.begin.new.self) (state g.S.Store g.P.Shelf c.move_some.new.connection) c.requires.rest one.opens one.begins one.within.follows.intact
    two.writes.within two.writes.opens (rw c.in-Some.is at two.rewrites) (state g.S.Store g.P.Shelf c.commit.new.self) three.follows.intact one.survives three.survives three.lists

pub returns-in_ok-commit-in-Some-clause-left : goal.returns-in_ok-commit-in-Some-clause-left
returns-in_ok-commit-in-Some-clause-left g c =
    let one = c.in_ok-begin.ensures in
    let two = c.in_ok-move_some.ensures in
    let three = c.in_ok-commit-in-Some.ensures in
    left_committed (state g.S.Store g.P.Shelf c.args.connection.now) (state g.S.Store g.P.Shelf c.begin.new.self) (state g.S.Store g.P.Shelf c.move_some.new.connection) c.requires.rest one.opens one.begins one.within.follows.intact
    two.writes.within two.writes.opens (rw c.in-Some.is at two.rewrites) (state g.S.Store g.P.Shelf c.commit.new.self) three.follows.intact one.survives three.survives three.lists

pub returns-in_ok-commit-in-Some-clause-rests : goal.returns-in_ok-commit-in-Some-clause-rests
returns-in_ok-commit-in-Some-clause-rests g c clean =
    let one = c.in_ok-begin.ensures in
    let two = c.in_ok-move_some.ensures in
    let three = c.in_ok-commit-in-Some.ensures in
    committed_rests (state g.S.Store g.P.Shelf c.args.connection.now) (state g.S.Store g.P.Shelf c.begin.new.self) (state g.S.Store g.P.Shelf c.move_some.new.connection) c.requires.rest one.opens one.begins one.within.follows.intact
    two.writes.within two.writes.opens (rw c.in-Some.is at two.rewrites) (stands g.S.Store g.P.Shelf c.commit.new.self) (three.follows.intact clean.intact) (three.commits clean.intact)

pub returns-in_ok-commit-in-Some-clause-moved : goal.returns-in_ok-commit-in-Some-clause-moved
returns-in_ok-commit-in-Some-clause-moved g c clean =
    let first = c.args.connection.now in
    let begun = c.begin.new.self in
    let mid = c.move_some.new.connection in
    let last = c.commit.new.self in
    let one = c.in_ok-begin.ensures in
    let two = c.in_ok-move_some.ensures in
    let three = c.in_ok-commit-in-Some.ensures in
    let before = three.follows.clean clean in
    let start = two.writes.within.follows.clean before in
    let began = rows_by (backing g.P.Shelf first.packs) (backing g.P.Shelf begun.packs) (database_state g.S.Store first.database) (database_state g.S.Store begun.database) (ap (λ (x : Standing). x.now) (one.begins start.intact)) in
    let ended = rows_by (backing g.P.Shelf mid.packs) (backing g.P.Shelf last.packs) (database_state g.S.Store mid.database) (database_state g.S.Store last.database) (ap (λ (x : Standing). x.now) (three.commits clean.intact)) in
    let moved = (rw c.in-Some.is at two.moved) before in
    let count = c.in-Some.count in
    subst (λ ps. Compacts c.args.sparse count (packs g.S.Store g.P.Shelf first) (places g.S.Store g.P.Shelf first) ps) (sym ended.0)
    (subst (λ ps. Compacts c.args.sparse count (packs g.S.Store g.P.Shelf first) ps (places g.S.Store g.P.Shelf mid)) began.0
    (subst (λ ks. Compacts c.args.sparse count ks (places g.S.Store g.P.Shelf begun) (places g.S.Store g.P.Shelf mid)) began.1 moved))
