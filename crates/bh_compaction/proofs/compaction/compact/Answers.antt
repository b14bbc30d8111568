use Rattle.std.proofs.Common.{ap, sym, ◌∙◌}
use Rattle.sqlite.specs.Held.{state as database_state}
use Rattle.bh_base.specs.Connections.{backing, state, stands, tables}
use Rattle.bh_base.specs.Layer.{Standing}
use Rattle.bh_base.proofs.Freeing.{rests_back, rows_by, left_after}
use Rattle.bh_base.proofs.Lifting.{follows_then}
use Rattle.bh_compaction.proofs.compaction.compact.Goals as goal

pub returns-in-Err-clause-follows : goal.returns-in-Err-clause-follows
returns-in-Err-clause-follows g c =
    follows_then (state g.S.Store g.P.Shelf c.args.connection.now) (state g.S.Store g.P.Shelf c.commit_moved.new.connection) (state g.S.Store g.P.Shelf c.take_back.new.self) c.in-Err.ensures.follows c.take_back.ensures.follows

pub returns-in-Err-clause-rests : goal.returns-in-Err-clause-rests
returns-in-Err-clause-rests g c clean =
    let mid = c.take_back.ensures.follows.clean clean in
    rests_back (stands g.S.Store g.P.Shelf c.args.connection.now) (stands g.S.Store g.P.Shelf c.commit_moved.new.connection) (stands g.S.Store g.P.Shelf c.take_back.new.self)
    (c.requires.rest (c.in-Err.ensures.follows.clean mid)) (c.in-Err.ensures.kept mid) (c.take_back.ensures.back clean)

pub returns-in-Err-clause-left : goal.returns-in-Err-clause-left
returns-in-Err-clause-left g c =
    left_after (tables g.S.Store g.P.Shelf c.args.connection.now) (state g.S.Store g.P.Shelf c.args.connection.now) (state g.S.Store g.P.Shelf c.commit_moved.new.connection) (state g.S.Store g.P.Shelf c.take_back.new.self)
    c.take_back.ensures.follows.intact c.in-Err.ensures.left c.take_back.ensures.survives

pub returns-in-Err-clause-stays : goal.returns-in-Err-clause-stays
returns-in-Err-clause-stays g c clean =
    let mid = c.take_back.ensures.follows.clean clean in
    let rest = c.requires.rest (c.in-Err.ensures.follows.clean mid) in
    (rows_by (backing g.P.Shelf c.args.connection.now.packs) (backing g.P.Shelf c.take_back.new.self.packs) (database_state g.S.Store c.args.connection.now.database) (database_state g.S.Store c.take_back.new.self.database)
    (ap (λ (x : Standing). x.now) (c.take_back.ensures.back clean) ∙ c.in-Err.ensures.kept mid ∙ sym rest.settled)).0
