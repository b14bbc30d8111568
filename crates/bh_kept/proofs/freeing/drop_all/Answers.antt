use Rattle.std.proofs.Common.{◌∙◌}
use Rattle.sqlite.specs.Held.{state as database_state}
use Rattle.bh_base.specs.Connections.{backing, state}
use Rattle.bh_base.proofs.Lifting.{follows_then}
use Rattle.bh_kept.proofs.Unnamed.{rests, may_stay, left_both, left_still}
use Rattle.bh_kept.proofs.freeing.drop_all.Goals as goal

pub empty_some-moved-requires : goal.empty_some-moved-requires
empty_some-moved-requires g c =
    let first = c.args.connection.now in
    let asked = c.is_autocommit-outside in
    rests (backing g.P.Shelf first.packs) (database_state g.S.Store first.database) asked.result asked.ensures.value asked.ensures.settled c.requires

pub drop_packs-requires : goal.drop_packs-requires
drop_packs-requires g c = record { rest = λ clean. (c.empty_some-moved.ensures.rests clean).rest }

pub returns-clause-follows : goal.returns-clause-follows
returns-clause-follows g c =
    follows_then (state g.S.Store g.P.Shelf c.args.connection.now) (state g.S.Store g.P.Shelf c.empty_some-moved.new.connection) (state g.S.Store g.P.Shelf c.drop_packs.new.connection) c.empty_some-moved.ensures.follows c.drop_packs.ensures.follows

pub returns-clause-rests : goal.returns-clause-rests
returns-clause-rests g c clean =
    let two = c.drop_packs.ensures.rests clean in
    record { rest = two.rest; tables = two.tables ∙ (c.empty_some-moved.ensures.rests (c.drop_packs.ensures.follows.clean clean)).tables }

pub returns-clause-left : goal.returns-clause-left
returns-clause-left g c =
    let first = c.args.connection.now in
    let asked = c.is_autocommit-outside in
    let a = backing g.P.Shelf first.packs in
    let s = database_state g.S.Store first.database in
    let one = c.empty_some-moved.ensures in
    let two = c.drop_packs.ensures in
    let both = left_both (state g.S.Store g.P.Shelf first) (state g.S.Store g.P.Shelf c.empty_some-moved.new.connection) (state g.S.Store g.P.Shelf c.drop_packs.new.connection) one.follows.clean two.follows.intact (λ clean. (one.rests clean).tables) one.left two.left in
    left_still (state g.S.Store g.P.Shelf first) (state g.S.Store g.P.Shelf c.drop_packs.new.connection) both (λ intact. one.follows.intact (two.follows.intact intact))
    (may_stay a s (g.met.P.Shelf.kept_stands first.packs) (g.met.S.Store.stays first.database.store) c.schema-schema.ensures.live (rests a s asked.result asked.ensures.value asked.ensures.settled c.requires))

pub returns-in_err-gone-clause-follows : goal.returns-in_err-gone-clause-follows
returns-in_err-gone-clause-follows g c =
    follows_then (state g.S.Store g.P.Shelf c.args.connection.now) (state g.S.Store g.P.Shelf c.empty_some-moved.new.connection) (state g.S.Store g.P.Shelf c.drop_packs.new.connection) c.empty_some-moved.ensures.follows c.drop_packs.ensures.follows

pub returns-in_err-gone-clause-rests : goal.returns-in_err-gone-clause-rests
returns-in_err-gone-clause-rests g c clean =
    let two = c.drop_packs.ensures.rests clean in
    record { rest = two.rest; tables = two.tables ∙ (c.empty_some-moved.ensures.rests (c.drop_packs.ensures.follows.clean clean)).tables }

pub returns-in_err-gone-clause-left : goal.returns-in_err-gone-clause-left
returns-in_err-gone-clause-left g c =
    let first = c.args.connection.now in
    let asked = c.is_autocommit-outside in
    let a = backing g.P.Shelf first.packs in
    let s = database_state g.S.Store first.database in
    let one = c.empty_some-moved.ensures in
    let two = c.drop_packs.ensures in
    let both = left_both (state g.S.Store g.P.Shelf first) (state g.S.Store g.P.Shelf c.empty_some-moved.new.connection) (state g.S.Store g.P.Shelf c.drop_packs.new.connection) one.follows.clean two.follows.intact (λ clean. (one.rests clean).tables) one.left two.left in
    left_still (state g.S.Store g.P.Shelf first) (state g.S.Store g.P.Shelf c.drop_packs.new.connection) both (λ intact. one.follows.intact (two.follows.intact intact))
    (may_stay a s (g.met.P.Shelf.kept_stands first.packs) (g.met.S.Store.stays first.database.store) c.schema-schema.ensures.live (rests a s asked.result asked.ensures.value asked.ensures.settled c.requires))
