use Rattle.std.proofs.Common.{length, filter, ap, sym, subst, ◌∙◌}
use Rattle.std.proofs.lemmas.Result.{IfOk-weaker}
use Rattle.sqlite.specs.Held.{Held, state as database_state}
use Rattle.bh_tables.specs.Packs.{places_in}
use Rattle.bh_base.specs.Connections.{backing, state, stands, tables, packs}
use Rattle.bh_base.specs.Removal.{is_idle, shown_number, RestsAgain}
use Rattle.bh_base.proofs.Freeing.{left_after, as_many, bytes_rest}
use Rattle.bh_base.proofs.Lifting.{follows_then}
use Rattle.bh_base.proofs.removal.drop_packs.Goals as goal

pub returns-clause-follows : goal.returns-clause-follows
returns-clause-follows g c =
    follows_then (state g.S.Store g.P.Shelf c.args.connection.now) (state g.S.Store g.P.Shelf c.drop_rows.new.connection) (state g.S.Store g.P.Shelf c.remove_packs.new.connection) c.in_ok-rows.ensures.follows c.remove_packs.ensures.within.follows

pub returns-clause-rests : goal.returns-clause-rests
returns-clause-rests g c clean =
    subst (RestsAgain (stands g.S.Store g.P.Shelf c.args.connection.now)) (sym (c.remove_packs.ensures.same clean)) (c.in_ok-rows.ensures.rests (c.remove_packs.ensures.within.follows.clean clean))

pub returns-clause-left : goal.returns-clause-left
returns-clause-left g c =
    left_after (tables g.S.Store g.P.Shelf c.args.connection.now) (state g.S.Store g.P.Shelf c.args.connection.now) (state g.S.Store g.P.Shelf c.drop_rows.new.connection) (state g.S.Store g.P.Shelf c.remove_packs.new.connection)
    c.remove_packs.ensures.within.follows.intact c.in_ok-rows.ensures.left
    (λ intact. c.remove_packs.ensures.within.survives (c.in_ok-rows.ensures.opens (c.remove_packs.ensures.within.follows.intact intact)).1 intact)

pub returns-clause-places : goal.returns-clause-places
returns-clause-places g c clean =
    ap (λ (d : Held _). places_in (database_state g.S.Store d).now.trees) c.remove_packs.ensures.rows ∙ c.in_ok-rows.ensures.places (c.remove_packs.ensures.within.follows.clean clean)

pub returns-clause-count : goal.returns-clause-count
returns-clause-count g c = IfOk-weaker c.remove_packs.result _ _ (λ n is clean.
    is ∙ ap length c.deref.ensures.value ∙ as_many shown_number (filter is_idle (packs g.S.Store g.P.Shelf c.args.connection.now)) c.in_ok-rows.rows.items (c.in_ok-rows.ensures.rows (c.remove_packs.ensures.within.follows.clean clean))) c.remove_packs.ensures.count

pub returns-in_err-rows-clause-bytes : goal.returns-in_err-rows-clause-bytes
returns-in_err-rows-clause-bytes g c clean =
    let first = c.args.connection.now in
    let last = c.drop_rows.new.connection in
    let done = c.in_err-rows.ensures in
    bytes_rest (backing g.P.Shelf first.packs) (backing g.P.Shelf last.packs) (database_state g.S.Store first.database) (database_state g.S.Store last.database)
    (c.requires.rest (done.follows.clean clean)) (done.rests clean) (done.places clean)

pub returns-clause-bytes : goal.returns-clause-bytes
returns-clause-bytes g c clean =
    let first = c.args.connection.now in
    let last = c.remove_packs.new.connection in
    let mid = c.remove_packs.ensures.within.follows.clean clean in
    bytes_rest (backing g.P.Shelf first.packs) (backing g.P.Shelf last.packs) (database_state g.S.Store first.database) (database_state g.S.Store last.database)
    (c.requires.rest (c.in_ok-rows.ensures.follows.clean mid)) (returns-clause-rests g c clean) (returns-clause-places g c clean)
