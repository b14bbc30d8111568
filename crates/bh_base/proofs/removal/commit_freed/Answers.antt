use Rattle.std.proofs.Common.{map, filter, ap, subst, ◌∙◌}
use Rattle.sqlite.specs.Held.{state as database_state}
use Rattle.sqlite_rules.specs.Lists.{Has}
use Rattle.bh_base.specs.Connections.{backing, state, stands}
use Rattle.bh_base.specs.Layer.{Standing}
use Rattle.bh_base.specs.Removal.{is_idle, shown_number}
use Rattle.bh_base.proofs.Freeing.{begun_midst, committed_rests, left_committed, rows_by}
use Rattle.bh_base.proofs.removal.commit_freed.Goals as goal

pub free_idle-requires : goal.free_idle-requires
free_idle-requires g c = record {
  midst = λ clean. begun_midst (stands g.S.Store g.P.Shelf c.args.connection.now) (stands g.S.Store g.P.Shelf c.begin.new.self) (c.requires.rest (c.in_ok-begin.ensures.within.follows.clean clean)) (c.in_ok-begin.ensures.begins clean.intact);
}

pub returns-in_err-commit-clause-left : goal.returns-in_err-commit-clause-left
returns-in_err-commit-clause-left g c =
    let one = c.in_ok-begin.ensures in
    let two = c.in_ok-rows.ensures in
    let three = c.in_err-commit.ensures in
    left_committed (state g.S.Store g.P.Shelf c.args.connection.now) (state g.S.Store g.P.Shelf c.begin.new.self) (state g.S.Store g.P.Shelf c.free_idle.new.connection) c.requires.rest one.opens one.begins one.within.follows.intact
    two.writes.within two.writes.opens two.rewrites (state g.S.Store g.P.Shelf c.commit.new.self) three.follows.intact one.survives three.survives three.lists

pub returns-clause-left : goal.returns-clause-left
returns-clause-left g c =
    let one = c.in_ok-begin.ensures in
    let two = c.in_ok-rows.ensures in
    let three = c.in_ok-commit.ensures in
    left_committed (state g.S.Store g.P.Shelf c.args.connection.now) (state g.S.Store g.P.Shelf c.begin.new.self) (state g.S.Store g.P.Shelf c.free_idle.new.connection) c.requires.rest one.opens one.begins one.within.follows.intact
    two.writes.within two.writes.opens two.rewrites (state g.S.Store g.P.Shelf c.commit.new.self) three.follows.intact one.survives three.survives three.lists

pub returns-clause-rests : goal.returns-clause-rests
returns-clause-rests g c clean =
    let one = c.in_ok-begin.ensures in
    let two = c.in_ok-rows.ensures in
    let three = c.in_ok-commit.ensures in
    committed_rests (state g.S.Store g.P.Shelf c.args.connection.now) (state g.S.Store g.P.Shelf c.begin.new.self) (state g.S.Store g.P.Shelf c.free_idle.new.connection) c.requires.rest one.opens one.begins one.within.follows.intact
    two.writes.within two.writes.opens two.rewrites (stands g.S.Store g.P.Shelf c.commit.new.self) (three.follows.intact clean.intact) (three.commits clean.intact)

pub returns-clause-places : goal.returns-clause-places
returns-clause-places g c clean =
    let first = c.args.connection.now in
    let begun = c.begin.new.self in
    let mid = c.free_idle.new.connection in
    let last = c.commit.new.self in
    let one = c.in_ok-begin.ensures in
    let two = c.in_ok-rows.ensures in
    let three = c.in_ok-commit.ensures in
    let before = three.follows.clean clean in
    let start = two.writes.within.follows.clean before in
    (rows_by (backing g.P.Shelf mid.packs) (backing g.P.Shelf last.packs) (database_state g.S.Store mid.database) (database_state g.S.Store last.database) (ap (λ (x : Standing). x.now) (three.commits clean.intact))).0
    ∙ two.places before
    ∙ (rows_by (backing g.P.Shelf first.packs) (backing g.P.Shelf begun.packs) (database_state g.S.Store first.database) (database_state g.S.Store begun.database) (ap (λ (x : Standing). x.now) (one.begins start.intact))).0

pub returns-clause-unnamed : goal.returns-clause-unnamed
returns-clause-unnamed g c clean row has pack is p its =
    let mid = c.free_idle.new.connection in
    let last = c.commit.new.self in
    let two = c.in_ok-rows.ensures in
    let three = c.in_ok-commit.ensures in
    two.unnamed (three.follows.clean clean) row has pack is p (subst (λ ps. Has ps p)
    (rows_by (backing g.P.Shelf mid.packs) (backing g.P.Shelf last.packs) (database_state g.S.Store mid.database) (database_state g.S.Store last.database) (ap (λ (x : Standing). x.now) (three.commits clean.intact))).0 its)

pub returns-clause-rows : goal.returns-clause-rows
returns-clause-rows g c clean =
    let first = c.args.connection.now in
    let begun = c.begin.new.self in
    let one = c.in_ok-begin.ensures in
    let two = c.in_ok-rows.ensures in
    let before = c.in_ok-commit.ensures.follows.clean clean in
    let start = two.writes.within.follows.clean before in
    two.rows before ∙ ap (λ ps. map shown_number (filter is_idle ps))
    (rows_by (backing g.P.Shelf first.packs) (backing g.P.Shelf begun.packs) (database_state g.S.Store first.database) (database_state g.S.Store begun.database) (ap (λ (x : Standing). x.now) (one.begins start.intact))).1
