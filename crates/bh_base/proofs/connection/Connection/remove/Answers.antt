use Rattle.sqlite.specs.Held.{state}
use Rattle.bh_base.specs.Connections.{backing}
use Rattle.bh_base.proofs.TurnLemmas.{settled_by}
use Rattle.bh_base.proofs.Removing.{left_settled, removed_same, removed_within, removed_others}
use Rattle.bh_base.proofs.connection.Connection.remove.Goals as goal

pub returns-in-Ok-clause-within : goal.returns-in-Ok-clause-within
returns-in-Ok-clause-within g c =
    let s = state g.S.Store c.args.self.now.database in
    let r = c.remove.ensures in
    removed_within c.args.pack (backing g.P.Shelf c.args.self.now.packs) (backing g.P.Shelf c.remove.new.self) s r.clean r.seen r.kept r.stood c.requires.outside c.requires.unnamed
    (settled_by s c.is_autocommit-outside.result c.is_autocommit-outside.ensures.value c.is_autocommit-outside.ensures.settled) (left_settled g.S.Store g.met.S.Store.settled c.args.self.now.database)

pub returns-in-Ok-clause-same : goal.returns-in-Ok-clause-same
returns-in-Ok-clause-same g c =
    let s = state g.S.Store c.args.self.now.database in
    let r = c.remove.ensures in
    removed_same c.args.pack (backing g.P.Shelf c.args.self.now.packs) (backing g.P.Shelf c.remove.new.self) s r.clean r.seen r.kept r.stood c.requires.outside c.requires.unnamed
    (settled_by s c.is_autocommit-outside.result c.is_autocommit-outside.ensures.value c.is_autocommit-outside.ensures.settled)

pub returns-in-Ok-clause-others : goal.returns-in-Ok-clause-others
returns-in-Ok-clause-others g c =
    let s = state g.S.Store c.args.self.now.database in
    let r = c.remove.ensures in
    removed_others c.args.pack (backing g.P.Shelf c.args.self.now.packs) (backing g.P.Shelf c.remove.new.self) s r.clean r.seen r.kept r.stood c.requires.outside c.requires.unnamed
    (settled_by s c.is_autocommit-outside.result c.is_autocommit-outside.ensures.value c.is_autocommit-outside.ensures.settled)

pub returns-in-Err-clause-within : goal.returns-in-Err-clause-within
returns-in-Err-clause-within g c =
    let s = state g.S.Store c.args.self.now.database in
    let r = c.remove.ensures in
    removed_within c.args.pack (backing g.P.Shelf c.args.self.now.packs) (backing g.P.Shelf c.remove.new.self) s r.clean r.seen r.kept r.stood c.requires.outside c.requires.unnamed
    (settled_by s c.is_autocommit-outside.result c.is_autocommit-outside.ensures.value c.is_autocommit-outside.ensures.settled) (left_settled g.S.Store g.met.S.Store.settled c.args.self.now.database)

pub returns-in-Err-clause-same : goal.returns-in-Err-clause-same
returns-in-Err-clause-same g c =
    let s = state g.S.Store c.args.self.now.database in
    let r = c.remove.ensures in
    removed_same c.args.pack (backing g.P.Shelf c.args.self.now.packs) (backing g.P.Shelf c.remove.new.self) s r.clean r.seen r.kept r.stood c.requires.outside c.requires.unnamed
    (settled_by s c.is_autocommit-outside.result c.is_autocommit-outside.ensures.value c.is_autocommit-outside.ensures.settled)

pub returns-in-Err-clause-others : goal.returns-in-Err-clause-others
returns-in-Err-clause-others g c =
    let s = state g.S.Store c.args.self.now.database in
    let r = c.remove.ensures in
    removed_others c.args.pack (backing g.P.Shelf c.args.self.now.packs) (backing g.P.Shelf c.remove.new.self) s r.clean r.seen r.kept r.stood c.requires.outside c.requires.unnamed
    (settled_by s c.is_autocommit-outside.result c.is_autocommit-outside.ensures.value c.is_autocommit-outside.ensures.settled)
