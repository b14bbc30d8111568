use Rattle.std.proofs.lemmas.Result.{on_ok_weaker}
use Rattle.sqlite.specs.Held.{state}
use Rattle.bh_base.specs.Connections.{backing}
use Rattle.bh_base.proofs.TurnLemmas.{settled_by}
use Rattle.bh_base.proofs.Lifting.{shown_intact, shown_within, shown_leaves, shown_again, alone_within}
use Rattle.bh_base.proofs.connection.Connection.sync.Goals as goal

pub returns-clause-synced : goal.returns-clause-synced
returns-clause-synced g c = on_ok_weaker c.sync.result (λ stands clean pack offset size bytes has. stands clean pack offset size bytes (rw (c.sync.ensures.seen clean) at has)) c.sync.ensures.stands

pub returns-clause-within : goal.returns-clause-within
returns-clause-within g c =
    let s = state g.S.Store c.args.self.now.database in
    shown_within (backing g.P.Shelf c.args.self.now.packs) (backing g.P.Shelf c.sync.new.self) s s c.sync.ensures.clean c.sync.ensures.stood c.sync.ensures.kept
    (alone_within s (settled_by s c.is_autocommit-outside.result c.is_autocommit-outside.ensures.value c.is_autocommit-outside.ensures.settled))

pub returns-clause-survives : goal.returns-clause-survives
returns-clause-survives g c =
    let s = state g.S.Store c.args.self.now.database in
    shown_leaves (backing g.P.Shelf c.args.self.now.packs) (backing g.P.Shelf c.sync.new.self) s s c.sync.ensures.clean c.sync.ensures.stood (λ intact db h. h)

pub returns-clause-same : goal.returns-clause-same
returns-clause-same g c =
    let s = state g.S.Store c.args.self.now.database in
    let b = backing g.P.Shelf c.sync.new.self in
    λ intact. let clean = (shown_intact b s intact).1 in shown_again (backing g.P.Shelf c.args.self.now.packs) b s (c.sync.ensures.seen clean) (c.sync.ensures.kept clean)
