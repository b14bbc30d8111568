use Rattle.sqlite.specs.Held.{state}
use Rattle.bh_base.specs.Connections.{backing}
use Rattle.bh_base.proofs.TurnLemmas.{settled_by}
use Rattle.bh_base.proofs.Lifting.{shown_intact, shown_clean, shown_within, shown_again, alone_within, named_seen}
use Rattle.bh_base.proofs.connection.Connection.read.Goals as goal

pub returns-in-Ok-clause-within : goal.returns-in-Ok-clause-within
returns-in-Ok-clause-within g c =
    let s = state g.S.Store c.args.self.now.database in
    shown_within (backing g.P.Shelf c.args.self.now.packs) (backing g.P.Shelf c.read.new.self) s s c.read.ensures.clean c.read.ensures.stood c.read.ensures.kept
    (alone_within s (settled_by s c.is_autocommit-outside.result c.is_autocommit-outside.ensures.value c.is_autocommit-outside.ensures.settled))

pub returns-in-Ok-clause-same : goal.returns-in-Ok-clause-same
returns-in-Ok-clause-same g c =
    let s = state g.S.Store c.args.self.now.database in
    let b = backing g.P.Shelf c.read.new.self in
    λ intact. let clean = (shown_intact b s intact).1 in shown_again (backing g.P.Shelf c.args.self.now.packs) b s (c.read.ensures.seen clean) (c.read.ensures.kept clean)

pub returns-in-Err-clause-within : goal.returns-in-Err-clause-within
returns-in-Err-clause-within g c =
    let s = state g.S.Store c.args.self.now.database in
    shown_within (backing g.P.Shelf c.args.self.now.packs) (backing g.P.Shelf c.read.new.self) s s c.read.ensures.clean c.read.ensures.stood c.read.ensures.kept
    (alone_within s (settled_by s c.is_autocommit-outside.result c.is_autocommit-outside.ensures.value c.is_autocommit-outside.ensures.settled))

pub returns-in-Err-clause-same : goal.returns-in-Err-clause-same
returns-in-Err-clause-same g c =
    let s = state g.S.Store c.args.self.now.database in
    let b = backing g.P.Shelf c.read.new.self in
    λ intact. let clean = (shown_intact b s intact).1 in shown_again (backing g.P.Shelf c.args.self.now.packs) b s (c.read.ensures.seen clean) (c.read.ensures.kept clean)

-- what it may name is seen
pub returns-in-Ok-clause-bytes : goal.returns-in-Ok-clause-bytes
returns-in-Ok-clause-bytes g c clean bytes has =
    let s = state g.S.Store c.args.self.now.database in
    let b = backing g.P.Shelf c.read.new.self in
    let it = shown_clean b s clean in
    let place = c.args.place in
    c.in-Ok.ensures.bytes it.1 bytes (named_seen (backing g.P.Shelf c.args.self.now.packs) (g.met.P.Shelf.kept_seen c.args.self.now.packs) s.in_transaction place.pack place.offset place.size bytes has)
