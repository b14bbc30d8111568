use Rattle.std.proofs.Common.{sym, subst}
use Rattle.bh_blocks.specs.Digests.{digest_by}
use Rattle.bh_maintenance.specs.Found.{IsJoinedBy}
use Rattle.bh_maintenance.specs.Moves.{Moves}
use Rattle.bh_maintenance.proofs.moves.move_by_digest.Goals as goal

pub move_by-requires-clause-to : goal.move_by-requires-clause-to
move_by-requires-clause-to g c = subst (λ d. IsJoinedBy g.T.Store g.Q.Shelf (digest_by d) c.args.to.now) c.in-Sha256.is c.requires.to

pub move_by-requires-in-Fast-clause-to : goal.move_by-requires-in-Fast-clause-to
move_by-requires-in-Fast-clause-to g c = subst (λ d. IsJoinedBy g.T.Store g.Q.Shelf (digest_by d) c.args.to.now) c.in-Fast.is c.requires.to

pub returns-in-Sha256 : goal.returns-in-Sha256
returns-in-Sha256 g c = subst (λ d. Moves g.S.Store g.P.Shelf g.T.Store g.Q.Shelf c.args.from.now.connection c.args.to.now.connection c.move_by.new.from.connection c.move_by.new.to.connection (digest_by d) c.args.tenant.now c.move_by.result) (sym c.in-Sha256.is) c.move_by.ensures

pub returns-in-Fast : goal.returns-in-Fast
returns-in-Fast g c = subst (λ d. Moves g.S.Store g.P.Shelf g.T.Store g.Q.Shelf c.args.from.now.connection c.args.to.now.connection c.move_by-in-Fast.new.from.connection c.move_by-in-Fast.new.to.connection (digest_by d) c.args.tenant.now c.move_by-in-Fast.result) (sym c.in-Fast.is) c.move_by-in-Fast.ensures
