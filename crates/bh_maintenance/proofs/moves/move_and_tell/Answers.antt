use Rattle.std.proofs.lemmas.Result.{IfOk-weaker}
use Rattle.bh_blocks.specs.Digests.{digest_by}
use Rattle.bh_maintenance.proofs.Moving.{told_of}
use Rattle.bh_maintenance.proofs.moves.move_and_tell.Goals as goal

pub returns : goal.returns
returns g c =
    IfOk-weaker c.told.result _ _ (λ printed tells. told_of g.S.Store g.P.Shelf g.T.Store g.Q.Shelf c.args.from.now.connection c.args.to.now.connection c.move_by_digest-outcome.new.from.connection c.move_by_digest-outcome.new.to.connection
    (digest_by c.args.to.now.digest) c.args.tenant.now c.args.line printed c.move_by_digest-outcome.result c.move_by_digest-outcome.ensures tells) c.told.ensures
