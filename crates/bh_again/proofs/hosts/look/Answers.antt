use Rattle.bh_again.proofs.Back.{left_settled}
use Rattle.bh_again.proofs.hosts.look.Goals as goal

pub returns-clause-settled : goal.returns-clause-settled
returns-clause-settled g c = left_settled g.S.Store g.met.S.Store.settled c.args.connection.now
