use Rattle.bh_kept.proofs.Over.{recalling_over, kept_over}
use Rattle.bh_kept.proofs.laws.stands_over.Goals as goal

pub returns-clause-recalling : goal.returns-clause-recalling
returns-clause-recalling g c = λ it. recalling_over g.P.Shelf g.G.Digester.digest_of it

pub returns-clause-kept : goal.returns-clause-kept
returns-clause-kept g c = λ kept it is. kept_over g.P.Shelf g.G.Digester.digest_of it kept is
