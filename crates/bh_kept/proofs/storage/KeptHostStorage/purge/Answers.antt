use Rattle.std.proofs.Common.{OnOk, refl}
use Rattle.bh_view.specs.Bodies.{IsSoundHost}
use Rattle.bh_kept.proofs.Keeping.{at_work_kept}
use Rattle.bh_kept.proofs.storage.KeptHostStorage.purge.Goals as goal

pub returns-in-Some-clause-goes_on : goal.returns-in-Some-clause-goes_on
returns-in-Some-clause-goes_on g c = at_work_kept c.args.self.now _ c.in-Some.storage c.purge.new.self c.in-Some.is refl (IsSoundHost g.G.Digester.digest_of) (OnOk c.purge.result) c.purge.ensures.goes_on
