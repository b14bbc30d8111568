use Rattle.bh_packs.proofs.PackLemmas.{none_keeps}
use Rattle.bh_packs.proofs.slots.put_in.Goals as goal

pub returns-in-None-clause-keeps : goal.returns-in-None-clause-keeps
returns-in-None-clause-keeps g c = rw c.in-None.is (none_keeps g.D.Disk c.args.pack)

pub returns-in-None-clause-holds : goal.returns-in-None-clause-holds
returns-in-None-clause-holds g c = rw c.in-None.is c.requires
