use Rattle.bh_packs.proofs.slots.sync_in.Goals as goal

pub returns-in-Some-clause-settled : goal.returns-in-Some-clause-settled
returns-in-Some-clause-settled g c = rw c.in-Some.is c.sync.ensures.settled
