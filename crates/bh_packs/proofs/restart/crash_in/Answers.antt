use Rattle.bh_packs.proofs.restart.crash_in.Goals as goal

pub returns-in-Some : goal.returns-in-Some
returns-in-Some g c = rw c.in-Some.is c.crash_one.ensures
