use Rattle.bh_packs.proofs.restart.crash_one.Goals as goal

pub returns : goal.returns
returns g c = λ at bytes s. record { marked = s.marked; below = s.marked; stands = c.stop.ensures.others at bytes s.stands }
