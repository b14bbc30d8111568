use Rattle.bh_packs.proofs.PackLemmas.{keeps_then}
use Rattle.bh_packs.proofs.packs.Packs.open.Goals as goal

pub returns-clause-settled : goal.returns-clause-settled
returns-clause-settled g c = λ at bytes below stands. c.in_ok-put_at.ensures.settled at bytes (c.in_ok-opened.ensures.settled at bytes below stands)

pub returns-clause-keeps : goal.returns-clause-keeps
returns-clause-keeps g c =
    keeps_then g.D.Disk c.args.self.now c.reach.new.self c.put_at.new.self c.reach.ensures.keeps c.put_at.ensures.keeps

pub returns-in_err-put_at-clause-keeps : goal.returns-in_err-put_at-clause-keeps
returns-in_err-put_at-clause-keeps g c =
    keeps_then g.D.Disk c.args.self.now c.reach.new.self c.put_at.new.self c.reach.ensures.keeps c.put_at.ensures.keeps

pub returns-clause-long : goal.returns-clause-long
returns-clause-long g c = λ clean. c.in_ok-opened.ensures.long (c.in_ok-put_at.ensures.clean clean)
