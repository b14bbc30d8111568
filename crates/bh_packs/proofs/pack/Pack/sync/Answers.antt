use Rattle.std.proofs.Common.{IsTrue, refl, subst}
use Rattle.bh_packs.proofs.PackLemmas.{all_keep, sync_keeps, sync_settles}
use Rattle.bh_packs.proofs.pack.Pack.sync.Goals as goal

pub returns-in_err-settle-clause-keeps : goal.returns-in_err-settle-clause-keeps
returns-in_err-settle-clause-keeps g c =
    all_keep g.D.Disk c.args.self.now _ refl refl refl (λ was. was) c.settle.ensures.seen c.settle.ensures.others
    (λ is. subst IsTrue c.settle.ensures.clean is)

pub returns-clause-settled : goal.returns-clause-settled
returns-clause-settled g c = sync_settles g.D.Disk c.args.self.now _ refl refl c.in_ok-settle.ensures.stands

pub returns-clause-keeps : goal.returns-clause-keeps
returns-clause-keeps g c =
    sync_keeps g.D.Disk c.args.self.now _ refl refl refl c.in_ok-settle.ensures.stands c.settle.ensures.clean
