use Rattle.std.proofs.Common.{refl}
use Rattle.bh_packs.proofs.PackLemmas.{all_keep}
use Rattle.bh_packs.proofs.pack.Pack.peek.Goals as goal

pub returns-in_err-get-clause-keeps : goal.returns-in_err-get-clause-keeps
returns-in_err-get-clause-keeps g c =
    all_keep g.D.Disk c.args.self.now _ refl refl refl (λ was. was) c.get.ensures.seen c.get.ensures.others c.get.ensures.clean

pub returns-clause-keeps : goal.returns-clause-keeps
returns-clause-keeps g c =
    all_keep g.D.Disk c.args.self.now _ refl refl refl (λ was. was) c.get.ensures.seen c.get.ensures.others c.get.ensures.clean
