use Rattle.std.proofs.Common.{length, refl, inl, arith}
use Rattle.bh_packs.proofs.PackLemmas.{put_keeps}
use Rattle.bh_packs.proofs.pack.Pack.append.Goals as goal

pub returns-in_err-put-clause-keeps : goal.returns-in_err-put-clause-keeps
returns-in_err-put-clause-keeps g c =
    put_keeps g.D.Disk c.args.self.now _ (length c.args.bytes.now) refl (omega arith) refl (λ was. was)
    c.put.ensures.elsewhere c.put.ensures.others c.put.ensures.clean

pub returns-clause-written : goal.returns-clause-written
returns-clause-written g c = λ some. record { below = omega arith; seen = c.in_ok-put.ensures.written some; safe = inl refl }

pub returns-clause-keeps : goal.returns-clause-keeps
returns-clause-keeps g c =
    put_keeps g.D.Disk c.args.self.now _ (length c.args.bytes.now) refl (omega arith) refl (λ _. refl)
    c.put.ensures.elsewhere c.put.ensures.others c.put.ensures.clean
