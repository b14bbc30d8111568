use Rattle.std.proofs.Common.{refl, arith}
use Rattle.bh_shelf.specs.Marks.{all_stood}
use Rattle.bh_shelf.proofs.MarkLemmas.{changed_more, changed_all}
use Rattle.bh_shelf.proofs.marks.Marks.stand.Goals as goal

pub loop-number-init : goal.loop-number-init
loop-number-init c = record { below = λ n low. absurd (omega (arith, low)); rest = λ n high. refl }

pub loop-number-preserved : goal.loop-number-preserved
loop-number-preserved c =
    changed_more all_stood c.loop-number.number c.args.self.now c.loop-number.self c.stand_at.new.self c.loop-number.invariant c.stand_at.ensures.stood c.stand_at.ensures.others

pub returns : goal.returns
returns c =
    let end = c.loop-number-test.false in
    changed_all all_stood c.loop-number.number c.args.self.now c.loop-number.self refl (omega (arith, end)) c.loop-number.invariant
