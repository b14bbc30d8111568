use Rattle.std.proofs.Common.{refl, arith}
use Rattle.bh_shelf.specs.Marks.{kept_alone}
use Rattle.bh_shelf.proofs.MarkLemmas.{changed_more, changed_all}
use Rattle.bh_shelf.proofs.marks.Marks.forget.Goals as goal

pub loop-number-init : goal.loop-number-init
loop-number-init c = record { below = λ n low. absurd (omega (arith, low)); rest = λ n high. refl }

pub loop-number-preserved : goal.loop-number-preserved
loop-number-preserved c =
    changed_more kept_alone c.loop-number.number c.args.self.now c.loop-number.self c.forget_at.new.self c.loop-number.invariant c.forget_at.ensures.kept c.forget_at.ensures.others

pub returns : goal.returns
returns c =
    let end = c.loop-number-test.false in
    changed_all kept_alone c.loop-number.number c.args.self.now c.loop-number.self refl (omega (arith, end)) c.loop-number.invariant
