use Rattle.std.proofs.Common.{◌∙◌}
use Rattle.bh_packs.proofs.PackLemmas.{keeps_then}
use Rattle.bh_packs.proofs.packs.Packs.reach.Goals as goal

pub loop-reached-preserved : goal.loop-reached-preserved
loop-reached-preserved g c =
    let before = c.loop-reached.invariant in
    record {
      keeps = keeps_then g.D.Disk c.args.self.now c.loop-reached.self c.add_empty.new.self before.keeps c.add_empty.ensures.keeps;
      holds = λ n. c.add_empty.ensures.holds n ∙ before.holds n;
      removed = c.add_empty.ensures.removed ∙ before.removed;
    }

pub returns-in_err-add_empty-clause-keeps : goal.returns-in_err-add_empty-clause-keeps
returns-in_err-add_empty-clause-keeps g c =
    keeps_then g.D.Disk c.args.self.now c.loop-reached.self c.add_empty.new.self c.loop-reached.invariant.keeps c.add_empty.ensures.keeps

pub returns-in_err-add_empty-clause-holds : goal.returns-in_err-add_empty-clause-holds
returns-in_err-add_empty-clause-holds g c = λ n. c.add_empty.ensures.holds n ∙ c.loop-reached.invariant.holds n
