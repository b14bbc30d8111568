use Rattle.std.proofs.Common.{refl, sym, arith}
use Rattle.sha2.proofs.Schedule256.{rounds_first}
use Rattle.bh_lanes.specs.Lanes.{state_of, window_of}
use Rattle.bh_lanes.proofs.Lanes.{word_of}
use Rattle.bh_lanes.proofs.rounds.first_step.Goals as goal

pub returns : goal.returns
returns c = λ j b h lane held before.
    rounds_first b h (window_of j c.args.w.now) (state_of j c.args.v) c.args.t _ _ _ c.requires held before refl
    (sym (word_of j c.args.w.now c.args.t (omega arith))) (c.round.ensures j lane)
