use Rattle.std.proofs.Common.{rules, ◌+◌, ◌*◌, ap, ◌∙◌, arith}
use Rattle.sha2.specs.Sha256.{word_at}
use Rattle.bh_lanes.proofs.Lanes.{one_word_more}
use Rattle.bh_lanes.proofs.block.load_block.Goals as goal

pub load-preserved : goal.load-preserved
load-preserved c = (
  search rules,
  λ j k lane below.
      one_word_more j c.load.i c.load.w c.load_lanes.result (λ k. word_at c.args.bytes.now (j * c.args.size + c.args.at + 4 * k))
      c.load.invariant.0 (omega arith) (λ k before. c.load.invariant.1 j k lane before)
      (c.load_lanes.ensures j lane ∙ ap (word_at c.args.bytes.now) (omega arith)) k below,
)
