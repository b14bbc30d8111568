use Rattle.std.proofs.Common.{rules, ◌*◌, ◌∙◌, arith}
use Rattle.std.proofs.lemmas.List.{get_or-replicate}
use Rattle.sha2.specs.Sha256.{word_at}
use Rattle.bh_lanes.proofs.Lanes.{one_word_more}
use Rattle.bh_lanes.proofs.block.padding_words.Goals as goal

pub load-preserved : goal.load-preserved
load-preserved c = (
  search rules,
  λ j k lane below.
      one_word_more j c.load.i c.load.w _ (λ k. word_at c.args.block.now (4 * k)) c.load.invariant.0 (omega arith)
      (λ k before. c.load.invariant.1 j k lane before)
      (get_or-replicate 8 j c.load_be.result 0 lane ∙ c.load_be.ensures) k below,
)
