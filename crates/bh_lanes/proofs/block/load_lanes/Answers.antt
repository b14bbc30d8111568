use Rattle.std.proofs.Common.{ap, ◌∙◌, arith}
use Rattle.sha2.specs.Sha256.{word_at}
use Rattle.bh_lanes.proofs.Lanes.{below_eight}
use Rattle.bh_lanes.proofs.block.load_lanes.Goals as goal

pub returns : goal.returns
returns c =
    let there = word_at c.args.bytes.now in
    below_eight _ (c.load_be.ensures ∙ ap there (omega arith)) (c.load_be-2.ensures ∙ ap there (omega arith))
    (c.load_be-3.ensures ∙ ap there (omega arith)) (c.load_be-4.ensures ∙ ap there (omega arith))
    (c.load_be-5.ensures ∙ ap there (omega arith)) (c.load_be-6.ensures ∙ ap there (omega arith))
    (c.load_be-7.ensures ∙ ap there (omega arith)) (c.load_be-8.ensures ∙ ap there (omega arith))
