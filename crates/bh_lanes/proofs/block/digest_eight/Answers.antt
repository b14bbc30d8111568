use Rattle.std.proofs.Common.{ℕ, ◌<◌, ◌≤◌, ◌+◌, ◌*◌, length, ap, ◌∙◌, arith}
use Rattle.sha2.specs.Sha256.{compress}
use Rattle.bh_lanes.specs.Lanes.{state_of}
use Rattle.bh_lanes.proofs.Lanes.{below_eight}
use Rattle.bh_lanes.proofs.Blocks.{digest_of_piece}
use Rattle.bh_lanes.proofs.block.digest_eight.Goals as goal

pub returns : goal.returns
returns c =
    let is = λ (j : ℕ) (lane : j < 8) (fits : j * c.args.size + c.args.size ≤ length c.args.bytes.now).
    let h = state_of j c.absorb-state.result in
    digest_of_piece c.args.bytes.now h (state_of j c.compress.new.state) c.args.size j fits c.requires.whole (c.absorb-state.ensures j lane)
    (c.compress.ensures j c.padding.result lane (c.padding_words-words.ensures j lane) ∙ ap (compress h) c.padding.ensures) in
    below_eight _ (c.digest_of_lane.ensures ∙ is 0 (omega arith) (omega arith)) (c.digest_of_lane-2.ensures ∙ is 1 (omega arith) (omega arith))
    (c.digest_of_lane-3.ensures ∙ is 2 (omega arith) (omega arith)) (c.digest_of_lane-4.ensures ∙ is 3 (omega arith) (omega arith))
    (c.digest_of_lane-5.ensures ∙ is 4 (omega arith) (omega arith)) (c.digest_of_lane-6.ensures ∙ is 5 (omega arith) (omega arith))
    (c.digest_of_lane-7.ensures ∙ is 6 (omega arith) (omega arith)) (c.digest_of_lane-8.ensures ∙ is 7 (omega arith) (omega arith))
