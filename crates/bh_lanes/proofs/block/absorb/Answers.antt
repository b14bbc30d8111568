use Rattle.std.proofs.Common.{◌≡◌, ◌*◌, ◌/◌, ◌∙◌, List, ℕ, take, drop, ap, sym, arith}
use Rattle.sha2.specs.Sha256.{compress, hash_after, initial_hash_256}
use Rattle.sha2.proofs.Absorbing256.{hash_after_next}
use Rattle.bh_lanes.specs.Lanes.{piece, AreWordsOf}
use Rattle.bh_lanes.proofs.Blocks.{word_there}
use Rattle.bh_lanes.proofs.block.absorb.Goals as goal

pub blocks-2-init : goal.blocks-2-init
unfolding hash_after
blocks-2-init c = λ j lane. c.initial-state.ensures j lane

pub blocks-2-preserved : goal.blocks-2-preserved
blocks-2-preserved c = λ j lane.
    let m = piece c.args.size j c.args.bytes.now in
    let n = c.blocks-2.n in
    let b = take 64 (drop (n * 64) m) in
    let held : AreWordsOf b j c.load_block-words.result = λ k below. c.load_block-words.ensures j k lane below ∙ word_there c.args.bytes.now c.args.size j n k below (omega arith) in
    c.compress.ensures j b lane held ∙ ap (λ (h : List ℕ). compress h b) (c.blocks-2.invariant j lane) ∙ sym (hash_after_next initial_hash_256 m n)

pub returns : goal.returns
returns c = λ j lane.
    let done : c.blocks-2.n ≡ c.args.size / 64 = omega arith in
    rw done at (c.blocks-2.invariant j lane)
