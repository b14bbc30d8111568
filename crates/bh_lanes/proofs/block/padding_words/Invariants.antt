use Rattle.std.proofs.Common.{◌≡◌, ℕ, ◌<◌, ◌*◌, length, slice_index}
use Rattle.sha2.specs.Sha256.{word_at}
use Rattle.bh_lanes.specs.Lanes.{window_of}
use Rattle.bh_lanes.proofs.block.padding_words.Given as goal

abbrev pub invariant-load : goal.invariant-load
invariant-load l = (length l.w ≡ 16) × ((j k : ℕ) → j < 8 → k < l.i → slice_index (window_of j l.w) k ≡ word_at l.block (4 * k))
