use Rattle.std.proofs.Common.{◌≡◌, ◌*◌, ◌<◌, ℕ, [], length, take, drop, slice_index_or}
use Rattle.sha2.specs.Sha256.{sha256}
use Rattle.bh_blocks.proofs.digester.each_alone.Given as goal

-- the first digests are those of the first blocks
abbrev pub invariant-blocks-2 : goal.invariant-blocks-2
invariant-blocks-2 l = (length l.digests ≡ 8)
    × ((k : ℕ) → k < l.j → slice_index_or l.digests k [] ≡ sha256 (take l.size (drop (k * l.size) l.bytes)))
