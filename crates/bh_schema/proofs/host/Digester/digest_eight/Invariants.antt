use Rattle.std.proofs.Common.{◌≡◌, ◌*◌, ◌<◌, ℕ, [], length, take, drop, slice_index_or}
use Rattle.bh_schema.proofs.host.Digester.digest_eight.Given as goal

-- the first digests are those of the first blocks
abbrev pub invariant-blocks-2 : goal.invariant-blocks-2
invariant-blocks-2 g l = (length l.digests ≡ 8)
    × ((k : ℕ) → k < l.j → slice_index_or l.digests k [] ≡ g.Self.Digester.digest_of (take l.size (drop (k * l.size) l.bytes)))
