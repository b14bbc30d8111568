use Rattle.std.proofs.Common.{◌≡◌, ℕ, ◌<◌}
use Rattle.sha2.specs.Sha256.{hash_after, initial_hash_256}
use Rattle.bh_lanes.specs.Lanes.{state_of, piece}
use Rattle.bh_lanes.proofs.block.absorb.Given as goal

abbrev pub invariant-blocks-2 : goal.invariant-blocks-2
invariant-blocks-2 l = (j : ℕ) → j < 8 → state_of j l.state ≡ hash_after initial_hash_256 (piece l.size j l.bytes) l.n
