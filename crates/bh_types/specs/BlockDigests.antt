-- Numbers of the digest functions.
use Rattle.std.specs.Prelude.{ℕ}
use Rattle.bh_types.specs.declared.block_digest.BlockDigest.{BlockDigest}
use Rattle.bh_types.specs.declared.block_digest.BlockDigest.TheVariants.{Sha256, Fast}

-- its number in the host's row
abbrev pub digest_number : BlockDigest → ℕ
digest_number Sha256 = 0
digest_number Fast = 1
