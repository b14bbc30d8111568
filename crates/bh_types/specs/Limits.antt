-- The settings of a host and of its process.
use Rattle.std.specs.Prelude.{ℕ, ◌≤◌, ◌^◌}

-- in bytes: the minimum size of a part that isn't the last, and the maximum size of a body
pub record HostLimits : Type 0 where
  pub min_part : ℕ
  pub max_body : ℕ

abbrev pub AreLimits : ℕ → ℕ → Type 0
AreLimits min_part max_body = (min_part ≤ 2 ^ 30) × (1 ≤ max_body) × (max_body ≤ 2 ^ 30)

-- 5 MiB and 16 MiB
-- Amazon S3 User Guide, "Amazon S3 multipart upload limits": 5 MiB is the least part
abbrev pub default_limits : HostLimits
default_limits = record { min_part = 5_242_880; max_body = 16_777_216 }

-- the size of a block in bytes, and the maximum number of cached blocks
pub record HostTuning : Type 0 where
  pub block_size : ℕ
  pub cache_blocks : ℕ

abbrev pub IsTuning : ℕ → ℕ → Type 0
IsTuning block_size cache_blocks = (1 ≤ block_size) × (block_size ≤ 1_048_576) × (cache_blocks ≤ 65_536)

-- 64 KiB, and no cache
abbrev pub default_tuning : HostTuning
default_tuning = record { block_size = 65_536; cache_blocks = 0 }

-- bytes
abbrev pub IsQuota : ℕ → Type 0
IsQuota n = n ≤ 2 ^ 60
