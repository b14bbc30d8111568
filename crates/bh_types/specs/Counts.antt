-- A tenant's counters.
use Rattle.std.specs.Prelude.{ℕ, ◌≤◌, ◌^◌}

-- the next number of each counter
pub record Counts : Type 0 where
  pub version : ℕ
  pub upload : ℕ
  pub entry : ℕ

-- from 1; 2^62 means that the last number, 2^62 - 1, was given
abbrev pub IsNext : ℕ → Type 0
IsNext n = (1 ≤ n) × (n ≤ 2 ^ 62)

abbrev pub AreCounters : ℕ → ℕ → ℕ → Type 0
AreCounters version upload entry = IsNext version × IsNext upload × IsNext entry
