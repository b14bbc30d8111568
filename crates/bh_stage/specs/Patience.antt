-- For how long answers that have no room may hold everybody up: 250 milliseconds in a second, together.
use Rattle.std.specs.Prelude.{ℕ, Bool, ◌-◌, nat_lt, if◌then◌else◌}

-- a second passed since it was full
abbrev pub is_due : ℕ → ℕ → Bool
is_due since now = nat_lt 999 (now - since)

-- then it is full again, and else it is what it was
abbrev pub left_at : ℕ → ℕ → ℕ → ℕ
left_at since left now = if is_due since now then 250 else left

abbrev pub full_at : ℕ → ℕ → ℕ
full_at since now = if is_due since now then now else since
