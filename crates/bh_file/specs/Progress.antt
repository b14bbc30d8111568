-- The numbers of a progress.
use Rattle.std.specs.Prelude.{ℕ, ◌-◌, ◌/◌, min, max}
use Rattle.std.specs.Int.{div_ceil}

-- the percentage of bytes that are done; a work of fewer than 100 bytes has one percent a byte
abbrev pub percent : ℕ → ℕ → ℕ
percent done total = min (done / max (total / 100) 1) 100

-- how many seconds the rest takes at so many bytes a second, rounded up
abbrev pub seconds_left : ℕ → ℕ → ℕ → ℕ
seconds_left done total speed = div_ceil (total - done) (max speed 1)
