-- How far ahead of a host's last stamp a clock may be.
use Rattle.std.specs.Prelude.{ℕ, ◌-◌, ◌*◌, Bool, false, ◌&&◌, nat_le, nat_lt}
use Rattle.bh_model.specs.Runs.{last_reading}
use Rattle.bh_words.specs.declared.lines.Leap.{Leap}
use Rattle.bh_words.specs.declared.lines.Leap.TheVariants.{Days, Any}

-- a reading is more than some seconds after the last stamp. A host whose last stamp is 0 had none
abbrev pub is_after : ℕ → ℕ → ℕ → Bool
is_after latest reading seconds = nat_lt 0 latest && nat_lt seconds (reading - latest)

-- a reading in the clock's range is too far ahead; one past the range is refused by the host
abbrev pub leaps : Leap → ℕ → ℕ → Bool
leaps (Days days) latest reading = nat_le reading last_reading && is_after latest reading (days * 86_400)
leaps Any latest reading = false
