-- How far ahead of the clock and a host's last stamp that of an exported file may be.
use Rattle.std.specs.Prelude.{ℕ, ◌-◌, ◌*◌, Bool, false, max, nat_lt}
use Rattle.bh_words.specs.declared.lines.Leap.{Leap}
use Rattle.bh_words.specs.declared.lines.Leap.TheVariants.{Days, Any}
use Rattle.bh_maintenance.specs.declared.clocks.ClockRead.{ClockRead}

-- a stamp is more than the permitted days after a moment, both in seconds since 1970
abbrev pub is_beyond : Leap → ℕ → ℕ → Bool
is_beyond (Days days) moment stamp = nat_lt (days * 86_400) (stamp - moment)
is_beyond Any moment stamp = false

-- the later of the clock and a last stamp
abbrev pub moment_of : ClockRead → ℕ → ℕ
moment_of clock latest = max clock.reading latest
