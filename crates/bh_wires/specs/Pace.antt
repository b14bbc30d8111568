-- How far the clock may run ahead of what passes on the machine.
use Rattle.std.specs.Prelude.{ℕ, ◌+◌, ◌-◌, ◌||◌, nat_lt, not, Bool, false, if◌then◌else◌, Option, Some, None}
use Rattle.bh_wires.specs.declared.pace.Accepted.{Accepted}
use Rattle.bh_wires.specs.declared.pace.Pace.{Pace}

-- further ahead of the reading that it is measured by than what passed since then, and the step
abbrev pub is_ahead : ℕ → Option Accepted → ℕ → ℕ → Bool
is_ahead reading None now step = false
is_ahead reading (Some last) now step = nat_lt (last.reading + (now - last.at) + step) reading

-- one that is too far ahead is above all that are in range
abbrev pub taken_as : ℕ → Option Accepted → ℕ → ℕ → ℕ
taken_as reading last now step = if is_ahead reading last now step then 18446744073709551615 else reading

-- less far ahead than what passed
abbrev pub is_behind : ℕ → Option Accepted → ℕ → Bool
is_behind reading None now = false
is_behind reading (Some last) now = nat_lt reading (last.reading + (now - last.at))

-- the next ones are measured by that of the accepted ones which was furthest ahead
abbrev pub measured_by : ℕ → Option Accepted → ℕ → ℕ → Option Accepted
measured_by reading last now step =
    if is_ahead reading last now step || nat_lt 250000000000 reading || is_behind reading last now then last
    else Some (record { reading = reading; at = now })

abbrev pub is_in_range : ℕ → Bool
is_in_range reading = not (nat_lt 250000000000 reading)

-- one that an operator takes as right is what the next ones are measured by, wherever the earlier ones were
abbrev pub accepted : Pace → ℕ → ℕ → Pace
accepted it reading now =
    if is_in_range reading then record it { last = Some (record { reading = reading; at = now }); is_away = false } else it
