-- The lines of a script, and their events.
use Rattle.std.specs.Prelude.{ℕ, ◌+◌, ◌==◌, List, [], ◌∷◌, length, Option, Some, None, if◌then◌else◌}
use Rattle.std.specs.List.{slice_split}
use Rattle.bh_event.specs.Events.{Arrival}
use Rattle.bh_event.specs.Flaws.{flaw_of}
use Rattle.bh_event.specs.Lines.{told_by}
use Rattle.bh_script.specs.declared.input.BadLine.{BadLine}

-- the lines of an input, separated by line feeds
abbrev pub lines : List ℕ → List (List ℕ)
lines input = slice_split (λ b. b == 10) input

-- a line's event precedes those of later lines; an invalid line ends the script
abbrev pub then_told : Option Arrival → List Arrival → List Arrival
then_told None later = []
then_told (Some event) later = event ∷ later

-- the events of lines, up to the first invalid line; an empty line is skipped
abbrev pub events_in : List (List ℕ) → List Arrival
events_in [] = []
events_in (line ∷ later) = if length line == 0 then events_in later else then_told (told_by line) (events_in later)

-- a line that is not an event is bad; otherwise the first later one that is
abbrev pub bad_or : Option Arrival → BadLine → Option BadLine → Option BadLine
bad_or None bad later = Some bad
bad_or (Some event) bad later = later

-- the first line that is not an event, and the reason; lines are counted from this number on,
-- including empty ones
abbrev pub bad_line_from : ℕ → List (List ℕ) → Option BadLine
bad_line_from number [] = None
bad_line_from number (line ∷ later) =
    if length line == 0
    then bad_line_from (number + 1) later
    else bad_or (told_by line) (record { number = number; flaw = flaw_of line }) (bad_line_from (number + 1) later)

-- the events of an input
abbrev pub events_of : List ℕ → List Arrival
events_of input = events_in (lines input)

-- the first line of an input that is not an event, counted from 1
abbrev pub bad_line_of : List ℕ → Option BadLine
bad_line_of input = bad_line_from 1 (lines input)
