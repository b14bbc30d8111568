-- A call as a record has it.
use Rattle.std.specs.Prelude.{ℕ, List, ◌∷◌, ◌==◌, length, true, slice_index, if◌then◌else◌}
use Rattle.sqlite_disk.specs.Events.{Event, flushed, written}

-- Which call, two numbers of it, and 1 if it succeeded; and its bytes. A tested read also has a key and the digest that is wanted.
abbrev pub event_of : List ℕ → List ℕ → Event
event_of numbers bytes = (
  slice_index numbers 0,
  slice_index numbers 1,
  slice_index numbers 2,
  slice_index numbers 3 == 1,
  if slice_index numbers 0 == 6 then slice_index numbers 4 ∷ slice_index numbers 5 ∷ bytes else bytes,
)

-- two calls more: these bytes were written to the beginning of the file, and synced
abbrev pub brought : List ℕ → List Event → List Event
brought bytes earlier = flushed true 0 ∷ written 0 bytes true (length bytes) ∷ earlier
