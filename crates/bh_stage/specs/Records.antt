-- The record of one end of a connection: what its calls moved, oldest first.
use Rattle.std.specs.Prelude.{ℕ, Bool, true, false, ◌==◌, List, [], ◌∷◌, ◌++◌, take, Option, Some, None}

-- a call moved the first bytes of its room, so many
abbrev pub Calls : Type 0
Calls = List (ℕ × List ℕ)

-- all the bytes that the calls moved, in order
abbrev pub bytes_of : Calls → List ℕ
bytes_of [] = []
bytes_of (call ∷ calls) = take call.0 call.1 ++ bytes_of calls

-- the last call moved none
abbrev pub is_ended : Calls → Bool
is_ended [] = false
is_ended (call ∷ []) = call.0 == 0
is_ended (call ∷ next ∷ calls) = is_ended (next ∷ calls)

-- what a reader will give, if it tells: a reader that asks its socket for more doesn't
abbrev pub told_unless : Bool → List ℕ → Option (List ℕ)
told_unless false bytes = Some bytes
told_unless true bytes = None
