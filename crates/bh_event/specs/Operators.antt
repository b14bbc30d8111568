-- The order in an operator's line, after the operators' secret.
use Rattle.std.specs.Prelude.{ℕ, List, [], ◌∷◌, length, take, drop, Option, Some, None, option_and_then, if◌then◌else◌}
use Rattle.std.specs.Str.{bytes_eq}
use Rattle.bh_event.specs.Lines.{ordered_by}
use Rattle.bh_event.specs.Orders.{Instruction}

-- the bytes after a text at the front of a line
abbrev pub after : List ℕ → List ℕ → Option (List ℕ)
after text line = if bytes_eq (take (length text) line) text then Some (drop (length text) line) else None

-- the bytes after a word and a space
abbrev pub after_word : List ℕ → List ℕ → Option (List ℕ)
after_word word line = option_and_then (after (32 ∷ [])) (after word line)

-- if there is a secret, a line begins with it and a space
abbrev pub admitted : Option (List ℕ) → List ℕ → Option (List ℕ)
admitted None line = Some line
admitted (Some secret) line = after_word secret line

abbrev pub order_of_line : Option (List ℕ) → List ℕ → Option Instruction
order_of_line secret line = option_and_then ordered_by (admitted secret line)
