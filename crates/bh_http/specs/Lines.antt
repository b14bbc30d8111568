-- Appending to a text, and the text that a type displays.
use Rattle.std.specs.Prelude.{◌≡◌, ℕ, List, [], ◌++◌, Option, unwrap_or, IsSome}
use Rattle.std.specs.String.{string_bytes}
use Rattle.std.specs.declared.string.String.{String}

-- the new text is the old one followed by these bytes
abbrev pub Adds : {Z : Type 0} → String Z → String Z → List ℕ → Type 0
Adds old new bytes = string_bytes new ≡ string_bytes old ++ bytes

-- each value of a type has a text
abbrev pub HasText : {T : Type 0} → (T → Option (List ℕ)) → Type 0
HasText {T = T} output = (value : T) → IsSome (output value)

abbrev pub text_by : {T : Type 0} → (T → Option (List ℕ)) → T → List ℕ
text_by output value = unwrap_or (output value) []
