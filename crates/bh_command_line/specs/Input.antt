-- Texts on standard input.
use Rattle.std.specs.Prelude.{◌≡◌, ◌⊎◌, ◌==◌, ℕ, not, codes, List, [], take_while, IsUtf8, if◌then◌else◌}
use Rattle.std.specs.Str.{bytes_eq}
use Rattle.bh_command_line.specs.declared.input.Source.{Source}
use Rattle.bh_command_line.specs.declared.input.Source.TheVariants.{Word, Input}

-- the bytes before the first line feed
abbrev pub first_line : List ℕ → List ℕ
first_line bytes = take_while (λ b. not (b == 10)) bytes

-- the secret is the first line, if that is UTF-8; the empty text is not a secret
abbrev pub IsSecretIn : List ℕ → List ℕ → Type 0
IsSecretIn bytes secret = (secret ≡ first_line bytes) ⊎ ((¬ IsUtf8 (first_line bytes)) × (secret ≡ []))

-- `-` stands for standard input, and any other word for itself
abbrev pub source_of : List ℕ → Source
source_of typed = if bytes_eq typed (codes "-") then Input else Word

-- a text is what was typed, unless that stands for standard input, of which no clause is
abbrev pub IsTyped : List ℕ → List ℕ → Type 0
IsTyped typed text = source_of typed ≡ Word → text ≡ typed
