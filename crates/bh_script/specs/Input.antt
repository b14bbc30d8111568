-- The bytes of a reader that is read to its end.
use Rattle.std.specs.Prelude.{ℕ, ◌<◌, List, length, Option, Some, None}
use Rattle.std.specs.Io.KnownBytes.{Consumes, IsAtEnd}

-- the maximum size of a script in bytes
abbrev pub greatest_script : ℕ
greatest_script = 67108864

-- these are all its bytes, in order; or they are more than a script may have
abbrev pub ReadsAll : Option (List ℕ) → Option (List ℕ) → Option (List ℕ) → Type 0
ReadsAll old new (Some bytes) = Consumes old new bytes × IsAtEnd new
ReadsAll old new None = (taken : List ℕ) × Consumes old new taken × (greatest_script < length taken)
