-- How rows are read.
use Rattle.std.specs.Prelude.{ℕ, ◌∷◌, []}
use Rattle.std.specs.Str.{IsUtf8}
use Rattle.std.specs.String.{string_bytes}
use Rattle.std.specs.declared.alloc.Global.{Global}
use Rattle.std.specs.declared.string.String.{String}
use Rattle.sqlite.specs.Order.{Row}
use Rattle.sqlite.specs.declared.types.Value.TheVariants.{Text}
use Rattle.bh_tables.specs.Schema.{Octets}
use Rattle.bh_tables.specs.Typed.{number}

-- a row as a query returns it, and the meaning of the value that is read from it
pub record Reading (R : Type 0) : Type 1 where
  -- a row, as the tables have it
  pub Typed : Type 0
  -- the row as a query returns it
  pub shown : Typed → Row
  -- the meaning of a value
  pub Meaning : Type 0
  pub meaning : R → Meaning
  -- its meaning when it is read from such a row
  pub told : Typed → Meaning
  -- the texts in such a row are UTF-8, if it has any
  pub IsReadable : Typed → Type 0

abbrev pub read_as : {R Typed Meaning : Type 0} → (Typed → Row) → (R → Meaning) → (Typed → Meaning) → (Typed → Type 0) → Reading R
read_as {R = R} {Typed = Typed} {Meaning = Meaning} shown meaning told IsReadable =
    record { Typed = Typed; shown = shown; Meaning = Meaning; meaning = meaning; told = told; IsReadable = IsReadable }

-- a row without texts: a value is its own meaning
abbrev pub textless : {R Typed : Type 0} → (Typed → Row) → (Typed → R) → Reading R
textless shown told = read_as shown (λ value. value) told (λ _. Unit {0})

-- a number from 0 on, alone in its row
abbrev pub lone_number : Reading ℕ
lone_number = textless (λ n. number n ∷ []) (λ n. n)

-- a text, alone in its row
abbrev pub lone_text : Reading (String Global)
lone_text = read_as (λ s. Text s ∷ []) string_bytes (λ (s : Octets). s) IsUtf8
