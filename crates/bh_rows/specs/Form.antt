-- How the rows of a tree represent typed rows.
use Rattle.std.specs.Prelude.{◌≡◌, ℤ, List, ◌∷◌, map}
use Rattle.std.specs.List.{AllByRecursion}
use Rattle.sqlite.specs.declared.types.Value.{Value}
use Rattle.sqlite.specs.declared.types.Value.TheVariants.{Int}
use Rattle.sqlite.specs.Order.{Row}
use Rattle.sqlite.specs.Tree.{IsTable, rowid}
use Rattle.sqlite.specs.Edit.{id_in}

-- the columns of a typed row, and the typed row of a stored row
pub record Form (T : Type 0) : Type 0 where
  pub encode : T → Row
  pub decode : Row → T
  pub back : (id : Value) (x : T) → decode (id ∷ encode x) ≡ x

-- a typed row with its number
abbrev pub Entry : Type 0 → Type 0
Entry T = ℤ × T

module _ {T : Type 0} (form : Form T) where
  -- each stored row is its number and then the columns of its typed row, and the numbers ascend
  pub record AreRows (rows : List Row) : Type 0 where
    pub each : AllByRecursion (λ r. r ≡ Int (id_in (rowid r)) ∷ form.encode (form.decode r)) rows
    pub rises : IsTable rows

  -- the typed rows of stored rows
  abbrev pub typed : List Row → List T
  typed rows = map form.decode rows

  -- an entry as a stored row
  abbrev pub put : Entry T → Row
  put e = Int e.0 ∷ form.encode e.1

  -- and back
  abbrev pub get : Row → Entry T
  get r = (id_in (rowid r), form.decode r)

  -- the entries of stored rows
  abbrev pub entries : List Row → List (Entry T)
  entries rows = map get rows
