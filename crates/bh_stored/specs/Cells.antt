-- The columns of a stored row.
use Rattle.std.specs.Prelude.{pos, Bool, true, false, ◌&&◌, List, [], ◌∷◌, drop}
use Rattle.sqlite.specs.declared.types.Value.{Value}
use Rattle.sqlite.specs.declared.types.Value.TheVariants.{Null, Int, Text, Blob}
use Rattle.sqlite.specs.Order.{Row}
use Rattle.sqlite.specs.Tree.{rowid}
use Rattle.sqlite_trees.specs.View.{is_int}
use Rattle.bh_stored.specs.declared.cells.Kind.{Kind}
use Rattle.bh_stored.specs.declared.cells.Kind.TheVariants as kind

-- a value of a kind
abbrev pub suits : Kind → Value → Bool
suits kind.Key Null = true
suits kind.Key _ = false
suits kind.Text (Text t) = true
suits kind.Text _ = false
suits kind.Blob (Blob b) = true
suits kind.Blob _ = false
suits kind.Number (Int (pos n)) = true
suits kind.Number _ = false
suits kind.Whole (Int n) = true
suits kind.Whole _ = false
suits kind.MaybeNumber Null = true
suits kind.MaybeNumber (Int (pos n)) = true
suits kind.MaybeNumber _ = false

-- one value of each kind, and no more
abbrev pub are_suited : List Kind → List Value → Bool
are_suited [] [] = true
are_suited [] (v ∷ vs) = false
are_suited (k ∷ ks) [] = false
are_suited (k ∷ ks) (v ∷ vs) = suits k v && are_suited ks vs

-- a number, and columns of these kinds
abbrev pub is_fit : List Kind → Row → Bool
is_fit kinds row = is_int (rowid row) && are_suited kinds (drop 1 row)
