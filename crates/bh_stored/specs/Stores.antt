-- A store whose rows are read.
use Rattle.std.specs.Prelude.{◌≡◌, ℕ, false, List, ◌++◌, Some}
use Rattle.sqlite_trees.specs.View.{View, IsClean}
use Rattle.sqlite.specs.Order.{Row}

-- no row is written. A store that is clean was so before, and no call on it had failed; it is open if it was
pub record KeepsTrees (old new : View) : Type 0 where
  pub clean : IsClean new → IsClean old
  pub whole : IsClean new → old.is_broken ≡ false
  pub opened : IsClean new → new.is_open ≡ old.is_open
  pub trees : IsClean new → new.trees ≡ old.trees

-- some rows of a tree were read, and the cursor has the rest
pub record HasRead (old new : View) (cursor tree : ℕ) (rows : List Row) : Type 0 where
  pub keeps : KeepsTrees old new
  pub rest : IsClean new → (left : List Row) × (new.cursors cursor ≡ Some left) × (rows ++ left ≡ old.trees tree)
