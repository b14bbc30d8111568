-- The effect of CREATE TABLE on a database that may have rows.
use Rattle.std.specs.Prelude.{◌≡◌, []}
use Rattle.sqlite.specs.Schema.{Schema}
use Rattle.sqlite.specs.Table.{Table}
use Rattle.sqlite.specs.Change.{created, next_tree, KeepsRows}
use Rattle.sqlite.specs.State.{State}

-- the schema has the table, which is empty, and no other table's rows change
pub record HasTable (before : Schema) (table : Table) (old new : State) : Type 0 where
  pub schema_is : new.now.schema ≡ created before table
  pub rows : KeepsRows before.tables old.now.trees new.now.trees
  pub empty : new.now.trees (next_tree before) ≡ []
