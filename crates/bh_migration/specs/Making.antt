-- The tables that hosts of earlier versions lack: the schema before each and after it, and the SQL
-- that creates it.
use Rattle.std.specs.Prelude.{◌≡◌, ℕ, List, [], true}
use Rattle.sqlite.specs.Change.{created, next_tree, KeepsRows}
use Rattle.sqlite.specs.Schema.{Schema}
use Rattle.sqlite.specs.Table.{Table}
use Rattle.bh_rows.proofs.CreateErrors.{IsFree}
use Rattle.bh_rows.proofs.CreateLemmas.{Makes}
use Rattle.bh_base.specs.Layer.{Standing}
use Rattle.bh_tables.specs.Made as made
use Rattle.bh_tables.specs.Schema.{first_schema, second_schema, third_schema, fourth_schema, host_schema}
use Rattle.bh_migration.specs.declared.making.Added.{Added}
use Rattle.bh_migration.specs.declared.making.Added.TheVariants as added

abbrev pub before : Added → Schema
before added.Locks = first_schema
before added.Retains = made.with_locks
before added.Tallies = second_schema
before added.Packs = third_schema
before added.Placed = made.with_packs
before added.Notes = made.with_placed
before added.UploadNotes = made.with_notes
before added.Rights = made.with_upload_notes
before added.Garbage = made.with_rights
before added.Unneeded = fourth_schema

abbrev pub after : Added → Schema
after added.Locks = made.with_locks
after added.Retains = second_schema
after added.Tallies = third_schema
after added.Packs = made.with_packs
after added.Placed = made.with_placed
after added.Notes = made.with_notes
after added.UploadNotes = made.with_upload_notes
after added.Rights = made.with_rights
after added.Garbage = fourth_schema
after added.Unneeded = host_schema

-- the SQL of this table, over the schema before it, which has no conflict with it
pub record IsTextOf (item : Added) (sql : List ℕ) : Type 0 where
  pub table : Table
  pub leads : created (before item) table ≡ after item
  pub creates : Makes (before item) sql table
  pub free : IsFree (before item) sql table

-- in a transaction, the table was created and is empty, and the others are unchanged
pub record HasMade (item : Added) (old new : Standing) : Type 0 where
  pub inside : new.inside ≡ true
  pub schema : new.now.schema ≡ after item
  pub rows : KeepsRows (before item).tables old.now.trees new.now.trees
  pub none : new.now.trees (next_tree (before item)) ≡ []
