-- The meaning of a SQL text, and how a call may end.
use Rattle.std.specs.Prelude.{◌≡◌, ◌⊎◌, ℕ, Bool, true, false, List, [], length, nat_le, None, Ok, Err, Result, IsTrue, OnOk, OnErr, IfErr}
use Rattle.sqlite.specs.Schema.{Schema}
use Rattle.std.specs.List.{AllByRecursion}
use Rattle.sqlite.specs.Command.{Command}
use Rattle.sqlite.specs.Command.TheVariants.{Insert, InsertOr, Update, Delete, CreateTable, CreateIndex}
use Rattle.sqlite.specs.Tree.{Trees}
use Rattle.sqlite.specs.Listing.{understood, reads_listing}
use Rattle.sqlite.specs.Given.{IsPlain}
use Rattle.sqlite.specs.State.{State, HasCleanDisk, IsUnchanged, IsRolledBack, Survives}
use Rattle.sqlite.specs.declared.error.Error.{Error}
use Rattle.sqlite.specs.declared.error.Error.TheVariants.{SqliteFailure}
use Rattle.sqlite.specs.declared.error.ErrorCode.TheVariants.{OutOfMemory, SystemIoFailure, DatabaseCorrupt, DiskFull, Closed, TooBig}
use Rattle.sqlite.specs.declared.error.ErrorCode.TheVariants.{NoRowid}
use Rattle.sqlite.proofs.Callers.{command_of}
use Rattle.sqlite_resolve.specs.declared.compiled.Compiled.{Compiled}
use Rattle.sqlite_resolve.specs.declared.error.CompileError.{CompileError}

-- the end of the text that was read
abbrev pub tail_of : Result Compiled CompileError → ℕ
tail_of (Ok c) = c.tail
tail_of (Err e) = 0

-- its number of parameters
abbrev pub parameters_of : Result Compiled CompileError → ℕ
parameters_of (Ok c) = length c.names
parameters_of (Err e) = 0

-- the text is this one command, with that many parameters
pub record Means (schema : Schema) (sql : List ℕ) (command : Command) (parameters : ℕ) : Type 0 where
  pub is : command_of (understood schema sql) ≡ command
  pub plain : IsPlain (understood schema sql)
  pub unlisted : reads_listing schema sql ≡ false
  pub whole : nat_le (length sql) (tail_of (understood schema sql)) ≡ true
  pub given : parameters_of (understood schema sql) ≡ parameters

-- the command writes rows, or creates a table or an index
abbrev pub is_write : Command → Bool
is_write (Insert at from) = true
is_write (InsertOr at how from clauses) = true
is_write (Update at q) = true
is_write (Delete at q) = true
is_write CreateTable = true
is_write (CreateIndex at) = true
is_write _ = false

-- lack of memory or of a row number, a fault of the disk, a store that is shut, or a row that is
-- too large
abbrev pub is_trouble : Error → Bool
is_trouble (SqliteFailure OutOfMemory) = true
is_trouble (SqliteFailure SystemIoFailure) = true
is_trouble (SqliteFailure DatabaseCorrupt) = true
is_trouble (SqliteFailure DiskFull) = true
is_trouble (SqliteFailure Closed) = true
is_trouble (SqliteFailure TooBig) = true
is_trouble (SqliteFailure NoRowid) = true
is_trouble _ = false

-- a call that fails doesn't change the tables, or ends the transaction
abbrev pub IsUndone : State → State → Type 0
IsUndone old new = IsUnchanged old new ⊎ IsRolledBack old new

-- no transaction is open, or the connection is shut
abbrev pub IsOutside : State → Type 0
IsOutside s = (s.in_transaction ≡ false) ⊎ (s.is_open ≡ false)

-- while the connection is open, a crash leaves the last commit
pub record LeavesCommit (s : State) : Type 0 where
  -- and nothing else
  pub only : IsTrue s.is_open → (db : Trees) → s.may_leave db → db ≡ s.committed.trees
  pub stays : IsTrue s.is_open → s.may_leave s.committed.trees

-- the call only reads: if it succeeds, the tables don't change, and inside a transaction it commits
-- nothing
pub record Asks {X : Type 0} (old new : State) (result : Result X Error) : Type 0 where
  pub same : HasCleanDisk new → OnOk result (IsUnchanged old new)
  pub undone : HasCleanDisk new → OnErr result (IsUndone old new)
  pub trouble : HasCleanDisk new → old.step_limit ≡ None → IfErr result (λ e. is_trouble e ≡ true)
  -- it was open before, if it is afterwards
  pub up : HasCleanDisk new → IsTrue new.is_open → IsTrue old.is_open
  -- it commits nothing, inside a transaction or outside
  pub survives : Survives old new (λ _. old.is_open ≡ false)

-- the transaction continues, and nothing is committed
pub record StaysInside (old new : State) : Type 0 where
  pub is_open : IsTrue new.is_open
  pub inside : IsTrue old.in_transaction → IsTrue new.in_transaction
  pub committed : IsTrue old.in_transaction → new.committed ≡ old.committed
  pub marks : new.marks ≡ old.marks
  pub limit : new.step_limit ≡ old.step_limit

-- the call writes, or fails and doesn't change the tables or ends the transaction
pub record Changes {X : Type 0} (old new : State) (result : Result X Error) : Type 0 where
  pub inside : HasCleanDisk new → IsTrue old.is_open → OnOk result (StaysInside old new)
  pub undone : HasCleanDisk new → OnErr result (IsUndone old new)
  -- it was open before, if it is afterwards
  pub up : HasCleanDisk new → IsTrue new.is_open → IsTrue old.is_open
  pub survives : Survives old new (λ _. IsOutside old)

-- the database has this schema, and no rows
pub record IsBlank (schema : Schema) (s : State) : Type 0 where
  pub schema_is : s.now.schema ≡ schema
  pub blank : AllByRecursion (λ t. s.now.trees t.tree ≡ []) schema.tables

-- the call leaves an empty database of this schema, if it succeeds
pub record Grows {X : Type 0} (after : Schema) (old new : State) (result : Result X Error) : Type 0 where
  pub blank : HasCleanDisk new → IsTrue old.is_open → OnOk result (IsBlank after new)
  pub is_open : HasCleanDisk new → IsTrue old.is_open → OnOk result (IsTrue new.is_open)
  pub clean : HasCleanDisk new → HasCleanDisk old
  pub up : HasCleanDisk new → IsTrue new.is_open → IsTrue old.is_open
