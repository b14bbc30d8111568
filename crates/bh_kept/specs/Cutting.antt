-- How a host that may have been lost cuts bodies into blocks.
use Rattle.bh_shelf.specs.declared.shelf.Shelf.{Ghosts as Shelves}
use Rattle.std.specs.Prelude.{◌≡◌, ℕ, Option, Result, IfSome}
use Rattle.sqlite_disk.specs.declared.Disk as disk
use Rattle.sqlite_store.specs.declared.store.FileStore.{FileStore}
use Rattle.sqlite.specs.Files.{over_files}
use Rattle.bh_http.specs.Bodies.{Coming}
use Rattle.bh_model.specs.State.{Octets}
use Rattle.bh_operation.specs.declared.operation.Operation.{Operation}
use Rattle.bh_storage.specs.declared.error.Outcome.{Outcome}
use Rattle.bh_storage.specs.declared.error.StepError.{StepError}
use Rattle.bh_dispatch.specs.Stored.{CutsBody}
use Rattle.bh_dispatch.specs.declared.sql_host.SqlHost.{SqlHost}

module _ {D P G : Type 0} {g : disk.Ghosts D} where
  -- a call on a host that isn't lost cuts an object and a part into blocks of a size
  abbrev pub Cuts : {X E : Type 0} → Shelves P → (Octets → Octets) → ℕ → Operation → Coming → Coming
      → Option (SqlHost (FileStore D g) P G)
      → Option (SqlHost (FileStore D g) P G) → Result (Outcome X E) (StepError E) → Type 0
  Cuts p digest size operation before after old new result =
      IfSome old (λ a. IfSome new (λ b. CutsBody over_files p digest size operation before after a.host.connection
      b.host.connection result))

  -- a host that isn't lost keeps its settings
  abbrev pub KeepsTuning : Option (SqlHost (FileStore D g) P G) → Option (SqlHost (FileStore D g) P G)
      → Type 0
  KeepsTuning old new = IfSome old (λ a. IfSome new (λ b. b.host.cache.tuning ≡ a.host.cache.tuning))
