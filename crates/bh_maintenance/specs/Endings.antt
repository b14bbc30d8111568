-- The rest of a connection, and of its files, after its subcommand.
use Rattle.std.specs.Prelude.{◌≡◌}
use Rattle.sqlite_disk.specs.declared.Disk as disk
use Rattle.sqlite_disk.specs.declared.Files.{Files}
use Rattle.sqlite_trees.specs.declared.store.Store.{Ghosts}
use Rattle.sqlite_trees.specs.View.{IsClean, IsQuiet}
use Rattle.sqlite_store.specs.declared.store.FileStore.{FileStore}
use Rattle.sqlite_store.specs.FileStore as store
use Rattle.sqlite.specs.Held.{Held, AreDatabases}
use Rattle.sqlite.specs.Files.{file_state, over_files}
use Rattle.bh_maintenance.specs.Found.{IsNotFound}
use Rattle.bh_maintenance.specs.declared.ending.Left.{Left}
use Rattle.bh_maintenance.specs.declared.ending.Left.TheVariants.{Whole, Bare}
use Rattle.bh_maintenance.specs.declared.printed.Printed.{Printed}

-- uncommitted changes are lost: what a crash may leave of the store was possible for the
-- connection, and is a database
pub record IsBared {S : Type 0} (g : Ghosts S) (connection : Held S) (last : S) : Type 0 where
  pub quiet : IsQuiet g.view g.faults g.recovers g.is_shielded connection.store last
  pub sound : IsClean (g.view last) → AreDatabases (g.recovers last)

abbrev pub IsLeft : {S : Type 0} → Ghosts S → Held S → Left S → Type 0
IsLeft g connection (Whole it) = it ≡ connection
IsLeft g connection (Bare last) = IsBared g connection last

-- closed files of a connection: those of its store, with what was committed
abbrev pub AreClosed : {D : Type 0} {g : disk.Ghosts D} → Held (FileStore D g) → Files D → Type 0
AreClosed {D} {g} connection files =
    (last : FileStore D g) × (store.files last ≡ (files.log, files.db)) × IsBared over_files connection last

abbrev pub Closes : {D : Type 0} {g : disk.Ghosts D} → Left (FileStore D g) → Files D → Type 0
Closes {D} {g} left files = (connection : Held (FileStore D g)) → IsLeft over_files connection left → AreClosed connection files

-- no host was found, which alone is printed, and the files were closed
pub record IsLeftOut {D : Type 0} {g : disk.Ghosts D} (old : Held (FileStore D g)) (printed : Printed) (files : Files D) : Type 0 where
  pub new : Held (FileStore D g)
  pub not_found : IsNotFound (file_state old) (file_state new) printed
  pub closed : AreClosed new files
