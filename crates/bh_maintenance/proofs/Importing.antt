-- An import into the host that was opened in files.
use Rattle.std.proofs.Common.{Option, Some, None, MatchOption, inr}
use Rattle.sqlite_disk.specs.declared.Disk as disk
use Rattle.sqlite_disk.specs.declared.Files.{Files}
use Rattle.sqlite_wal.specs.Recovery.{Image}
use Rattle.sqlite_trees.specs.declared.store.Store.{Ghosts}
use Rattle.sqlite_store.specs.declared.store.FileStore.{FileStore}
use Rattle.bh_shelf.specs.Contents.{Contents}
use Rattle.bh_shelf.specs.declared.shelf.Shelf.{Ghosts as Shelves}
use Rattle.bh_base.specs.declared.connection.Connection.{Connection}
use Rattle.bh_maintenance.specs.Moves.{IsImportedInto, ImportsTo}
use Rattle.bh_maintenance.specs.Opened.{IsHostAt}
use Rattle.bh_maintenance.specs.declared.clocks.ClockRead.{ClockRead}
use Rattle.bh_maintenance.specs.declared.joined.Joined.{Joined}
use Rattle.bh_maintenance.specs.declared.printed.Printed.{Printed}

module _ (clock : ClockRead) {S P D Q : Type 0} (h : Ghosts S) (l : Shelves P) (from : Joined S P) (from_new : Connection S P) (k : Shelves Q) (g : disk.Ghosts D) (packs : Contents) (image : Image) (printed : Printed) where
  pub imports_to : (to : Joined (FileStore D g) Q) → IsHostAt g k packs image to → (left : Option Q) (files : Option (Files D)) → MatchOption files ⊥ (IsImportedInto clock h l from from_new k to printed left)
      → ImportsTo clock h l from from_new k g packs image printed files left
  imports_to to at left None came = absurd came
  imports_to to at left (Some f) came = inr (record { to = to; at = at; came = came })
