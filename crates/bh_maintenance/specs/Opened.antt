-- The host in files that were opened, or none.
use Rattle.std.specs.Prelude.{Option, MatchOption}
use Rattle.sqlite_disk.specs.declared.Disk as disk
use Rattle.sqlite_disk.specs.declared.Files.{Files}
use Rattle.sqlite_wal.specs.Recovery.{Image}
use Rattle.sqlite_store.specs.declared.store.FileStore.{FileStore}
use Rattle.sqlite.specs.Files.{file_state, over_files}
use Rattle.sqlite.specs.Held.{Held}
use Rattle.bh_shelf.specs.Contents.{Contents}
use Rattle.bh_shelf.specs.declared.shelf.Shelf.{Ghosts as Shelves}
use Rattle.bh_types.specs.declared.refusal.Refusal.TheVariants.{NotAHostFile}
use Rattle.bh_file.specs.Opened.{IsOpenedOn}
use Rattle.bh_maintenance.specs.Endings.{IsLeftOut}
use Rattle.bh_maintenance.specs.Found.{IsJoinedIn}
use Rattle.bh_maintenance.specs.Printing.{IsRefusal}
use Rattle.bh_maintenance.specs.declared.joined.Joined.{Joined}
use Rattle.bh_maintenance.specs.declared.printed.Printed.{Printed}

-- files with these contents were opened as a host, beside packs whose files have this, and it was
-- joined with its packs
pub record IsHostAt {D P : Type 0} (g : disk.Ghosts D) (p : Shelves P) (packs : Contents) (image : Image)
    (host : Joined (FileStore D g) P) : Type 0 where
  pub old : Held (FileStore D g)
  pub opened : IsOpenedOn image (file_state old)
  pub found : IsJoinedIn over_files p packs old host

module _ {D : Type 0} (g : disk.Ghosts D) (image : Image) where
  -- no host was found in them, and they were closed
  pub record HoldNoHost (printed : Printed) (files : Files D) : Type 0 where
    pub old : Held (FileStore D g)
    pub opened : IsOpenedOn image (file_state old)
    pub left : IsLeftOut old printed files

  -- no host was found in the files, or there were none
  abbrev pub HasNoHost : Printed → Option (Files D) → Type 0
  HasNoHost printed files = MatchOption files (IsRefusal NotAHostFile printed) (HoldNoHost printed)
