-- A connection whose files and packs were copied, and the copy.
use Rattle.std.specs.Prelude.{◌≡◌, IsTrue}
use Rattle.sqlite_disk.specs.declared.Disk as disk
use Rattle.sqlite_store.specs.declared.store.FileStore.{FileStore}
use Rattle.sqlite.specs.Files.{file_state}
use Rattle.bh_shelf.specs.Contents.{Within}
use Rattle.bh_shelf.specs.declared.shelf.Shelf.{Ghosts as Shelves}
use Rattle.bh_base.specs.Connections.{backing}
use Rattle.bh_base.specs.Shown.{Backing}
use Rattle.bh_base.specs.declared.connection.Connection.{Connection}
use Rattle.bh_backup.specs.Copies.{IsFileOf}
use Rattle.bh_backup.specs.Packs.{HaveAll}
use Rattle.bh_kept.specs.Closings.{IsOpenAgain}

-- no file of packs had returned a wrong answer; committed rows may name what they might before, and no less stands
pub record AreAsBefore (old new : Backing) : Type 0 where
  pub was_clean : IsTrue old.is_clean
  pub kept : new.kept ≡ old.kept
  pub stood : Within old.stood new.stood

module _ {D P : Type 0} {g : disk.Ghosts D} (p : Shelves P) where
  -- its database was opened again, and its packs are as they were
  pub record IsReopened (old new : Connection (FileStore D g) P) : Type 0 where
    pub database : IsOpenAgain old.database new.database
    pub packs : AreAsBefore (backing p old.packs) (backing p new.packs)

  -- a file has its committed database, and packs have all that its rows may name
  pub record IsCopyOf {E C : Type 0} (e : disk.Ghosts E) (c : Shelves C) (it : Connection (FileStore D g) P) (file : E) (packs : C) :
      Type 0 where
    pub database : IsFileOf e (file_state it.database).committed file
    pub has_all : HaveAll p c it.packs packs
