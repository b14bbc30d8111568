-- The contents of a copied database file, and a connection that is opened on it.
use Rattle.std.specs.Prelude.{◌≡◌, ℕ, List, []}
use Rattle.sqlite_disk.specs.declared.Disk.{Ghosts}
use Rattle.sqlite_disk.specs.Disk.{Only}
use Rattle.sqlite_wal.specs.Recovery.{Image}
use Rattle.sqlite_store.specs.declared.store.FileStore.{FileStore}
use Rattle.sqlite.specs.Effect.{Database, IsDatabase}
use Rattle.sqlite.specs.Files.{HoldsDatabase, file_state}
use Rattle.sqlite.specs.Held.{Held}
use Rattle.sqlite.specs.State.{HasCleanDisk}
use Rattle.bh_file.specs.Opened.{IsOpenedOn}

-- a database file with these bytes, and no log beside it
abbrev pub alone : List ℕ → Image
alone bytes = record { log = []; db = bytes }

-- files with these contents have this database
pub record AreOf (db : Database) (image : Image) : Type 0 where
  pub database : IsDatabase db
  pub held : ∥ HoldsDatabase image db.trees ∥₁

-- a disk has these bytes and no others, now and after a crash
pub record HasAlone {E : Type 0} (g : Ghosts E) (bytes : List ℕ) (to : E) : Type 0 where
  pub seen : g.seen to ≡ bytes
  pub synced : Only bytes (g.may_leave to)

-- a disk is the file of this database, without a log, now and after a crash
pub record IsFileOf {E : Type 0} (g : Ghosts E) (db : Database) (to : E) : Type 0 where
  pub holds : AreOf db (alone (g.seen to))
  pub synced : Only (g.seen to) (g.may_leave to)

-- a connection that is opened on files with a database has that database, if they return what was
-- written to them
abbrev pub OpensAlike : {D : Type 0} → Ghosts D → Type 0
OpensAlike {D} g = (image : Image) (db : Database) (c : Held (FileStore D g)) → AreOf db image
    → IsOpenedOn image (file_state c) → HasCleanDisk (file_state c) → (file_state c).now ≡ db
