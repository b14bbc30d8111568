-- The results of a backup of a file.
use Rattle.std.specs.Prelude.{◌≡◌, IsTrue, Option, MatchOption, None, codes}
use Rattle.sqlite_disk.specs.declared.Disk as disk
use Rattle.sqlite_disk.specs.declared.Files.{Files}
use Rattle.sqlite_wal.specs.Reads.{AreClean}
use Rattle.sqlite_wal.specs.Recovery.{Image}
use Rattle.sqlite_store.specs.declared.store.FileStore.{FileStore}
use Rattle.sqlite.specs.Closing.{IsCopied}
use Rattle.sqlite.specs.Effect.{Database}
use Rattle.sqlite.specs.Files.{file_state}
use Rattle.sqlite.specs.Held.{Held}
use Rattle.bh_shelf.specs.Contents.{Contents, Within}
use Rattle.bh_shelf.specs.declared.shelf.Shelf.{Ghosts as Shelves}
use Rattle.bh_types.specs.declared.refusal.Refusal.TheVariants.{NotAHostFile}
use Rattle.bh_tables.specs.Schema.{host_schema}
use Rattle.bh_tables.specs.Typed.{IsHost}
use Rattle.bh_base.specs.Layer.{standing, IsStateClean}
use Rattle.bh_base.specs.Placed.{filled}
use Rattle.bh_file.specs.Opened.{IsOpenedOn}
use Rattle.bh_backup.specs.Copies.{IsFileOf}
use Rattle.bh_maintenance.specs.Printing.{IsLine, IsRefusal}
use Rattle.bh_maintenance.specs.Endings.{IsLeftOut}
use Rattle.bh_maintenance.specs.Found.{HasListedOf, IsOpenedAs}
use Rattle.bh_maintenance.specs.declared.backups.HostCopy.{HostCopy}
use Rattle.bh_maintenance.specs.declared.printed.Printed.{Printed}

-- a database that is a host's with packs that have this is the same one with what stands in copied
-- packs, and so with what a crash leaves of them
abbrev pub IsAlikeWith : {C : Type 0} → Shelves C → Contents → Database → C → Type 0
IsAlikeWith c packs db copy = (left : Contents) → IsHost (filled packs db) → Within (c.stood copy) left → filled left db ≡ filled packs db

-- packs have all that a connection's committed rows of packs list, as the files of packs that have this
abbrev pub IsBacked : {D P : Type 0} {g : disk.Ghosts D} → Shelves P → Contents → Held (FileStore D g) → P → Type 0
IsBacked p packs it shelf = IsStateClean (file_state it) → IsTrue (p.is_clean shelf)
    → HasListedOf packs (p.kept shelf) (file_state it).committed

module _ {D P E C : Type 0} {g : disk.Ghosts D} (p : Shelves P) (e : disk.Ghosts E) (c : Shelves C) (packs : Contents) where
  -- a connection's committed database is in its files, which are closed, and in the copy, without a
  -- log, if the files returned what was written to them. So are the bytes of its packs, whose files
  -- have this, in the copied packs
  pub record IsCopiedTo (it : Held (FileStore D g)) (printed : Printed) (files : Files D) (copy : HostCopy P E C) : Type 0 where
    pub kept : AreClean g files.log files.db → IsCopied it files
    pub copied : AreClean g files.log files.db → IsFileOf e (file_state it).committed copy.file
    pub alike : AreClean g files.log files.db → IsTrue (p.is_clean copy.from) → IsTrue (c.is_clean copy.packs)
        → IsAlikeWith c packs (file_state it).committed copy.packs
    pub line : IsLine (codes "backup") printed

  -- and that is a host's database: as it was, or upgraded from an earlier version
  pub record IsSaved (old : Held (FileStore D g)) (printed : Printed) (files : Files D) (copy : HostCopy P E C) : Type 0 where
    pub new : Held (FileStore D g)
    pub opened : IsOpenedAs packs (file_state old) (file_state new)
    pub saved : IsCopiedTo new printed files copy
    pub same : (standing (file_state old)).now.schema ≡ host_schema → IsCopiedTo old printed files copy

  abbrev pub HasSaved : Held (FileStore D g) → Printed → Option (Files D) → Option (HostCopy P E C) → Type 0
  HasSaved it printed files copy = MatchOption files ⊥ (λ f. MatchOption copy ⊥ (IsCopiedTo it printed f))

  -- the one or the other, from a connection
  abbrev pub IsSavedOrNot : Held (FileStore D g) → Printed → Option (Files D) → Option (HostCopy P E C) → Type 0
  IsSavedOrNot old printed files copy = MatchOption files ⊥ (λ f. MatchOption copy (IsLeftOut old printed f) (IsSaved old printed f))

module _ {D P E C : Type 0} (g : disk.Ghosts D) (p : Shelves P) (e : disk.Ghosts E) (c : Shelves C) (packs : Contents) (image : Image) where
  -- files with these contents were opened as a database, with the one or the other result
  pub record IsTriedOn (printed : Printed) (files : Files D) (copy : Option (HostCopy P E C)) : Type 0 where
    pub old : Held (FileStore D g)
    pub opened : IsOpenedOn image (file_state old)
    pub came : MatchOption copy (IsLeftOut old printed files) (IsSaved p e c packs old printed files)

  -- a backup was made or not; if there were no files, the answer is that there is no host, and there
  -- is no copy
  abbrev pub IsBackedUp : Printed → Option (Files D) → Option (HostCopy P E C) → Type 0
  IsBackedUp printed files copy =
      MatchOption files (IsRefusal NotAHostFile printed × (copy ≡ None)) (λ f. IsTriedOn printed f copy)
