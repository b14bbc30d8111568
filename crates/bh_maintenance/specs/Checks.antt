-- The result of checking a host's file and its packs, and the printed text.
use Rattle.std.specs.Prelude.{◌≡◌, ◌⊎◌, codes, IsTrue, Option, MatchOption, IfSome}
use Rattle.sqlite_disk.specs.declared.Disk as disk
use Rattle.sqlite_disk.specs.declared.Files.{Files}
use Rattle.sqlite_trees.specs.View.{IsClean}
use Rattle.sqlite_trees.specs.declared.store.Store.{Ghosts}
use Rattle.sqlite_wal.specs.Recovery.{Image}
use Rattle.sqlite_store.specs.declared.store.FileStore.{FileStore}
use Rattle.sqlite_store.specs.FileStore as store
use Rattle.sqlite.specs.Files.{file_state, over_files}
use Rattle.sqlite.specs.Held.{Held, state}
use Rattle.bh_shelf.specs.Contents.{Contents}
use Rattle.bh_shelf.specs.declared.shelf.Shelf.{Ghosts as Shelves}
use Rattle.bh_tables.specs.Hosts.{tables_opened}
use Rattle.bh_tables.specs.Schema.{Octets}
use Rattle.bh_view.specs.Bodies.{IsSoundHost}
use Rattle.bh_base.specs.Layer.{standing, IsStateClean}
use Rattle.bh_file.specs.Opened.{IsOpenedOn}
use Rattle.bh_open.specs.Packed.{tables_beside}
use Rattle.bh_maintenance.specs.Printing.{IsLine}
use Rattle.bh_maintenance.specs.Found.{HasListedOf, IsSoundByItsRow}
use Rattle.bh_maintenance.specs.declared.printed.Printed.{Printed}

-- `sound`, if this holds, or another line and status 1
abbrev pub IsVerdict : Type 0 → Printed → Type 0
IsVerdict Fine printed = (IsLine (codes "sound") printed × Fine) ⊎ (printed.status ≡ 1)

-- no wrong answer of the files of packs was taken as true, if any were opened
abbrev pub ArePacksClean : {P : Type 0} → Shelves P → Option P → Type 0
ArePacksClean p packs = IfSome packs (λ it. IsTrue (p.is_clean it))

module _ {S : Type 0} (g : Ghosts S) where
  -- a connection leaves a store. If that is clean and open, so was the connection; and its tables,
  -- once opened as a host without packs, are a sound host's, with blocks named by this function
  abbrev pub IsSoundBy : (Octets → Octets) → Held S → S → Type 0
  IsSoundBy digest old last = IsClean (g.view last) → IsTrue (g.view last).is_open → IsStateClean (state g old)
      × IsSoundHost digest (tables_opened (state g old).now)

  -- so beside packs whose files have this, with those that were opened, if they are clean, too
  abbrev pub IsSoundWith : {P : Type 0} → Shelves P → Contents → (Octets → Octets) → Held S → S → Option P → Type 0
  IsSoundWith p packs digest old last shelf = IsClean (g.view last) → IsTrue (g.view last).is_open → ArePacksClean p shelf
      → IsStateClean (state g old) × IsSoundHost digest (tables_beside packs (state g old).now)

  -- packs have all that a connection's rows of packs list, as the files of packs that have this
  abbrev pub AreListed : {P : Type 0} → Shelves P → Contents → Held S → P → Type 0
  AreListed p packs it shelf = IsStateClean (state g it) → IsTrue (p.is_clean shelf) → HasListedOf packs (p.seen shelf) (state g it).now

  -- with blocks named by the function in its row
  abbrev pub IsFoundSound : {P : Type 0} → Shelves P → Contents → Held S → S → Option P → Type 0
  IsFoundSound p packs old last shelf = IsClean (g.view last) → IsTrue (g.view last).is_open → ArePacksClean p shelf
      → IsStateClean (state g old) × IsSoundByItsRow (tables_beside packs (standing (state g old)).now)

module _ {D P : Type 0} (g : disk.Ghosts D) (p : Shelves P) (packs : Contents) (image : Image) where
  -- files with these contents were opened, beside packs whose files have this, the tables were found to
  -- be a sound host's, and the files were closed
  pub record AreFoundSound (files : Files D) (shelf : Option P) : Type 0 where
    pub old : Held (FileStore D g)
    pub last : FileStore D g
    pub opened : IsOpenedOn image (file_state old)
    pub sound : IsFoundSound over_files p packs old last shelf
    pub closed : store.files last ≡ (files.log, files.db)

  -- the output for files: a verdict; if there were none, another line
  abbrev pub IsChecked : Printed → Option (Files D) → Option P → Type 0
  IsChecked printed files shelf = MatchOption files (printed.status ≡ 1) (λ its. IsVerdict (AreFoundSound its shelf) printed)
