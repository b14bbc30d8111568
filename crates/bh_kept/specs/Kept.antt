-- A host that may have been lost, as a storage.
use Rattle.bh_shelf.specs.declared.shelf.Shelf.{Ghosts as Shelves}
use Rattle.bh_shelf.specs.Contents.{Contents, Within}
use Rattle.bh_base.specs.Placed.{filled}
use Rattle.std.specs.Prelude.{◌≡◌, false, true, Bool, Option, Some, None, IsTrue}
use Rattle.sqlite_disk.specs.declared.Disk as disk
use Rattle.sqlite_store.specs.declared.store.FileStore.{FileStore}
use Rattle.sqlite.specs.Effect.{Database}
use Rattle.sqlite.specs.Files.{over_files}
use Rattle.bh_types.specs.Limits.{HostLimits}
use Rattle.bh_tables.specs.Hosts.{tables_shown}
use Rattle.bh_tables.specs.Typed.{Tables, no_rows}
use Rattle.bh_storage.specs.Calls.{Seen}
use Rattle.bh_backup.specs.Copies.{IsFileOf}
use Rattle.bh_schema.specs.Storage as storage
use Rattle.bh_dispatch.specs.Seeing as recalling
use Rattle.bh_dispatch.specs.declared.sql_host.SqlHost.{SqlHost}

-- a file has a host's database, now and after a crash. With what stands in packs, and so with what a crash leaves of them,
-- it has these tables, if no wrong answer of a pack's file was taken as true
abbrev pub Shows : {E C : Type 0} → disk.Ghosts E → Shelves C → E → C → Tables → Type 0
Shows e c file packs x = (db : Database) × IsFileOf e db file
    × (IsTrue (c.is_clean packs) → (left : Contents) → Within (c.stood packs) left → x ≡ tables_shown (filled left db))

module _ {D P G : Type 0} {g : disk.Ghosts D} where
  abbrev pub is_lost : Option (SqlHost (FileStore D g) P G) → Bool
  is_lost (Some it) = false
  is_lost None = true

  module _ (p : Shelves P) where
    -- nothing is known of a lost host
    abbrev pub IsIntact : Option (SqlHost (FileStore D g) P G) → Type 0
    IsIntact (Some it) = storage.IsIntact over_files p it.host
    IsIntact None = ⊥

    abbrev pub IsOpen : Option (SqlHost (FileStore D g) P G) → Type 0
    IsOpen (Some it) = storage.IsOpen over_files p it.host
    IsOpen None = ⊥

    abbrev pub seen : HostLimits → Option (SqlHost (FileStore D g) P G) → Seen
    seen limits (Some it) = recalling.seen over_files p it
    seen limits None = record { now = no_rows; kept = no_rows; inside = false; limits = limits }

    abbrev pub left : Option (SqlHost (FileStore D g) P G) → Tables → Type 0
    left (Some it) x = storage.left over_files p it.host x
    left None x = Unit {0}
