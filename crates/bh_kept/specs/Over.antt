-- A storage that stands over a host in files.
use Rattle.bh_shelf.specs.declared.shelf.Shelf.{Ghosts as Shelves}
use Rattle.std.specs.Prelude.{◌≡◌, ◌↔◌, Some}
use Rattle.sqlite_disk.specs.declared.Disk as disk
use Rattle.sqlite_store.specs.declared.store.FileStore.{FileStore}
use Rattle.sqlite.specs.Files.{over_files}
use Rattle.bh_tables.specs.Typed.{Tables}
use Rattle.bh_storage.specs.Calls.{Seen, IsAtRest}
use Rattle.bh_host.specs.declared.storage.Storage.{Ghosts}
use Rattle.bh_schema.specs.Storage as host
use Rattle.bh_schema.specs.declared.host.Digester as digester
use Rattle.bh_schema.specs.declared.host.Host.{Host}
use Rattle.bh_dispatch.specs.declared.sql_host.SqlHost.{SqlHost}
use Rattle.bh_kept.specs.declared.host.BlockSize as size
use Rattle.bh_kept.specs.declared.host.KeptHost.{KeptHost}

module _ {D P G H : Type 0} {g : disk.Ghosts D} (p : Shelves P) (IsIntact IsOpen : H → Type 0) (IsSound : Tables → Type 0) (seen : H → Seen)
    (left : H → Tables → Type 0) where
  -- it is intact and open exactly if the host is, and a crash leaves what it may leave of the host.
  -- At rest it shows what the host shows
  pub record StandsOver (h : H) (beneath : Host (FileStore D g) P G) : Type 0 where
    pub intact : IsIntact h ↔ host.IsIntact over_files p beneath
    pub opened : IsOpen h ↔ host.IsOpen over_files p beneath
    pub leaves : (x : Tables) → left h x ↔ host.left over_files p beneath x
    pub same : IsAtRest IsSound (seen h) → seen h ≡ host.seen over_files p beneath

module _ {D P G : Type 0} {g : disk.Ghosts D} (p : Shelves P) where
  -- a storage that remembers facts of its tables
  abbrev pub RecallingStandsOver : Ghosts (SqlHost (FileStore D g) P G) → Type 0
  RecallingStandsOver s = (it : SqlHost (FileStore D g) P G)
      → StandsOver p s.IsIntact s.IsOpen s.IsSoundStore s.seen s.left it it.host

  -- a host that is served, unless it was lost
  abbrev pub KeptStandsOver : {K : Type 0} {d : digester.Ghosts G} {k : size.Ghosts K} → Ghosts (KeptHost D P G K g p d k) → Type 0
  KeptStandsOver {K} {d} {k} s = (kept : KeptHost D P G K g p d k) (it : SqlHost (FileStore D g) P G)
      → kept.storage ≡ Some it → StandsOver p s.IsIntact s.IsOpen s.IsSoundStore s.seen s.left kept it.host
