-- What a crash leaves of packs, and what the databases of a host show with it.
use Rattle.std.proofs.Common.{IsTrue, refl, sym}
use Rattle.sqlite_disk.specs.declared.Disk.{Ghosts}
use Rattle.sqlite_store.specs.declared.store.FileStore.{FileStore}
use Rattle.sqlite.specs.Effect.{Database}
use Rattle.sqlite.specs.Files.{over_files}
use Rattle.bh_shelf.specs.Contents.{Contents, Within}
use Rattle.bh_shelf.specs.declared.shelf.Shelf.{Ghosts as Shelves}
use Rattle.bh_tables.specs.Hosts.{tables_shown}
use Rattle.bh_base.specs.Layer.{Leaves}
use Rattle.bh_base.specs.Placed.{filled, filled_trees}
use Rattle.bh_base.proofs.Placing.{within_then, same_filled}
use Rattle.bh_schema.specs.declared.host.Host.{Host}
use Rattle.bh_schema.specs.Storage.{left, left_in}
use Rattle.bh_again.specs.Stops.{kept_of, IsLeft, MayFind, KeepsBytes}

-- the laws of a shelf that are about a crash: what is kept stands, and a crash leaves what stands
pub record LeavesKept {P : Type 0} (h : Shelves P) : Type 0 where
  pub kept : (shelf : P) → Within (h.kept shelf) (h.stood shelf)
  pub leaves : (shelf : P) (left : Contents) → IsTrue (h.is_clean shelf) → h.may_leave shelf left → Within (h.stood shelf) left

module _ {D P G : Type 0} {g : Ghosts D} (h : Shelves P) (host : Host (FileStore D g) P G) where
  -- a database that a crash may leave, with contents that have what stands
  pub left_filled : (packs : Contents) → Within (h.stood host.connection.packs) packs → (db : Database) → IsLeft host db → left over_files h host (tables_shown (filled packs db))
  unfolding left_in Leaves filled_trees
  left_filled packs within db it = (filled packs db, (db.trees, packs, it.0, within, refl), it.1.lists, refl)

  module _ (laws : LeavesKept h) (packs : Contents) (may : MayFind h host packs) where
    pub stood_left : Within (h.stood host.connection.packs) packs
    stood_left = laws.leaves host.connection.packs packs may.clean may.may

    kept_left : Within (h.kept host.connection.packs) packs
    kept_left = within_then (h.kept host.connection.packs) (h.stood host.connection.packs) packs (laws.kept host.connection.packs) stood_left

  pub keeps_bytes : LeavesKept h → KeepsBytes h host
  keeps_bytes laws packs may whole = sym (same_filled (h.kept host.connection.packs) packs (kept_left laws packs may) (kept_of host) whole)
