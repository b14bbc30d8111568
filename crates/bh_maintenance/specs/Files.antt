-- The contents of a host's files when they were opened.
use Rattle.std.specs.Prelude.{◌≡◌}
use Rattle.sqlite_wal.specs.Recovery.{Image}
use Rattle.sqlite.specs.Effect.{Database, IsDatabase}
use Rattle.sqlite.specs.Files.{AreFoundIn}
use Rattle.bh_shelf.specs.Contents.{Contents}
use Rattle.bh_tables.specs.Typed.{Tables}
use Rattle.bh_open.specs.Packed.{tables_beside}
use Rattle.bh_open.specs.Versions.{IsHostsSchema}
use Rattle.bh_maintenance.specs.Found.{IsSoundByItsRow}

-- files with these contents have a database of a host's schema, with these tables once it is
-- opened with packs that have this, upgraded if needed
pub record AreTablesIn (packs : Contents) (image : Image) (tables : Tables) : Type 0 where
  pub db : Database
  pub found : AreFoundIn image db.trees
  pub database : IsDatabase db
  pub schema : IsHostsSchema db.schema
  pub shown : tables ≡ tables_beside packs db

-- if they have a host, it is sound, with blocks named by the function in its row
abbrev pub HoldsSoundHost : Contents → Image → Type 0
HoldsSoundHost packs image = (tables : Tables) → AreTablesIn packs image tables → IsSoundByItsRow tables
