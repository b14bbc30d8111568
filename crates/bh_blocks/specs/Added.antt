-- When a body may be added to the tables, and the bytes of the bodies in them.
use Rattle.bh_tables.specs.Schema.{Octets}
use Rattle.bh_tables.specs.Typed.{Tables}
use Rattle.bh_tables.specs.Shown.{Name}
use Rattle.bh_view.specs.Blocks.{whole, AreStored}
use Rattle.bh_view.specs.Bodies.{HasBodies, IsUnnamed}

-- references are sound, and no version and no part has the name
pub record IsNewBody (at : Name) (tables : Tables) : Type 0 where
  pub stored : AreStored tables.refs tables.blocks
  pub bodies : HasBodies tables
  pub unnamed : IsUnnamed at tables

abbrev pub bytes_in : Tables → Name → Octets
bytes_in tables = whole tables.refs tables.blocks
