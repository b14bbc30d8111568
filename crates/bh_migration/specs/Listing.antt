-- The rows of a host's table of packs.
use Rattle.std.specs.Prelude.{◌≡◌, List, [], ◌∷◌, map}
use Rattle.sqlite.specs.Order.{Row}
use Rattle.sqlite.specs.Effect.{Database}
use Rattle.bh_rows.specs.Form.{AreRows}
use Rattle.bh_shelf.specs.declared.closed.Listed.{Listed}
use Rattle.bh_tables.specs.Packs.{packs_in}
use Rattle.bh_tables.specs.Rows.{number, PackRow, pack_form}

-- the columns that are read
abbrev pub shown_listed : PackRow → Row
shown_listed p = number p.pack ∷ number p.length ∷ []

-- what a row lists
abbrev pub listed_by : PackRow → Listed
listed_by p = record { pack = p.pack; length = p.length }

-- if the rows are typed rows, this is what they list
abbrev pub Lists : Database → List Listed → Type 0
Lists db listed = AreRows pack_form (db.trees 32) → listed ≡ map listed_by (packs_in db.trees)
