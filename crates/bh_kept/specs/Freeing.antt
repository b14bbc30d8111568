-- A connection between two events, of which packs go that no place names.
use Rattle.std.specs.Prelude.{◌≡◌, false}
use Rattle.sqlite.specs.State.{State}
use Rattle.bh_tables.specs.Typed.{IsHost, Tables}
use Rattle.bh_base.specs.Layer.{Standing, IsIntact}
use Rattle.bh_schema.specs.Storage.{left_in}

-- no transaction is open on a host's database
pub record IsOutside (x : Standing) : Type 0 where
  pub outside : x.inside ≡ false
  pub host : IsHost x.now

-- the tables that a crash may leave from then on were possible before
abbrev pub ShowsNothingNew : State → State → Type 0
ShowsNothingNew old new = IsIntact new → (x : Tables) → left_in new x → left_in old x
