-- A connection with a transaction on sound tables, in which tenants' operations are carried out.
use Rattle.std.specs.Prelude.{◌≡◌}
use Rattle.bh_base.specs.Connections.{state}
use Rattle.sqlite.specs.State.{State}
use Rattle.sqlite_trees.specs.declared.store.Store.{Ghosts}
use Rattle.bh_shelf.specs.declared.shelf.Shelf.{Ghosts as Shelves}
use Rattle.bh_base.specs.declared.connection.Connection.{Connection}
use Rattle.bh_tables.specs.Typed.{Tables, tables_in}
use Rattle.bh_model.specs.State.{Octets}
use Rattle.bh_view.specs.Sound.{IsSound}
use Rattle.bh_view.specs.Blocks.{AreDigests}
use Rattle.bh_view.specs.Bodies.{HasBodies}
use Rattle.bh_view.specs.View.{limits_in}
use Rattle.bh_base.specs.Layer.{standing, IsInside}
use Rattle.bh_base.specs.Connections.{IsClean, StaysWithin, StaysOpen}

-- the current tables
abbrev pub tables_at : State → Tables
tables_at s = tables_in (standing s).now

-- a transaction is open on a host's sound tables
pub record IsWorking (s : State) : Type 0 where
  pub inside : IsInside (standing s)
  pub sound : IsSound (tables_at s)
  pub bodies : HasBodies (tables_at s)

-- so is one, the limits in the tables are unchanged, and blocks are named by this function if they
-- were
pub record StillWorkingBy (digest : Octets → Octets) (old new : State) : Type 0 where
  pub is : IsWorking new
  pub limits : limits_in (tables_at new) ≡ limits_in (tables_at old)
  pub digests : AreDigests digest (tables_at old).blocks → AreDigests digest (tables_at new).blocks

-- so it is still at work, for every digest function
abbrev pub StillWorking : State → State → Type 0
StillWorking old new = (digest : Octets → Octets) → StillWorkingBy digest old new

module _ {S P : Type 0} (g : Ghosts S) (k : Shelves P) where
  -- while the connection is clean
  abbrev pub Works : Connection S P → Type 0
  Works c = IsClean g k c → IsWorking (state g k c)

  abbrev pub StillWorks : Connection S P → Connection S P → Type 0
  StillWorks old new = IsClean g k new → StillWorking (state g k old) (state g k new)

  abbrev pub StillWorksBy : (Octets → Octets) → Connection S P → Connection S P → Type 0
  StillWorksBy digest old new = IsClean g k new → StillWorkingBy digest (state g k old) (state g k new)

  -- a call commits nothing, and doesn't shut the connection, which is still at work; the last two
  -- unless the call ended in a way that leaves both open
  pub record WorksOn (Unless : Type 0 → Type 0) (old new : Connection S P) : Type 0 where
    pub within : StaysWithin g k old new
    pub opens : Unless (StaysOpen g k old new)
    pub working : Unless (StillWorks old new)

  -- such a call, if blocks are named by this function
  pub record WorksOnBy (digest : Octets → Octets) (Unless : Type 0 → Type 0) (old new : Connection S P) : Type 0 where
    pub within : StaysWithin g k old new
    pub opens : Unless (StaysOpen g k old new)
    pub working : Unless (StillWorksBy digest old new)
