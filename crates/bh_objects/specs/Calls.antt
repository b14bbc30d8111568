-- What a call in a transaction that changes rows leaves of its connection, with this result.
use Rattle.std.specs.Prelude.{Result, OnOk}
use Rattle.sqlite_trees.specs.declared.store.Store.{Ghosts}
use Rattle.bh_shelf.specs.declared.shelf.Shelf.{Ghosts as Shelves}
use Rattle.bh_base.specs.declared.connection.Connection.{Connection}
use Rattle.bh_tables.specs.Typed.{Tables}
use Rattle.bh_base.specs.Connections.{StaysWithin, StaysOpen, Becomes}

-- a transaction is open still, whose tables are these of those before
pub record Changes {S P A E : Type 0} (g : Ghosts S) (k : Shelves P) (old new : Connection S P) (result : Result A E) (change : Tables
    → Tables) : Type 0 where
  pub within : StaysWithin g k old new
  pub opens : OnOk result (StaysOpen g k old new)
  pub holds : OnOk result (Becomes g k old new change)
