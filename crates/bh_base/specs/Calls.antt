-- The effect of a call on a connection in a transaction, with this result: the clauses that such
-- calls share.
use Rattle.std.specs.Prelude.{Result, OnOk}
use Rattle.sqlite_trees.specs.declared.store.Store.{Ghosts}
use Rattle.bh_shelf.specs.declared.shelf.Shelf.{Ghosts as Shelves}
use Rattle.bh_base.specs.declared.connection.Connection.{Connection}
use Rattle.bh_base.specs.Connections.{InTransaction, InMidst, StaysWithin, WasOpen, StaysOpen, ChangesNothing}

module _ {S P A E : Type 0} (g : Ghosts S) (k : Shelves P) (old new : Connection S P) (result : Result A E) where
  -- it reads the host: if it succeeds, the connection was open
  pub record Reads : Type 0 where
    pub within : StaysWithin g k old new
    pub opens : OnOk result (WasOpen g k old new)
    pub same : OnOk result (ChangesNothing g k old new)

  -- it reads the host or not
  pub record MayRead : Type 0 where
    pub within : StaysWithin g k old new
    pub opens : OnOk result (StaysOpen g k old new)
    pub same : OnOk result (ChangesNothing g k old new)

  -- it writes to the host
  pub record Writes : Type 0 where
    pub within : StaysWithin g k old new
    pub opens : OnOk result (StaysOpen g k old new)
    pub inside : OnOk result (InTransaction g k new)

  -- it writes to the host as one step of a write, which goes on
  pub record WritesOn : Type 0 where
    pub within : StaysWithin g k old new
    pub opens : OnOk result (StaysOpen g k old new)
    pub midst : OnOk result (InMidst g k new)
