-- What an operation stores of its request's bytes.
use Rattle.std.specs.Prelude.{ℕ, Result}
use Rattle.sqlite_trees.specs.declared.store.Store.{Ghosts}
use Rattle.bh_shelf.specs.declared.shelf.Shelf.{Ghosts as Shelves}
use Rattle.bh_base.specs.declared.connection.Connection.{Connection}
use Rattle.bh_http.specs.Bodies.{Coming, Gives}
use Rattle.bh_model.specs.State.{Octets}
use Rattle.bh_operation.specs.declared.operation.Operation.{Operation}
use Rattle.bh_operation.specs.declared.operation.Operation.TheVariants.{Store}
use Rattle.bh_tables.specs.Typed.{Tables}
use Rattle.bh_view.specs.Bodies.{StoresPieces}
use Rattle.bh_base.specs.Connections.{IsClean, tables}
use Rattle.bh_storage.specs.Calls.{IfDone}
use Rattle.bh_storage.specs.declared.error.Outcome.{Outcome}
use Rattle.bh_storage.specs.declared.error.StepError.{StepError}

-- an object and a part are cut into blocks of a size
abbrev pub StoresBody : (Octets → Octets) → ℕ → Octets → Operation → Tables → Tables → Type 0
StoresBody digest size body (Store operation) old new = StoresPieces digest size body old new
StoresBody digest size body operation old new = Unit {0}

-- a call on a connection, which received some bytes of a body, cut them so if its operation was done
pub record CutsBody {S P X E : Type 0} (g : Ghosts S) (k : Shelves P) (digest : Octets → Octets) (size : ℕ) (operation : Operation)
    (before after : Coming) (old new : Connection S P) (result : Result (Outcome X E) (StepError E)) : Type 0 where
  pub given : Octets
  pub gives : Gives before after given
  pub cut : IfDone result (IsClean g k new → StoresBody digest size given operation (tables g k old) (tables g k new))
