-- Blocks that an operation cuts its body into.
use Rattle.std.proofs.Common.{◌≡◌, ℕ, Option, Result, Ok, Err, sym, subst}
use Rattle.sqlite_trees.specs.declared.store.Store.{Ghosts}
use Rattle.bh_shelf.specs.declared.shelf.Shelf.{Ghosts as Shelves}
use Rattle.bh_base.specs.declared.connection.Connection.{Connection}
use Rattle.bh_http.specs.Bodies.{Coming, Gives}
use Rattle.bh_model.specs.State.{Octets}
use Rattle.bh_operation.specs.declared.address.ObjectName.{ObjectName}
use Rattle.bh_operation.specs.declared.operation.Operation.{Operation}
use Rattle.bh_operation.specs.declared.operation.Operation.TheVariants.{GetObject}
use Rattle.bh_base.specs.Connections.{IsClean, tables}
use Rattle.bh_storage.specs.Calls.{IfDone}
use Rattle.bh_storage.specs.declared.error.Outcome.{Outcome}
use Rattle.bh_storage.specs.declared.error.Outcome.TheVariants.{Done, Spoilt}
use Rattle.bh_storage.specs.declared.error.StepError.{StepError}
use Rattle.bh_types.specs.declared.wanted.Wanted.{Wanted}
use Rattle.bh_dispatch.specs.Stored.{StoresBody, CutsBody}

-- a get stores none
pub cuts_no_object : {S P X E : Type 0} (g : Ghosts S) (k : Shelves P) (digest : Octets → Octets) (size : ℕ) (operation : Operation) (object : ObjectName) (version : Wanted) (range : Option Octets) → operation ≡ GetObject object version range
    → (before after : Coming) (old new : Connection S P) (result : Result (Outcome X E) (StepError E)) (given : Octets) → Gives before after given → CutsBody g k digest size operation before after old new result
cuts_no_object {S} {X} {E} g k digest size operation object version range is before after old new result given gives = record { given = given; gives = gives; cut = go result }
  where
    go : (r : Result (Outcome X E) (StepError E)) → IfDone r (IsClean g k new → StoresBody digest size given operation (tables g k old) (tables g k new))
    go (Ok (Done x)) = λ clean. subst (λ o. StoresBody digest size given o (tables g k old) (tables g k new)) (sym is) tt
    go (Ok (Spoilt r)) = tt
    go (Err e) = tt
