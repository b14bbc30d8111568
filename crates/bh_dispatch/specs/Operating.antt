-- The effect on a host's connection of a call that carries out a tenant's operation.
use Rattle.std.specs.Prelude.{◌≤◌, ℕ, Option, Result}
use Rattle.sqlite_trees.specs.declared.store.Store.{Ghosts}
use Rattle.bh_shelf.specs.declared.shelf.Shelf.{Ghosts as Shelves}
use Rattle.bh_base.specs.declared.connection.Connection.{Connection}
use Rattle.bh_cache.specs.Kept.{KeptBlocks, Agrees}
use Rattle.bh_http.specs.Bodies.{Coming}
use Rattle.bh_model.specs.State.{Octets, State}
use Rattle.bh_storage.specs.Calls.{Unless, UnlessSpoilt, Carries, Operates, OperatesBy}
use Rattle.bh_storage.specs.declared.error.Outcome.{Outcome}
use Rattle.bh_storage.specs.declared.error.StepError.{StepError}
use Rattle.bh_view.specs.Blocks.{AreDigests}
use Rattle.bh_base.specs.Connections.{IsClean, tables}
use Rattle.bh_schema.specs.Working.{WorksOn, WorksOnBy}

module _ {S P : Type 0} (g : Ghosts S) (k : Shelves P) where
  -- cached blocks are those of the tables, which name blocks by this function, and a block has room
  -- for some bytes
  pub record HasBlocks (digest : Octets → Octets) (blocks : KeptBlocks) (size : ℕ) (c : Connection S P) : Type 0 where
    pub kept : IsClean g k c → Agrees blocks (tables g k c).blocks
    pub digests : IsClean g k c → AreDigests digest (tables g k c).blocks
    pub positive : 1 ≤ size

  -- a tenant's step is carried out in the open transaction
  pub record CarriesOut {X Y E : Type 0} (shown : X → Y) (t : Octets) (step : Option State → Result (Y × Option State) E)
      (old new : Connection S P) (result : Result X (StepError E)) : Type 0 where
    pub works : WorksOn g k (Unless result) old new
    pub carries : IsClean g k new → Carries shown t step (tables g k old) (tables g k new) result

  -- a tenant's step is carried out so by the received bytes of a body
  pub record OperatesOn {X Y E : Type 0} (shown : X → Y) (t : Octets) (step : Octets → Option State → Result (Y × Option State) E)
      (before after : Coming) (old new : Connection S P) (result : Result (Outcome X E) (StepError E)) : Type 0 where
    pub works : WorksOn g k (UnlessSpoilt result) old new
    pub operates : Operates shown t step (IsClean g k new) before after (tables g k old) (tables g k new) result

  -- a step on a body's bytes, if blocks are named by this function, with more clauses on the bytes
  pub record OperatesOnBy (digest : Octets → Octets) {X Y E : Type 0} (shown : X → Y) (t : Octets)
      (step : Octets → Option State → Result (Y × Option State) E) (Says : Octets → Type 0) (before after : Coming)
      (old new : Connection S P) (result : Result (Outcome X E) (StepError E)) : Type 0 where
    pub works : WorksOnBy g k digest (UnlessSpoilt result) old new
    pub operates : OperatesBy shown t step Says (IsClean g k new) before after (tables g k old) (tables g k new) result
