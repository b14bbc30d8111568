-- A host's connection, in terms of a host's storage.
use Rattle.std.specs.Prelude.{◌≡◌, if◌then◌else◌, Option, Result}
use Rattle.sqlite_trees.specs.declared.store.Store.{Ghosts}
use Rattle.bh_shelf.specs.declared.shelf.Shelf.{Ghosts as Shelves}
use Rattle.sqlite.specs.Effect.{Database}
use Rattle.sqlite_trees.specs.Objects.{catalog_tree}
use Rattle.sqlite_catalog.specs.Listing.{Lists}
use Rattle.bh_base.specs.Connections.{state}
use Rattle.sqlite.specs.State.{State}
use Rattle.bh_types.specs.Limits.{HostLimits}
use Rattle.bh_types.specs.declared.refusal.Refusal.{Refusal}
use Rattle.bh_model.specs.Operations.{Outcome, Done}
use Rattle.bh_model.specs.State.{Octets, State as Machine}
use Rattle.bh_tables.specs.Typed.{Tables, no_rows}
use Rattle.bh_tables.specs.Hosts.{tables_shown}
use Rattle.bh_view.specs.Bodies.{IsSoundHost}
use Rattle.bh_storage.specs.Calls.{Seen, Clean, Within, IsWorking, Unless, Carries}
use Rattle.bh_storage.specs.declared.error.StepError.{StepError}
use Rattle.bh_schema.specs.declared.host.Host.{Host}
use Rattle.bh_cache.specs.Kept.{KeptBlocks, no_blocks, agrees}
use Rattle.bh_base.specs.Layer.{Standing, standing, Leaves}
use Rattle.bh_base.specs.Layer as layer

-- the current and the committed tables, with the host's limits
abbrev pub shown : HostLimits → Standing → Seen
shown limits x = record { now = tables_shown x.now; kept = tables_shown x.kept; inside = x.inside; limits = limits }

unfoldable pub seen_in : HostLimits → State → Seen
seen_in limits s = shown limits (standing s)

-- the storage's view, given the cached blocks: if one of them is not the row of its name, there are
-- no rows
unfoldable pub beside : KeptBlocks → Seen → Seen
beside kept s = record s { now = if agrees kept s.now.blocks then s.now else no_rows }

-- the tables that a crash may leave: those of a database whose trees list its schema, so that no other has these trees
unfoldable pub left_in : State → Tables → Type 0
left_in s x = (db : Database) × Leaves s db.trees × Lists (db.trees catalog_tree) db.schema × (x ≡ tables_shown db)

-- ---- a host, as seen through its connection

module _ {S P D : Type 0} (g : Ghosts S) (k : Shelves P) where
  -- its store has returned what was written to it
  abbrev pub IsIntact : Host S P D → Type 0
  IsIntact host = layer.IsIntact (state g k host.connection)

  -- no fault has shut the connection
  abbrev pub IsOpen : Host S P D → Type 0
  IsOpen host = layer.IsOpen (state g k host.connection)

  -- both
  abbrev pub IsClean : Host S P D → Type 0
  IsClean host = Clean IsIntact IsOpen host

  abbrev pub seen : Host S P D → Seen
  seen host = beside host.cache (seen_in host.limits (state g k host.connection))

  abbrev pub left : Host S P D → Tables → Type 0
  left host = left_in (state g k host.connection)

  -- while it is clean, a transaction is open on a sound host's tables, with blocks named by this
  -- function
  abbrev pub Works : (Octets → Octets) → Host S P D → Type 0
  Works digest host = IsClean host → IsWorking (IsSoundHost digest) (seen host)

  -- a call inside a transaction commits nothing
  abbrev pub Keeps : Host S P D → Host S P D → Type 0
  Keeps = Within IsIntact IsOpen seen left

  -- a result means that the connection is open
  abbrev pub StaysOpen : Host S P D → Host S P D → Type 0
  StaysOpen old new = IsOpen old → IsIntact new → IsOpen new

  -- a call doesn't change the digester, the limits, the tuning, the cached blocks, or the limit on
  -- a statement's steps
  abbrev pub KeepsSettings : Host S P D → Host S P D → Type 0
  KeepsSettings old new = (new ≡ record old { connection = new.connection })
      × ((standing (state g k new.connection)).limit ≡ (standing (state g k old.connection)).limit)

  -- a call changes none of these but the cached blocks, which it removes
  abbrev pub Empties : Host S P D → Host S P D → Type 0
  Empties old new = (new ≡ record old { connection = new.connection; cache = no_blocks old.cache.tuning })
      × ((standing (state g k new.connection)).limit ≡ (standing (state g k old.connection)).limit)

  -- a tenant's step without an answer is carried out: nothing is committed and no setting changes;
  -- unless memory or the store failed, the connection is open, and at work
  pub record CarriesOut (digest : Octets → Octets) (old new : Host S P D) (tenant : Octets)
      (step : Option Machine → Result Outcome Refusal) (result : Result Unit (StepError Refusal)) : Type 0 where
    pub within : Keeps old new
    pub opens : Unless result (StaysOpen old new)
    pub working : Unless result (Works digest new)
    pub carries : IsClean new → Carries (λ _. Done) tenant step (seen old).now (seen new).now result
    pub settings : KeepsSettings old new
