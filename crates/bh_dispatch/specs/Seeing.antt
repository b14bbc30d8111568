-- A host as a storage, alone and with remembered facts.
use Rattle.std.specs.Prelude.{Bool, true, false, Result, Ok, Err, String}
use Rattle.std.specs.declared.alloc.Global.{Global}
use Rattle.sqlite_trees.specs.declared.store.Store.{Ghosts}
use Rattle.bh_shelf.specs.declared.shelf.Shelf.{Ghosts as Shelves}
use Rattle.bh_event.specs.Events.{Message, ReportOrdered}
use Rattle.bh_model.specs.State.{Octets}
use Rattle.bh_storage.specs.Calls.{Seen, StaysAtWork}
use Rattle.bh_view.specs.Bodies.{IsSoundHost}
use Rattle.bh_memo.specs.Recalled.{recalled}
use Rattle.bh_schema.specs.Storage as storage
use Rattle.bh_schema.specs.declared.host.Host.{Host}
use Rattle.bh_dispatch.specs.declared.sql_host.Carried.{Carried}
use Rattle.bh_dispatch.specs.declared.sql_host.SqlHost.{SqlHost}

module _ {S P D : Type 0} (g : Ghosts S) (k : Shelves P) where
  -- a call in a transaction doesn't shut the host's store, and the transaction continues with sound
  -- tables
  abbrev pub GoesOn : (Octets → Octets) → (Type 0 → Type 0) → Host S P D → Host S P D → Type 0
  GoesOn digest = StaysAtWork (storage.IsIntact g k) (storage.IsOpen g k) (IsSoundHost digest) (storage.seen g k) (storage.left g k)

  -- the storage's view, given what is remembered
  abbrev pub seen : SqlHost S P D → Seen
  seen r = recalled r.memo (storage.seen g k r.host)

  abbrev pub RecallsOn : (Octets → Octets) → (Type 0 → Type 0) → SqlHost S P D → SqlHost S P D → Type 0
  RecallsOn digest = StaysAtWork (λ r. storage.IsIntact g k r.host) (λ r. storage.IsOpen g k r.host)
      (IsSoundHost digest) seen
      (λ r. storage.left g k r.host)

-- the line of an order that was carried out
abbrev pub line_in : {E : Type 0} → Result Carried E → Result (String Global) E
line_in (Ok carried) = Ok carried.line
line_in (Err error) = Err error

-- a report counts what packs have, and no other order does
abbrev pub is_report : Message → Bool
is_report ReportOrdered = true
is_report message = false
