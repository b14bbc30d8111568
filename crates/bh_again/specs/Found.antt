-- What an event of a storage leaves for an open after a stop, and what events that are applied together leave.
use Rattle.std.specs.Prelude.{◌≡◌, ◌⊎◌, List, Some, None, IfSome}
use Rattle.bh_model.specs.State.{Octets}
use Rattle.bh_event.specs.Events.{Arrival}
use Rattle.bh_tables.specs.Typed.{Tables}
use Rattle.bh_view.specs.Bodies.{IsSoundHost}
use Rattle.bh_storage.specs.Calls.{Seen, Clean, IsAtRest, LeavesSound}
use Rattle.bh_host.specs.Groups.{last_stamp}
use Rattle.bh_host.specs.Runs.{Told, Ran, RanOn, MayRemain}
use Rattle.bh_host.specs.Turns.{Applied, WouldApply}

module _ {H : Type 0} (IsIntact IsOpen : H → Type 0) (seen : H → Seen) (left : H → Tables → Type 0) where
  abbrev pub IsReady : (Octets → Octets) → H → Type 0
  IsReady digest h = Clean IsIntact IsOpen h → IsAtRest (IsSoundHost digest) (seen h)

  abbrev pub AddsSound : (Octets → Octets) → H → H → Type 0
  AddsSound digest old new = IsIntact new → LeavesSound (IsSoundHost digest) left old new

  -- all tables that a crash may leave
  abbrev pub AllLeft : (Tables → Type 0) → H → Type 0
  AllLeft P h = (x : Tables) → left h x → P x

  -- events were applied together, as `bh_host::apply_together` promises
  abbrev pub HaveApplied : List Arrival → List Told → H → H → Type 0
  HaveApplied events tolds old new = IsIntact new → RanOn IsOpen seen left events tolds old new

  module _ (IsOlder : Tables → Type 0) where
    -- a storage's tables after an event, a stop and an open. With a stamp: the event's effect.
    -- Without: the tables before it, if no fault has shut the store; otherwise those that a crash
    -- could have left before, or that the commit would have written. A third case exists only for a
    -- store in which a crash may leave a database of an earlier version
    abbrev pub IsLeftBy : Arrival → Told → H → H → Tables → Type 0
    IsLeftBy event (None, reply) old new x =
        (IsOpen new → x ≡ (seen old).now)
        × ∥ ((left old x ⊎ (IsOpen old × WouldApply event (seen old).now x)) ⊎ IsOlder x) ∥₁
    IsLeftBy event (Some m, reply) old new x = Applied event (seen old).now x (Some m) reply

    -- the tables that may be found after its reply was sent. With a stamp: the event's effect, even
    -- if a fault has shut the store since
    abbrev pub IsLeftSince : Arrival → Told → H → H → Tables → Type 0
    IsLeftSince event (None, reply) old new x = IsLeftBy event (None, reply) old new x
    IsLeftSince event (Some m, reply) old new x =
        (end : Tables) × Applied event (seen old).now end (Some m) reply × (IsOpen new → x ≡ end)
        × ∥ ((x ≡ end) ⊎ IsOlder x) ∥₁

    -- a storage's tables after events that were applied together, a stop and an open: those after all of
    -- them, if no fault has shut the store, or if the last has a stamp, which it has once their commit
    -- returned. Otherwise those that may remain: after the last event with a stamp, or before all of
    -- them, or what a commit of some since would have written. A database of an earlier version is as
    -- for one event
    pub record AreLeftBy (events : List Arrival) (tolds : List Told) (old new : H) (x : Tables) : Type 0 where
      pub end : Tables
      pub ran : Ran events tolds (seen old).now end
      pub opened : IsOpen new → x ≡ end
      pub acknowledged : IfSome (last_stamp None tolds) (λ _. ∥ ((x ≡ end) ⊎ IsOlder x) ∥₁)
      pub crash : ∥ (MayRemain events tolds (left old) end x ⊎ IsOlder x) ∥₁

  -- an open found tables that have this property
  pub record Survives (digest : Octets → Octets) (Says : Tables → Type 0) (old new : H) (found : Seen) : Type 0 where
    pub tables : Says found.now
    -- it is at rest: unconditionally, if no fault has shut the store
    pub rest : IsOpen new → IsAtRest (IsSoundHost digest) found
    pub merely : AddsSound digest old new → AllLeft (IsSoundHost digest) old → ∥ IsAtRest (IsSoundHost digest) found ∥₁
