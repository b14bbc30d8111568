-- An event's effect on the tables, and its reply.
use Rattle.std.specs.Prelude.{◌≡◌, ◌≢◌, ◌⊎◌, ℕ, List, [], ◌∷◌, nat_lt, if◌then◌else◌}
use Rattle.std.specs.Prelude.{Option, Some, None, option_and_then, String, Result, Ok, Err, IfErr, IfNone, IfSome}
use Rattle.std.specs.declared.alloc.Global.{Global}
use Rattle.std.specs.String.{string_bytes}
use Rattle.bh_types.specs.AccessKeys.{tenant_named}
use Rattle.bh_types.specs.Limits.{HostLimits}
use Rattle.bh_types.specs.declared.refusal.Refusal.{Refusal}
use Rattle.bh_event.specs.Events.{Message, Requested, Ordered, SweepOrdered, ReportOrdered, TenantsOrdered, Arrival, tenant_in}
use Rattle.bh_http.specs.Responses.{refusal_text}
use Rattle.bh_machine.specs.Machine.{Act, Acted, owner_of, step}
use Rattle.bh_model.specs.Runs.{last_reading, stamp_of, purged_tenant}
use Rattle.bh_model.specs.State.{Octets}
use Rattle.bh_storage.specs.Calls.{Seen, OthersSame}
use Rattle.bh_storage.specs.Reports.{sweep_counts, store_counts, tenants_told}
use Rattle.bh_storage.specs.declared.error.StepError.{StepError}
use Rattle.bh_storage.specs.declared.error.StepError.TheVariants.{Refused, Failed}
use Rattle.bh_tables.specs.Typed.{Tables}
use Rattle.bh_view.specs.Becomes.{KeepsShared}
use Rattle.bh_view.specs.Sweep.{swept}
use Rattle.bh_view.specs.View.{view, latest_of, limits_in, with_latest, rows_purged}
use Rattle.bh_host.specs.Replies.{text, sweep_text, report_text, tenants_text, caller_of, clock_text, wanting_text}

-- ---- an act at the stamp m, on a host with these limits. `stamped` is the tables before it with m as the last stamp

-- the owner gets the reply and the state of the machine's step; all others see no change
pub record Owned (limits : HostLimits) (t : Octets) (m : ℕ) (act : Act) (stamped new : Tables) (reply : List ℕ) : Type 0 where
  pub told : reply ≡ text act (step limits m act (view stamped t)).0
  pub own : view new t ≡ (step limits m act (view stamped t)).1
  pub others : OthersSame t stamped new
  -- a refusal changes no table, except that the owner's stale uploads are removed
  pub refused : IfErr (step limits m act (view stamped t)).0 (λ _. new ≡ rows_purged t m stamped)

-- a request of no tenant is answered like one of a tenant that doesn't exist, and changes no table
pub record IsNobody (limits : HostLimits) (m : ℕ) (act : Act) (stamped new : Tables) (reply : List ℕ) : Type 0 where
  pub told : reply ≡ text act (step limits m act None).0
  pub same : new ≡ stamped

abbrev pub IsActDoneFor : HostLimits → Option Octets → ℕ → Act → Tables → Tables → List ℕ → Type 0
IsActDoneFor limits (Some t) m act stamped new reply = Owned limits t m act stamped new reply
IsActDoneFor limits None m act stamped new reply = IsNobody limits m act stamped new reply

-- an act is judged by whose it is; what all tenants share is unchanged
pub record IsActDone (limits : HostLimits) (act : Act) (m : ℕ) (stamped new : Tables) (reply : List ℕ) : Type 0 where
  pub judged : IsActDoneFor limits (owner_of act) m act stamped new reply
  pub latest : latest_of new ≡ latest_of stamped
  pub same_limits : limits_in new ≡ limits_in stamped
  pub shared : KeepsShared stamped new

-- a sweep at the stamp m removes what is due first, whichever tenant has it, and returns how much
-- that was; each tenant's state, once purged, is as before
pub record IsSweepDone (limit m : ℕ) (stamped new : Tables) (reply : List ℕ) : Type 0 where
  pub told : reply ≡ sweep_text (sweep_counts m limit stamped)
  pub is : new ≡ swept m limit stamped
  pub views : (t : Octets) → purged_tenant (view new t) m ≡ purged_tenant (view stamped t) m
  pub latest : latest_of new ≡ latest_of stamped
  pub same_limits : limits_in new ≡ limits_in stamped

-- a report returns what is stored, and changes no table
pub record IsReportDone (stamped new : Tables) (reply : List ℕ) : Type 0 where
  pub told : reply ≡ report_text (store_counts stamped)
  pub same : new ≡ stamped

-- a list of tenants names each of them, and changes no table
pub record IsListDone (stamped new : Tables) (reply : List ℕ) : Type 0 where
  pub told : reply ≡ tenants_text (tenants_told stamped)
  pub same : new ≡ stamped

abbrev pub Acts : HostLimits → Message → ℕ → Tables → Tables → List ℕ → Type 0
Acts limits message m stamped new reply = (act : Act) × Acted limits message act × IsActDone limits act m stamped new reply

abbrev pub IsServed : HostLimits → Message → ℕ → Tables → Tables → List ℕ → Type 0
IsServed limits (Requested bytes) m stamped new reply = Acts limits (Requested bytes) m stamped new reply
IsServed limits (Ordered order) m stamped new reply = Acts limits (Ordered order) m stamped new reply
IsServed limits (SweepOrdered limit) m stamped new reply = IsSweepDone limit m stamped new reply
IsServed limits ReportOrdered m stamped new reply = IsReportDone stamped new reply
IsServed limits TenantsOrdered m stamped new reply = IsListDone stamped new reply

-- the reply to an order: its line, or the refusal's number and code
abbrev pub TellsLine : Result (String Global) (StepError Refusal) → List ℕ → Type 0
TellsLine (Ok line) bytes = bytes ≡ string_bytes line
TellsLine (Err (Refused r)) bytes = bytes ≡ refusal_text r
TellsLine (Err (Failed trouble)) bytes = ⊥

-- the owner of an order, if it is on a tenant of a valid name
abbrev pub owner_in : Message → Option Octets
owner_in message = option_and_then tenant_named (tenant_in message)

-- ---- an event

-- a request at a reading of the clock
abbrev pub request_at : ℕ → List ℕ → Arrival
request_at reading bytes = record { reading = reading; message = Requested bytes }

-- the fixed reply to an event that isn't applied
abbrev pub fixed : Arrival → List ℕ
fixed event = if nat_lt last_reading event.reading then clock_text (caller_of event.message) else wanting_text (caller_of event.message)

-- a reply that is neither of the fixed ones
abbrev pub IsToldApart : Arrival → Option ℕ → List ℕ → Type 0
IsToldApart event None reply = reply ≡ fixed event
IsToldApart event (Some m) reply = (reply ≢ clock_text (caller_of event.message)) × (reply ≢ wanting_text (caller_of event.message))

-- an event's effect: without a stamp none, and with one a turn at the greater of the reading and
-- the last stamp
abbrev pub Applied : Arrival → Tables → Tables → Option ℕ → List ℕ → Type 0
Applied event old new None reply = new ≡ old
Applied event old new (Some m) reply =
    (stamp_of event.reading (latest_of old) ≡ Ok m) × (latest_of new ≡ m)
    × IsServed (limits_in old) event.message m (with_latest m old) new reply

-- an event's effect on a storage: with a stamp, it is open before and after; without one, the
-- tables of an open one are unchanged
abbrev pub AppliedTo : {H : Type 0} → (H → Type 0) → (H → Seen) → Arrival → H → H → Option ℕ → List ℕ → Type 0
AppliedTo IsOpen seen event old new None reply = IsOpen new → IsOpen old × ((seen new).now ≡ (seen old).now)
AppliedTo IsOpen seen event old new (Some m) reply = IsOpen old × IsOpen new × Applied event (seen old).now (seen new).now (Some m) reply

-- the tables that the event's commit would have written
abbrev pub WouldApply : Arrival → Tables → Tables → Type 0
WouldApply event old new = (m : ℕ) × (reply : List ℕ) × Applied event old new (Some m) reply

-- an event on a storage: its effect, its reply and what a crash may leave from then on. With a stamp
-- that is what the storage shows; without one it was possible before, or is what the event's commit
-- would have written
pub record Happened {H : Type 0} (IsIntact IsOpen : H → Type 0) (seen : H → Seen) (left : H → Tables → Type 0) (event : Arrival)
    (old new : H) (stamp : Option ℕ) (reply : List ℕ) : Type 0 where
  pub applied : IsIntact new → AppliedTo IsOpen seen event old new stamp reply
  pub told_apart : IsIntact new → IsToldApart event stamp reply
  pub acknowledged : IfSome stamp (λ _. IsIntact new → (x : Tables) → left new x → x ≡ (seen new).now)
  pub crash : IfNone stamp (IsIntact new → (x : Tables) → left new x → left old x ⊎ (IsOpen old × WouldApply event (seen old).now x))

-- the tables that a commit of some of these events, in their order, would have written
abbrev pub WouldApplySome : List Arrival → Tables → Tables → Type 0
WouldApplySome [] old new = ⊥
WouldApplySome (event ∷ events) old new =
    WouldApplySome events old new ⊎ ((mid : Tables) × WouldApply event old mid × ((new ≡ mid) ⊎ WouldApplySome events mid new))
