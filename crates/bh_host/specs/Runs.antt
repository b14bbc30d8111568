-- A list of events, and that each tenant is answered as if it were alone.
use Rattle.std.specs.Prelude.{◌≡◌, ◌⊎◌, ◌++◌, ℕ, List, [], ◌∷◌, Option, Some, None, Ok}
use Rattle.bh_types.specs.Limits.{HostLimits}
use Rattle.bh_event.specs.Events.{Message, Requested, Ordered, SweepOrdered, ReportOrdered, TenantsOrdered, Arrival}
use Rattle.bh_model.specs.Runs as runs
use Rattle.bh_model.specs.Runs.{Follows, stamp_of}
use Rattle.bh_model.specs.State.{Octets, State}
use Rattle.bh_tables.specs.Typed.{Tables}
use Rattle.bh_machine.specs.Machine.{Act, Acted, owner_of, step}
use Rattle.bh_storage.specs.Calls.{Seen}
use Rattle.bh_view.specs.View.{view, latest_of, limits_in}
use Rattle.bh_host.specs.Replies.{text}
use Rattle.bh_host.specs.Turns.{Applied, IsToldApart, WouldApplySome, fixed}

-- a request or a command with a stamp: how it was understood, and the bytes of its reply
abbrev pub Turn : Type 0
Turn = runs.Turn Act (List ℕ)

-- an event's stamp and reply
abbrev pub Told : Type 0
Told = Option ℕ × List ℕ

-- ---- the effect of a list of events, one after another

abbrev pub Ran : List Arrival → List Told → Tables → Tables → Type 0
Ran [] [] old new = new ≡ old
Ran [] (done ∷ dones) old new = ⊥
Ran (event ∷ events) [] old new = ⊥
Ran (event ∷ events) ((stamp, reply) ∷ dones) old new =
    (mid : Tables) × Applied event old mid stamp reply × IsToldApart event stamp reply × Ran events dones mid new

-- what a crash may leave after events: the tables at the end, if one of them has a stamp, and else
-- what it could leave before them. Also what a commit of some of the events since the last stamp would
-- have written; `since` is those so far
abbrev pub MayRemainSince : List Arrival → List Arrival → List Told → (Tables → Type 0) → Tables → Tables → Type 0
MayRemainSince since [] dones before end x = before x ⊎ WouldApplySome since end x
MayRemainSince since (event ∷ events) [] before end x = before x ⊎ WouldApplySome since end x
MayRemainSince since (event ∷ events) ((Some m, reply) ∷ dones) before end x = MayRemainSince [] events dones (λ y. y ≡ end) end x
MayRemainSince since (event ∷ events) ((None, reply) ∷ dones) before end x = MayRemainSince (since ++ event ∷ []) events dones before end x

abbrev pub MayRemain : List Arrival → List Told → (Tables → Type 0) → Tables → Tables → Type 0
MayRemain = MayRemainSince []

-- a run's effect on a storage: if it is open, its tables are those at the end
pub record RanOn {H : Type 0} (IsOpen : H → Type 0) (seen : H → Seen) (left : H → Tables → Type 0) (events : List Arrival)
    (dones : List Told) (old new : H) : Type 0 where
  pub end : Tables
  pub ran : Ran events dones (seen old).now end
  pub now : IsOpen new → (seen new).now ≡ end
  pub crash : (x : Tables) → left new x → MayRemain events dones (left old) end x

-- the same from given tables
pub record RanFrom {H : Type 0} (IsOpen : H → Type 0) (seen : H → Seen) (left : H → Tables → Type 0) (start : Tables)
    (events : List Arrival) (dones : List Told) (old new : H) : Type 0 where
  pub end : Tables
  pub ran : Ran events dones start end
  pub now : IsOpen new → (seen new).now ≡ end
  pub crash : (x : Tables) → left new x → MayRemain events dones (left old) end x

-- a run goes on: from the tables that the one before it ended with, which the storage shows if it is
-- open
abbrev pub GoesOn : {H : Type 0} → (H → Type 0) → (H → Seen) → (H → Tables → Type 0) → List Arrival → List Told → H → H → Type 0
GoesOn IsOpen seen left events dones old new =
    (start : Tables) → (IsOpen old → (seen old).now ≡ start) → RanFrom IsOpen seen left start events dones old new

-- ---- whose events they were, and what each tenant is answered

-- a request or a command is one turn; a sweep, a report and a list of tenants belong to no tenant,
-- and are no turn
abbrev pub IsOneTurn : HostLimits → Message → ℕ → List ℕ → List Turn → Type 0
IsOneTurn limits message m reply turns =
    (act : Act) × Acted limits message act × (turns ≡ record { act = act; stamp = m; reply = reply } ∷ [])

abbrev pub AreTurnsOf : HostLimits → Message → ℕ → List ℕ → List Turn → Type 0
AreTurnsOf limits (Requested bytes) m reply turns = IsOneTurn limits (Requested bytes) m reply turns
AreTurnsOf limits (Ordered order) m reply turns = IsOneTurn limits (Ordered order) m reply turns
AreTurnsOf limits (SweepOrdered limit) m reply turns = turns ≡ []
AreTurnsOf limits ReportOrdered m reply turns = turns ≡ []
AreTurnsOf limits TenantsOrdered m reply turns = turns ≡ []

-- an event with a stamp is its turns, and its stamp is the last one from then on; an event without
-- one got the fixed reply, and is no turn
abbrev pub IsShown : HostLimits → Arrival → Told → List Turn → ℕ → ℕ → Type 0
IsShown limits event (None, reply) turns last next = (reply ≡ fixed event) × (turns ≡ []) × (next ≡ last)
IsShown limits event (Some m, reply) turns last next =
    (stamp_of event.reading last ≡ Ok m) × AreTurnsOf limits event.message m reply turns × (next ≡ m)

-- from one last stamp to another, the turns of all events are the first event's, followed by the
-- others'
abbrev pub Shows : HostLimits → ℕ → List Arrival → List Told → List Turn → ℕ → Type 0
Shows limits to [] [] turns from = (turns ≡ []) × (to ≡ from)
Shows limits to [] (done ∷ dones) turns from = ⊥
Shows limits to (event ∷ events) [] turns from = ⊥
Shows limits to (event ∷ events) (done ∷ dones) turns from =
    (first : List Turn) × (others : List Turn) × (next : ℕ)
    × IsShown limits event done first from next × (turns ≡ first ++ others) × Shows limits to events dones others next

-- a tenant's own acts with their stamps, and its replies
abbrev pub own : Octets → List Turn → List (ℕ × Act)
own = runs.own owner_of

abbrev pub replies_to : Octets → List Turn → List (List ℕ)
replies_to = runs.replies_to owner_of

-- the machine's reply and state, on a host with these limits
abbrev pub replied : HostLimits → ℕ → Act → Option State → List ℕ × Option State
replied limits m act s = (text act (step limits m act s).0, (step limits m act s).1)

-- the machine alone, given its own acts
abbrev pub solo : HostLimits → Option State → List (ℕ × Act) → List (List ℕ)
solo limits = runs.solo (replied limits)

abbrev pub solo_state : HostLimits → Option State → List (ℕ × Act) → Option State
solo_state limits = runs.solo_state (replied limits)

-- each tenant is answered as by a machine of its own
abbrev pub IsAlone : HostLimits → List Turn → Tables → Tables → Type 0
IsAlone limits turns old new = (t : Octets) (s : Option State) → Follows s (view old t) (latest_of old)
    → (replies_to t turns ≡ solo limits s (own t turns)) × Follows (solo_state limits s (own t turns)) (view new t) (latest_of new)

pub record HasRun (limits : HostLimits) (events : List Arrival) (dones : List Told) (turns : List Turn) (old new : Tables) : Type 0 where
  pub shown : Shows limits (latest_of new) events dones turns (latest_of old)
  pub alone : IsAlone limits turns old new

-- the turns of a run on a storage: if it is open, its tables are those at the end
pub record HasRunOn {H : Type 0} (IsOpen : H → Type 0) (seen : H → Seen) (events : List Arrival) (dones : List Told) (old new : H) :
    Type 0 where
  pub end : Tables
  pub turns : List Turn
  pub has_run : HasRun (limits_in (seen old).now) events dones turns (seen old).now end
  pub now : IsOpen new → (seen new).now ≡ end

-- each tenant is alone in the run
abbrev pub EachIsAlone : Type 0
EachIsAlone = (events : List Arrival) (dones : List Told) (old new : Tables)
    → Ran events dones old new → (turns : List Turn) × HasRun (limits_in old) events dones turns old new

-- hosts that agree on a tenant's state and own acts answer it alike
abbrev pub AnswersAlike : Type 0
AnswersAlike = (limits : HostLimits) (t : Octets) (events others : List Arrival) (dones answers : List Told) (turns turns2 : List Turn)
    (old new old2 new2 : Tables)
    → HasRun limits events dones turns old new → HasRun limits others answers turns2 old2 new2
    → view old t ≡ view old2 t → own t turns ≡ own t turns2 → replies_to t turns ≡ replies_to t turns2

-- the turns are the only ones
abbrev pub HasOneTelling : Type 0
HasOneTelling = (limits : HostLimits) (to : ℕ) (events : List Arrival) (dones : List Told) (turns turns2 : List Turn) (from : ℕ)
    → Shows limits to events dones turns from → Shows limits to events dones turns2 from → turns ≡ turns2

-- two runs, one after the other, are one run of all events
abbrev pub RunsJoin : Type 0
RunsJoin = (events more : List Arrival) (dones others : List Told) (old mid new : Tables)
    → Ran events dones old mid → Ran more others mid new → Ran (events ++ more) (dones ++ others) old new
