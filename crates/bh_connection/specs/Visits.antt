-- Visits to a host: connections of clients, and of operators.
use Rattle.std.specs.Prelude.{◌≡◌, ℕ, Bool, true, false, List, [], ◌∷◌, Option, Some, None, option_map, option_and_then}
use Rattle.bh_types.specs.Limits.{HostLimits}
use Rattle.bh_event.specs.Events.{Arrival as Event}
use Rattle.bh_tables.specs.Typed.{Tables}
use Rattle.bh_storage.specs.Calls.{Seen}
use Rattle.bh_host.specs.Runs.{Told, RanOn}
use Rattle.bh_connection.specs.Connections.{Ends, Came, Did}
use Rattle.bh_connection.specs.Each as each
use Rattle.bh_connection.specs.Each.{Row, RanSome}
use Rattle.bh_connection.specs.Operators.{Heard, CutOff, NotHeard, NoOrder, Obeyed, Copied, Stopping, Hears, Notes, Obeys, is_stopping}
use Rattle.bh_connection.specs.Operators.{is_sweeping}
use Rattle.bh_connection.specs.declared.doors.Operators.{Operators}
use Rattle.bh_connection.specs.declared.served.Served.{Served}

-- an operator's connection: its ends before and after, its result, and the result of its line
pub record LineRow : Type 0 where
  pub before : Ends
  pub after : Ends
  pub served : Served
  pub heard : Heard

pub data Visit : Type 0 where
  OfClient : (row : Row) → Visit
  OfOperator : (row : LineRow) → Visit

-- the event of the line, and its reply; a copy is not an event, nor is a stop
abbrev pub event_heard : Heard → Option Event
event_heard CutOff = None
event_heard NotHeard = None
event_heard NoOrder = None
event_heard (Obeyed event told) = Some event
event_heard (Copied to reply) = None
event_heard Stopping = None

abbrev pub told_heard : Heard → Option Told
told_heard CutOff = None
told_heard NotHeard = None
told_heard NoOrder = None
told_heard (Obeyed event told) = Some told
told_heard (Copied to reply) = None
told_heard Stopping = None

abbrev pub event_of : Visit → Option Event
event_of (OfClient row) = each.event_of row
event_of (OfOperator row) = event_heard row.heard

abbrev pub told_of : Visit → Option Told
told_of (OfClient row) = each.told_of row
told_of (OfOperator row) = told_heard row.heard

-- its result, under an operator's secret if there is one: a request was read, or a line
abbrev pub CameBy : Option (List ℕ) → HostLimits → Visit → Type 0
CameBy secret limits (OfClient row) = Came limits row.before row.after row.served row.outcome
CameBy secret limits (OfOperator row) = Hears secret row.before row.after row.served row.heard

abbrev pub AllCame : Option (List ℕ) → HostLimits → List Visit → Type 0
AllCame secret limits [] = Unit {0}
AllCame secret limits (visit ∷ visits) = CameBy secret limits visit × AllCame secret limits visits

-- the failure that is noted of an operator's line
abbrev pub NotedBy : Visit → Type 0
NotedBy (OfClient row) = Unit {0}
NotedBy (OfOperator row) = Notes row.heard row.served.trouble

-- an operator's line whose order is to stop
abbrev pub is_stop : Visit → Bool
is_stop (OfClient row) = false
is_stop (OfOperator row) = is_stopping row.heard

-- one whose order is to sweep
abbrev pub sweeps : Visit → Bool
sweeps (OfClient row) = false
sweeps (OfOperator row) = is_sweeping row.heard

-- none of these is a line to stop
abbrev pub NoneStops : List Visit → Type 0
NoneStops [] = Unit {0}
NoneStops (visit ∷ visits) = (is_stop visit ≡ false) × NoneStops visits

-- the operators' secret, if there is a port for them and they have one
abbrev pub secret_at : Option Operators → Option (List ℕ)
secret_at operators = option_and_then (λ o. option_map (λ s. s.now) o.secret) operators

-- operators connect only if there is a port for them
abbrev pub IsAdmitted : Bool → Visit → Type 0
IsAdmitted operated (OfClient row) = Unit {0}
IsAdmitted operated (OfOperator row) = operated ≡ true

abbrev pub AllAdmitted : Bool → List Visit → Type 0
AllAdmitted operated [] = Unit {0}
AllAdmitted operated (visit ∷ visits) = IsAdmitted operated visit × AllAdmitted operated visits

module _ {H C : Type 0} (IsIntact IsOpen : H → Type 0) (seen : H → Seen) (left : H → Tables → Type 0) (shows : C → Tables → Type 0) where
  abbrev pub DidBy : Visit → H → H → Type 0
  DidBy (OfClient row) old new = Did IsIntact IsOpen seen left row.before.reading row.served.ended row.outcome old new
  DidBy (OfOperator row) old new = Obeys IsIntact IsOpen seen left shows row.heard old new

-- requests and orders were applied in turn, each at a reading of the clock
abbrev pub RanAny : {H : Type 0} → (H → Type 0) → (H → Seen) → (H → Tables → Type 0) → H → H → Type 0
RanAny IsOpen seen left old new = (events : List Event) × (tolds : List Told) × RanOn IsOpen seen left events tolds old new

-- without a port for operators, only requests
abbrev pub RanFor : {H : Type 0} → Bool → (H → Type 0) → (H → Seen) → (H → Tables → Type 0) → H → H → Type 0
RanFor false IsOpen seen left old new = RanSome IsOpen seen left old new
RanFor true IsOpen seen left old new = RanAny IsOpen seen left old new
