-- A list of connections, and that each tenant is answered as if it were alone.
use Rattle.std.specs.Prelude.{◌≡◌, ℕ, false, List, [], ◌∷◌, ◌++◌, map, filter_map, Option, option_map}
use Rattle.bh_types.specs.Limits.{HostLimits}
use Rattle.bh_event.specs.Events.{Arrival as Event}
use Rattle.bh_tables.specs.Typed.{Tables}
use Rattle.bh_storage.specs.Calls.{Seen}
use Rattle.bh_host.specs.Runs.{Told, RanOn, HasRunOn}
use Rattle.bh_http.specs.Transfers.{Transfer}
use Rattle.bh_host.specs.Turns.{request_at}
use Rattle.bh_connection.specs.Connections.{Ends, ends_of, Outcome, Came}
use Rattle.bh_connection.specs.declared.each.Arrival.{Arrival}
use Rattle.bh_connection.specs.declared.served.Served.{Served}

-- neither end has failed
abbrev pub IsGoing : {R W : Type 0} → Arrival R W → Type 0
IsGoing arrival = (arrival.reader.failed ≡ false) × (arrival.writer.failed ≡ false)

abbrev pub ends : {R W : Type 0} → (R → Option (List ℕ)) → (R → Option (List Transfer)) → (W → Option (List ℕ))
    → (W → Option (List Transfer)) → Arrival R W → Ends
ends remaining given contents taken arrival = ends_of remaining given contents taken arrival.reading arrival.reader arrival.writer

-- one connection: its ends before and after, its result, and its request, if it had one
pub record Row : Type 0 where
  pub before : Ends
  pub after : Ends
  pub served : Served
  pub outcome : Outcome

abbrev pub EachCame : HostLimits → List Row → Type 0
EachCame limits [] = Unit {0}
EachCame limits (row ∷ rows) = Came limits row.before row.after row.served row.outcome × EachCame limits rows

-- the events of connections, and their replies
abbrev pub event_of : Row → Option Event
event_of row = option_map (λ o. request_at row.before.reading o.0) row.outcome

abbrev pub told_of : Row → Option Told
told_of row = option_map (λ o. o.1) row.outcome

-- each run that came to `old` goes on with these events, and comes to `new`
abbrev pub RunsGoOn : {H : Type 0} → (H → Type 0) → (H → Seen) → (H → Tables → Type 0) → List Event → List Told → H → H → Type 0
RunsGoOn {H} IsOpen seen left events tolds old new = (first : H) (before : List Event) (dones : List Told)
    → RanOn IsOpen seen left before dones first old → RanOn IsOpen seen left (before ++ events) (dones ++ tolds) first new

-- connections were served in turn; those whose reader didn't fail are the events of a run, and a run
-- before goes on with them
pub record HasServedAs {H : Type 0} (IsIntact IsOpen : H → Type 0) (seen : H → Seen) (left : H → Tables → Type 0) (before after : List Ends)
    (serveds : List Served) (old new : H) (rows : List Row) : Type 0 where
  pub befores : map (λ (row : Row). row.before) rows ≡ before
  pub afters : map (λ (row : Row). row.after) rows ≡ after
  pub served : map (λ (row : Row). row.served) rows ≡ serveds
  pub each : EachCame (seen old).limits rows
  pub ran : IsIntact new → RanOn IsOpen seen left (filter_map event_of rows) (filter_map told_of rows) old new
  pub goes_on : IsIntact new → RunsGoOn IsOpen seen left (filter_map event_of rows) (filter_map told_of rows) old new

abbrev pub HasServed : {H : Type 0} → (H → Type 0) → (H → Type 0) → (H → Seen) → (H → Tables → Type 0) → List Ends → List Ends → List Served
    → H → H → Type 0
HasServed IsIntact IsOpen seen left before after serveds old new =
    (rows : List Row) × HasServedAs IsIntact IsOpen seen left before after serveds old new rows

-- the connections of a list were served, and their events treat each tenant as if it were alone
abbrev pub HasServedAlone : {H : Type 0} → (H → Type 0) → (H → Type 0) → (H → Seen) → (H → Tables → Type 0) → List Ends → List Ends
    → List Served → H → H → Type 0
HasServedAlone IsIntact IsOpen seen left before after serveds old new =
    (rows : List Row) × HasServedAs IsIntact IsOpen seen left before after serveds old new rows
    × HasRunOn IsOpen seen (filter_map event_of rows) (filter_map told_of rows) old new

-- requests were applied in turn, each at a reading of the clock, and no other event
abbrev pub RanSome : {H : Type 0} → (H → Type 0) → (H → Seen) → (H → Tables → Type 0) → H → H → Type 0
RanSome IsOpen seen left old new =
    (requests : List (ℕ × List ℕ)) × (tolds : List Told) × RanOn IsOpen seen left (map (λ r. request_at r.0 r.1) requests) tolds old new
