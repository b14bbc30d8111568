-- The visits of an acceptor, in groups that are served together.
use Rattle.std.specs.Prelude.{◌≡◌, ◌⊎◌, ◌<◌, ◌≤◌, ℕ, Bool, true, false, List, [], ◌∷◌, ◌++◌, length, filter_map, All, Option, Some, Result}
use Rattle.std.specs.Prelude.{MatchResult, option_map, option_and_then}
use Rattle.std.specs.List.{flat_map, list_any}
use Rattle.bh_tables.specs.Typed.{Tables}
use Rattle.bh_storage.specs.Calls.{Seen}
use Rattle.bh_storage.specs.declared.error.Trouble.{Trouble}
use Rattle.bh_storage.specs.declared.error.Trouble.TheVariants.{StoreRefused}
use Rattle.sqlite.specs.declared.error.ErrorCode.TheVariants.{Closed as StoreClosed}
use Rattle.bh_host.specs.Runs.{RanOn, HasRunOn}
use Rattle.bh_host.specs.declared.reply.Caller.{Caller}
use Rattle.bh_host.specs.declared.reply.Caller.TheVariants.{Request, Operator}
use Rattle.bh_http.specs.Transfers.{Logs}
use Rattle.bh_connection.specs.Connections.{Ends, CameTo}
use Rattle.bh_connection.specs.Each.{RunsGoOn}
use Rattle.bh_connection.specs.Operators.{WasOrdered}
use Rattle.bh_connection.specs.Groups.{Call, IsFault, IsGroup, calls_of, in_groups}
use Rattle.bh_connection.specs.Visits.{Visit, OfClient, OfOperator, AllCame, AllAdmitted, DidBy}
use Rattle.bh_connection.specs.Visits.{NoneStops, is_stop, sweeps, event_of, told_of}
use Rattle.bh_connection.specs.declared.group.Grouped.{Grouped}
use Rattle.bh_connection.specs.declared.listener.Ports.{Ports}
use Rattle.bh_connection.specs.declared.served.Visited.{Visited}

-- ---- a store that is shut

-- the failure behind the reply of a visit, if memory or the store failed
abbrev pub trouble_of : Visit → Option Trouble
trouble_of (OfClient row) = row.served.trouble
trouble_of (OfOperator row) = row.served.trouble

-- an earlier failure of the disk has shut the store: each call fails until it is opened again
abbrev pub is_shut : Option Trouble → Bool
is_shut (Some (StoreRefused StoreClosed)) = true
is_shut _ = false

-- none of these met a store that is shut
abbrev pub AllOpen : List Visit → Type 0
AllOpen [] = Unit {0}
AllOpen (visit ∷ visits) = (is_shut (trouble_of visit) ≡ false) × AllOpen visits

-- one of these did
abbrev pub SomeShut : List Visit → Type 0
SomeShut [] = ⊥
SomeShut (visit ∷ visits) = (is_shut (trouble_of visit) ≡ true) ⊎ SomeShut visits

-- serving ended with the last of these groups: the host was lost over a backup, or the store was
-- found shut. No group before it found it so
pub record HasEnded {H : Type 0} (lost : H → Bool) (new : H) (groups : List (List Visit)) : Type 0 where
  pub before : List (List Visit)
  pub last : List Visit
  pub all : groups ≡ before ++ last ∷ []
  pub going : AllOpen (in_groups before)
  pub why : (lost new ≡ true) ⊎ SomeShut last

-- ---- a stop

-- serving ended with the last of these, an operator's line whose order is to stop. None before it
-- was such a line
pub record HasStopped (visits : List Visit) : Type 0 where
  pub before : List Visit
  pub last : Visit
  pub all : visits ≡ before ++ last ∷ []
  pub going : NoneStops before
  pub why : is_stop last ≡ true

-- these are `count`, and none is a stop; or they are at most as many, and the last one is the first
-- stop
abbrev pub WereEnough : ℕ → List Visit → Type 0
WereEnough count visits = ((length visits ≡ count) × NoneStops visits) ⊎ ((length visits ≤ count) × HasStopped visits)

-- ---- one visit

module _ {H C : Type 0} (IsIntact IsOpen : H → Type 0) (seen : H → Seen) (left : H → Tables → Type 0) (shows : C → Tables → Type 0)
    (secret : Option (List ℕ)) where
  -- one was served by its caller's kind; a client's is no stop and no sweep
  abbrev pub VisitedAs : Caller → Ends → Ends → Visited → H → H → Type 0
  VisitedAs Request before after visited old new =
      CameTo IsIntact IsOpen seen left before after visited.served old new × (visited.stops ≡ false) × (visited.sweeps ≡ false)
  VisitedAs Operator before after visited old new =
      WasOrdered IsIntact IsOpen seen left shows secret before after visited.served visited.stops visited.sweeps old new

-- ---- visits in turn

module _ {H : Type 0} (IsIntact IsOpen : H → Type 0) (seen : H → Seen) (left : H → Tables → Type 0) (secret : Option (List ℕ)) where
  -- those with a request or an order are the events of a run, and each tenant is alone in it
  pub record HasServedAll (visits : List Visit) (old new : H) : Type 0 where
    pub each : AllCame secret (seen old).limits visits
    pub ran : IsIntact new → RanOn IsOpen seen left (filter_map event_of visits) (filter_map told_of visits) old new
    pub alone : IsIntact new → HasRunOn IsOpen seen (filter_map event_of visits) (filter_map told_of visits) old new

  -- some were served
  abbrev pub WasVisited : H → H → Type 0
  WasVisited old new = (visits : List Visit) × HasServedAll visits old new

  -- `count` connections were served, or at most as many if serving ended with a stop or an error.
  -- With an error none was a stop. All are clients' unless operators connect too
  abbrev pub WereCounted : {X E : Type 0} → Bool → ℕ → Result X E → H → H → Type 0
  WereCounted operated count result old new = (visits : List Visit) × HasServedAll visits old new × AllAdmitted operated visits
      × MatchResult result (λ _. WereEnough count visits) (λ _. (length visits ≤ count) × NoneStops visits)

  -- `count` connections were served, each that was accepted, in groups, or the last one was the first
  -- stop; or fewer, and then a fault ended it, or a backup over which the host was lost, or the first
  -- group for which the store was found shut, and none was a stop. No other call was made
  abbrev pub HasListened : {X E : Type 0} → Bool → (H → Bool) → Option (List Call) → Option (List Call) → ℕ → Result X E → H → H → Type 0
  HasListened operated lost before after count result old new =
      (groups : List (List Visit)) × All IsGroup groups × HasServedAll (in_groups groups) old new × AllAdmitted operated (in_groups groups)
      × MatchResult result
      (λ _. WereEnough count (in_groups groups) × AllOpen (in_groups groups) × Logs before after (flat_map calls_of groups))
      (λ _. NoneStops (in_groups groups) × (((length (in_groups groups) < count) × AllOpen (in_groups groups)
      × ((fault : List Call) × IsFault fault × Logs before after (flat_map calls_of groups ++ fault)))
      ⊎ (HasEnded lost new groups × (length (in_groups groups) ≤ count) × Logs before after (flat_map calls_of groups))))

-- ---- one group

module _ {H C : Type 0} (IsIntact IsOpen : H → Type 0) (seen : H → Seen) (left : H → Tables → Type 0) (shows : C → Tables → Type 0)
    (secret : Option (List ℕ)) where
  -- one visit was made, or several at once, which are a run
  abbrev pub DidGroup : List Visit → H → H → Type 0
  DidGroup [] old new = ⊥
  DidGroup (visit ∷ []) old new = DidBy IsIntact IsOpen seen left shows visit old new
  DidGroup (visit ∷ next ∷ visits) old new = HasServedAll IsIntact IsOpen seen left secret (visit ∷ next ∷ visits) old new

  -- a group was accepted and served, and this is told of it
  pub record IsServed (operated : Bool) (before after : Option (List Call)) (old new : H) (grouped : Grouped) (group : List Visit) :
      Type 0 where
    pub is : IsGroup group
    pub admitted : AllAdmitted operated group
    pub calls : Logs before after (calls_of group)
    pub served : HasServedAll IsIntact IsOpen seen left secret group old new
    pub goes_on : IsIntact new → RunsGoOn IsOpen seen left (filter_map event_of group) (filter_map told_of group) old new
    pub did : DidGroup group old new
    pub count : grouped.count ≡ length group
    pub stopped : grouped.stops ≡ true → HasStopped group × AllOpen group
    pub going : grouped.stops ≡ false → NoneStops group
    pub swept : grouped.sweeps ≡ list_any sweeps group
    pub shut : grouped.is_shut ≡ true → SomeShut group
    pub opened : grouped.is_shut ≡ false → AllOpen group

  abbrev pub Serves : Bool → Option (List Call) → Option (List Call) → Grouped → H → H → Type 0
  Serves operated before after grouped old new = (group : List Visit) × IsServed operated before after old new grouped group

  -- there are no calls after a fault
  pub record HasFailed (before after : Option (List Call)) (old new : H) (fault : List Call) : Type 0 where
    pub which : IsFault fault
    pub calls : Logs before after fault
    pub same : new ≡ old

  -- a group came and was served; or there was a fault
  abbrev pub ComesGroup : {E : Type 0} → Bool → Option (List Call) → Option (List Call) → Result Grouped E → H → H → Type 0
  ComesGroup operated before after result old new = MatchResult result (λ grouped. Serves operated before after grouped old new)
      (λ _. (fault : List Call) × HasFailed before after old new fault)

-- a host that was lost was served up to some group
abbrev pub WasLost : {H C : Type 0} → (H → Type 0) → (H → Type 0) → (H → Seen) → (H → Tables → Type 0) → Option (List ℕ)
    → (C → Tables → Type 0) → (H → Bool) → H → H → Type 0
WasLost {H = H} IsIntact IsOpen seen left secret shows lost old new = lost old ≡ false → lost new ≡ true
    → (visits : List Visit) × (mid : H) × (group : List Visit) × HasServedAll IsIntact IsOpen seen left secret visits old mid
    × DidGroup IsIntact IsOpen seen left shows secret group mid new

-- the secret of the operators of a port, if there is one
abbrev pub secret_of : Ports → Option (List ℕ)
secret_of ports = option_and_then (λ o. option_map (λ s. s.now) o.secret) ports.operator
