-- The results of a connection, and its effect on the host.
use Rattle.std.specs.Prelude.{◌≡◌, ◌⊎◌, ◌≤◌, ◌<◌, ◌++◌, ℕ, Bool, true, false, List, [], length, take, Option, Some, None, IfSome, IfNone}
use Rattle.std.specs.Io.KnownBytes.{Appends, Consumes, Keeps}
use Rattle.bh_types.specs.Limits.{HostLimits}
use Rattle.bh_event.specs.Events.{Arrival as Event}
use Rattle.bh_http.specs.Arriving.{HasExtent}
use Rattle.bh_tables.specs.Typed.{Tables}
use Rattle.bh_storage.specs.Calls.{Seen, LeavesNothingNew}
use Rattle.bh_storage.specs.Plans.{to_come}
use Rattle.bh_storage.specs.declared.plan.Plan.{Plan}
use Rattle.bh_host.specs.Answers.{in_one_write}
use Rattle.bh_host.specs.Runs.{Told}
use Rattle.bh_host.specs.Turns.{AppliedTo, IsToldApart, WouldApply, request_at}
use Rattle.bh_link.specs.Taking.{all_of}
use Rattle.bh_http.specs.Transfers.{Transfer, Logs, Gives, Takes}
use Rattle.bh_link.specs.declared.link.Link.{Link}
use Rattle.bh_connection.specs.declared.served.End.{End}
use Rattle.bh_connection.specs.declared.served.End.TheVariants.{Whole, ReadFailed, WriteFailed, StoreFailed}
use Rattle.bh_connection.specs.declared.served.Served.{Served}

-- ---- its ends

-- its reading, the rest of the reader's bytes, the writer's bytes, the transfers of their calls,
-- and whether they failed
pub record Ends : Type 0 where
  pub reading : ℕ
  pub left : Option (List ℕ)
  pub held : Option (List ℕ)
  pub gave : Option (List Transfer)
  pub took : Option (List Transfer)
  pub reader_failed : Bool
  pub writer_failed : Bool

abbrev pub ends_of : {R W : Type 0} → (R → Option (List ℕ)) → (R → Option (List Transfer)) → (W → Option (List ℕ))
    → (W → Option (List Transfer)) → ℕ → Link R → Link W → Ends
ends_of remaining given contents taken reading reader writer = record {
  reading = reading;
  left = remaining reader.inner;
  held = contents writer.inner;
  gave = given reader.inner;
  took = taken writer.inner;
  reader_failed = reader.failed;
  writer_failed = writer.failed;
}

-- as they were before the bytes of a head were read from its reader
abbrev pub begun_by : Option (List ℕ) → Option (List Transfer) → Ends → Ends
begun_by left gave ends = record ends { left = left; gave = gave }

-- how many bytes of a reply were sent, and whether the writer failed
abbrev pub EndsAs : End → ℕ → List ℕ → Bool → Type 0
EndsAs Whole sent reply failed = (sent ≡ length reply) × (failed ≡ false)
EndsAs WriteFailed sent reply failed = (sent < length reply) × (failed ≡ true)
EndsAs ReadFailed sent reply failed = ⊥
EndsAs StoreFailed sent reply failed = ⊥

-- how a reply ends that may be read from the store while it is sent: once its event counts, it may
-- end there
abbrev pub EndsIn : End → Option ℕ → ℕ → List ℕ → Bool → Type 0
EndsIn Whole stamp sent reply failed = EndsAs Whole sent reply failed
EndsIn WriteFailed stamp sent reply failed = EndsAs WriteFailed sent reply failed
EndsIn ReadFailed stamp sent reply failed = ⊥
EndsIn StoreFailed None sent reply failed = ⊥
EndsIn StoreFailed (Some m) sent reply failed = (sent ≤ length reply) × (failed ≡ false)

-- the bytes sent are the first ones of a reply, which is as planned if the storage is intact
pub record Sends (intact : Type 0) (stamp : ℕ) (planned : List ℕ) (held held_after : Option (List ℕ))
    (moved moved_after : Option (List Transfer)) (failed : Bool) (sent : ℕ) (end : End) : Type 0 where
  pub reply : List ℕ
  pub is : intact → reply ≡ planned
  pub out : Appends held held_after (take sent reply)
  pub took : Takes moved moved_after (take sent reply) failed
  pub ended : EndsIn end (Some stamp) sent reply failed
  pub short : intact → end ≡ StoreFailed → sent < length reply

-- the bytes of the request, with the stamp and the reply; none if its reader failed
abbrev pub Outcome : Type 0
Outcome = Option (List ℕ × Told)

-- the reader failed, at its last call: no reply is sent, and no byte after an accepted request's
-- head and body was read
pub record IsBroken (limits : HostLimits) (before after : Ends) (served : Served) : Type 0 where
  pub taken : List ℕ
  pub consumed : Consumes before.left after.left taken
  pub within : (n : ℕ) → HasExtent limits (all_of before.left taken) n → length taken ≤ n
  pub ended : served.ended ≡ ReadFailed
  pub stamp : served.stamp ≡ None
  pub sent : served.sent ≡ 0
  pub out : Keeps before.held after.held
  pub gave : Gives before.gave after.gave taken true
  pub took : Logs before.took after.took []
  pub reader : after.reader_failed ≡ true
  pub writer : after.writer_failed ≡ false

-- no call of the reader failed, and the request is all the bytes that it would return. The bytes
-- sent are the first ones of the reply. They are all of them unless a call of the writer failed or
-- took none of some bytes, or the store failed once the event counted
pub record IsAnswered (limits : HostLimits) (before after : Ends) (served : Served) (request : List ℕ) (told : Told) : Type 0 where
  pub taken : List ℕ
  pub consumed : Consumes before.left after.left taken
  pub all : request ≡ all_of before.left taken
  -- no byte after an accepted request's head and body was read, and with a stamp each byte of them
  -- was
  pub within : (n : ℕ) → HasExtent limits request n → length taken ≤ n
  pub whole : IfSome served.stamp (λ _. (n : ℕ) → HasExtent limits request n → length taken ≡ n)
  pub stamp : told.0 ≡ served.stamp
  pub out : Appends before.held after.held (take served.sent told.1)
  pub ended : EndsIn served.ended told.0 served.sent told.1 after.writer_failed
  pub gave : Gives before.gave after.gave taken false
  pub took : Takes before.took after.took (take served.sent told.1) after.writer_failed
  pub reader : after.reader_failed ≡ false

abbrev pub Came : HostLimits → Ends → Ends → Served → Outcome → Type 0
Came limits before after served None = IsBroken limits before after served
Came limits before after served (Some (request, told)) = IsAnswered limits before after served request told

-- ---- its host

-- an event was applied, as `bh_host::apply` promises
pub record IsApplied {H : Type 0} (IsIntact IsOpen : H → Type 0) (seen : H → Seen) (left : H → Tables → Type 0) (event : Event)
    (told : Told) (old new : H) : Type 0 where
  pub applied : IsIntact new → AppliedTo IsOpen seen event old new told.0 told.1
  pub told_apart : IsIntact new → IsToldApart event told.0 told.1
  pub acknowledged : IfSome told.0 (λ _. IsIntact new → (x : Tables) → left new x → x ≡ (seen new).now)
  pub crash : IfNone told.0 (IsIntact new → (x : Tables) → left new x → left old x ⊎ (IsOpen old × WouldApply event (seen old).now x))

-- a transaction that ended by its reader's fault was rolled back
pub record IsTakenBack {H : Type 0} (IsIntact IsOpen : H → Type 0) (seen : H → Seen) (left : H → Tables → Type 0) (old new : H) :
    Type 0 where
  pub same : IsIntact new → IsOpen new → IsOpen old × ((seen new).now ≡ (seen old).now)
  pub survives : IsIntact new → LeavesNothingNew left old new

-- the tables don't change while a reply is sent, and a crash may leave nothing new. A fault may
-- have shut the storage only if reading the reply failed
pub record IsKept {H : Type 0} (IsIntact IsOpen : H → Type 0) (seen : H → Seen) (left : H → Tables → Type 0) (ended : End) (old new : H) :
    Type 0 where
  pub intact : IsIntact new → IsIntact old
  pub opens : IsIntact new → IsOpen old → (ended ≡ StoreFailed) ⊎ IsOpen new
  pub same : IsIntact new → IsOpen new → IsOpen old × ((seen new).now ≡ (seen old).now)
  pub survives : IsIntact new → LeavesNothingNew left old new

-- a reply that ends with an object's bytes: they are read from these tables, and don't fit in one
-- write
pub record IsReadFrom (tables : Tables) (reply : List ℕ) : Type 0 where
  pub head : List ℕ
  pub plan : Plan
  pub is : reply ≡ head ++ to_come plan tables
  pub great : in_one_write < length (to_come plan tables)

-- an event was applied, and then its reply was sent: the store's fault ends only a reply that is
-- read from the store
pub record HasAnswered {H : Type 0} (IsIntact IsOpen : H → Type 0) (seen : H → Seen) (left : H → Tables → Type 0) (event : Event)
    (told : Told) (ended : End) (old new : H) : Type 0 where
  pub mid : H
  pub applied : IsIntact new → IsApplied IsIntact IsOpen seen left event told old mid
  pub kept : IsKept IsIntact IsOpen seen left ended mid new
  pub read : IsIntact new → ended ≡ StoreFailed → IsReadFrom (seen mid).now told.1

-- if its reader failed, nothing of it is left
abbrev pub Did : {H : Type 0} → (H → Type 0) → (H → Type 0) → (H → Seen) → (H → Tables → Type 0) → ℕ → End → Outcome → H → H → Type 0
Did IsIntact IsOpen seen left reading ended None old new = IsTakenBack IsIntact IsOpen seen left old new
Did IsIntact IsOpen seen left reading ended (Some (request, told)) old new =
    HasAnswered IsIntact IsOpen seen left (request_at reading request) told ended old new

-- fewer bytes were sent than its reply has
abbrev pub IsCutShort : Outcome → ℕ → Type 0
IsCutShort None sent = Unit {0}
IsCutShort (Some brought) sent = sent < length brought.1.1

pub record CameTo {H : Type 0} (IsIntact IsOpen : H → Type 0) (seen : H → Seen) (left : H → Tables → Type 0) (before after : Ends)
    (served : Served) (old new : H) : Type 0 where
  pub outcome : Outcome
  pub came : Came (seen old).limits before after served outcome
  pub did : Did IsIntact IsOpen seen left before.reading served.ended outcome old new
  pub short : IsIntact new → served.ended ≡ StoreFailed → IsCutShort outcome served.sent
