-- Requests that are read first, applied together, and then answered.
use Rattle.std.specs.Prelude.{◌≡◌, ◌≤◌, ◌++◌, ℕ, List, [], ◌∷◌, take, false, None}
use Rattle.std.specs.Io.KnownBytes.{Appends}
use Rattle.bh_types.specs.Limits.{HostLimits}
use Rattle.bh_event.specs.Events.{Arrival as Event}
use Rattle.bh_http.specs.Transfers.{Gives, Takes}
use Rattle.bh_host.specs.Replies.{wanting_text}
use Rattle.bh_host.specs.Runs.{Told}
use Rattle.bh_host.specs.Turns.{request_at}
use Rattle.bh_host.specs.declared.reply.Caller.TheVariants.{Request}
use Rattle.bh_link.specs.Taking.{Took, TookAtMost, is_fault}
use Rattle.bh_link.specs.declared.request.TakeError.{TakeError}
use Rattle.bh_link.specs.declared.request.TakeError.TheVariants.{ReadFailed, OutOfMemory}
use Rattle.bh_model.specs.Runs.{last_reading}
use Rattle.bh_tables.specs.Typed.{Tables}
use Rattle.bh_storage.specs.Calls.{Seen, LeavesNothingNew}
use Rattle.bh_connection.specs.Connections.{Ends, EndsIn}
use Rattle.bh_connection.specs.Each.{HasServed}
use Rattle.bh_connection.specs.declared.each.Arrival.{Arrival}
use Rattle.bh_connection.specs.declared.served.End.TheVariants.{ReadFailed as Broken}
use Rattle.bh_connection.specs.declared.served.Served.{Served}

-- its writer hasn't failed, and the clock's reading is in range
abbrev pub IsAnswerable : {R W : Type 0} → Arrival R W → Type 0
IsAnswerable arrival = (arrival.writer.failed ≡ false) × (arrival.reading ≤ last_reading)

-- ---- a request that is read whole

-- these bytes of its reader are the event, and nothing else of its ends has changed
pub record IsTaken (limits : HostLimits) (before after : Ends) (event : Event) : Type 0 where
  pub bytes : List ℕ
  pub is : event ≡ request_at before.reading bytes
  pub took : Took limits before.left after.left bytes
  pub gave : Gives before.gave after.gave bytes false
  pub going : before.reader_failed ≡ false
  pub same : after ≡ record before { left = after.left; gave = after.gave }

-- it could not be read whole: its reader failed, or memory ran out
pub record IsUntaken (limits : HostLimits) (error : TakeError) (before after : Ends) : Type 0 where
  pub bytes : List ℕ
  pub took : TookAtMost limits before.left after.left bytes
  pub gave : Gives before.gave after.gave bytes after.reader_failed
  pub failed : after.reader_failed ≡ is_fault error
  pub going : before.writer_failed ≡ false
  pub same : after ≡ record before { left = after.left; gave = after.gave; reader_failed = after.reader_failed }

abbrev pub AllTaken : HostLimits → List Ends → List Ends → List Event → Type 0
AllTaken limits [] [] [] = Unit {0}
AllTaken limits [] [] (event ∷ events) = ⊥
AllTaken limits [] (after ∷ afters) events = ⊥
AllTaken limits (before ∷ befores) [] events = ⊥
AllTaken limits (before ∷ befores) (after ∷ afters) [] = ⊥
AllTaken limits (before ∷ befores) (after ∷ afters) (event ∷ events) =
    IsTaken limits before after event × AllTaken limits befores afters events

-- the first of these couldn't be, and the others are as they were
abbrev pub IsFirstUntaken : {A : Type 0} → HostLimits → (A → Ends) → TakeError → List A → List A → Type 0
IsFirstUntaken limits ends error [] afters = ⊥
IsFirstUntaken limits ends error (before ∷ befores) [] = ⊥
IsFirstUntaken limits ends error (before ∷ befores) (after ∷ afters) =
    IsUntaken limits error (ends before) (ends after) × (afters ≡ befores)

-- ---- a reply that is sent

-- the first bytes of the reply were sent, and nothing else of its ends has changed
pub record IsTold (before after : Ends) (served : Served) (told : Told) : Type 0 where
  pub stamp : told.0 ≡ served.stamp
  pub out : Appends before.held after.held (take served.sent told.1)
  pub took : Takes before.took after.took (take served.sent told.1) after.writer_failed
  pub ended : EndsIn served.ended told.0 served.sent told.1 after.writer_failed
  pub same : after ≡ record before { held = after.held; took = after.took; writer_failed = after.writer_failed }

abbrev pub AllTold : List Ends → List Ends → List Served → List Told → Type 0
AllTold [] [] [] [] = Unit {0}
AllTold [] [] [] (told ∷ tolds) = ⊥
AllTold [] [] (served ∷ serveds) tolds = ⊥
AllTold [] (after ∷ afters) serveds tolds = ⊥
AllTold (before ∷ befores) [] serveds tolds = ⊥
AllTold (before ∷ befores) (after ∷ afters) [] tolds = ⊥
AllTold (before ∷ befores) (after ∷ afters) (served ∷ serveds) [] = ⊥
AllTold (before ∷ befores) (after ∷ afters) (served ∷ serveds) (told ∷ tolds) =
    IsTold before after served told × AllTold befores afters serveds tolds

-- these replies were sent, and the results follow those before
abbrev pub HasTold : List Told → List Ends → List Ends → List Served → List Served → Type 0
HasTold tolds before after serveds serveds_after =
    (more : List Served) × (serveds_after ≡ serveds ++ more) × AllTold before after more tolds

-- a request that wasn't read whole is left: if its reader failed, nothing is sent
abbrev pub IsLeft : TakeError → Ends → Ends → Served → Type 0
IsLeft ReadFailed before after served = (served.ended ≡ Broken) × (served.stamp ≡ None) × (served.sent ≡ 0) × (after ≡ before)
IsLeft OutOfMemory before after served = IsTold before after served (None, wanting_text Request)

-- the tables don't change while replies are sent, and a crash may leave nothing new
pub record KeepsTables {H : Type 0} (IsIntact IsOpen : H → Type 0) (seen : H → Seen) (left : H → Tables → Type 0) (old new : H) :
    Type 0 where
  pub same : IsIntact new → IsOpen new → IsOpen old × ((seen new).now ≡ (seen old).now)
  pub survives : IsIntact new → LeavesNothingNew left old new

-- ---- results

-- connections were served, and their results follow those before
abbrev pub HasServedMore : {H : Type 0} → (H → Type 0) → (H → Type 0) → (H → Seen) → (H → Tables → Type 0) → List Ends → List Ends
    → List Served → List Served → H → H → Type 0
HasServedMore IsIntact IsOpen seen left before after serveds serveds_after old new =
    (more : List Served) × (serveds_after ≡ serveds ++ more) × HasServed IsIntact IsOpen seen left before after more old new
