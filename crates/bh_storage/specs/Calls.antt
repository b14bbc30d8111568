-- A storage call's effect, as a host needs it: the current and the committed tables, the machine's
-- steps, and what a crash leaves.
use Rattle.std.specs.Prelude.{◌≡◌, ◌≢◌, ◌⊎◌, ℕ, Bool, true, false, List, map, Option, Result, Ok, Err}
use Rattle.bh_types.specs.Limits.{HostLimits}
use Rattle.bh_model.specs.Runs.{stamp_of, purged_tenant}
use Rattle.bh_model.specs.State.{Octets, State}
use Rattle.bh_tables.specs.Typed.{Tables}
use Rattle.bh_view.specs.Becomes.{KeepsShared}
use Rattle.bh_view.specs.Sweep.{swept}
use Rattle.bh_view.specs.View.{view, latest_of, limits_in, with_latest, rows_purged}
use Rattle.bh_storage.specs.Reports.{sweep_counts, store_counts, tenant_view, tenants_told}
use Rattle.bh_storage.specs.declared.report.SweepReport.{SweepReport}
use Rattle.bh_storage.specs.declared.report.StoreReport.{StoreReport}
use Rattle.bh_http.specs.Bodies.{Coming, Gives, IsWhole, MayBreak}
use Rattle.bh_storage.specs.declared.error.Outcome.{Outcome}
use Rattle.bh_storage.specs.declared.error.Outcome.TheVariants.{Done, Spoilt}
use Rattle.bh_storage.specs.declared.report.TenantReport.{TenantReport}
use Rattle.bh_storage.specs.declared.error.StepError.{StepError}
use Rattle.bh_storage.specs.declared.error.StepError.TheVariants.{Refused, Failed}

-- the current tables, the committed ones, whether a transaction is open, and the limits for
-- requests
pub record Seen : Type 0 where
  pub now : Tables
  pub kept : Tables
  pub inside : Bool
  pub limits : HostLimits

-- no transaction is open, all is committed, the tables are sound, and they have these limits
pub record IsAtRest (IsSound : Tables → Type 0) (s : Seen) : Type 0 where
  pub outside : s.inside ≡ false
  pub committed : s.kept ≡ s.now
  pub sound : IsSound s.now
  pub limits : limits_in s.now ≡ s.limits

-- a transaction is open on sound tables
pub record IsWorking (IsSound : Tables → Type 0) (s : Seen) : Type 0 where
  pub inside : s.inside ≡ true
  pub sound : IsSound s.now
  pub limits : limits_in s.now ≡ s.limits

-- the current tables are sound, and either all of them are committed or a transaction is open on
-- them
abbrev pub IsReadable : (Tables → Type 0) → Seen → Type 0
IsReadable IsSound s = IsAtRest IsSound s ⊎ IsWorking IsSound s

-- the store returned what was written to it, and no fault has shut it
abbrev pub Clean : {H : Type 0} → (H → Type 0) → (H → Type 0) → H → Type 0
Clean IsIntact IsOpen host = IsIntact host × IsOpen host

-- unless memory or the store failed
abbrev pub Unless : {X E : Type 0} → Result X (StepError E) → Type 0 → Type 0
Unless (Ok x) P = P
Unless (Err (Refused r)) P = P
Unless (Err (Failed trouble)) P = Unit {0}

-- what a crash may leave from then on was possible before
abbrev pub LeavesNothingNew : {H : Type 0} → (H → Tables → Type 0) → H → H → Type 0
LeavesNothingNew left old new = (x : Tables) → left new x → left old x

-- what a crash may leave from then on was possible before, or is sound: a host can be opened on it
abbrev pub LeavesSound : {H : Type 0} → (Tables → Type 0) → (H → Tables → Type 0) → H → H → Type 0
LeavesSound IsSound left old new = (x : Tables) → left new x → left old x ⊎ IsSound x

-- a call inside a transaction commits nothing, whether it succeeds or not
pub record Within {H : Type 0} (IsIntact IsOpen : H → Type 0) (seen : H → Seen) (left : H → Tables → Type 0) (old new : H) : Type 0 where
  pub intact : IsIntact new → IsIntact old
  pub opened : IsIntact new → IsOpen new → IsOpen old
  pub survives : IsOpen old → IsIntact new → LeavesNothingNew left old new
  pub kept : Clean IsIntact IsOpen new → (seen new).kept ≡ (seen old).kept
  pub limits : (seen new).limits ≡ (seen old).limits

-- such a call does not shut the store, and the transaction goes on with sound tables; `Done` tells
-- when: on Ok, or unless memory or the store failed
pub record StaysAtWork {H : Type 0} (IsIntact IsOpen : H → Type 0) (IsSound : Tables → Type 0) (seen : H → Seen)
    (left : H → Tables → Type 0) (Done : Type 0 → Type 0) (old new : H) : Type 0 where
  pub within : Within IsIntact IsOpen seen left old new
  pub opens : Done (IsOpen old → IsIntact new → IsOpen new)
  pub working : Done (Clean IsIntact IsOpen new → IsWorking IsSound (seen new))

-- the transaction is committed: the current tables are the committed ones
pub record Commits (old new : Seen) : Type 0 where
  pub now : new.now ≡ old.now
  pub kept : new.kept ≡ old.now
  pub outside : new.inside ≡ false

-- the transaction is rolled back: the committed tables are the current ones
pub record TakesBack (old new : Seen) : Type 0 where
  pub now : new.now ≡ old.kept
  pub kept : new.kept ≡ old.kept
  pub outside : new.inside ≡ false

-- all tenants but one see no change
abbrev pub OthersSame : Octets → Tables → Tables → Type 0
OthersSame t old new = (u : Octets) → u ≢ t → view new u ≡ view old u

-- a reading's stamp is written as the last one; no tenant sees a change
pub record Stamps (reading m : ℕ) (old new : Tables) : Type 0 where
  pub stamp : stamp_of reading (latest_of old) ≡ Ok m
  pub is : new ≡ with_latest m old
  pub latest : latest_of new ≡ m
  pub views : (u : Octets) → view new u ≡ view old u

-- a tenant's uploads that are stale at a moment are removed, and nothing else
pub record Purges (t : Octets) (at : ℕ) (old new : Tables) : Type 0 where
  pub is : new ≡ rows_purged t at old
  pub own : view new t ≡ purged_tenant (view old t) at
  pub others : OthersSame t old new
  pub latest : latest_of new ≡ latest_of old

-- a tenant's step: the machine's step returns the answer and the state, and what all tenants share
-- is unchanged
pub record GivesStep {Y E : Type 0} (t : Octets) (step : Option State → Result (Y × Option State) E) (y : Y) (old new : Tables) :
    Type 0 where
  pub gives : step (view old t) ≡ Ok (y, view new t)
  pub others : OthersSame t old new
  pub latest : latest_of new ≡ latest_of old
  pub shared : KeepsShared old new

-- the step's answer and state, or its refusal with unchanged tables
abbrev pub Carries : {X Y E : Type 0} → (X → Y) → Octets → (Option State → Result (Y × Option State) E) → Tables → Tables
    → Result X (StepError E) → Type 0
Carries shown t step old new (Ok x) = GivesStep t step (shown x) old new
Carries shown t step old new (Err (Refused r)) = (step (view old t) ≡ Err r) × (new ≡ old)
Carries shown t step old new (Err (Failed trouble)) = Unit {0}

-- ---- a step whose body is received in pieces

-- unless memory or the store failed, the body was incomplete, or the tables are spoilt
abbrev pub UnlessSpoilt : {X E : Type 0} → Result (Outcome X E) (StepError E) → Type 0 → Type 0
UnlessSpoilt (Ok (Done x)) P = P
UnlessSpoilt (Ok (Spoilt r)) P = Unit {0}
UnlessSpoilt (Err (Refused r)) P = P
UnlessSpoilt (Err (Failed trouble)) P = Unit {0}

-- the machine's step returns the answer and the state; or it refuses, and the tables are unchanged
-- or have to be rolled back
abbrev pub Receives : {X Y E : Type 0} → (X → Y) → Octets → (Option State → Result (Y × Option State) E) → Tables → Tables
    → Result (Outcome X E) (StepError E) → Type 0
Receives shown t step old new (Ok (Done x)) = GivesStep t step (shown x) old new
Receives shown t step old new (Ok (Spoilt r)) = step (view old t) ≡ Err r
Receives shown t step old new (Err (Refused r)) = (step (view old t) ≡ Err r) × (new ≡ old)
Receives shown t step old new (Err (Failed trouble)) = Unit {0}

-- if a step was decided, all of its body was received
abbrev pub IsDecided : {X E : Type 0} → Result (Outcome X E) (StepError E) → Coming → Type 0
IsDecided (Ok outcome) body = IsWhole body
IsDecided (Err (Refused r)) body = IsWhole body
IsDecided (Err (Failed trouble)) body = MayBreak body

-- some bytes of a body were received, by which the step is judged
pub record Operates {X Y E : Type 0} (shown : X → Y) (t : Octets) (step : Octets → Option State → Result (Y × Option State) E)
    (clean : Type 0) (before after : Coming) (old new : Tables) (result : Result (Outcome X E) (StepError E)) : Type 0 where
  pub given : Octets
  pub gives : Gives before after given
  pub decided : IsDecided result after
  pub carries : clean → Receives shown t (step given) old new result

-- if a step is done
abbrev pub IfDone : {X E : Type 0} → Result (Outcome X E) (StepError E) → Type 0 → Type 0
IfDone (Ok (Done x)) P = P
IfDone (Ok (Spoilt r)) P = Unit {0}
IfDone (Err e) P = Unit {0}

-- a step on a body's bytes, with more clauses if it is done
pub record OperatesBy {X Y E : Type 0} (shown : X → Y) (t : Octets) (step : Octets → Option State → Result (Y × Option State) E)
    (Says : Octets → Type 0) (clean : Type 0) (before after : Coming) (old new : Tables) (result : Result (Outcome X E) (StepError E)) :
    Type 0 where
  pub given : Octets
  pub gives : Gives before after given
  pub decided : IsDecided result after
  pub carries : clean → Receives shown t (step given) old new result
  pub says : IfDone result (clean → Says given)

-- a query, which changes nothing
abbrev pub Decides : {X Y E : Type 0} → (X → Y) → Result Y E → Tables → Tables → Result X (StepError E) → Type 0
Decides shown answer old new (Ok x) = (answer ≡ Ok (shown x)) × (new ≡ old)
Decides shown answer old new (Err (Refused r)) = (answer ≡ Err r) × (new ≡ old)
Decides shown answer old new (Err (Failed trouble)) = Unit {0}

-- the first `limit` of what is due, whoever's it is, are removed and counted; each tenant's state,
-- once purged, is unchanged
pub record Sweeps (at limit : ℕ) (report : SweepReport) (old new : Tables) : Type 0 where
  pub is : new ≡ swept at limit old
  pub counted : report ≡ sweep_counts at limit old
  pub views : (t : Octets) → purged_tenant (view new t) at ≡ purged_tenant (view old t) at
  pub latest : latest_of new ≡ latest_of old

-- the counts of what is stored; nothing changes
pub record Reports (report : StoreReport) (old new : Tables) : Type 0 where
  pub counted : report ≡ store_counts old
  pub same : new ≡ old

-- all tenants are returned, and no table changes
pub record Lists (listed : List TenantReport) (old new : Tables) : Type 0 where
  pub told : map tenant_view listed ≡ tenants_told old
  pub same : new ≡ old
