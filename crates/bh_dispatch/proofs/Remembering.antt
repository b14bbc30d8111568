-- A host as a storage, beside what is remembered of its tables.
use Rattle.std.proofs.Common.{rules, ◌≡◌, ℕ, true, false, is_ok, Option, Some, Result, Ok, Err, OnOk, IfOk, refl, sym, ap, ◌∙◌, subst}
use Rattle.sqlite_trees.specs.declared.store.Store.{Ghosts}
use Rattle.bh_shelf.specs.declared.shelf.Shelf.{Ghosts as Shelves}
use Rattle.bh_types.specs.Limits.{HostLimits}
use Rattle.bh_types.specs.declared.access_key.AccessKeyId.{AccessKeyId}
use Rattle.bh_types.specs.declared.bucket_state.BucketState.{BucketState}
use Rattle.bh_types.specs.Rejections.{plain}
use Rattle.bh_types.specs.declared.refusal.Refusal.{Refusal}
use Rattle.bh_types.specs.declared.rejection.Rejection.{Rejection}
use Rattle.std.specs.Result.{result_map_both}
use Rattle.bh_types.specs.declared.wanted.Wanted.{Wanted}
use Rattle.bh_http.specs.Bodies.{Coming}
use Rattle.bh_machine.specs.Machine.{operated}
use Rattle.bh_model.specs.Credentials.{authenticate}
use Rattle.bh_model.specs.Operations as machine
use Rattle.bh_model.specs.State.{Octets, Bucket, State}
use Rattle.bh_operation.specs.declared.address.ObjectName.{ObjectName}
use Rattle.bh_operation.specs.declared.operation.Operation.{Operation}
use Rattle.bh_operation.specs.declared.operation.Operation.TheVariants.{GetObject}
use Rattle.bh_host.specs.Offers.{offer_view, responded, IfPlanned}
use Rattle.bh_host.proofs.Responding.{responded_left}
use Rattle.bh_storage.specs.Errors.{step_rejected}
use Rattle.bh_storage.specs.Plans.{IsMeasured}
use Rattle.bh_storage.specs.declared.answer.FoundVersion.{FoundVersion}
use Rattle.bh_host.specs.declared.offer.Offer.{Offer}
use Rattle.bh_host.specs.declared.offer.Offer.TheVariants.{Whole, Planned}
use Rattle.bh_tables.specs.Typed.{Tables}
use Rattle.bh_storage.specs.Calls.{Seen, IsWorking, Within, Unless, UnlessSpoilt, Stamps, Purges, Decides, Carries, Operates}
use Rattle.bh_storage.specs.declared.error.Outcome.{Outcome}
use Rattle.bh_storage.specs.declared.error.Outcome.TheVariants.{Done, Spoilt}
use Rattle.bh_storage.specs.declared.error.StepError.{StepError}
use Rattle.bh_storage.specs.declared.error.StepError.TheVariants.{Refused, Failed}
use Rattle.bh_view.specs.Bodies.{IsSoundHost}
use Rattle.bh_view.specs.View.{view}
use Rattle.bh_memo.specs.Facts.{Facts, nothing, has_no_rule, has_state, is_accepted, holds}
use Rattle.bh_memo.specs.Recalled.{recalled}
use Rattle.bh_memo.proofs.Calls.{ok_with, unless_with, spoilt_with, within_recalled, within_then, goes_on, stays_same}
use Rattle.bh_memo.proofs.Holding.{AddsQuiet, AddsBucket, AddsSecret, holds_stamped, holds_quiet, holds_bucket, holds_secret, mode_of_bucket, state_by}
use Rattle.bh_memo.proofs.Rules.{purged_same}
use Rattle.bh_memo.proofs.Recalling.{alone, works_holding, works_alone, works_under}
use Rattle.bh_schema.specs.Storage as storage
use Rattle.bh_memo.proofs.Keeping.{Keeps, purge_keeps, holds_kept}
use Rattle.bh_dispatch.proofs.Leaving.{leaves, done_leaves}
use Rattle.bh_dispatch.specs.Changing.{changes_buckets}
use Rattle.bh_dispatch.specs.Seeing.{GoesOn, seen, RecallsOn}
use Rattle.bh_dispatch.specs.declared.sql_host.SqlHost.{SqlHost}
use Rattle.bh_schema.specs.declared.host.Host.{Host}

module _ {S P D : Type 0} (g : Ghosts S) (k : Shelves P) where
  abbrev pub IsClean : SqlHost S P D → Type 0
  IsClean r = storage.IsClean g k r.host

  abbrev pub HostWithin : Host S P D → Host S P D → Type 0
  HostWithin = Within (λ h. storage.IsIntact g k h) (λ h. storage.IsOpen g k h) (λ h. storage.seen g k h) (λ h. storage.left g k h)

  abbrev pub RecallsWithin : SqlHost S P D → SqlHost S P D → Type 0
  RecallsWithin = Within (λ r. storage.IsIntact g k r.host) (λ r. storage.IsOpen g k r.host) (seen g k) (λ r. storage.left g k r.host)

  pub within : (old new : SqlHost S P D) → HostWithin old.host new.host → RecallsWithin old new
  within old new w =
      within_recalled (λ (h : Host S P D). storage.IsIntact g k h) (λ h. storage.IsOpen g k h) (λ h. storage.seen g k h) (λ h. storage.left g k h) (λ (r : SqlHost S P D). r.host) (λ r. r.memo) old new w

  module _ (digest : Octets → Octets) (old new : SqlHost S P D) where
    abbrev pub IsSo : Type 0
    IsSo = IsClean new → holds new.memo (storage.seen g k new.host).now ≡ true

    pub on_ok : {X E : Type 0} (result : Result X E) → GoesOn g k digest (OnOk result) old.host new.host → OnOk result IsSo → RecallsOn g k digest (OnOk result) old new
    on_ok result s so =
        goes_on (λ (h : Host S P D). storage.IsIntact g k h) (λ h. storage.IsOpen g k h) (λ h. storage.seen g k h) (λ h. storage.left g k h) (λ (r : SqlHost S P D). r.host) (λ r. r.memo) digest (OnOk result)
        (ok_with result) old new s so

    pub unless : {X E : Type 0} (result : Result X (StepError E)) → GoesOn g k digest (Unless result) old.host new.host → Unless result IsSo → RecallsOn g k digest (Unless result) old new
    unless result s so =
        goes_on (λ (h : Host S P D). storage.IsIntact g k h) (λ h. storage.IsOpen g k h) (λ h. storage.seen g k h) (λ h. storage.left g k h) (λ (r : SqlHost S P D). r.host) (λ r. r.memo) digest (Unless result)
        (unless_with result) old new s so

    pub unless_spoilt : {X E : Type 0} (result : Result (Outcome X E) (StepError E)) → GoesOn g k digest (UnlessSpoilt result) old.host new.host → UnlessSpoilt result IsSo → RecallsOn g k digest (UnlessSpoilt result) old new
    unless_spoilt result s so =
        goes_on (λ (h : Host S P D). storage.IsIntact g k h) (λ h. storage.IsOpen g k h) (λ h. storage.seen g k h) (λ h. storage.left g k h) (λ (r : SqlHost S P D). r.host) (λ r. r.memo) digest (UnlessSpoilt result)
        (spoilt_with result) old new s so

  -- no call, and an answer
  pub at_rest : (digest : Octets → Octets) (Finishes : Type 0 → Type 0) → ((A : Type 0) → A → Finishes A) → (r : SqlHost S P D) → (IsClean r → IsWorking (IsSoundHost digest) (seen g k r)) → RecallsOn g k digest Finishes r r
  at_rest digest Finishes give r works =
      stays_same (λ (h : Host S P D). storage.IsIntact g k h) (λ h. storage.IsOpen g k h) (λ h. storage.seen g k h) (λ h. storage.left g k h) (λ (r : SqlHost S P D). r.host) (λ r. r.memo) digest Finishes give r works

  -- no call, of which nothing more is said
  pub nothing_done : (r : SqlHost S P D) → RecallsWithin r r
  nothing_done r = record { intact = λ h. h; opened = λ intact h. h; survives = λ up intact x h. h; kept = λ clean. refl; limits = refl }

  pub then : (a b c : SqlHost S P D) → (storage.IsOpen g k a.host → storage.IsIntact g k b.host → storage.IsOpen g k b.host) → RecallsWithin a b → RecallsWithin b c → RecallsWithin a c
  then a b c opens one two =
      within_then (λ (h : Host S P D). storage.IsIntact g k h) (λ h. storage.IsOpen g k h) (λ h. storage.seen g k h) (λ h. storage.left g k h) (λ (r : SqlHost S P D). r.host) (λ r. r.memo) a b c opens one two

  module _ (digest : Octets → Octets) (old : SqlHost S P D) (works : IsClean old → IsWorking (IsSoundHost digest) (seen g k old)) where
    -- what holds where the host is clean
    pub so : IsClean old → holds old.memo (storage.seen g k old.host).now ≡ true
    so clean = works_holding old.memo (storage.seen g k old.host) (works clean)

    pub alone_is : IsClean old → seen g k old ≡ storage.seen g k old.host
    alone_is clean = works_alone old.memo (storage.seen g k old.host) (works clean)

    pub host_works : IsClean old → IsWorking (IsSoundHost digest) (storage.seen g k old.host)
    host_works clean = works_under old.memo (storage.seen g k old.host) (works clean)

  module _ (digest : Octets → Octets) (old : SqlHost S P D) (works : IsClean old → IsWorking (IsSoundHost digest) (seen g k old)) (after : Facts) (b : Host S P D) (w : HostWithin old.host b) where
    abbrev Clean : Type 0
    Clean = storage.IsClean g k b

    -- a host that is clean was so before
    pub first : Clean → IsClean old
    first clean = (w.intact clean.0, w.opened clean.0 clean.1)

    pub was : Clean → seen g k old ≡ storage.seen g k old.host
    was clean = alone_is digest old works (first clean)

    held : Clean → holds old.memo (storage.seen g k old.host).now ≡ true
    held clean = so digest old works (first clean)

    -- there is a new stamp, and it is remembered
    pub stamped_so : (reading m : ℕ) → after ≡ record old.memo { latest = Some m } → (Clean → Stamps reading m (storage.seen g k old.host).now (storage.seen g k b).now) → Clean → holds after (storage.seen g k b).now ≡ true
    stamped_so reading m is stamps clean =
        let it = stamps clean in
        ap (λ f. holds f (storage.seen g k b).now) is ∙ holds_stamped old.memo m (storage.seen g k old.host).now (storage.seen g k b).now it.views it.latest (held clean)

    module _ (t : Octets) (at : ℕ) (purges : Clean → Purges t at (storage.seen g k old.host).now (storage.seen g k b).now) where
      -- a tenant has rules: what is remembered of it stays
      pub ruled_so : Clean → holds old.memo (storage.seen g k b).now ≡ true
      ruled_so clean =
          let it = purges clean in
          let a = (storage.seen g k old.host).now in
          holds_kept t a (storage.seen g k b).now it.others old.memo (subst (Keeps (view a t)) (sym it.own) (purge_keeps (view a t) at)) it.latest (held clean)

      -- it has none, and that is remembered
      pub quiet_so : AddsQuiet t old.memo after → (Clean → has_no_rule (view (storage.seen g k old.host).now t) ≡ true) → Clean → holds after (storage.seen g k b).now ≡ true
      quiet_so adds none clean =
          let a = (storage.seen g k old.host).now in
          let same : (storage.seen g k b).now ≡ a = (purges clean).is ∙ purged_same a t (host_works digest old works (first clean)).sound.sound (none clean) at in
          holds_quiet t old.memo after (storage.seen g k b).now adds (ap (λ (x : Tables). has_no_rule (view x t)) same ∙ none clean) (ap (holds old.memo) same ∙ held clean)

    -- a bucket was asked for, and its state is remembered
    pub bucket_so : (t name : Octets) (state : BucketState) → AddsBucket (record { tenant = t; bucket = name; state = state }) old.memo after
        → (Clean → (mode_of_bucket name (view (storage.seen g k old.host).now t) ≡ Ok state) × ((storage.seen g k b).now ≡ (storage.seen g k old.host).now)) → Clean → holds after (storage.seen g k b).now ≡ true
    bucket_so t name state adds decided clean =
        let it = decided clean in
        let a = (storage.seen g k old.host).now in
        holds_bucket (record { tenant = t; bucket = name; state = state }) old.memo after (storage.seen g k b).now adds
        (ap (λ (x : Tables). has_state name state (view x t)) it.1 ∙ state_by name state (view a t) it.0) (ap (holds old.memo) it.1 ∙ held clean)

    -- a key was accepted, and its secret is remembered
    pub secret_so : (key : AccessKeyId) (secret : Octets) → AddsSecret (record { key = key; secret = secret }) old.memo after
        → (Clean → (authenticate key secret (view (storage.seen g k old.host).now key.tenant) ≡ Ok tt) × ((storage.seen g k b).now ≡ (storage.seen g k old.host).now)) → Clean → holds after (storage.seen g k b).now ≡ true
    secret_so key secret adds decided clean =
        let it = decided clean in
        holds_secret (record { key = key; secret = secret }) old.memo after (storage.seen g k b).now adds
        (ap (λ (x : Tables). is_accepted (record { key = key; secret = secret }) (view x key.tenant)) it.1 ∙ ap is_ok it.0) (ap (holds old.memo) it.1 ∙ held clean)

-- ---- whether each fact is still so

pub unless_any : {X E : Type 0} (result : Result X (StepError E)) (A : Type 0) → A → Unless result A
unless_any (Ok x) A a = a
unless_any (Err (Refused r)) A a = a
unless_any (Err (Failed trouble)) A a = tt

pub unless_map : {X E : Type 0} (result : Result X (StepError E)) (A B : Type 0) → (A → B) → Unless result A → Unless result B
unless_map (Ok x) A B f a = f a
unless_map (Err (Refused r)) A B f a = f a
unless_map (Err (Failed trouble)) A B f a = tt

pub ok_any : {X E : Type 0} (result : Result X E) (A : Type 0) → A → OnOk result A
ok_any (Ok x) A a = a
ok_any (Err e) A a = tt

-- a question that was decided leaves the tables
pub decided_same : {X Y E : Type 0} (shown : X → Y) (answer : Result Y E) (old new : Tables) (clean : Type 0) (result : Result X (StepError E)) → (clean → Decides shown answer old new result) → Unless result (clean → new ≡ old)
decided_same shown answer old new clean (Ok x) h = λ c. (h c).1
decided_same shown answer old new clean (Err (Refused r)) h = λ c. (h c).1
decided_same shown answer old new clean (Err (Failed trouble)) h = tt

-- so does what is told of all tenants
pub told_so : {X E : Type 0} (facts : Facts) (Told : X → Tables → Tables → Type 0) (stays : (x : X) (a b : Tables) → Told x a b → b ≡ a) (old new : Tables) (clean : Type 0) (result : Result X E) → (clean → holds facts old ≡ true)
    → IfOk result (λ x. clean → Told x old new) → OnOk result (clean → holds facts new ≡ true)
told_so facts Told stays old new clean (Ok x) held h = λ c. ap (holds facts) (stays x old new (h c)) ∙ held c
told_so facts Told stays old new clean (Err e) held h = tt

pub still_so : {X E : Type 0} (facts : Facts) (old new : Tables) (clean : Type 0) (result : Result X (StepError E)) → (clean → holds facts old ≡ true) → Unless result (clean → new ≡ old) → Unless result (clean → holds facts new ≡ true)
still_so facts old new clean result held same = unless_map result _ _ (λ is c. ap (holds facts) (is c) ∙ held c) same

-- an operation that changes no bucket itself leaves each fact as it is
pub leaves_so : (facts : Facts) (limits : HostLimits) (at : ℕ) (t : Octets) (operation : Operation) → changes_buckets operation ≡ false → (start end : Coming) (read old new : Tables) (clean : Type 0) → (clean → holds facts old ≡ true)
    → (result : Result (Outcome Offer Rejection) (StepError Rejection)) → Operates (offer_view read) t (λ given s. responded (operated limits at given operation s)) clean start end old new result → UnlessSpoilt result (clean → holds facts new ≡ true)
leaves_so facts limits at t operation changes start end read old new clean held (Ok (Done x)) h = λ c.
    let it = h.carries c in
    let step = operated limits at h.given operation (view old t) in
    let own = done_leaves (view old t) (view new t) (responded step) (offer_view read x) (responded_left (Keeps (view old t)) step (leaves (view old t) at limits h.given operation changes)) it.gives in
    holds_kept t old new it.others facts own it.latest (held c)
leaves_so facts limits at t operation changes start end read old new clean held (Ok (Spoilt r)) h = tt
leaves_so facts limits at t operation changes start end read old new clean held (Err (Refused r)) h = λ c. ap (holds facts) (h.carries c).1 ∙ held c
leaves_so facts limits at t operation changes start end read old new clean held (Err (Failed trouble)) h = tt

pub none_so : (facts : Facts) (tables : Tables) → facts ≡ nothing → holds facts tables ≡ true
none_so facts tables is = ap (λ f. holds f tables) is

-- ---- what is said once more

pub measured_still : {E : Type 0} (facts : Facts) (s : Seen) (clean : Type 0) (result : Result FoundVersion (StepError E)) → Unless result (clean → holds facts s.now ≡ true) → IfOk result (λ found. clean → IsMeasured s.now found)
    → IfOk result (λ found. clean → IsMeasured (recalled facts s).now found)
measured_still facts s clean (Ok found) so h = λ c. subst (λ (x : Seen). IsMeasured x.now found) (sym (alone facts s (so c))) (h c)
measured_still facts s clean (Err e) so h = tt

pub measured_offered : {E : Type 0} (facts : Facts) (s : Seen) (clean : Type 0) (result : Result (Outcome Offer E) (StepError E)) → UnlessSpoilt result (clean → holds facts s.now ≡ true) → IfPlanned result (λ found. clean → IsMeasured s.now found)
    → IfPlanned result (λ found. clean → IsMeasured (recalled facts s).now found)
measured_offered facts s clean (Ok (Done (Whole response))) so h = tt
measured_offered facts s clean (Ok (Done (Planned found))) so h = λ c. subst (λ (x : Seen). IsMeasured x.now found) (sym (alone facts s (so c))) (h c)
measured_offered facts s clean (Ok (Spoilt r)) so h = tt
measured_offered facts s clean (Err e) so h = tt

-- ---- a refusal that tells nothing more

pub rejected_unless : (error : StepError Refusal) (P : Type 0) → Unless {X = BucketState} {E = Refusal} (Err error) P → Unless {X = FoundVersion} {E = Rejection} (Err (step_rejected error)) P
rejected_unless (Refused r) P h = h
rejected_unless (Failed trouble) P h = tt

-- where there is no bucket, there is no object
pub no_bucket : (shown : FoundVersion → machine.Answer) (t name key : Octets) (version : Wanted) (range : Option Octets) (old new : Tables) (error : StepError Refusal)
    → Decides {X = BucketState} (λ state. state) (mode_of_bucket name (view old t)) old new (Err error) → Carries shown t (machine.get_object name key version range) old new (Err (step_rejected error))
no_bucket shown t name key version range old new (Refused r) h = (go (machine.tenant_bucket name (view old t)) refl h.0, h.1)
  where
    go : (o : Result (State × Bucket) Refusal) → machine.tenant_bucket name (view old t) ≡ o → result_map_both (λ (f : State × Bucket). f.1.mode) (λ refusal. refusal) o ≡ Err r → machine.get_object name key version range (view old t) ≡ Err (plain r)
    go o is none = search rules
no_bucket shown t name key version range old new (Failed trouble) h = tt

-- ---- an object

-- an object is found by the step of its operation
pub finds : (limits : HostLimits) (at : ℕ) (t : Octets) (object : ObjectName) (version : Wanted) (range : Option Octets) (clean : Type 0) (before after : Coming) (read old new : Tables) (result : Result (Outcome Offer Rejection) (StepError Rejection)) (operation : Operation)
    → operation ≡ GetObject object version range → Operates (offer_view read) t (λ _ s. responded (machine.get_object object.bucket object.key version range s)) clean before after old new result
    → Operates (offer_view read) t (λ bytes s. responded (operated limits at bytes operation s)) clean before after old new result
unfolding operated
finds limits at t object version range clean before after read old new result operation is h = subst (λ op. Operates (offer_view read) t (λ bytes s. responded (operated limits at bytes op s)) clean before after old new result) (sym is) h
