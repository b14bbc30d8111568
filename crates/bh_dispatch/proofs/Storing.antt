-- From the words of a connection to those of a host's storage.
use Rattle.std.proofs.Common.{◌≡◌, ℕ, ◌≤◌, true, length, Option, Result, Ok, Err, refl, sym, ap, ◌∙◌, subst, OnOk, IfOk}
use Rattle.sqlite.specs.State.{State}
use Rattle.bh_types.specs.Limits.{HostLimits}
use Rattle.bh_model.proofs.BoundLemmas.{used_stays_bounded}
use Rattle.bh_model.specs.Runs.{purged_tenant}
use Rattle.bh_model.specs.QuotaLaws.{IsBounded, StaysBounded}
use Rattle.bh_model.specs.State.{Octets, State as Machine}
use Rattle.bh_tables.specs.Typed.{Tables}
use Rattle.bh_view.specs.Blocks.{AreDigests}
use Rattle.bh_view.specs.Bodies.{AreBounded, IsSoundHost}
use Rattle.bh_view.specs.Sound.{IsSound}
use Rattle.bh_view.specs.Sweep.{uploads_swept, blocks_swept, swept, is_complete}
use Rattle.bh_view.specs.View.{view, latest_of, limits_in, rows_purged}
use Rattle.bh_view.proofs.BoundLemmas.{bounded_but, bounded_step}
use Rattle.bh_view.proofs.PurgeLemmas.{rows_gone}
use Rattle.bh_view.proofs.SweptLemmas.{swept_latest, swept_bounded}
use Rattle.bh_storage.specs.declared.error.StepError.{StepError}
use Rattle.bh_storage.specs.declared.error.StepError.TheVariants.{Refused, Failed}
use Rattle.bh_storage.specs.declared.report.SweepReport.{SweepReport}
use Rattle.bh_storage.specs.Calls as calls
use Rattle.bh_cache.specs.Kept.{KeptBlocks, Agrees}
use Rattle.bh_base.specs.Layer.{IsStateClean}
use Rattle.bh_schema.specs.Storage.{seen_in, beside}
use Rattle.bh_schema.specs.Working.{tables_at, IsWorking, StillWorking, StillWorkingBy}
use Rattle.bh_cache.proofs.Agreeing.{agrees_grown}
use Rattle.bh_schema.proofs.Storing.{AreBoth, both, inside_of, shows_in, holds_seen, same_limits, beside_agreed, works_agreed, plain, under}
use Rattle.bh_operation.specs.declared.operation.Operation.{Operation}
use Rattle.bh_dispatch.specs.Stored.{StoresBody}

module _ (digest : Octets → Octets) (l : HostLimits) (s : State) where
  abbrev pub IsAtWork : Type 0
  IsAtWork = calls.IsWorking (IsSoundHost digest) (seen_in l s)

  host_seen : IsAtWork → IsSoundHost digest (tables_at s)
  host_seen working = subst (IsSoundHost digest) (shows_in l s working) working.sound

  pub seen_working : IsAtWork → IsWorking s
  seen_working working = let host = host_seen working in record { inside = inside_of l s working; sound = host.sound; bodies = host.bodies }

  pub digests_seen : IsAtWork → AreDigests digest (tables_at s).blocks
  digests_seen working = (host_seen working).digests

  pub bounded_seen : IsAtWork → AreBounded (tables_at s)
  bounded_seen working = (host_seen working).bounded

  pub early_seen : (at : ℕ) → IsAtWork → at ≤ latest_of (seen_in l s).now → at ≤ latest_of (tables_at s)
  early_seen at working = subst (λ x. at ≤ latest_of x) (shows_in l s working)

pub shown_now : (l : HostLimits) (s : State) → IsWorking s → ((seen_in l s).now ≡ tables_at s) × ((seen_in l s).inside ≡ true)
shown_now l s working = holds_seen l (tables_at s) s (record { within = working.inside; is = refl })

pub limits_seen : (l : HostLimits) (s : State) → (seen_in l s).limits ≡ l
unfolding seen_in
limits_seen l s = refl

-- ---- what the tenants use

-- a step of a tenant that keeps it bounded
pub carried_bounded : {X Y E : Type 0} (shown : X → Y) (t : Octets) (step : Option Machine → Result (Y × Option Machine) E) (result : Result X (StepError E)) (old new : Tables) → StaysBounded step → AreBounded old
    → calls.Carries shown t step old new result → calls.Unless result (AreBounded new)
carried_bounded shown t step (Ok x) old new stays bounded h = bounded_but t old new h.others (bounded_step step stays (shown x) (view old t) (view new t) h.gives (bounded t)) bounded
carried_bounded shown t step (Err (Refused r)) old new stays bounded h = subst AreBounded (sym h.1) bounded
carried_bounded shown t step (Err (Failed trouble)) old new stays bounded h = tt

-- what is left without the stale uploads
purged_bounded : (old new : Tables) (t : Octets) (at : ℕ) → calls.Purges t at old new → AreBounded old → AreBounded new
purged_bounded old new t at h bounded = bounded_but t old new h.others (subst IsBounded (sym h.own) (used_stays_bounded.purged_bounded at (view old t) (bounded t))) bounded

-- ---- a call on the connection

module _ (digest : Octets → Octets) (l : HostLimits) (old new : State) where
  pub working_seen : IsAtWork digest l old → StillWorkingBy digest old new → AreBounded (tables_at new) → IsAtWork digest l new
  working_seen was still bounded = record {
    inside = (shown_now l new still.is).1;
    sound = subst (IsSoundHost digest) (sym (shown_now l new still.is).0)
        (record { sound = still.is.sound; bodies = still.is.bodies; digests = still.digests (digests_seen digest l old was); bounded = bounded });
    limits = ap limits_in (shown_now l new still.is).0 ∙ still.limits ∙ sym (ap limits_in (shows_in l old was)) ∙ was.limits ∙ same_limits l new old;
  }

  pub still_working : {X Y E : Type 0} (shown : X → Y) (t : Octets) (step : Option Machine → Result (Y × Option Machine) E) (result : Result X (StepError E)) → StaysBounded step → (AreBoth new → IsAtWork digest l old)
      → calls.Unless result (IsStateClean new → StillWorkingBy digest old new) → (IsStateClean new → calls.Carries shown t step (tables_at old) (tables_at new) result) → calls.Unless result (AreBoth new → IsAtWork digest l new)
  still_working shown t step (Ok x) stays was h gives = λ clean.
      working_seen (was clean) (h (both clean)) (carried_bounded shown t step (Ok x) (tables_at old) (tables_at new) stays (bounded_seen digest l old (was clean)) (gives (both clean)))
  still_working shown t step (Err (Refused r)) stays was h gives = λ clean.
      working_seen (was clean) (h (both clean)) (carried_bounded shown t step (Err (Refused r)) (tables_at old) (tables_at new) stays (bounded_seen digest l old (was clean)) (gives (both clean)))
  still_working shown t step (Err (Failed trouble)) stays was h gives = tt

  -- the same step, of the tables that a storage shows
  pub carried : {X Y E : Type 0} (shown : X → Y) (t : Octets) (step : Option Machine → Result (Y × Option Machine) E) (result : Result X (StepError E)) → IsAtWork digest l old → AreBoth new
      → calls.Unless result (IsStateClean new → StillWorkingBy digest old new) → calls.Carries shown t step (tables_at old) (tables_at new) result → calls.Carries shown t step (seen_in l old).now (seen_in l new).now result
  carried shown t step (Ok x) was clean working h = rw (shows_in l old was, (shown_now l new (working (both clean)).is).0) h
  carried shown t step (Err (Refused r)) was clean working h = rw (shows_in l old was, (shown_now l new (working (both clean)).is).0) h
  carried shown t step (Err (Failed trouble)) was clean working h = tt

-- an answer means that the connection is open
pub opened : {X E : Type 0} (I A B : Type 0) (result : Result X (StepError E)) → calls.Unless result (I → A → B) → calls.Unless result (A → I → B)
opened I A B (Ok x) h = λ up intact. h intact up
opened I A B (Err (Refused r)) h = λ up intact. h intact up
opened I A B (Err (Failed trouble)) h = tt

-- ---- a host's call

-- what is left without the stale uploads shows the purged state
pub purges : (old new : Tables) (t : Octets) (at : ℕ) → IsSound old → new ≡ rows_purged t at old → calls.Purges t at old new
purges old new t at sound is =
    let change = rows_gone old new t at sound is in
    record { is = is; own = change.shown; others = change.others; latest = change.latest }

module _ (digest : Octets → Octets) (l : HostLimits) (old new : State) where
  pub works_after : {X E : Type 0} (result : Result X E) (t : Octets) (at : ℕ) → (AreBoth new → IsAtWork digest l old) → OnOk result (IsStateClean new → StillWorking old new) → OnOk result (IsStateClean new → tables_at new ≡ rows_purged t at (tables_at old))
      → OnOk result (AreBoth new → IsAtWork digest l new)
  works_after (Ok x) t at was still h = λ clean.
      let sound = (seen_working digest l old (was clean)).sound in
      working_seen digest l old new (was clean) (still (both clean) digest)
      (purged_bounded (tables_at old) (tables_at new) t at (purges (tables_at old) (tables_at new) t at sound (h (both clean))) (bounded_seen digest l old (was clean)))
  works_after (Err e) t at was still h = tt

  pub purged_after : {X E : Type 0} (result : Result X E) (t : Octets) (at : ℕ) → (AreBoth new → IsAtWork digest l old) → OnOk result (IsStateClean new → StillWorking old new) → OnOk result (IsStateClean new → tables_at new ≡ rows_purged t at (tables_at old))
      → OnOk result (AreBoth new → calls.Purges t at (seen_in l old).now (seen_in l new).now)
  purged_after (Ok x) t at was still h = λ clean.
      rw (shows_in l old (was clean), (shown_now l new (still (both clean) digest).is).0) (purges (tables_at old) (tables_at new) t at (seen_working digest l old (was clean)).sound (h (both clean)))
  purged_after (Err e) t at was still h = tt

-- ---- a sweep

module _ (digest : Octets → Octets) (l : HostLimits) (old new : State) where
  -- nobody uses more than before
  pub swept_works : {X E : Type 0} (result : Result X E) (at n : ℕ) → (AreBoth new → IsAtWork digest l old) → OnOk result (AreDigests digest (tables_at old).blocks → IsStateClean new → StillWorkingBy digest old new)
      → OnOk result (IsStateClean new → tables_at new ≡ swept at n (tables_at old)) → OnOk result (AreBoth new → IsAtWork digest l new)
  swept_works (Ok x) at n was still is = λ clean.
      let working = still (digests_seen digest l old (was clean)) (both clean) in
      working_seen digest l old new (was clean) working
      (swept_bounded at n (tables_at old) (tables_at new) (seen_working digest l old (was clean)).sound working.is.sound (is (both clean)) (bounded_seen digest l old (was clean)))
  swept_works (Err e) at n was still is = tt

  pub sweeps_after : {E : Type 0} (result : Result SweepReport E) (at n : ℕ) → (AreBoth new → IsAtWork digest l old) → OnOk result (AreDigests digest (tables_at old).blocks → IsStateClean new → StillWorkingBy digest old new)
      → OnOk result (IsStateClean new → tables_at new ≡ swept at n (tables_at old))
      → IfOk result (λ report. IsStateClean new → report.uploads ≡ length (uploads_swept at n (tables_at old)))
      → IfOk result (λ report. IsStateClean new → report.blocks ≡ length (blocks_swept at n (tables_at old)))
      → IfOk result (λ report. IsStateClean new → report.complete ≡ is_complete at n (tables_at old))
      → OnOk result (IsStateClean new → AreDigests digest (tables_at old).blocks → (t : Octets) → purged_tenant (view (tables_at new) t) at ≡ purged_tenant (view (tables_at old) t) at)
      → IfOk result (λ report. AreBoth new → calls.Sweeps at n report (seen_in l old).now (seen_in l new).now)
  sweeps_after (Ok report) at n was still is uploads blocks complete views = λ clean.
      let digests = digests_seen digest l old (was clean) in
      rw (shows_in l old (was clean), (shown_now l new (still digests (both clean)).is).0) (record {
        is = is (both clean);
        counted = λ i. record { uploads = uploads (both clean) i; blocks = blocks (both clean) i; complete = complete (both clean) i };
        views = views (both clean) digests;
        latest = ap latest_of (is (both clean)) ∙ swept_latest at n (tables_at old);
      })
  sweeps_after (Err e) at n was still is uploads blocks complete views = tt

-- ---- what is told of all tenants, by a call that leaves all tables

module _ {X E : Type 0} (Told : X → Tables → Tables → Type 0) (stays : (x : X) (a b : Tables) → Told x a b → b ≡ a) (digest : Octets → Octets) (l : HostLimits) (old new : State) where
  pub told_works : (result : Result X E) → (AreBoth new → IsAtWork digest l old) → OnOk result (IsStateClean new → StillWorking old new)
      → IfOk result (λ x. IsStateClean new → Told x (tables_at old) (tables_at new)) → OnOk result (AreBoth new → IsAtWork digest l new)
  told_works (Ok x) was still h = λ clean.
      working_seen digest l old new (was clean) (still (both clean) digest) (subst AreBounded (sym (stays x (tables_at old) (tables_at new) (h (both clean)))) (bounded_seen digest l old (was clean)))
  told_works (Err e) was still h = tt

  pub told_after : (result : Result X E) → (AreBoth new → IsAtWork digest l old) → OnOk result (IsStateClean new → StillWorking old new)
      → IfOk result (λ x. IsStateClean new → Told x (tables_at old) (tables_at new))
      → IfOk result (λ x. AreBoth new → Told x (seen_in l old).now (seen_in l new).now)
  told_after (Ok x) was still h = λ clean. rw (shows_in l old (was clean), (shown_now l new (still (both clean) digest).is).0) (h (both clean))
  told_after (Err e) was still h = tt

  pub told_blocks : (result : Result X E) → IfOk result (λ x. IsStateClean new → Told x (tables_at old) (tables_at new)) → OnOk result (IsStateClean new → (tables_at new).blocks ≡ (tables_at old).blocks)
  told_blocks (Ok x) h = λ clean. ap (λ (t : Tables). t.blocks) (stays x (tables_at old) (tables_at new) (h clean))
  told_blocks (Err e) h = tt

pub opened_ok : {X E : Type 0} (I A B : Type 0) (result : Result X E) → OnOk result (I → A → B) → OnOk result (A → I → B)
opened_ok I A B (Ok x) h = λ up intact. h intact up
opened_ok I A B (Err e) h = tt

-- ---- a call whose promise holds of all functions holds of this one

pub by_any : {X E : Type 0} (digest : Octets → Octets) (old new : State) (result : Result X (StepError E)) → calls.Unless result (IsStateClean new → StillWorking old new) → calls.Unless result (IsStateClean new → StillWorkingBy digest old new)
by_any digest old new (Ok x) h = λ clean. h clean digest
by_any digest old new (Err (Refused r)) h = λ clean. h clean digest
by_any digest old new (Err (Failed trouble)) h = tt

-- ---- what an operation stores of the bytes that are sent with it

module _ (digest : Octets → Octets) (size : ℕ) (body : Octets) (old new : State) where
  abbrev StoredBy : Operation → Type 0
  StoredBy operation = IsStateClean new → StoresBody digest size body operation (tables_at old) (tables_at new)

  pub stores_its : {X E : Type 0} (result : Result X E) (is own : Operation) → is ≡ own → OnOk result (StoredBy own) → OnOk result (StoredBy is)
  stores_its result is own same h = subst (λ (x : Operation). OnOk result (StoredBy x)) (sym same) h

  pub stores_none : {X E : Type 0} (result : Result X E) (is own : Operation) → is ≡ own → StoredBy own → OnOk result (StoredBy is)
  stores_none (Ok x) is own same h = subst StoredBy (sym same) h
  stores_none (Err e) is own same h = tt

-- ---- beside blocks that are kept in memory

pub limits_shown : (kept : KeptBlocks) (l : HostLimits) (s : State) → (beside kept (seen_in l s)).limits ≡ l
unfolding seen_in beside
limits_shown kept l s = refl

-- what is kept agrees with the rows
pub agrees_seen : {digest : Octets → Octets} (kept : KeptBlocks) (l : HostLimits) (s : State) → calls.IsWorking (IsSoundHost digest) (beside kept (seen_in l s)) → Agrees kept (tables_at s).blocks
agrees_seen kept l s working = subst (λ (t : Tables). Agrees kept t.blocks) (shows_in l s (under _ _ working)) (works_agreed _ _ working)

module _ (digest : Octets → Octets) (before after : KeptBlocks) (l : HostLimits) (old new : State) (was : AreBoth new → calls.IsWorking (IsSoundHost digest) (beside before (seen_in l old))) where
  plain_now : IsAtWork digest l new → Agrees after (tables_at new).blocks → beside after (seen_in l new) ≡ seen_in l new
  plain_now working agrees = beside_agreed after (seen_in l new) (subst (λ (t : Tables). Agrees after t.blocks) (sym (shows_in l new working)) agrees)

  pub at_work : IsAtWork digest l new → Agrees after (tables_at new).blocks → calls.IsWorking (IsSoundHost digest) (beside after (seen_in l new))
  at_work working agrees = subst (calls.IsWorking (IsSoundHost digest)) (sym (plain_now working agrees)) working

  pub told : (P : Tables → Tables → Type 0) → AreBoth new → IsAtWork digest l new → Agrees after (tables_at new).blocks → P (seen_in l old).now (seen_in l new).now → P (beside before (seen_in l old)).now (beside after (seen_in l new)).now
  told P clean working agrees h = rw (plain _ _ (was clean), plain_now working agrees) h

  -- of a step
  module _ {X E : Type 0} where
    pub works_beside : (result : Result X (StepError E)) → calls.Unless result (AreBoth new → IsAtWork digest l new) → calls.Unless result (IsStateClean new → Agrees after (tables_at new).blocks)
        → calls.Unless result (AreBoth new → calls.IsWorking (IsSoundHost digest) (beside after (seen_in l new)))
    works_beside (Ok x) working agrees = λ clean. at_work (working clean) (agrees (both clean))
    works_beside (Err (Refused r)) working agrees = λ clean. at_work (working clean) (agrees (both clean))
    works_beside (Err (Failed trouble)) working agrees = tt

    pub carries_beside : {Y : Type 0} (shown : X → Y) (t : Octets) (step : Option Machine → Result (Y × Option Machine) E) (result : Result X (StepError E)) → AreBoth new
        → calls.Unless result (AreBoth new → IsAtWork digest l new) → calls.Unless result (IsStateClean new → Agrees after (tables_at new).blocks)
        → calls.Carries shown t step (seen_in l old).now (seen_in l new).now result → calls.Carries shown t step (beside before (seen_in l old)).now (beside after (seen_in l new)).now result
    carries_beside shown t step (Ok x) clean working agrees h = told (λ a b. calls.Carries shown t step a b (Ok x)) clean (working clean) (agrees (both clean)) h
    carries_beside shown t step (Err (Refused r)) clean working agrees h = told (λ a b. calls.Carries shown t step a b (Err (Refused r))) clean (working clean) (agrees (both clean)) h
    carries_beside shown t step (Err (Failed trouble)) clean working agrees h = tt

  -- of another call
  module _ {X E : Type 0} (result : Result X E) (working : OnOk result (AreBoth new → IsAtWork digest l new)) (agrees : OnOk result (IsStateClean new → Agrees after (tables_at new).blocks)) where
    pub works_after_all : OnOk result (AreBoth new → calls.IsWorking (IsSoundHost digest) (beside after (seen_in l new)))
    works_after_all = go result working agrees
      where
        go : (r : Result X E) → OnOk r (AreBoth new → IsAtWork digest l new) → OnOk r (IsStateClean new → Agrees after (tables_at new).blocks) → OnOk r (AreBoth new → calls.IsWorking (IsSoundHost digest) (beside after (seen_in l new)))
        go (Ok x) w a = λ clean. at_work (w clean) (a (both clean))
        go (Err e) w a = tt

    pub shown_beside : (P : Tables → Tables → Type 0) → OnOk result (AreBoth new → P (seen_in l old).now (seen_in l new).now) → OnOk result (AreBoth new → P (beside before (seen_in l old)).now (beside after (seen_in l new)).now)
    shown_beside P h = go result working agrees h
      where
        go : (r : Result X E) → OnOk r (AreBoth new → IsAtWork digest l new) → OnOk r (IsStateClean new → Agrees after (tables_at new).blocks) → OnOk r (AreBoth new → P (seen_in l old).now (seen_in l new).now)
            → OnOk r (AreBoth new → P (beside before (seen_in l old)).now (beside after (seen_in l new)).now)
        go (Ok x) w a h = λ clean. told P clean (w clean) (a (both clean)) (h clean)
        go (Err e) w a h = tt

    pub told_beside : (P : X → Tables → Tables → Type 0) → IfOk result (λ x. AreBoth new → P x (seen_in l old).now (seen_in l new).now) → IfOk result (λ x. AreBoth new → P x (beside before (seen_in l old)).now (beside after (seen_in l new)).now)
    told_beside P h = go result working agrees h
      where
        go : (r : Result X E) → OnOk r (AreBoth new → IsAtWork digest l new) → OnOk r (IsStateClean new → Agrees after (tables_at new).blocks) → IfOk r (λ x. AreBoth new → P x (seen_in l old).now (seen_in l new).now)
            → IfOk r (λ x. AreBoth new → P x (beside before (seen_in l old)).now (beside after (seen_in l new)).now)
        go (Ok x) w a h = λ clean. told (P x) clean (w clean) (a (both clean)) (h clean)
        go (Err e) w a h = tt

-- a step of a tenant takes no block away
pub kept_carried : {X Y E : Type 0} (kept : KeptBlocks) (shown : X → Y) (t : Octets) (step : Option Machine → Result (Y × Option Machine) E) (result : Result X (StepError E)) (old new : State)
    → (IsStateClean new → Agrees kept (tables_at old).blocks) → (IsStateClean new → calls.Carries shown t step (tables_at old) (tables_at new) result) → calls.Unless result (IsStateClean new → Agrees kept (tables_at new).blocks)
kept_carried kept shown t step (Ok x) old new agrees carries = λ clean.
    let shared = (carries clean).shared in subst (Agrees kept) (sym shared.grown) (agrees_grown kept (tables_at old).blocks shared.added (agrees clean))
kept_carried kept shown t step (Err (Refused r)) old new agrees carries = λ clean. subst (λ (x : Tables). Agrees kept x.blocks) (sym (carries clean).1) (agrees clean)
kept_carried kept shown t step (Err (Failed trouble)) old new agrees carries = tt

-- the blocks stay
pub kept_ok : {X E : Type 0} (kept : KeptBlocks) (result : Result X E) (old new : State) → (IsStateClean new → Agrees kept (tables_at old).blocks) → OnOk result (IsStateClean new → (tables_at new).blocks ≡ (tables_at old).blocks)
    → OnOk result (IsStateClean new → Agrees kept (tables_at new).blocks)
kept_ok kept (Ok x) old new agrees same = λ clean. subst (Agrees kept) (sym (same clean)) (agrees clean)
kept_ok kept (Err e) old new agrees same = tt

-- those of a purge do
pub purged_blocks : (t : Octets) (at : ℕ) (x : Tables) → (rows_purged t at x).blocks ≡ x.blocks
unfolding rows_purged
purged_blocks t at x = refl
