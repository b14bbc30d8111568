-- An operation on a bucket that isn't there, or on counters without a next number, is refused as its first question was.
use Rattle.std.proofs.Common.{◌≡◌, ◌≢◌, ℕ, true≢false, is_ok, length, Option, Some, Result, Ok, Err, refl, sym, ap, ◌∙◌}
use Rattle.std.specs.Result.{result_map_both}
use Rattle.bh_types.specs.Counts.{Counts}
use Rattle.bh_types.specs.Outcomes.{◌>>=◌}
use Rattle.bh_types.specs.Rejections.{plain, plainly, for_date}
use Rattle.bh_types.specs.declared.bucket_state.BucketState.{BucketState}
use Rattle.bh_types.specs.declared.bucket_state.BucketState.TheVariants.{Unversioned, Enabled, Suspended}
use Rattle.bh_types.specs.declared.refusal.Refusal.{Refusal}
use Rattle.bh_types.specs.declared.rejection.Rejection.{Rejection}
use Rattle.bh_types.specs.declared.wanted.Wanted.{Wanted}
use Rattle.bh_types.specs.declared.wanted.Wanted.TheVariants.{Current}
use Rattle.bh_model.specs.State.{Octets, State, Bucket}
use Rattle.bh_model.specs.Counting.{counts, with_counts, after_entry, after_delete}
use Rattle.bh_model.specs.Entries.{Version, deleted}
use Rattle.bh_model.specs.Operations.{Answer, Outcome, Done, Head, Retention, id_told, listed, planned, shown, removed, tenant_bucket, with_bucket, with_entries, found_version, wanted_version, get_object, head_object, delete_object, get_retention, put_retention}
use Rattle.bh_model.specs.Retention.{can_retain, date_of, may_retain, with_date, without_date}
use Rattle.bh_tables.specs.Typed.{Tables}
use Rattle.bh_view.specs.View.{view}
use Rattle.bh_storage.specs.Calls.{Carries, Decides}
use Rattle.bh_storage.specs.Errors.{step_rejected}
use Rattle.bh_storage.specs.declared.error.StepError.{StepError}
use Rattle.bh_storage.specs.declared.error.StepError.TheVariants.{Refused, Failed}
use Rattle.bh_objects.specs.Found.{mode_in, numbers_in}
use Rattle.bh_objects.proofs.Deleting.{delete_at, undated_goes}
use Rattle.bh_objects.proofs.Putting.{has_bucket}

abbrev refusal_or : {X : Type 0} → Result X Refusal → Refusal → Refusal
refusal_or (Ok x) other = other
refusal_or (Err y) other = y

-- ---- a bucket that isn't there

-- a bucket without a state isn't there
no_bucket : (b : Octets) (v : Option State) (x : Refusal) → mode_in b v ≡ Err x → tenant_bucket b v ≡ Err x
no_bucket b v x e = go (tenant_bucket b v) e
  where
    go : (r : Result (State × Bucket) Refusal) → result_map_both (λ (f : State × Bucket). f.1.mode) (λ (refusal : Refusal). refusal) r ≡ Err x → r ≡ Err x
    go (Ok f) e = absurd (true≢false (ap is_ok e))
    go (Err y) e = ap (λ r. Err (refusal_or r x)) e

abbrev version_from : Octets → Wanted → Result (State × Bucket) Refusal → Result (Bucket × Version) Rejection
version_from k wanted r = do
  f ← plainly r
  v ← found_version k wanted f.1
  Ok (f.1, v)

abbrev object_from : Option Octets → Option State → Result (Bucket × Version) Rejection → Result Outcome Rejection
object_from range left r = do
  f ← r
  plan ← planned range (length f.1.bytes)
  Ok (shown f.0 f.1 plan, left)

abbrev head_from : Option State → Result (Bucket × Version) Rejection → Result Outcome Rejection
head_from left r = r >>= (λ (f : Bucket × Version). Ok (Head (id_told f.0.mode f.1.id) (length f.1.bytes) f.1.checksum, left))

abbrev date_from : Octets → Option State → Result (Bucket × Version) Rejection → Result Outcome Rejection
date_from k left r = for_date r >>= (λ (f : Bucket × Version). Ok (Retention (date_of k f.1.id f.0), left))

abbrev dated_from : ℕ → Octets → Octets → Wanted → ℕ → Result (State × Bucket) Refusal → Result Outcome Rejection
dated_from at b k wanted until r = do
  f ← plainly r
  v ← for_date (found_version k wanted f.1)
  _ ← plainly (may_retain (can_retain f.1.locked v.id) (date_of k v.id f.1) (Some until) at)
  Ok (Done, Some (with_bucket b (with_date k v.id (Some until) f.1) f.0))

module _ (b k : Octets) (wanted : Wanted) (v : Option State) (x : Refusal) (away : mode_in b v ≡ Err x) where
  no_version : wanted_version b k wanted v ≡ Err (plain x)
  no_version = ap (version_from k wanted) (no_bucket b v x away)

  no_object : (range : Option Octets) → get_object b k wanted range v ≡ Err (plain x)
  no_object range = ap (object_from range v) no_version

  no_head : head_object b k wanted v ≡ Err (plain x)
  no_head = ap (head_from v) no_version

  no_date : get_retention b k wanted v ≡ Err (plain x)
  no_date = ap (date_from k v) no_version

  none_dated : (at until : ℕ) → put_retention at b k wanted until v ≡ Err (plain x)
  none_dated at until = ap (dated_from at b k wanted until) (no_bucket b v x away)

module _ {X Y : Type 0} (shows : X → BucketState) (tells : Y → Answer) (t b k : Octets) (wanted : Wanted) (old new : Tables) where
  pub get_unfound : (range : Option Octets) (error : StepError Refusal) → Decides shows (mode_in b (view old t)) old new (Err error) → Carries tells t (get_object b k wanted range) old new (Err (step_rejected error))
  get_unfound range (Refused x) d = (no_object b k wanted (view old t) x d.0 range, d.1)
  get_unfound range (Failed trouble) d = tt

  pub head_unfound : (error : StepError Refusal) → Decides shows (mode_in b (view old t)) old new (Err error) → Carries tells t (head_object b k wanted) old new (Err (step_rejected error))
  head_unfound (Refused x) d = (no_head b k wanted (view old t) x d.0, d.1)
  head_unfound (Failed trouble) d = tt

  pub date_unfound : (error : StepError Refusal) → Decides shows (mode_in b (view old t)) old new (Err error) → Carries tells t (get_retention b k wanted) old new (Err (step_rejected error))
  date_unfound (Refused x) d = (no_date b k wanted (view old t) x d.0, d.1)
  date_unfound (Failed trouble) d = tt

  pub dated_unfound : (at until : ℕ) (error : StepError Refusal) → Decides shows (mode_in b (view old t)) old new (Err error) → Carries tells t (put_retention at b k wanted until) old new (Err (step_rejected error))
  dated_unfound at until (Refused x) d = (none_dated b k wanted (view old t) x d.0 at until, d.1)
  dated_unfound at until (Failed trouble) d = tt

-- ---- counters without a next number

none_left : (v : Option State) (s : State) (mode : BucketState) (x : Refusal) → v ≡ Some s → numbers_in mode v ≡ Err x → after_entry mode (counts s) ≡ Err x
none_left v s mode x is e = go (after_entry mode (counts s)) (ap (numbers_in mode) (sym is) ∙ e)
  where
    go : (r : Result Counts Refusal) → ◌>>=◌ {B = Counts × Counts} r (λ a. Ok (counts s, a)) ≡ Err x → r ≡ Err x
    go (Ok a) e = absurd (true≢false (ap is_ok e))
    go (Err y) e = ap (λ r. Err (refusal_or r x)) e

-- a marker takes the numbers of an entry
marker_counts : (mode : BucketState) → mode ≢ Unversioned → (c : Counts) → after_delete mode Current c ≡ after_entry mode c
marker_counts Unversioned apart c = absurd (apart refl)
marker_counts Enabled apart c = refl
marker_counts Suspended apart c = refl

abbrev marked_from : ℕ → Octets → Octets → State → Bucket → BucketState → Result Counts Refusal → Result Outcome Refusal
marked_from at b k s B mode r =
    r >>= (λ c. Ok (removed mode Current s.next_version (listed k B), Some (with_bucket b (without_date k Current (with_entries k (deleted mode Current s.next_version at (listed k B)) B)) (with_counts c s))))

no_marker : (at : ℕ) (b k : Octets) (v : Option State) (mode : BucketState) → mode ≢ Unversioned → mode_in b v ≡ Ok mode → (x : Refusal) → numbers_in mode v ≡ Err x → delete_object at b k Current v ≡ Err x
no_marker at b k v mode apart found x e =
    let h = has_bucket b v mode found in
    delete_at b k at Current v mode h (undated_goes at) ∙ ap (marked_from at b k h.state h.bucket mode) (marker_counts mode apart (counts h.state) ∙ none_left v h.state mode x h.added e)

pub marks_failed : {X Y : Type 0} (shows : X → Counts × Counts) (tells : Y → Answer) (at : ℕ) (t b k : Octets) (old new : Tables) (mode : BucketState) → mode ≢ Unversioned → mode_in b (view old t) ≡ Ok mode → (error : StepError Refusal)
    → Decides shows (numbers_in mode (view old t)) old new (Err error) → Carries tells t (delete_object at b k Current) old new (Err error)
marks_failed shows tells at t b k old new mode apart found (Refused x) d = (no_marker at b k (view old t) mode apart found x d.0, d.1)
marks_failed shows tells at t b k old new mode apart found (Failed trouble) d = tt
