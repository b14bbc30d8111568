-- Operations on buckets: what was read, and the rows that changed, are the machine's step.
use Rattle.std.proofs.Common.{◌≡◌, ℕ, ◌≤◌, Bool, true, false, not, is_ok, true≢false, List, map, Option, Some, None, Result, Ok, Err, refl, sym, ap, ap₂, ◌∙◌, ◌&&◌, subst, arith}
use Rattle.std.specs.FinMap.{get}
use Rattle.std.specs.List.{list_any}
use Rattle.sqlite_keyed.specs.Lists.{update_where}
use Rattle.sqlite_typed.specs.Tests.{bytes_eq}
use Rattle.bh_types.specs.BucketStates.{state_number}
use Rattle.bh_types.specs.Outcomes.{◌>>=◌, require}
use Rattle.bh_types.specs.declared.bucket_state.BucketState.{BucketState}
use Rattle.bh_types.specs.declared.bucket_state.BucketState.TheVariants.{Unversioned, Enabled, Suspended}
use Rattle.bh_types.specs.declared.refusal.Refusal.{Refusal}
use Rattle.bh_types.specs.declared.refusal.Refusal.TheVariants.{BucketNotEmpty, InvalidBucketState}
use Rattle.std.proofs.lemmas.Bool.{and_parts}
use Rattle.bh_model.specs.FinMaps.{is_empty as no_values}
use Rattle.bh_model.specs.State.{Octets, State, Bucket}
use Rattle.bh_model.specs.Operations.{Answer, Outcome, Done, Removed, Buckets, Versioning, head_bucket, delete_bucket, list_buckets, get_versioning, put_versioning, with_bucket}
use Rattle.bh_model.specs.Retention.{keeps_versions}
use Rattle.bh_tables.specs.Typed.{LockRow, Tables}
use Rattle.bh_tables.specs.Shown.{is_bucket, is_in_bucket, is_upload_in}
use Rattle.bh_view.specs.Becomes.{Becomes}
use Rattle.bh_view.specs.Grouped.{matching}
use Rattle.bh_view.specs.View.{view, mode_of, rows_of, is_locked, buckets_of, latest_of, limits_in}
use Rattle.bh_view.specs.Sound.{IsSound}
use Rattle.bh_view.proofs.BucketChanges.{bucket_removed, state_changed}
use Rattle.bh_view.proofs.BucketLemmas.{bucket_row}
use Rattle.bh_view.proofs.BucketListing.{buckets_listed, none_in_bucket, no_upload_in, objects_empty, uploads_empty}
use Rattle.bh_view.proofs.FilterLemmas.{delete_all}
use Rattle.bh_view.proofs.GroupedLemmas.{set_at_again}
use Rattle.bh_view.proofs.Keys.{octets}
use Rattle.bh_view.proofs.LockChanges.{lock_shown, lock_removed}
use Rattle.bh_view.proofs.OwnLemmas.{mine_deleted}
use Rattle.bh_view.proofs.ViewLemmas.{own_row, becomes_then}
use Rattle.bh_schema.specs.Rows.{entry_in, listed_buckets}
use Rattle.bh_view.proofs.SharedLemmas.{shared_same, shared_none}
use Rattle.bh_storage.specs.Answers.{removed_answer}
use Rattle.bh_storage.specs.Calls.{GivesStep, Decides, Carries}
use Rattle.bh_storage.specs.declared.error.StepError.{StepError}
use Rattle.bh_storage.specs.declared.error.StepError.TheVariants.{Refused, Failed}
use Rattle.bh_objects.specs.Found.{mode_in}
use Rattle.bh_objects.specs.Buckets.{is_empty, emptiness, versions_kept, without_lock, without_bucket}
use Rattle.bh_objects.proofs.Putting.{HasBucket, has_bucket}

-- its lock is a row of the tenant's
locked_row : (old : Tables) (t : Octets) (s : State) → view old t ≡ Some s → (b : Octets) (B : Bucket) → get s.buckets b ≡ Some B → is_locked b (rows_of t old).locks ≡ B.locked
locked_row old t s is b B at =
    let here : get (buckets_of (rows_of t old)) b ≡ Some B = ap (λ (x : State). get x.buckets b) (own_row old t s is).2 ∙ at in
    ap (λ (x : Bucket). x.locked) (bucket_row (rows_of t old) b B here).2

-- what the machine makes of a bucket that is there, where it keeps its versions
abbrev versioning_then : Octets → BucketState → State → Bucket → Result (Unit {0}) Refusal → Result Outcome Refusal
versioning_then b m s B r = r >>= (λ _. Ok (Done, Some (with_bucket b (record B { mode = m }) s)))

versioning_in : (b : Octets) (m : BucketState) (v : Option State) (s : State) (B : Bucket) → v ≡ Some s → get s.buckets b ≡ Some B → put_versioning b m v ≡ versioning_then b m s B (require (keeps_versions B.locked m) InvalidBucketState)
versioning_in b m v s B is there = rw (is, there) refl

module _ (old new : Tables) (t b : Octets) (mode : BucketState) (found : mode_in b (view old t) ≡ Ok mode) where
  -- ---- questions

  asked : (answer : Answer) (step : Option State → Result Outcome Refusal) → step (view old t) ≡ Ok (answer, view old t) → new ≡ old → GivesStep t step answer old new
  asked answer step gives same = record { gives = gives ∙ ap (λ (x : Tables). Ok (answer, view x t)) (sym same); others = λ u apart. ap (λ (x : Tables). view x u) same; latest = ap latest_of same; shared = shared_none old new same }

  pub heads : new ≡ old → GivesStep t (head_bucket b) Done old new
  heads = let h = has_bucket b (view old t) mode found in asked Done (head_bucket b) (rw (h.added, h.there) refl)

  pub tells_versioning : new ≡ old → GivesStep t (get_versioning b) (Versioning mode) old new
  tells_versioning = let h = has_bucket b (view old t) mode found in asked (Versioning mode) (get_versioning b) (rw (h.added, h.there, h.its) refl)

  -- ---- changes

  mode_back : (m : BucketState) → mode_of (state_number m) ≡ m
  mode_back Unversioned = refl
  mode_back Enabled = refl
  mode_back Suspended = refl

  low : (m : BucketState) → state_number m ≤ 2
  low Unversioned = omega arith
  low Enabled = omega arith
  low Suspended = omega arith

  abbrev its_bucket : HasBucket b (view old t) mode
  its_bucket = has_bucket b (view old t) mode found

  -- whether it keeps its versions
  kept_is : (m : BucketState) → IsSound old → require {E = Refusal} (keeps_versions its_bucket.bucket.locked m) InvalidBucketState ≡ versions_kept t b m old
  kept_is m sound = ap (λ l. require {E = Refusal} (keeps_versions l m) InvalidBucketState) (lock_shown old t its_bucket.state sound its_bucket.added b its_bucket.bucket its_bucket.there)

  passes : (x : Bool) (r : Refusal) → require {E = Refusal} x r ≡ Ok tt → x ≡ true
  passes true r e = refl
  passes false r e = absurd (true≢false (sym (ap is_ok e)))

  -- a locked bucket that keeps them is Enabled
  kept_enabled : (m : BucketState) (locked : Bool) → keeps_versions locked m ≡ true → locked ≡ true → state_number m ≡ 1
  kept_enabled Unversioned locked kept e = absurd (true≢false (sym kept ∙ ap not e))
  kept_enabled Enabled locked kept e = refl
  kept_enabled Suspended locked kept e = absurd (true≢false (sym kept ∙ ap not e))

  pub sets_versioning : (m : BucketState) → IsSound old → versions_kept t b m old ≡ Ok tt → new ≡ record old { buckets = update_where (is_bucket t b) (λ r. record r { state = state_number m }) old.buckets }
      → GivesStep t (put_versioning b m) Done old new × IsSound new × (limits_in new ≡ limits_in old)
  sets_versioning m sound allowed e =
      let h = its_bucket in
      let kept : keeps_versions h.bucket.locked m ≡ true = passes (keeps_versions h.bucket.locked m) InvalidBucketState (kept_is m sound ∙ allowed) in
      let change = state_changed old new t h.state sound h.added b h.bucket h.there (state_number m) (low m)
      (λ locked. kept_enabled m h.bucket.locked kept (sym (locked_row old t h.state h.added b h.bucket h.there) ∙ locked)) e in
      (record { gives = rw (h.added, change.shown, h.there, mode_back m, kept) refl; others = change.others; latest = change.latest; shared = shared_same old new (ap (λ (x : Tables). x.blocks) e) }, change.sound, change.limits)

  -- one that is not to
  versioning_refuses : (m : BucketState) (x : Refusal) → IsSound old → versions_kept t b m old ≡ Err x → put_versioning b m (view old t) ≡ Err x
  versioning_refuses m x sound refused = versioning_in b m (view old t) its_bucket.state its_bucket.bucket its_bucket.added its_bucket.there ∙ ap (versioning_then b m its_bucket.state its_bucket.bucket) (kept_is m sound ∙ refused)

  pub versioning_failed : {X Y : Type 0} (shows : X → Unit {0}) (told : Y → Answer) (m : BucketState) (first middle : Tables) (e : StepError Refusal) → IsSound old → first ≡ old → Decides shows (versions_kept t b m first) first middle (Err e)
      → Carries told t (put_versioning b m) old middle (Err e)
  versioning_failed shows told m first middle (Refused x) sound same d = (versioning_refuses m x sound (ap (versions_kept t b m) (sym same) ∙ d.0), d.1 ∙ same)
  versioning_failed shows told m first middle (Failed trouble) sound same d = tt

  module _ (sound : IsSound old) where
    is_none_there : (h : HasBucket b (view old t) mode) → (no_values h.bucket.objects && no_values h.bucket.uploads) ≡ is_empty t b old
    is_none_there h = ap₂ ◌&&◌ (objects_empty old t b h.state h.added h.bucket h.there) (uploads_empty old t b h.state h.added h.bucket h.there)

    none_there : (x : Bool) → require x BucketNotEmpty ≡ Ok tt → x ≡ true
    none_there true e = refl
    none_there false e = absurd (true≢false (sym (ap is_ok e)))

    not_there : (x : Bool) → not x ≡ true → x ≡ false
    not_there true e = absurd (true≢false (sym e))
    not_there false e = refl

    pub deletes : emptiness t b old ≡ Ok tt → new ≡ without_bucket t b old
        → GivesStep t (delete_bucket b) (Removed None false) old new × IsSound new × (limits_in new ≡ limits_in old)
    deletes empty e =
        let h = has_bucket b (view old t) mode found in
        let none : is_empty t b old ≡ true = none_there (is_empty t b old) empty in
        let both = and_parts (not (list_any (is_in_bucket t b) old.versions)) (not (list_any (is_upload_in t b) old.uploads)) none in
        let middle : Tables = without_lock t b old in
        let bare : Bucket = record h.bucket { locked = false } in
        let no_versions = none_in_bucket old t b (not_there _ both.0) in
        let first = lock_removed old middle t h.state sound h.added b h.bucket h.there no_versions refl in
        let unlocked = ap (matching bytes_eq (λ (l : LockRow). l.bucket) b) (mine_deleted (λ (l : LockRow). l.tenant) t (λ l. bytes_eq l.bucket b) old.locks) ∙ delete_all (λ (l : LockRow). bytes_eq l.bucket b) (rows_of t old).locks in
        let second = bucket_removed middle new t (with_bucket b bare h.state) first.sound first.shown b no_versions (no_upload_in old t b (not_there _ both.1)) unlocked e in
        let change = subst (λ m. Becomes t (Some (record h.state { buckets = m })) old new) (set_at_again octets h.state.buckets b (Some bare) None) (becomes_then t _ _ old middle new first second) in
        let free : (no_values h.bucket.objects && no_values h.bucket.uploads) ≡ true = is_none_there h ∙ none in
        (record { gives = rw (h.added, change.shown, h.there, free) refl; others = change.others; latest = change.latest; shared = shared_same old new (ap (λ (x : Tables). x.blocks) e) }, change.sound, change.limits)

    pub kept_full : (r : Refusal) → emptiness t b old ≡ Err r → delete_bucket b (view old t) ≡ Err r
    kept_full r full =
        let h = has_bucket b (view old t) mode found in
        let same : require {E = Refusal} (no_values h.bucket.objects && no_values h.bucket.uploads) BucketNotEmpty ≡ Err r = ap (λ x. require x BucketNotEmpty) (is_none_there h) ∙ full in
        rw (h.added, h.there, same) refl

    pub full_refused : (first middle : Tables) (e : StepError Refusal) → first ≡ old → Decides (λ (_ : Unit {0}). tt) (emptiness t b first) first middle (Err e) → Carries removed_answer t (delete_bucket b) old middle (Err e)
    full_refused first middle (Refused r) same full = (kept_full r (ap (emptiness t b) (sym same) ∙ full.0), full.1 ∙ same)
    full_refused first middle (Failed trouble) same full = tt

-- ---- an empty bucket

-- no version was found, and then an upload was or none
pub nothing_found : (old middle : Tables) (t b : Octets) (uploads : Bool) → list_any (is_in_bucket t b) old.versions ≡ false → middle ≡ old → uploads ≡ list_any (is_upload_in t b) middle.uploads → not uploads ≡ is_empty t b old
nothing_found old middle t b uploads none same is =
    ap not (is ∙ ap (λ (x : Tables). list_any (is_upload_in t b) x.uploads) same) ∙ ap (λ v. not v && not (list_any (is_upload_in t b) old.uploads)) (sym none)

-- ---- the listing

pub lists : (old new : Tables) (t : Octets) → IsSound old → (buckets : List (Octets × ℕ)) → buckets ≡ map entry_in (listed_buckets t old) → new ≡ old → GivesStep t list_buckets (Buckets buckets) old new
lists old new t sound buckets is same = record {
  gives = ap (λ l. Ok (Buckets l, view old t)) (buckets_listed old t sound ∙ sym is) ∙ ap (λ (x : Tables). Ok (Buckets buckets, view x t)) (sym same);
  others = λ u apart. ap (λ (x : Tables). view x u) same;
  latest = ap latest_of same;
  shared = shared_none old new same;
}
