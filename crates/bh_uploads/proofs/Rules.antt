-- The rule of a bucket: what was read, and the rows that changed, are the machine's step.
use Rattle.std.proofs.Common.{◌≡◌, ℕ, ◌≤◌, is_ok, true≢false, Option, Some, None, option_map, option_and_then, ok_or, find, Result, Ok, Err, refl, sym, ap, ◌∙◌}
use Rattle.std.specs.Prelude.{false}
use Rattle.std.specs.FinMap.{get}
use Rattle.std.specs.Result.{result_map_both}
use Rattle.sqlite_keyed.specs.Lists.{update_where}
use Rattle.bh_types.specs.declared.bucket_state.BucketState.{BucketState}
use Rattle.bh_types.specs.declared.refusal.Refusal.{Refusal}
use Rattle.bh_types.specs.declared.refusal.Refusal.TheVariants.{NoSuchBucket, NoSuchLifecycleConfiguration}
use Rattle.bh_model.specs.State.{Octets, State, Bucket}
use Rattle.bh_model.specs.Operations.{Answer, Done, Removed, Lifecycle, tenant_bucket, get_lifecycle, put_lifecycle, delete_lifecycle}
use Rattle.bh_tables.specs.Typed.{BucketRow, Tables}
use Rattle.bh_tables.specs.Shown.{is_bucket}
use Rattle.bh_view.specs.Sound.{IsSound}
use Rattle.bh_view.specs.View.{view, rows_of, bucket_shown, latest_of, limits_in}
use Rattle.bh_view.proofs.BucketChanges.{days_changed}
use Rattle.bh_view.proofs.FindLemmas.{first_find, bucket_found}
use Rattle.bh_view.proofs.SharedLemmas.{shared_same, shared_none}
use Rattle.bh_storage.specs.Calls.{GivesStep, Carries, Decides}
use Rattle.bh_storage.specs.declared.error.StepError.{StepError}
use Rattle.bh_storage.specs.declared.error.StepError.TheVariants.{Refused, Failed}
use Rattle.bh_schema.specs.Rows.{bucket_numbers}
use Rattle.bh_schema.specs.declared.rows.buckets.BucketNumbers.{BucketNumbers}
use Rattle.bh_objects.specs.Found.{mode_in}
use Rattle.bh_objects.proofs.Putting.{has_bucket}
use Rattle.bh_uploads.specs.Found.{rule_in}

-- ---- what is read

abbrev rule_or : Option Bucket → Result (Option ℕ) Refusal
rule_or o = ok_or (option_map (λ (b : Bucket). b.days) o) NoSuchBucket

rule_shape : (name : Octets) (v : Option State) → rule_in name v ≡ rule_or (option_and_then (λ (s : State). get s.buckets name) v)
rule_shape name None = refl
rule_shape name (Some s) = go (get s.buckets name)
  where
    go : (o : Option Bucket) → result_map_both (λ (f : State × Bucket). f.1.days) (λ refusal. refusal) (ok_or (option_map (λ b. (s, b)) o) NoSuchBucket) ≡ rule_or o
    go None = refl
    go (Some b) = refl

module _ (tables : Tables) (t name : Octets) (sound : IsSound tables) where
  abbrev row : Option BucketRow
  row = find (is_bucket t name) tables.buckets

  shown : rule_in name (view tables t) ≡ rule_or (option_map (bucket_shown (rows_of t tables) name) row)
  shown = rule_shape name (view tables t) ∙ ap rule_or (bucket_found tables t sound name) ∙ ap (λ o. rule_or (option_map (bucket_shown (rows_of t tables) name) o)) (first_find (is_bucket t name) tables.buckets)

  pub rule_found : (numbers : BucketNumbers) (days : Option ℕ) → Some numbers ≡ option_map bucket_numbers row → days ≡ numbers.days → rule_in name (view tables t) ≡ Ok days
  rule_found numbers days is its = shown ∙ go row is
    where
      go : (o : Option BucketRow) → Some numbers ≡ option_map bucket_numbers o → rule_or (option_map (bucket_shown (rows_of t tables) name) o) ≡ Ok days
      go None e = cc
      go (Some r) e = ap (λ d. Ok d) (sym (its ∙ (let same : numbers ≡ bucket_numbers r = cc in ap (λ (n : BucketNumbers). n.days) same)))

  pub no_rule_found : None ≡ option_map bucket_numbers row → rule_in name (view tables t) ≡ Err NoSuchBucket
  no_rule_found is = shown ∙ go row is
    where
      go : (o : Option BucketRow) → None ≡ option_map bucket_numbers o → rule_or (option_map (bucket_shown (rows_of t tables) name) o) ≡ Err NoSuchBucket
      go None e = refl
      go (Some r) e = cc

-- the bucket whose rule was read
pub record HasRule (name : Octets) (v : Option State) (days : Option ℕ) : Type 0 where
  pub state : State
  pub bucket : Bucket
  pub added : v ≡ Some state
  pub there : get state.buckets name ≡ Some bucket
  pub its : bucket.days ≡ days

abbrev ok_value : {X : Type 0} → Result X Refusal → X → X
ok_value (Ok x) other = x
ok_value (Err e) other = other

pub has_rule : (name : Octets) (v : Option State) (days : Option ℕ) → rule_in name v ≡ Ok days → HasRule name v days
has_rule name None days e = absurd (true≢false (sym (ap is_ok e)))
has_rule name (Some s) days e = go (get s.buckets name) refl e
  where
    go : (o : Option Bucket) → get s.buckets name ≡ o → result_map_both (λ (f : State × Bucket). f.1.days) (λ refusal. refusal) (ok_or (option_map (λ b. (s, b)) o) NoSuchBucket) ≡ Ok days → HasRule name (Some s) days
    go None is e = absurd (true≢false (sym (ap is_ok e)))
    go (Some b) is e = record { state = s; bucket = b; added = refl; there = is; its = ap (λ r. ok_value r days) e }

-- the bucket is not there
pub no_bucket : (b : Octets) (v : Option State) (x : Refusal) → rule_in b v ≡ Err x → tenant_bucket b v ≡ Err x
no_bucket b v x e = go (tenant_bucket b v) e
  where
    fault : Result (Option ℕ) Refusal → Refusal
    fault (Ok days) = x
    fault (Err y) = y

    go : (r : Result (State × Bucket) Refusal) → result_map_both (λ (f : State × Bucket). f.1.days) (λ refusal. refusal) r ≡ Err x → r ≡ Err x
    go (Ok f) e = absurd (true≢false (ap is_ok e))
    go (Err y) e = ap (λ r. Err (fault r)) e

-- ---- a question

module _ (old new : Tables) (t b : Octets) where
  pub tells_rule : (days : ℕ) → Decides (λ (d : Option ℕ). d) (rule_in b (view old t)) old new (Ok (Some days)) → GivesStep t (get_lifecycle b) (Lifecycle days) old new
  tells_rule days d =
      let h = has_rule b (view old t) (Some days) d.0 in
      let gives : get_lifecycle b (view old t) ≡ Ok (Lifecycle days, view old t) = rw (h.added, h.there, h.its) refl in
      record { gives = gives ∙ ap (λ (x : Tables). Ok (Lifecycle days, view x t)) (sym d.1); others = λ u apart. ap (λ (x : Tables). view x u) d.1; latest = ap latest_of d.1; shared = shared_none old new d.1 }

  pub tells_no_rule : Decides (λ (d : Option ℕ). d) (rule_in b (view old t)) old new (Ok None) → (get_lifecycle b (view old t) ≡ Err NoSuchLifecycleConfiguration) × (new ≡ old)
  tells_no_rule d = let h = has_rule b (view old t) None d.0 in (rw (h.added, h.there, h.its) refl, d.1)

  pub rule_refused : {X : Type 0} (told : X → Answer) (error : StepError Refusal) → Decides (λ (d : Option ℕ). d) (rule_in b (view old t)) old new (Err error) → Carries told t (get_lifecycle b) old new (Err error)
  rule_refused told (Refused x) d = (rw (no_bucket b (view old t) x d.0) refl, d.1)
  rule_refused told (Failed trouble) d = tt

-- ---- changes

module _ (old new : Tables) (t b : Octets) (mode : BucketState) (found : mode_in b (view old t) ≡ Ok mode) (sound : IsSound old) where
  pub sets_rule : (days : ℕ) → 1 ≤ days → days ≤ 3650 → new ≡ record old { buckets = update_where (is_bucket t b) (λ r. record r { days = Some days }) old.buckets }
      → GivesStep t (put_lifecycle b days) Done old new × IsSound new × (limits_in new ≡ limits_in old)
  sets_rule days low high e =
      let h = has_bucket b (view old t) mode found in
      let change = days_changed old new t h.state sound h.added b h.bucket h.there (Some days) (low, high) e in
      (record { gives = rw (h.added, change.shown, h.there) refl; others = change.others; latest = change.latest; shared = shared_same old new (ap (λ (x : Tables). x.blocks) e) }, change.sound, change.limits)

  pub clears_rule : new ≡ record old { buckets = update_where (is_bucket t b) (λ r. record r { days = None }) old.buckets }
      → GivesStep t (delete_lifecycle b) (Removed None false) old new × IsSound new × (limits_in new ≡ limits_in old)
  clears_rule e =
      let h = has_bucket b (view old t) mode found in
      let change = days_changed old new t h.state sound h.added b h.bucket h.there None tt e in
      (record { gives = rw (h.added, change.shown, h.there) refl; others = change.others; latest = change.latest; shared = shared_same old new (ap (λ (x : Tables). x.blocks) e) }, change.sound, change.limits)
