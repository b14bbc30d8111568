-- CreateBucket: what was read, and the rows that were added, are the machine's step.
use Rattle.std.proofs.Common.{◌≡◌, ℕ, ◌≤◌, Bool, true, false, is_ok, true≢false, Option, Some, None, is_none, Ok, IsTrue, refl, sym, ap, ◌∙◌, subst, arith}
use Rattle.std.specs.FinMap.{get}
use Rattle.bh_types.specs.Names.{is_bucket_name}
use Rattle.bh_types.specs.declared.bucket_state.BucketState.TheVariants.{Enabled}
use Rattle.bh_types.specs.declared.refusal.Refusal.TheVariants.{BucketAlreadyOwnedByYou}
use Rattle.bh_model.specs.State.{Octets, State, Bucket, new_bucket}
use Rattle.bh_types.specs.Outcomes.{require}
use Rattle.bh_model.specs.Operations.{Done, create_bucket, with_bucket}
use Rattle.bh_tables.specs.Typed.{Tables}
use Rattle.bh_view.specs.Becomes.{Becomes}
use Rattle.bh_view.specs.View.{view, latest_of, limits_in}
use Rattle.bh_view.specs.Sound.{IsSound}
use Rattle.bh_view.proofs.BucketChanges.{bucket_added}
use Rattle.bh_view.proofs.GroupedLemmas.{get_here}
use Rattle.bh_view.proofs.Keys.{octets}
use Rattle.bh_view.proofs.LockChanges.{lock_added}
use Rattle.bh_view.proofs.PutLemmas.{bucket_again}
use Rattle.bh_view.proofs.SharedLemmas.{shared_same}
use Rattle.bh_view.proofs.ViewLemmas.{becomes_then}
use Rattle.bh_storage.specs.Calls.{GivesStep}
use Rattle.bh_objects.specs.Buckets.{with_row, with_bucket as with_rows}
use Rattle.bh_objects.specs.Found.{tenant_in, name_free}

-- the tenant is there
has_state : (v : Option State) → tenant_in v ≡ Ok tt → (s : State) × (v ≡ Some s)
has_state None e = absurd (true≢false (sym (ap is_ok e)))
has_state (Some s) e = (s, refl)

no_bucket : (o : Option Bucket) → require (is_none o) BucketAlreadyOwnedByYou ≡ Ok tt → o ≡ None
no_bucket None e = refl
no_bucket (Some b) e = absurd (true≢false (sym (ap is_ok e)))

-- the buckets' rows stay but for one
pub same_blocks : (t b : Octets) (at : ℕ) (locked : Bool) (old new : Tables) → new ≡ with_rows t b at locked old → new.blocks ≡ old.blocks
same_blocks t b at true old new e = ap (λ (x : Tables). x.blocks) e
same_blocks t b at false old new e = ap (λ (x : Tables). x.blocks) e

-- and only buckets and locks change
pub rows_alone : (t b : Octets) (at : ℕ) (locked : Bool) (old new : Tables) → new ≡ with_rows t b at locked old → new ≡ record old { buckets = new.buckets; locks = new.locks }
rows_alone t b at true old new e = e ∙ (λ i. record old { buckets = sym (ap (λ (x : Tables). x.buckets) e) i; locks = sym (ap (λ (x : Tables). x.locks) e) i })
rows_alone t b at false old new e = e ∙ (λ i. record old { buckets = sym (ap (λ (x : Tables). x.buckets) e) i; locks = sym (ap (λ (x : Tables). x.locks) e) i })

module _ (old new : Tables) (t : Octets) (s : State) (at : ℕ) (b : Octets) (sound : IsSound old) (is : view old t ≡ Some s) (none : get s.buckets b ≡ None) (good : IsTrue (is_bucket_name b)) (early : at ≤ latest_of old) where
  added : (locked : Bool) → new ≡ with_rows t b at locked old → Becomes t (Some (with_bucket b (new_bucket at locked) s)) old new
  added false e = bucket_added old new t s b at 0 (omega arith) sound is none good early e
  added true e =
      let middle : Tables = with_row t b at Enabled old in
      let made : Bucket = record (new_bucket at false) { mode = Enabled } in
      let first = bucket_added old middle t s b at 1 (omega arith) sound is none good early refl in
      let second = lock_added middle new t (with_bucket b made s) first.sound first.shown b made (get_here octets s.buckets b (Some made)) refl refl e in
      subst (λ (x : State). Becomes t (Some x) old new) (bucket_again b made (new_bucket at true) s) (becomes_then t _ _ old middle new first second)

pub creates : (old new : Tables) (t : Octets) (at : ℕ) (b : Octets) (locked : Bool) → IsSound old → at ≤ latest_of old → IsTrue (is_bucket_name b) → tenant_in (view old t) ≡ Ok tt → name_free b (view old t) ≡ Ok tt
    → new ≡ with_rows t b at locked old → GivesStep t (create_bucket at b locked) Done old new × IsSound new × (limits_in new ≡ limits_in old)
creates old new t at b locked sound early good there free e =
    let v = has_state (view old t) there in
    let none : get v.0.buckets b ≡ None = no_bucket (get v.0.buckets b) (ap (name_free b) (sym v.1) ∙ free) in
    let change = added old new t v.0 at b sound v.1 none good early locked e in (
      record {
        gives = rw (v.1, change.shown, none) refl;
        others = change.others;
        latest = change.latest;
        shared = shared_same old new (same_blocks t b at locked old new e);
      },
      change.sound,
      change.limits,
    )
