-- What calls on a connection leave, one after another.
use Rattle.std.proofs.Common.{◌≡◌, ◌∙◌, List, Result, Ok, Err, OnOk, inl, refl, sym, ap, subst}
use Rattle.sqlite.specs.State.{State}
use Rattle.bh_types.specs.declared.refusal.Refusal.{Refusal}
use Rattle.bh_types.specs.declared.rejection.Rejection.{Rejection}
use Rattle.bh_model.specs.State.{Octets}
use Rattle.bh_tables.specs.Typed.{BucketRow, LockRow, RetainRow, Tables, raw, tables_in}
use Rattle.bh_storage.specs.Calls.{Unless, Decides}
use Rattle.bh_storage.specs.Errors.{step_rejected}
use Rattle.bh_storage.specs.declared.error.StepError.{StepError}
use Rattle.bh_storage.specs.declared.error.StepError.TheVariants.{Refused, Failed}
use Rattle.bh_view.specs.Sound.{IsSound}
use Rattle.bh_view.specs.Blocks.{AreDigests}
use Rattle.bh_view.specs.Bodies.{HasBodies}
use Rattle.bh_view.specs.View.{limits_in}
use Rattle.bh_view.proofs.ResolvedLemmas.{tables_resolved}
use Rattle.bh_base.specs.Layer.{Standing, standing, IsIntact, IsStateClean, IsInside, IsStandingSettled, StateWithin}
use Rattle.bh_schema.specs.Working.{tables_at, IsWorking, StillWorking, StillWorkingBy}
use Rattle.bh_objects.proofs.Written.{IsHostOf}

-- no call
pub none_called : (s : State) → (IsStateClean s → IsStandingSettled (standing s)) → StateWithin s s
none_called s settled = record {
  follows = record { clean = λ clean. clean; intact = λ intact. intact; limit = refl };
  kept = λ clean. refl;
  settled = settled;
  survives = λ up intact db left. left;
}

pub no_call : (s : State) → (IsStateClean s → IsInside (standing s)) → StateWithin s s
no_call s inside = none_called s (λ clean. inl (inside clean).inside)

-- a question leaves what there was
pub same_tables : (old new : State) → standing new ≡ standing old → tables_at new ≡ tables_at old
same_tables old new same = ap (λ (x : Standing). tables_in x.now) same

pub asked_working : (old new : State) → (IsStateClean old → IsWorking old) → StateWithin old new → (IsIntact new → standing new ≡ standing old) → IsStateClean new → StillWorking old new
asked_working old new working w same clean =
    let was = working (w.follows.clean clean) in
    let is = same clean.intact in
    λ digest. record {
      is = record {
        inside = subst IsInside (sym is) was.inside;
        sound = subst (λ (x : Standing). IsSound (tables_in x.now)) (sym is) was.sound;
        bodies = subst (λ (x : Standing). HasBodies (tables_in x.now)) (sym is) was.bodies;
      };
      limits = ap limits_in (same_tables old new is);
      digests = λ d. subst (λ (x : Standing). AreDigests digest (tables_in x.now).blocks) (sym is) d;
    }

-- so a transaction is open still
pub asked_inside : (old new : State) → (IsStateClean old → IsInside (standing old)) → StateWithin old new → (IsIntact new → standing new ≡ standing old) → IsStateClean new → IsInside (standing new)
asked_inside old new inside within same clean = subst IsInside (sym (same clean.intact)) (inside (within.follows.clean clean))

-- the tables in which operations are carried out
pub host_at : (s : State) → IsWorking s → IsHostOf (tables_at s)
host_at s works = record { sound = works.sound; bodies = works.bodies; resolved = tables_resolved (raw (standing s).now.trees) }

-- what a change of versions leaves
pub still_working : (old new : State) → IsInside (standing new) → IsSound (tables_at new) → HasBodies (tables_at new) → limits_in (tables_at new) ≡ limits_in (tables_at old) → (tables_at new).blocks ≡ (tables_at old).blocks → StillWorking old new
still_working old new inside sound bodies limits same = λ digest. record {
  is = record { inside = inside; sound = sound; bodies = bodies };
  limits = limits;
  digests = λ d. subst (AreDigests digest) (sym same) d;
}

-- the same where buckets alone change after a question
pub still_buckets : (old middle new : State) (buckets : List BucketRow) → tables_at middle ≡ tables_at old → IsWorking old → IsInside (standing new) → tables_at new ≡ record (tables_at middle) { buckets = buckets }
    → IsSound (tables_at new) → limits_in (tables_at new) ≡ limits_in (tables_at old) → StillWorking old new
still_buckets old middle new buckets same was inside e sound limits =
    let is : tables_at new ≡ record (tables_at old) { buckets = buckets } = e ∙ ap (λ (x : Tables). record x { buckets = buckets }) same in
    still_working old new inside sound (subst HasBodies (sym is) was.bodies) limits (ap (λ (x : Tables). x.blocks) is)

-- where locks change as well
pub still_locked : (old middle new : State) (buckets : List BucketRow) (locks : List LockRow) → tables_at middle ≡ tables_at old → IsWorking old → IsInside (standing new) → tables_at new ≡ record (tables_at middle) { buckets = buckets; locks = locks }
    → IsSound (tables_at new) → limits_in (tables_at new) ≡ limits_in (tables_at old) → StillWorking old new
still_locked old middle new buckets locks same was inside e sound limits =
    let is : tables_at new ≡ record (tables_at old) { buckets = buckets; locks = locks } = e ∙ ap (λ (x : Tables). record x { buckets = buckets; locks = locks }) same in
    still_working old new inside sound (subst HasBodies (sym is) was.bodies) limits (ap (λ (x : Tables). x.blocks) is)

-- where dates alone change
pub still_dated : (old new : State) (retains : List RetainRow) → IsWorking old → IsInside (standing new) → tables_at new ≡ record (tables_at old) { retains = retains } → IsSound (tables_at new) → limits_in (tables_at new) ≡ limits_in (tables_at old) → StillWorking old new
still_dated old new retains was inside is sound limits = still_working old new inside sound (subst HasBodies (sym is) was.bodies) limits (ap (λ (x : Tables). x.blocks) is)

-- where a version was stored after questions, and then its date
pub dated_still : (digest : Octets → Octets) (old asked stored new : State) → tables_at asked ≡ tables_at old → StillWorkingBy digest asked stored → IsInside (standing new) → tables_at new ≡ record (tables_at stored) { retains = (tables_at new).retains }
    → IsSound (tables_at new) → limits_in (tables_at new) ≡ limits_in (tables_at stored) → StillWorkingBy digest old new
dated_still digest old asked stored new same was inside alone sound limits = record {
  is = record { inside = inside; sound = sound; bodies = subst HasBodies (sym alone) was.is.bodies };
  limits = limits ∙ was.limits ∙ ap limits_in same;
  digests = λ d. subst (λ (x : Tables). AreDigests digest x.blocks) (sym alone) (was.digests (subst (λ (x : Tables). AreDigests digest x.blocks) (sym same) d));
}

-- ---- one call after another

pub works_on : (old new : State) → StillWorking old new → IsWorking new
works_on old new still = (still (λ bytes. bytes)).is

pub works_then : (one two three : State) → StillWorking one two → StillWorking two three → StillWorking one three
works_then one two three f g = λ digest. record { is = (g digest).is; limits = (g digest).limits ∙ (f digest).limits; digests = λ d. (g digest).digests ((f digest).digests d) }

-- one question after another
pub asked_again : (one two three : State) → (IsStateClean one → IsWorking one) → StateWithin one two → (IsIntact two → standing two ≡ standing one) → StateWithin two three → (IsIntact three → standing three ≡ standing two) → IsStateClean three
    → StillWorking one three
asked_again one two three working within same within_again same_again clean =
    let first = asked_working one two working within same in
    works_then one two three (first (within_again.follows.clean clean)) (asked_working two three (λ up. works_on one two (first up)) within_again same_again clean)

-- ---- whatever is answered

pub any_unless : {X E : Type 0} (result : Result X (StepError E)) (P : Type 0) → P → Unless result P
any_unless (Ok x) P p = p
any_unless (Err (Refused r)) P p = p
any_unless (Err (Failed trouble)) P p = tt

pub unless_then : {E : Type 0} (P Q : Type 0) (error : StepError E) → (P → Q) → Unless {X = Unit {0}} {E = E} (Err error) P → Unless {X = Unit {0}} {E = E} (Err error) Q
unless_then P Q (Refused r) f p = f p
unless_then P Q (Failed trouble) f p = tt

-- a question that refuses leaves the tables
pub refused_same : {X Y E : Type 0} (shown : X → Y) (answer : Result Y E) (old new : State) (error : StepError E) → (IsStateClean new → Decides shown answer (tables_at old) (tables_at new) (Err error))
    → Unless {X = Unit {0}} {E = E} (Err error) (IsStateClean new → tables_at new ≡ tables_at old)
refused_same shown answer old new (Refused r) h = λ clean. (h clean).1
refused_same shown answer old new (Failed trouble) h = tt

-- where a refusal becomes one that may tell more
pub rejected_then : (P Q : Type 0) (error : StepError Refusal) → (P → Q) → Unless {X = Unit {0}} {E = Refusal} (Err error) P → Unless {X = Unit {0}} {E = Rejection} (Err (step_rejected error)) Q
rejected_then P Q (Refused r) f p = f p
rejected_then P Q (Failed trouble) f p = tt

pub on_ok_then : {X E : Type 0} (result : Result X E) (P Q : Type 0) → (P → Q) → OnOk result P → OnOk result Q
on_ok_then (Ok x) P Q f p = f p
on_ok_then (Err e) P Q f p = tt

pub unless_kept : {X E : Type 0} (result : Result X (StepError E)) (P Q : Type 0) → (P → Q) → Unless result P → Unless result Q
unless_kept (Ok x) P Q f p = f p
unless_kept (Err (Refused r)) P Q f p = f p
unless_kept (Err (Failed trouble)) P Q f p = tt
