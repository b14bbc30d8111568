-- A question leaves the connection as it was.
use Rattle.std.proofs.Common.{◌≡◌, ◌∙◌, Err, sym, ap, subst}
use Rattle.sqlite.specs.State.{State}
use Rattle.bh_tables.specs.Typed.{tables_in}
use Rattle.bh_storage.specs.Calls.{Unless}
use Rattle.bh_storage.specs.declared.error.StepError.{StepError}
use Rattle.bh_storage.specs.declared.error.StepError.TheVariants.{Refused, Failed}
use Rattle.bh_view.specs.Blocks.{AreDigests}
use Rattle.bh_view.specs.Bodies.{HasBodies}
use Rattle.bh_view.specs.Sound.{IsSound}
use Rattle.bh_view.specs.View.{limits_in}
use Rattle.bh_base.specs.Layer.{Standing, standing, IsIntact, IsStateClean, IsInside, StateWithin}
use Rattle.bh_schema.specs.Working.{tables_at, IsWorking, StillWorking}

still_working : (old new : State) → standing new ≡ standing old → IsWorking old → StillWorking old new
still_working old new same was = λ digest. record {
  is = record {
    inside = subst IsInside (sym same) was.inside;
    sound = subst (λ (x : Standing). IsSound (tables_in x.now)) (sym same) was.sound;
    bodies = subst (λ (x : Standing). HasBodies (tables_in x.now)) (sym same) was.bodies;
  };
  limits = ap (λ (x : Standing). limits_in (tables_in x.now)) same;
  digests = λ named. subst (λ (x : Standing). AreDigests digest (tables_in x.now).blocks) (sym same) named;
}

-- so its tables are what they were
pub same_tables : (old new : State) → standing new ≡ standing old → tables_at new ≡ tables_at old
same_tables old new same = ap (λ (x : Standing). tables_in x.now) same

module _ (old middle : State) (within : StateWithin old middle) where
  -- a transaction goes on
  pub asked_inside : (IsStateClean old → IsInside (standing old)) → (IsIntact middle → standing middle ≡ standing old) → IsStateClean middle → IsInside (standing middle)
  asked_inside inside same clean = subst IsInside (sym (same clean.intact)) (inside (within.follows.clean clean))

  -- on sound tables, too
  pub asked_working : (IsStateClean old → IsWorking old) → (IsIntact middle → standing middle ≡ standing old) → IsStateClean middle → StillWorking old middle
  asked_working working same clean = still_working old middle (same clean.intact) (working (within.follows.clean clean))

  -- and after another question
  pub asked_twice : (IsStateClean old → IsWorking old) → (IsIntact middle → standing middle ≡ standing old) → (new : State) → StateWithin middle new → (IsIntact new → standing new ≡ standing middle) → IsStateClean new → StillWorking old new
  asked_twice working same new then after clean =
      still_working old new (after clean.intact ∙ same (then.follows.intact clean.intact)) (working (within.follows.clean (then.follows.clean clean)))

-- an error that is handed on
pub unless_then : {E : Type 0} (P Q : Type 0) (error : StepError E) → (P → Q) → Unless {X = Unit {0}} {E = E} (Err error) P → Unless {X = Unit {0}} {E = E} (Err error) Q
unless_then P Q (Refused r) f p = f p
unless_then P Q (Failed trouble) f p = tt
