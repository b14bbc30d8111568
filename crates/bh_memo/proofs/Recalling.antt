-- What is shown beside what is remembered is what is shown alone, where the tables are sound.
use Rattle.std.proofs.Common.{◌≡◌, Bool, true, false, if◌then◌else◌, inl, inr, refl, ap, subst}
use Rattle.bh_model.specs.State.{Octets}
use Rattle.bh_tables.specs.Typed.{Tables, no_rows}
use Rattle.bh_view.specs.Bodies.{IsSoundHost}
use Rattle.bh_view.specs.Sound.{IsSound}
use Rattle.bh_storage.specs.Calls.{Seen, IsAtRest, IsWorking, IsReadable}
use Rattle.bh_memo.specs.Facts.{Facts, nothing, holds}
use Rattle.bh_memo.specs.Recalled.{recalled}

-- no rows are a sound host's
pub holding : (facts : Facts) (s : Seen) → IsSound (recalled facts s).now → holds facts s.now ≡ true
unfolding recalled
holding facts s = go (holds facts s.now)
  where
    go : (b : Bool) → IsSound (if b then s.now else no_rows) → b ≡ true
    go true sound = refl
    go false sound = let alone = sound.host.alone in absurd (cc)

pub alone : (facts : Facts) (s : Seen) → holds facts s.now ≡ true → recalled facts s ≡ s
unfolding recalled
alone facts s h = ap (λ b. record s { now = if b then s.now else no_rows }) h

pub nothing_recalled : (s : Seen) → recalled nothing s ≡ s
nothing_recalled s = alone nothing s refl

-- what was committed, and the limits, are shown anyway
pub same_kept : (facts : Facts) (s : Seen) → (recalled facts s).kept ≡ s.kept
unfolding recalled
same_kept facts s = refl

pub same_limits : (facts : Facts) (s : Seen) → (recalled facts s).limits ≡ s.limits
unfolding recalled
same_limits facts s = refl

pub same_inside : (facts : Facts) (s : Seen) → (recalled facts s).inside ≡ s.inside
unfolding recalled
same_inside facts s = refl

module _ {digest : Octets → Octets} (facts : Facts) (s : Seen) where
  -- in a transaction
  pub works_holding : IsWorking (IsSoundHost digest) (recalled facts s) → holds facts s.now ≡ true
  works_holding working = holding facts s working.sound.sound

  pub works_alone : IsWorking (IsSoundHost digest) (recalled facts s) → recalled facts s ≡ s
  works_alone working = alone facts s (works_holding working)

  pub works_under : IsWorking (IsSoundHost digest) (recalled facts s) → IsWorking (IsSoundHost digest) s
  works_under working = subst (IsWorking (IsSoundHost digest)) (works_alone working) working

  -- outside
  pub rests_alone : IsAtRest (IsSoundHost digest) (recalled facts s) → recalled facts s ≡ s
  rests_alone rest = alone facts s (holding facts s rest.sound.sound)

  pub rests_under : IsAtRest (IsSoundHost digest) (recalled facts s) → IsAtRest (IsSoundHost digest) s
  rests_under rest = subst (IsAtRest (IsSoundHost digest)) (rests_alone rest) rest

  -- either
  pub reads_alone : IsReadable (IsSoundHost digest) (recalled facts s) → recalled facts s ≡ s
  reads_alone (inl rest) = rests_alone rest
  reads_alone (inr working) = works_alone working

  pub reads_under : IsReadable (IsSoundHost digest) (recalled facts s) → IsReadable (IsSoundHost digest) s
  reads_under (inl rest) = inl (rests_under rest)
  reads_under (inr working) = inr (works_under working)

-- rows that stay are shown as they were
pub same_now : (facts : Facts) (old new : Seen) → new.now ≡ old.now → (recalled facts new).now ≡ (recalled facts old).now
unfolding recalled
same_now facts old new same = ap (λ (x : Tables). if holds facts x then x else no_rows) same
