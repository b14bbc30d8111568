-- What a crash may leave after a write or a change of the length.
use Rattle.std.proofs.Common.{ℕ, false, List, ◌∷◌, refl, inl, inr, arith}
use Rattle.sqlite_disk.specs.Disk.{Torn, Cut, Follows}
use Rattle.sqlite_disk.specs.History.{Step, Takes, MayLeave}

-- a write that changed nothing
pub torn_same : (at n : ℕ) (file : List ℕ) → Torn at n file file
torn_same at n file = record { no_shorter = omega arith; no_longer = omega arith; below = λ _ _ _. refl; above = λ _ _ _. refl }

-- a change of the length that changed nothing
pub cut_same : (n : ℕ) (file : List ℕ) → Cut n file file
cut_same n file = record { no_shorter = omega arith; no_longer = omega arith; below = λ _ _ _. refl }

-- one more step: a crash leaves what is seen, or takes the step or a part of it after what it could leave before
pub step_follows : (takes : List ℕ → List ℕ → Type 0) (old new synced : List ℕ) (steps : List Step) (step : Step) → takes old new
    → ((d c : List ℕ) → Takes false step d c → takes d c) → Follows takes (MayLeave false old synced steps) (MayLeave false new synced (step ∷ steps))
step_follows takes old new synced steps step seen lost c may = elim may [
  | inl same ↦ (old, inl refl, rw same seen)
  | inr reached ↦ (reached.0, inr reached.1, lost reached.0 c reached.2)
]
