-- The run of one tenant's private machine, over its own acts alone. An act is an event as it was
-- understood. `step` maps a moment, an act and a state to an answer and a state.
use Rattle.std.specs.Prelude.{◌≡◌, ℕ, Bool, false, List, [], ◌∷◌, map, max, nat_le, filter, Option, Some, None, option_map, Result, Ok, Err}
use Rattle.std.specs.Prelude.{bytes_eq, if◌then◌else◌}
use Rattle.bh_types.specs.declared.refusal.Refusal.{Refusal}
use Rattle.bh_types.specs.declared.refusal.Refusal.TheVariants.{ClockOutOfRange}
use Rattle.bh_model.specs.State.{Octets, State, purged}

-- the last valid reading of the clock, in seconds since 1970
abbrev pub last_reading : ℕ
last_reading = 250_000_000_000

-- the stamp of an event: its reading, or the last stamp if that is greater, so that stamps never
-- decrease
abbrev pub stamp_of : ℕ → ℕ → Result ℕ Refusal
stamp_of reading last = if nat_le reading last_reading then Ok (max reading last) else Err ClockOutOfRange

abbrev pub purged_tenant : Option State → ℕ → Option State
purged_tenant s now = option_map (λ t. purged t now) s

-- the answer, and the state then: a refusal doesn't change the state
abbrev pub settled : {X E : Type 0} → Option State → Result (X × Option State) E → Result X E × Option State
settled s (Ok a) = (Ok a.0, a.1)
settled s (Err e) = (Err e, s)

-- each act of a tenant first purges its state
abbrev pub step : {A X E : Type 0} → (ℕ → A → Option State → Result (X × Option State) E) → ℕ → A → Option State → Result X E × Option State
step change now act s = settled (purged_tenant s now) (change now act (purged_tenant s now))

-- an event with a stamp: how it was understood, and its reply
pub record Turn (A R : Type 0) : Type 0 where
  pub act : A
  pub stamp : ℕ
  pub reply : R

abbrev pub is_same_tenant : Octets → Option Octets → Bool
is_same_tenant t None = false
is_same_tenant t (Some u) = bytes_eq u t

module _ {A R : Type 0} (owner : A → Option Octets) where
  abbrev pub is_own : Octets → Turn A R → Bool
  is_own t turn = is_same_tenant t (owner turn.act)

  -- a tenant's own acts with their stamps, in order, and its replies
  abbrev pub own : Octets → List (Turn A R) → List (ℕ × A)
  own t turns = map (λ turn. (turn.stamp, turn.act)) (filter (is_own t) turns)

  abbrev pub replies_to : Octets → List (Turn A R) → List R
  replies_to t turns = map (λ turn. turn.reply) (filter (is_own t) turns)

-- the machine alone, given stamped acts: its answers, and the state then
module _ {A R : Type 0} (step : ℕ → A → Option State → R × Option State) where
  abbrev pub solo : Option State → List (ℕ × A) → List R
  solo s [] = []
  solo s (a ∷ acts) = (step a.0 a.1 s).0 ∷ solo (step a.0 a.1 s).1 acts

  abbrev pub solo_state : Option State → List (ℕ × A) → Option State
  solo_state s [] = s
  solo_state s (a ∷ acts) = solo_state (step a.0 a.1 s).1 acts

-- equal once the uploads that are stale by now are gone
abbrev pub Follows : Option State → Option State → ℕ → Type 0
Follows s seen now = purged_tenant s now ≡ purged_tenant seen now
