-- What may remain of events of which the last has a stamp.
use Rattle.std.proofs.Common.{◌≡◌, ◌⊎◌, inl, inr, ℕ, List, [], ◌∷◌, ◌++◌, Option, Some, None}
use Rattle.std.specs.Prelude.{IfSome}
use Rattle.std.proofs.Math.Logic.{∥∥₁_map}
use Rattle.bh_event.specs.Events.{Arrival}
use Rattle.bh_tables.specs.Typed.{Tables}
use Rattle.bh_host.specs.Groups.{last_stamp}
use Rattle.bh_host.specs.Runs.{Told, Ran, MayRemain, MayRemainSince}
use Rattle.bh_host.specs.Turns.{WouldApplySome}

-- the tables at the end alone
at_end : (stamp : Option ℕ) (since : List Arrival) (before : Tables → Type 0) (end x : Tables)
    → IfSome stamp (λ _. before x ⊎ WouldApplySome since end x → x ≡ end) → before x ⊎ WouldApplySome since end x → IfSome stamp (λ _. x ≡ end)
at_end None since before end x go may = tt
at_end (Some m) since before end x go may = go may

remains_since : (stamp : Option ℕ) (since events : List Arrival) (tolds : List Told) (before : Tables → Type 0) (old end x : Tables) → Ran events tolds old end
    → IfSome stamp (λ _. before x ⊎ WouldApplySome since end x → x ≡ end) → MayRemainSince since events tolds before end x
    → IfSome (last_stamp stamp tolds) (λ _. x ≡ end)
remains_since stamp since [] [] before old end x ran go may = at_end stamp since before end x go may
remains_since stamp since [] (d ∷ dones) before old end x ran go may = absurd ran
remains_since stamp since (e ∷ events) [] before old end x ran go may = absurd ran
remains_since stamp since (e ∷ events) ((Some m, reply) ∷ dones) before old end x (mid, did, apart, ran) go may =
    remains_since (Some m) [] events dones (λ y. y ≡ end) mid end x ran (λ left. elim left [
      | inl is ↦ is
      | inr none ↦ absurd none
    ]) may
remains_since stamp since (e ∷ events) ((None, reply) ∷ dones) before old end x (mid, did, apart, ran) go may =
    remains_since None (since ++ e ∷ []) events dones before mid end x ran tt may

-- where there is a stamp
if_known : {B : Type 0} (P O : Type 0) (stamp : Option ℕ) → (B → IfSome stamp (λ _. P)) → ∥ (B ⊎ O) ∥₁ → IfSome stamp (λ _. ∥ (P ⊎ O) ∥₁)
if_known P O None go may = tt
if_known P O (Some m) go may = ∥∥₁_map may (λ which. elim which [
  | inl left ↦ inl (go left)
  | inr other ↦ inr other
])

pub remains_last : (events : List Arrival) (tolds : List Told) (before : Tables → Type 0) (old end x : Tables) (Else : Type 0) → Ran events tolds old end
    → ∥ (MayRemain events tolds before end x ⊎ Else) ∥₁ → IfSome (last_stamp None tolds) (λ _. ∥ ((x ≡ end) ⊎ Else) ∥₁)
remains_last events tolds before old end x Else ran may =
    if_known (x ≡ end) Else (last_stamp None tolds) (remains_since None [] events tolds before old end x ran tt) may
