-- Steps of states that follow one another, and runs over lists joined.
use Rattle.std.proofs.Common.{◌≡◌, ℕ, ◌≤◌, List, [], ◌∷◌, ◌++◌, Option, Some, None, Result, refl, sym, ap, ◌∙◌}
use Rattle.bh_model.specs.State.{State}
use Rattle.bh_model.specs.Runs.{purged_tenant, settled, step, solo, solo_state, Follows}
use Rattle.bh_model.proofs.PurgeLemmas.{state_purged_later}

pub purged_later : (s : Option State) (m n : ℕ) → m ≤ n → purged_tenant (purged_tenant s m) n ≡ purged_tenant s n
purged_later None m n up = refl
purged_later (Some s) m n up = ap Some (state_purged_later s m n up)

pub follows_later : (s seen : Option State) (last now : ℕ) → Follows s seen last → last ≤ now → Follows s seen now
follows_later s seen last now follows up = sym (purged_later s last now up) ∙ ap (λ p. purged_tenant p now) follows ∙ purged_later seen last now up

pub step_alike : {A X E : Type 0} (change : ℕ → A → Option State → Result (X × Option State) E) (s seen : Option State) (last now : ℕ) (act : A)
    → Follows s seen last → last ≤ now → step change now act s ≡ step change now act seen
step_alike change s seen last now act follows up = ap (λ p. settled p (change now act p)) (follows_later s seen last now follows up)

module _ {A R : Type 0} (step : ℕ → A → Option State → R × Option State) where
  pub solo-append : (s : Option State) (acts more : List (ℕ × A)) → solo step s (acts ++ more) ≡ solo step s acts ++ solo step (solo_state step s acts) more
  solo-append s [] more = refl
  solo-append s (a ∷ acts) more = ap (λ replies. (step a.0 a.1 s).0 ∷ replies) (solo-append (step a.0 a.1 s).1 acts more)

  pub solo_state-append : (s : Option State) (acts more : List (ℕ × A)) → solo_state step s (acts ++ more) ≡ solo_state step (solo_state step s acts) more
  solo_state-append s [] more = refl
  solo_state-append s (a ∷ acts) more = solo_state-append (step a.0 a.1 s).1 acts more
