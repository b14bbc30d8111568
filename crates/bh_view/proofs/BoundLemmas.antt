-- What the tenants use stays bounded where one tenant's state changes so.
use Rattle.std.proofs.Common.{◌≡◌, ◌≢◌, true, false, true≢false, Option, Result, Ok, refl, sym, ◌∙◌, subst}
use Rattle.std.specs.Result.{IfOk}
use Rattle.sqlite_typed.specs.Tests.{bytes_eq}
use Rattle.bh_model.specs.QuotaLaws.{IsBounded, StaysBounded}
use Rattle.bh_model.specs.State.{Octets, State}
use Rattle.bh_tables.specs.Typed.{Tables}
use Rattle.bh_view.specs.Bodies.{AreBounded}
use Rattle.bh_view.specs.View.{view}
use Rattle.bh_view.proofs.Keys.{octets}

-- where all see what they saw
pub bounded_same : (old new : Tables) → ((t : Octets) → view new t ≡ view old t) → AreBounded old → AreBounded new
bounded_same old new same bounded = λ t. subst IsBounded (sym (same t)) (bounded t)

-- where all but one do
pub bounded_but : (t : Octets) (old new : Tables) → ((u : Octets) → u ≢ t → view new u ≡ view old u) → IsBounded (view new t) → AreBounded old → AreBounded new
bounded_but t old new others own bounded = λ u. elim (bytes_eq u t) as (λ b. bytes_eq u t ≡ b → IsBounded (view new u)) [
  | true ↦ λ same. subst (λ x. IsBounded (view new x)) (sym ((octets.decides u t).0 same)) own
  | false ↦ λ apart. subst IsBounded (sym (others u (λ same. true≢false (sym ((octets.decides u t).1 same) ∙ apart)))) (bounded u)
] refl

-- a step gives such a state
pub bounded_step : {X E : Type 0} (step : Option State → Result (X × Option State) E) → StaysBounded step → (x : X) (before after : Option State) → step before ≡ Ok (x, after) → IsBounded before → IsBounded after
bounded_step step stays x before after gives bound = subst (λ r. IfOk r (λ o. IsBounded o.1)) gives (stays before bound)
