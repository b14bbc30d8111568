-- A step of the machine, by what it is with its response in place of its answer.
use Rattle.std.proofs.Common.{◌≡◌, true≢false, Option, Result, Ok, Err, IfOk, is_ok, sym, ap}
use Rattle.bh_http.specs.Responses.{Sent}
use Rattle.bh_model.specs.Operations.{Answer}
use Rattle.bh_model.specs.State.{State}
use Rattle.bh_host.specs.Offers.{responded}
use Rattle.bh_host.specs.Replies.{response_to}

module _ {E : Type 0} where
  abbrev step_of : Sent × Option State → Result (Sent × Option State) E → Sent × Option State
  step_of other (Ok step) = step
  step_of other (Err e) = other

  abbrev error_of : E → Result (Sent × Option State) E → E
  error_of other (Ok step) = other
  error_of other (Err e) = e

  -- it has an answer, with this response
  pub responded_ok : (r : Result (Answer × Option State) E) (sent : Sent) (s : Option State) → responded r ≡ Ok (sent, s) → (answer : Answer) × (r ≡ Ok (answer, s)) × (response_to answer ≡ sent)
  responded_ok (Ok step) sent s is =
      let same : (response_to step.0, step.1) ≡ (sent, s) = ap (step_of (sent, s)) is in
      (step.0, ap (λ (x : Option State). Ok (step.0, x)) (ap (λ p. p.1) same), ap (λ p. p.0) same)
  responded_ok (Err e) sent s is = absurd (true≢false (sym (ap is_ok is)))

  -- it is refused so
  pub responded_err : (r : Result (Answer × Option State) E) (e : E) → responded r ≡ Err e → r ≡ Err e
  responded_err (Ok step) e is = absurd (true≢false (ap is_ok is))
  responded_err (Err x) e is = ap (λ y. Err y) (ap (error_of e) is)

  -- the same state is left
  pub responded_left : (P : Option State → Type 0) (r : Result (Answer × Option State) E) → IfOk r (λ o. P o.1) → IfOk (responded r) (λ o. P o.1)
  responded_left P (Ok step) h = h
  responded_left P (Err e) h = h
