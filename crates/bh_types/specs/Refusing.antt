-- The possible refusals of something.
use Rattle.std.specs.Prelude.{◌≡◌, Bool, true, IfErr, Result}
use Rattle.bh_types.specs.declared.refusal.Refusal.{Refusal}

-- refused, if at all, with a refusal that passes the test
abbrev pub RefusedOnly : {X : Type 0} → (Refusal → Bool) → Result X Refusal → Type 0
RefusedOnly may result = IfErr result (λ refusal. may refusal ≡ true)
