-- What is found among entries of which some are taken out.
use Rattle.std.proofs.Common.{◌≡◌, Bool, true, false, true≢false, cond, not, ◌&&◌, ◌||◌, List, [], ◌∷◌, filter, Option, Some, None, refl, sym, ap, ◌∙◌}
use Rattle.std.specs.List.{list_any, find}

module _ {X : Type 0} (p : X → Bool) where
  -- nothing is found that was taken out
  pub find_taken : (xs : List X) → find p (filter (λ x. not (p x)) xs) ≡ None
  find_taken [] = refl
  find_taken (x ∷ xs) = elim (p x) as (λ b. p x ≡ b → find p (cond (not b) (x ∷ filter (λ x. not (p x)) xs) (filter (λ x. not (p x)) xs)) ≡ None) [
    | true ↦ λ e. find_taken xs
    | false ↦ λ e. ap (λ b. cond b (Some x) (find p (filter (λ x. not (p x)) xs))) e ∙ find_taken xs
  ] refl

  pub any_taken : (q : X → Bool) (xs : List X) → list_any (λ x. p x && q x) (filter (λ x. not (p x)) xs) ≡ false
  any_taken q [] = refl
  any_taken q (x ∷ xs) = elim (p x) as (λ b. p x ≡ b → list_any (λ x. p x && q x) (cond (not b) (x ∷ filter (λ x. not (p x)) xs) (filter (λ x. not (p x)) xs)) ≡ false) [
    | true ↦ λ e. any_taken q xs
    | false ↦ λ e. ap (λ b. (b && q x) || list_any (λ x. p x && q x) (filter (λ x. not (p x)) xs)) e ∙ any_taken q xs
  ] refl

-- what is found stays where only others are taken out
module _ {X : Type 0} (p q : X → Bool) (stays : (x : X) → p x ≡ true → q x ≡ true) where
  skipped : (x : X) (rest : Option X) → q x ≡ false → (b : Bool) → p x ≡ b → rest ≡ cond b (Some x) rest
  skipped x rest out true is = absurd (true≢false (sym (stays x is) ∙ out))
  skipped x rest out false is = refl

  pub find_left : (xs : List X) → find p (filter q xs) ≡ find p xs
  find_left [] = refl
  find_left (x ∷ xs) = elim (q x) as (λ b. q x ≡ b → find p (cond b (x ∷ filter q xs) (filter q xs)) ≡ cond (p x) (Some x) (find p xs)) [
    | true ↦ λ e. ap (cond (p x) (Some x)) (find_left xs)
    | false ↦ λ e. find_left xs ∙ skipped x (find p xs) e (p x) refl
  ] refl
