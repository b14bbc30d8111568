-- Lists of facts: one more, and those that stay.
use Rattle.std.proofs.Common.{◌≡◌, ◌≢◌, ◌⊎◌, inl, inr, Decides, IsTrue, ℕ, Bool, true, false, true≢false, not, nat_eq, cond, filter, List, [], ◌∷◌, ◌++◌, Contains, refl, sym, ap, ◌∙◌, subst}
use Rattle.std.specs.Cmp.Lexicographic.{pointwise, bytes_decides}
use Rattle.sqlite_typed.specs.Tests.{bytes_eq}
use Rattle.bh_view.proofs.Keys.{octets}
use Rattle.lru.proofs.Splits.{Contains-head, Contains-tail, Contains-cons, Contains-nil}

-- texts are compared byte by byte
pub same_texts : (r : Bool) (x y a b : List ℕ) → r ≡ pointwise nat_eq x y → x ≡ a → y ≡ b → r ≡ bytes_eq a b
same_texts r x y a b is left right = is ∙ (λ i. pointwise nat_eq (left i) (right i)) ∙ agree (pointwise nat_eq a b) (bytes_eq a b) (bytes_decides a b) (octets.decides a b)
  where
    agree : (p q : Bool) → Decides p (a ≡ b) → Decides q (a ≡ b) → p ≡ q
    agree true true one two = refl
    agree false false one two = refl
    agree true false one two = sym (two.1 (one.0 refl))
    agree false true one two = one.1 (two.0 refl)

pub equal_texts : (r : Bool) (a b : List ℕ) → r ≡ bytes_eq a b → IsTrue r → a ≡ b
equal_texts r a b is h = (octets.decides a b).0 (sym is ∙ h)

module _ {X : Type 0} where
  pub one_more : (xs : List X) (y x : X) → Contains (xs ++ y ∷ []) x → Contains xs x ⊎ (x ≡ y)
  one_more [] y x there = elim (Contains-cons y [] x there) [ inl same ↦ inr (sym same) | inr none ↦ absurd (Contains-nil x none) ]
  one_more (z ∷ xs) y x there = elim (Contains-cons z (xs ++ y ∷ []) x there) [
    | inl same ↦ inl (subst (Contains (z ∷ xs)) same (Contains-head z xs))
    | inr later ↦ elim (one_more xs y x later) [ inl was ↦ inl (Contains-tail z xs x was) | inr is ↦ inr is ]
  ]

  -- one more, where there was memory for it
  pub pushed : (xs : List X) (y : X) (b : Bool) (x : X) → Contains (cond b (xs ++ y ∷ []) xs) x → Contains xs x ⊎ (x ≡ y)
  pushed xs y true x there = one_more xs y x there
  pushed xs y false x there = inl there

  -- none of none
  pub none_of : (xs : List X) (x : X) → Contains [] x → Contains xs x
  none_of xs x there = absurd (Contains-nil x there)

-- ---- those that stay

module _ {X : Type 0} (name : X → List ℕ) (t : List ℕ) where
  abbrev pub is_other : X → Bool
  is_other x = not (bytes_eq (name x) t)

  pub stays : (xs : List X) (x : X) → Contains (filter is_other xs) x → Contains xs x × (name x ≢ t)
  stays [] x there = absurd (Contains-nil x there)
  stays (y ∷ xs) x there = one y xs x (stays xs x) there
    where
      one : (y : X) (xs : List X) (x : X) → (Contains (filter is_other xs) x → Contains xs x × (name x ≢ t)) → Contains (filter is_other (y ∷ xs)) x → Contains (y ∷ xs) x × (name x ≢ t)
      one y xs x rest there = elim (bytes_eq (name y) t) as (λ e. bytes_eq (name y) t ≡ e → Contains (cond (not e) (y ∷ filter is_other xs) (filter is_other xs)) x → Contains (y ∷ xs) x × (name x ≢ t)) [
        | true ↦ λ same h. let it = rest h in (Contains-tail y xs x it.0, it.1)
        | false ↦ λ other h. elim (Contains-cons y (filter is_other xs) x h) [
          | inl here ↦ (subst (Contains (y ∷ xs)) here (Contains-head y xs), λ same. true≢false (sym ((octets.decides (name y) t).1 (ap name here ∙ same)) ∙ other))
          | inr later ↦ let it = rest later in (Contains-tail y xs x it.0, it.1)
        ]
      ] refl there
