-- Lists sorted twice, and lists in which each stands once.
use Rattle.std.proofs.Common.{◌≡◌, ℕ, suc, ◌≤◌, Bool, true, false, true≢false, not, cond, List, [], ◌∷◌, length, refl, sym, ap, subst, ◌∙◌, arith, Ordering, Less, Equal, Greater, is_gt, is_eq}
use Rattle.std.specs.List.{AllByRecursion}
use Rattle.std.specs.Cmp.{IsTotalOrder}
use Rattle.std.specs.Ordering.{ordering_reverse}
use Rattle.std.proofs.lemmas.Cmp.{upto}
use Rattle.std.proofs.lemmas.Int.{ints}
use Rattle.sqlite_keyed.specs.Lists.{insert_sorted, sort_by}
use Rattle.bh_view.specs.Grouped.{matching, same_number, HasUnique}
use Rattle.bh_view.proofs.SortLemmas.{all-sort_by}

-- ---- a list that was sorted by another order

turned : (o : Ordering) → is_eq o ≡ false → is_gt (ordering_reverse o) ≡ not (is_gt o)
turned Less h = refl
turned Equal h = absurd (true≢false h)
turned Greater h = refl

module _ {X : Type 0} (cmp : X → X → Ordering) (total : IsTotalOrder cmp) where
  abbrev put : X → List X → List X
  put = insert_sorted cmp

  -- two that are not alike may be put in either order
  put_swap : (x y : X) (l : List X) → is_eq (cmp x y) ≡ false → put x (put y l) ≡ put y (put x l)
  put_swap x y [] apart = go (is_gt (cmp x y)) refl
    where
      go : (t : Bool) → is_gt (cmp x y) ≡ t → cond (is_gt (cmp x y)) (y ∷ x ∷ []) (x ∷ y ∷ []) ≡ cond (is_gt (cmp y x)) (x ∷ y ∷ []) (y ∷ x ∷ [])
      go t e = ap (λ b. cond b (y ∷ x ∷ []) (x ∷ y ∷ [])) e ∙ same t ∙ sym (ap (λ b. cond b (x ∷ y ∷ []) (y ∷ x ∷ [])) (ap is_gt (total.antisymm y x) ∙ turned (cmp x y) apart ∙ ap not e))
        where
          same : (b : Bool) → cond b (y ∷ x ∷ []) (x ∷ y ∷ []) ≡ cond (not b) (x ∷ y ∷ []) (y ∷ x ∷ [])
          same true = refl
          same false = refl
  put_swap x y (z ∷ l) apart = go (is_gt (cmp x z)) (is_gt (cmp y z)) refl refl (put_swap x y l apart)
    where
      other : is_gt (cmp y x) ≡ not (is_gt (cmp x y))
      other = ap is_gt (total.antisymm y x) ∙ turned (cmp x y) apart

      above : (a b : X) → is_gt (cmp a z) ≡ true → is_gt (cmp b z) ≡ false → is_gt (cmp a b) ≡ true
      above a b h k = elim (is_gt (cmp a b)) as (λ t. is_gt (cmp a b) ≡ t → t ≡ true) [ true ↦ λ _. refl | false ↦ λ e. absurd (true≢false (sym h ∙ upto total a b z e k)) ] refl

      go : (a b : Bool) → is_gt (cmp x z) ≡ a → is_gt (cmp y z) ≡ b → put x (put y l) ≡ put y (put x l)
          → put x (cond b (z ∷ put y l) (y ∷ z ∷ l)) ≡ put y (cond a (z ∷ put x l) (x ∷ z ∷ l))
      go true true e f more = ap (λ t. cond t (z ∷ put x (put y l)) (x ∷ z ∷ put y l)) e ∙ ap (λ k. z ∷ k) more ∙ sym (ap (λ t. cond t (z ∷ put y (put x l)) (y ∷ z ∷ put x l)) f)
      go true false e f more =
          ap (λ t. cond t (y ∷ put x (z ∷ l)) (x ∷ y ∷ z ∷ l)) (above x y e f) ∙ ap (λ t. y ∷ cond t (z ∷ put x l) (x ∷ z ∷ l)) e
          ∙ sym (ap (λ t. cond t (z ∷ put y (put x l)) (y ∷ z ∷ put x l)) f)
      go false true e f more =
          ap (λ t. cond t (z ∷ put x (put y l)) (x ∷ z ∷ put y l)) e
          ∙ sym (ap (λ t. cond t (x ∷ put y (z ∷ l)) (y ∷ x ∷ z ∷ l)) (above y x f e) ∙ ap (λ t. x ∷ cond t (z ∷ put y l) (y ∷ z ∷ l)) f)
      go false false e f more = first (is_gt (cmp x y)) refl
        where
          first : (t : Bool) → is_gt (cmp x y) ≡ t → cond (is_gt (cmp x y)) (y ∷ put x (z ∷ l)) (x ∷ y ∷ z ∷ l) ≡ cond (is_gt (cmp y x)) (x ∷ put y (z ∷ l)) (y ∷ x ∷ z ∷ l)
          first true s =
              ap (λ t. cond t (y ∷ put x (z ∷ l)) (x ∷ y ∷ z ∷ l)) s ∙ ap (λ t. y ∷ cond t (z ∷ put x l) (x ∷ z ∷ l)) e
              ∙ sym (ap (λ t. cond t (x ∷ put y (z ∷ l)) (y ∷ x ∷ z ∷ l)) (other ∙ ap not s))
          first false s =
              ap (λ t. cond t (y ∷ put x (z ∷ l)) (x ∷ y ∷ z ∷ l)) s
              ∙ sym (ap (λ t. cond t (x ∷ put y (z ∷ l)) (y ∷ x ∷ z ∷ l)) (other ∙ ap not s) ∙ ap (λ t. x ∷ cond t (z ∷ put y l) (y ∷ z ∷ l)) f)

  module _ (order : X → X → Ordering) where
    put_sorted : (x : X) (l : List X) → AllByRecursion (λ y. is_eq (cmp x y) ≡ false) l → sort_by cmp (insert_sorted order x l) ≡ put x (sort_by cmp l)
    put_sorted x [] apart = refl
    put_sorted x (y ∷ l) apart = elim (is_gt (order x y)) as (λ t. sort_by cmp (cond t (y ∷ insert_sorted order x l) (x ∷ y ∷ l)) ≡ put x (put y (sort_by cmp l))) [
      | true ↦ ap (put y) (put_sorted x l apart.1) ∙ sym (put_swap x y (sort_by cmp l) apart.0)
      | false ↦ refl
    ]

    -- no two are alike
    abbrev pub AreApart : List X → Type 0
    AreApart [] = Unit {0}
    AreApart (x ∷ l) = AllByRecursion (λ y. is_eq (cmp x y) ≡ false) l × AreApart l

    pub sorted_twice : (l : List X) → AreApart l → sort_by cmp (sort_by order l) ≡ sort_by cmp l
    sorted_twice [] apart = refl
    sorted_twice (x ∷ l) apart = put_sorted x (sort_by order l) (all-sort_by order (λ y. is_eq (cmp x y) ≡ false) l apart.0) ∙ ap (put x) (sorted_twice l apart.1)

-- ---- a list in which each number stands once

itself : (n : ℕ) → same_number n n ≡ true
itself n = grind (arith, ints)

module _ {X : Type 0} (number : X → ℕ) where
  abbrev numbered : ℕ → List X → List X
  numbered = matching same_number number

  tail : (x : X) (l : List X) → HasUnique same_number number (x ∷ l) → HasUnique same_number number l
  tail x l one k = go (same_number (number x) k) (one k)
    where
      go : (t : Bool) → length (cond t (x ∷ numbered k l) (numbered k l)) ≤ 1 → length (numbered k l) ≤ 1
      go true h = omega (arith, h)
      go false h = h

  empty_of : (l : List X) → suc (length l) ≤ 1 → l ≡ []
  empty_of [] h = refl
  empty_of (x ∷ l) h = absurd (omega (arith, h))

  none_as : (n : ℕ) (l : List X) → numbered n l ≡ [] → AllByRecursion (λ y. same_number (number y) n ≡ false) l
  none_as n [] h = tt
  none_as n (y ∷ l) h = go (same_number (number y) n) refl h (λ k. none_as n l k)
    where
      cons_none : {x : X} {l : List X} → x ∷ l ≡ [] → ⊥
      cons_none h = cc

      go : (t : Bool) → same_number (number y) n ≡ t → cond t (y ∷ numbered n l) (numbered n l) ≡ [] → (numbered n l ≡ [] → AllByRecursion (λ y. same_number (number y) n ≡ false) l)
          → (same_number (number y) n ≡ false) × AllByRecursion (λ y. same_number (number y) n ≡ false) l
      go true e h more = absurd (cons_none h)
      go false e h more = (e, more h)

  abbrev pub AreOnce : List X → Type 0
  AreOnce [] = Unit {0}
  AreOnce (x ∷ l) = AllByRecursion (λ y. same_number (number y) (number x) ≡ false) l × AreOnce l

  pub once : (l : List X) → HasUnique same_number number l → AreOnce l
  once [] one = tt
  once (x ∷ l) one =
      (none_as (number x) l (empty_of (numbered (number x) l) (subst (λ t. length (cond t (x ∷ numbered (number x) l) (numbered (number x) l)) ≤ 1) (itself (number x)) (one (number x)))), once l (tail x l one))
