-- A sorted list after a push of the least, and after a filter.
use Rattle.std.proofs.Common.{◌≡◌, Bool, true, false, true≢false, cond, List, [], ◌∷◌, ◌++◌, length, ◌≤◌, arith, filter, refl, sym, ap, ◌∙◌, Ordering, Less, Equal, Greater, is_gt}
use Rattle.std.specs.List.{AllByRecursion}
use Rattle.std.specs.Cmp.{IsTotalOrder}
use Rattle.std.specs.Ordering.{ordering_reverse}
use Rattle.std.proofs.lemmas.Cmp.{upto}
use Rattle.sqlite_trees.specs.Tree.{IsAscending}
use Rattle.sqlite_keyed.specs.Lists.{insert_sorted, sort_by}
use Rattle.sqlite_keyed.proofs.ListLemmas.{all_weaker, all-filter}

module _ {X : Type 0} (cmp : X → X → Ordering) where
  abbrev pub AtMost : X → X → Type 0
  AtMost a b = is_gt (cmp a b) ≡ false

  -- one that stands before all the others
  pub sort_by_push : (xs : List X) (new : X) → AllByRecursion (λ x. is_gt (cmp x new) ≡ true) xs → sort_by cmp (xs ++ new ∷ []) ≡ new ∷ sort_by cmp xs
  sort_by_push [] new all = refl
  sort_by_push (x ∷ xs) new all = ap (insert_sorted cmp x) (sort_by_push xs new all.1) ∙ ap (λ b. cond b (new ∷ insert_sorted cmp x (sort_by cmp xs)) (x ∷ new ∷ sort_by cmp xs)) all.0

  pub sorted_single : (xs : List X) → length xs ≤ 1 → sort_by cmp xs ≡ xs
  sorted_single [] short = refl
  sorted_single (x ∷ []) short = refl
  sorted_single (x ∷ y ∷ xs) short = absurd (omega arith)

  all-insert_sorted : (P : X → Type 0) (new : X) (xs : List X) → P new → AllByRecursion P xs → AllByRecursion P (insert_sorted cmp new xs)
  all-insert_sorted P new [] h all = (h, tt)
  all-insert_sorted P new (x ∷ xs) h all =
      elim (is_gt (cmp new x)) as (λ b. AllByRecursion P (cond b (x ∷ insert_sorted cmp new xs) (new ∷ x ∷ xs))) [ true ↦ (all.0, all-insert_sorted P new xs h all.1) | false ↦ (h, all) ]

  pub all-sort_by : (P : X → Type 0) (xs : List X) → AllByRecursion P xs → AllByRecursion P (sort_by cmp xs)
  all-sort_by P [] all = tt
  all-sort_by P (x ∷ xs) all = all-insert_sorted P x (sort_by cmp xs) all.0 (all-sort_by P xs all.1)

  in_front : (new : X) (ys : List X) → AllByRecursion (AtMost new) ys → insert_sorted cmp new ys ≡ new ∷ ys
  in_front new [] all = refl
  in_front new (y ∷ ys) all = ap (λ b. cond b (y ∷ insert_sorted cmp new ys) (new ∷ y ∷ ys)) all.0

  module _ (total : IsTotalOrder cmp) where
    turned : (o : Ordering) → is_gt o ≡ true → is_gt (ordering_reverse o) ≡ false
    turned Less h = absurd (true≢false (sym h))
    turned Equal h = refl
    turned Greater h = refl

    up-insert_sorted : (new : X) (xs : List X) → IsAscending AtMost xs → IsAscending AtMost (insert_sorted cmp new xs)
    up-insert_sorted new [] up = (tt, tt)
    up-insert_sorted new (x ∷ xs) up =
        elim (is_gt (cmp new x)) as (λ b. is_gt (cmp new x) ≡ b → IsAscending AtMost (cond b (x ∷ insert_sorted cmp new xs) (new ∷ x ∷ xs))) [
          | true ↦ λ e. (all-insert_sorted (AtMost x) new xs (ap is_gt (total.antisymm x new) ∙ turned _ e) up.0, up-insert_sorted new xs up.1)
          | false ↦ λ e. ((e, all_weaker _ (AtMost new) (λ z. upto total new x z e) xs up.0), up)
        ] refl

    pub up-sort_by : (xs : List X) → IsAscending AtMost (sort_by cmp xs)
    up-sort_by [] = tt
    up-sort_by (x ∷ xs) = up-insert_sorted x _ (up-sort_by xs)

    filter-insert_sorted : (p : X → Bool) (new : X) (ys : List X) → IsAscending AtMost ys → filter p (insert_sorted cmp new ys) ≡ cond (p new) (insert_sorted cmp new (filter p ys)) (filter p ys)
    filter-insert_sorted p new [] up = refl
    filter-insert_sorted p new (y ∷ ys) up =
        elim (is_gt (cmp new y)) as (λ b. is_gt (cmp new y) ≡ b → filter p (cond b (y ∷ insert_sorted cmp new ys) (new ∷ y ∷ ys)) ≡ cond (p new) (insert_sorted cmp new (filter p (y ∷ ys))) (filter p (y ∷ ys))) [
          | true ↦ λ e. ap (λ l. cond (p y) (y ∷ l) l) (filter-insert_sorted p new ys up.1)
              ∙ elim (p y) as (λ a. cond a (y ∷ cond (p new) (insert_sorted cmp new (filter p ys)) (filter p ys)) (cond (p new) (insert_sorted cmp new (filter p ys)) (filter p ys))
              ≡ cond (p new) (insert_sorted cmp new (cond a (y ∷ filter p ys) (filter p ys))) (cond a (y ∷ filter p ys) (filter p ys))) [
                | true ↦ elim (p new) as (λ c. y ∷ cond c (insert_sorted cmp new (filter p ys)) (filter p ys) ≡ cond c (insert_sorted cmp new (y ∷ filter p ys)) (y ∷ filter p ys)) [
                  | true ↦ sym (ap (λ b. cond b (y ∷ insert_sorted cmp new (filter p ys)) (new ∷ y ∷ filter p ys)) e)
                  | false ↦ refl
                ]
                | false ↦ refl
              ]
          | false ↦ λ e. ap (λ l. cond (p new) l (filter p (y ∷ ys))) (sym (in_front new (filter p (y ∷ ys)) (all-filter (AtMost new) p (y ∷ ys) (e, all_weaker _ (AtMost new) (λ z. upto total new y z e) ys up.0))))
        ] refl

    pub sort_by-filter : (p : X → Bool) (xs : List X) → sort_by cmp (filter p xs) ≡ filter p (sort_by cmp xs)
    sort_by-filter p [] = refl
    sort_by-filter p (x ∷ xs) =
        elim (p x) as (λ b. p x ≡ b → sort_by cmp (cond b (x ∷ filter p xs) (filter p xs)) ≡ filter p (insert_sorted cmp x (sort_by cmp xs))) [
          | true ↦ λ e. ap (insert_sorted cmp x) (sort_by-filter p xs) ∙ sym (filter-insert_sorted p x (sort_by cmp xs) (up-sort_by xs) ∙ ap (λ b. cond b (insert_sorted cmp x (filter p (sort_by cmp xs))) (filter p (sort_by cmp xs))) e)
          | false ↦ λ e. sort_by-filter p xs ∙ sym (filter-insert_sorted p x (sort_by cmp xs) (up-sort_by xs) ∙ ap (λ b. cond b (insert_sorted cmp x (filter p (sort_by cmp xs))) (filter p (sort_by cmp xs))) e)
        ] refl
