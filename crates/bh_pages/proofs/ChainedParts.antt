-- Pages of parts that are chained by their numbers show each part once and in order.
use Rattle.std.proofs.Common.{◌≡◌, ℕ, zero, suc, nat_lt, Bool, true, false, cond, List, [], ◌∷◌, map, filter, take, drop, Some, refl, sym, ap, subst, ◌∙◌, arith, nat_cmp}
use Rattle.std.specs.List.{AllByRecursion}
use Rattle.std.specs.FinMap.{entries, entries_sorted}
use Rattle.std.specs.Ordering.{is_lt}
use Rattle.std.proofs.lemmas.Bool.Decides.{nat_tests}
use Rattle.bh_model.specs.State.{Part}
use Rattle.bh_model.specs.Pages.{PartItem, last_of, part_item, parts_after}
use Rattle.bh_pages.specs.Laws.{part_number, PartsChain}
use Rattle.bh_pages.proofs.Bytes.{none_some, some_same}
use Rattle.bh_pages.proofs.Pairs.{Pairs, Rises, sorted_pairs}
use Rattle.bh_pages.proofs.Chaining.{all_last, chain}

-- each number is less than those that follow it
abbrev Climb : List PartItem → Type 0
Climb [] = Unit {0}
Climb (p ∷ l) = AllByRecursion (λ (q : PartItem). nat_lt p.number q.number ≡ true) l × Climb l

abbrev after : ℕ → List PartItem → List PartItem
after marker l = filter (λ (p : PartItem). nat_lt marker p.number) l

not_less : (a b : ℕ) → nat_lt a b ≡ true → nat_lt b a ≡ false
not_less a b h = grind (arith, nat_tests, h)

not_itself : (a : ℕ) → nat_lt a a ≡ false
not_itself a = grind (arith, nat_tests)

whole : (n : ℕ) (l : List PartItem) → AllByRecursion (λ (p : PartItem). nat_lt n p.number ≡ true) l → after n l ≡ l
whole n [] all = refl
whole n (p ∷ l) all = ap (λ t. cond t (p ∷ after n l) (after n l)) all.0 ∙ ap (λ r. p ∷ r) (whole n l all.1)

-- what is after a greater number is after a lesser one
narrow : (m n : ℕ) → nat_lt m n ≡ true → (l : List PartItem) → after n l ≡ after n (after m l)
narrow m n less [] = refl
narrow m n less (p ∷ l) = go (nat_lt m p.number) (nat_lt n p.number) refl refl (narrow m n less l)
  where
    both : nat_lt m p.number ≡ false → nat_lt n p.number ≡ false
    both h = grind (arith, nat_tests, less, h)

    go : (a b : Bool) → nat_lt m p.number ≡ a → nat_lt n p.number ≡ b → after n l ≡ after n (after m l) → cond b (p ∷ after n l) (after n l) ≡ after n (cond a (p ∷ after m l) (after m l))
    go true b e f more = ap (λ k. cond b (p ∷ k) k) more ∙ ap (λ t. cond t (p ∷ after n (after m l)) (after n (after m l))) (sym f)
    go false b e f more = ap (λ t. cond t (p ∷ after n l) (after n l)) (sym f ∙ both e) ∙ more

climb_filter : (n : ℕ) (l : List PartItem) → Climb l → Climb (after n l)
climb_filter n [] up = tt
climb_filter n (p ∷ l) up = elim (nat_lt n p.number) as (λ t. Climb (cond t (p ∷ after n l) (after n l))) [ true ↦ (kept l up.0, climb_filter n l up.1) | false ↦ climb_filter n l up.1 ]
  where
    kept : (k : List PartItem) → AllByRecursion (λ (q : PartItem). nat_lt p.number q.number ≡ true) k → AllByRecursion (λ (q : PartItem). nat_lt p.number q.number ≡ true) (after n k)
    kept [] all = tt
    kept (q ∷ k) all = elim (nat_lt n q.number) as (λ t. AllByRecursion (λ (q : PartItem). nat_lt p.number q.number ≡ true) (cond t (q ∷ after n k) (after n k))) [ true ↦ (all.0, kept k all.1) | false ↦ kept k all.1 ]

passes : (n m : ℕ) (l : List PartItem) (e : PartItem) → last_of (take m (after n l)) ≡ Some e → nat_lt n e.number ≡ true
passes n m l e h = all_last (λ (p : PartItem). nat_lt n p.number ≡ true) m (after n l) e (each l) h
  where
    each : (l : List PartItem) → AllByRecursion (λ (p : PartItem). nat_lt n p.number ≡ true) (after n l)
    each [] = tt
    each (p ∷ l) = elim (nat_lt n p.number) as (λ t. nat_lt n p.number ≡ t → AllByRecursion (λ (p : PartItem). nat_lt n p.number ≡ true) (cond t (p ∷ after n l) (after n l))) [ true ↦ λ e. (e, each l) | false ↦ λ _. each l ] refl

-- after the last of the first come the others
past_last : (m : ℕ) (l : List PartItem) (e : PartItem) → Climb l → last_of (take m l) ≡ Some e → after e.number l ≡ drop m l
past_last zero [] e up h = absurd (none_some h)
past_last zero (x ∷ l) e up h = absurd (none_some h)
past_last (suc m) [] e up h = absurd (none_some h)
past_last (suc zero) (x ∷ l) e up h = subst (λ (z : PartItem). after z.number (x ∷ l) ≡ l) (some_same h) (ap (λ t. cond t (x ∷ after x.number l) (after x.number l)) (not_itself x.number) ∙ whole x.number l up.0)
past_last (suc (suc m)) (x ∷ []) e up h = subst (λ (z : PartItem). after z.number (x ∷ []) ≡ []) (some_same h) (ap (λ t. cond t (x ∷ []) []) (not_itself x.number))
past_last (suc (suc m)) (x ∷ y ∷ l) e up h =
    ap (λ t. cond t (x ∷ after e.number (y ∷ l)) (after e.number (y ∷ l))) (not_less x.number e.number (all_last (λ (q : PartItem). nat_lt x.number q.number ≡ true) (suc m) (y ∷ l) e up.0 h)) ∙ past_last (suc m) (y ∷ l) e up.1 h

-- ---- the pages, one after another

after_map : (marker : ℕ) (l : List (ℕ × Part)) → parts_after marker l ≡ after marker (map part_item l)
after_map marker [] = refl
after_map marker (p ∷ l) = elim (nat_lt marker p.0) as (λ t. map part_item (cond t (p ∷ filter (λ (p : ℕ × Part). nat_lt marker p.0) l) (filter (λ (p : ℕ × Part). nat_lt marker p.0) l)) ≡ cond t (part_item p ∷ after marker (map part_item l)) (after marker (map part_item l))) [
  | true ↦ ap (λ k. part_item p ∷ k) (after_map marker l)
  | false ↦ after_map marker l
]

module _ (parts : List (ℕ × Part)) (up : Climb (map part_item parts)) (marker : ℕ) where
  abbrev rest : List PartItem
  rest = parts_after marker parts

  rest_is : rest ≡ after marker (map part_item parts)
  rest_is = after_map marker parts

  behind : (d : ℕ) (e : PartItem) → last_of (take d rest) ≡ Some e → parts_after e.number parts ≡ drop d rest
  behind d e there =
      let at : last_of (take d (after marker (map part_item parts))) ≡ Some e = ap (λ l. last_of (take d l)) (sym rest_is) ∙ there in
      after_map e.number parts ∙ narrow marker e.number (passes marker d (map part_item parts) e at) (map part_item parts)
      ∙ past_last d (after marker (map part_item parts)) e (climb_filter marker (map part_item parts) up) at ∙ ap (drop d) (sym rest_is)

-- ---- a map's entries climb

less_is : (m n : ℕ) → is_lt (nat_cmp m n) ≡ true → nat_lt m n ≡ true
less_is m n h = grind (arith, nat_tests, h)

numbers_climb : (es : List (ℕ × Part)) → Pairs (Rises nat_cmp) es → Climb (map part_item es)
numbers_climb [] up = tt
numbers_climb (e ∷ es) up = (below es up.0, numbers_climb es up.1)
  where
    below : (l : List (ℕ × Part)) → AllByRecursion (Rises nat_cmp e) l → AllByRecursion (λ (q : PartItem). nat_lt e.0 q.number ≡ true) (map part_item l)
    below [] all = tt
    below (f ∷ l) all = (less_is e.0 f.0 all.0, below l all.1)

pub parts_chain : PartsChain
parts_chain parts sizes marker some =
    let climb = numbers_climb (entries parts) (sorted_pairs nat_cmp (entries parts) (entries_sorted parts)) in
    chain part_number (λ n. parts_after n (entries parts)) (parts_after marker (entries parts)) (behind (entries parts) climb marker) sizes some 0 marker refl
