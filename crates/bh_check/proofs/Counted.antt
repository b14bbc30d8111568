-- What a sum over rows says of the rows of a name.
use Rattle.std.proofs.Common.{arith, ◌≡◌, inl, inr, ℕ, ◌+◌, ◌<◌, ◌≤◌, Bool, true, false, ◌&&◌, ◌||◌, cond, if◌then◌else◌, List, [], ◌∷◌, length, map, filter, refl, sym, ap, ◌∙◌, sum_by}
use Rattle.std.specs.List.{AllByRecursion, list_any}
use Rattle.std.proofs.lemmas.Bool.{cases_Bool}
use Rattle.std.proofs.lemmas.List.Sums.{sum_by-cons}
use Rattle.bh_tables.specs.Bodies.{Name, same_name}
use Rattle.bh_check.specs.Sums.{total}

module _ {R : Type 0} (name : R → Name) where
  abbrev count : List R → Name → ℕ
  count = total name (λ _. 1)

  abbrev has : Name → R → Bool
  has q r = same_name (name r) q

  count-cons : (r : R) (rows : List R) (q : Name) → count (r ∷ rows) q ≡ (if has q r then 1 else 0) + count rows q
  count-cons r rows q = sum_by-cons (λ s. if has q s then 1 else 0) r rows

  -- no row has a name that none was counted of
  pub none_has : (rows : List R) (q : Name) → count rows q ≡ 0 → list_any (λ r. same_name (name r) q) rows ≡ false
  none_has [] q h = refl
  none_has (r ∷ rows) q h = elim (cases_Bool (has q r)) [
    | inl is ↦ let more = sym h ∙ count-cons r rows q ∙ ap (λ b. (if b then 1 else 0) + count rows q) is in absurd (omega (arith, more))
    | inr not ↦ let less = sym h ∙ count-cons r rows q ∙ ap (λ b. (if b then 1 else 0) + count rows q) not in ap (λ b. b || list_any (has q) rows) not ∙ none_has rows q (omega (arith, less))
  ]

  -- and of a name that no row has, none is
  pub none_counted : (rows : List R) (q : Name) → list_any (λ r. same_name (name r) q) rows ≡ false → count rows q ≡ 0
  none_counted [] q h = refl
  none_counted (r ∷ rows) q h = elim (cases_Bool (has q r)) [
    | inl is ↦ absurd (both_are (sym (ap (λ b. b || list_any (has q) rows) is) ∙ h))
    | inr not ↦ let less = count-cons r rows q ∙ ap (λ b. (if b then 1 else 0) + count rows q) not in let rest = none_counted rows q (sym (ap (λ b. b || list_any (has q) rows) not) ∙ h) in omega (arith, less, rest)
  ]
    where
      both_are : true ≡ false → ⊥
      both_are e = cc

  pub some_has_it : (rows : List R) (q : Name) → 0 < count rows q → list_any (λ r. same_name (name r) q) rows ≡ true
  some_has_it rows q h = elim (cases_Bool (list_any (has q) rows)) [ inl is ↦ is | inr not ↦ let none = none_counted rows q not in absurd (omega (arith, none, h)) ]

-- ---- at most one row

pub sum_of_one : {X : Type 0} (f : X → ℕ) (xs : List X) → length xs ≤ 1 → AllByRecursion (λ x. sum_by f xs ≡ f x) xs
sum_of_one f [] h = tt
sum_of_one f (x ∷ []) h = let is = sum_by-cons f x [] in (omega (arith, is), tt)
sum_of_one f (x ∷ y ∷ xs) h = absurd (omega (arith, h))

-- ---- a test among the rows of another

pub any_in : {X : Type 0} (p m : X → Bool) (xs : List X) → list_any m (filter p xs) ≡ list_any (λ x. p x && m x) xs
any_in p m [] = refl
any_in p m (x ∷ xs) = go (p x) (any_in p m xs)
  where
    go : (b : Bool) → list_any m (filter p xs) ≡ list_any (λ y. p y && m y) xs → list_any m (cond b (x ∷ filter p xs) (filter p xs)) ≡ ((b && m x) || list_any (λ y. p y && m y) xs)
    go true rest = ap (λ b. m x || b) rest
    go false rest = rest

pub any_map : {X Y : Type 0} (f : X → Y) (m : Y → Bool) (xs : List X) → list_any m (map f xs) ≡ list_any (λ x. m (f x)) xs
any_map f m [] = refl
any_map f m (x ∷ xs) = ap (λ b. m (f x) || b) (any_map f m xs)

pub filter_of_none : {X : Type 0} (p : X → Bool) (xs : List X) → list_any p xs ≡ false → filter p xs ≡ []
filter_of_none p [] h = refl
filter_of_none p (x ∷ xs) h = elim (cases_Bool (p x)) [
  | inl is ↦ absurd (both_are (sym (ap (λ b. b || list_any p xs) is) ∙ h))
  | inr not ↦ ap (λ b. cond b (x ∷ filter p xs) (filter p xs)) not ∙ filter_of_none p xs (sym (ap (λ b. b || list_any p xs) not) ∙ h)
]
  where
    both_are : true ≡ false → ⊥
    both_are e = cc

pub length_map : {X Y : Type 0} (f : X → Y) (xs : List X) → length (map f xs) ≡ length xs
length_map f [] = refl
length_map f (x ∷ xs) = let rest = length_map f xs in omega (arith, rest)
