-- The first of a list that a test holds of, and what it holds of.
use Rattle.std.proofs.Common.{◌≡◌, ◌++◌, ◌+◌, ◌-◌, ◌<◌, ℕ, zero, suc, Bool, true, false, cond, List, [], ◌∷◌, take, drop, length, get_or, Option, None, Some, refl, sym, ap, ◌∙◌, arith}
use Rattle.std.specs.List.{find, filter}
use Rattle.std.proofs.lemmas.List.{drop_more, take_more}

none_parts : {X : Type 0} (b : Bool) (x : X) (found : Option X) → cond b (Some x) found ≡ None → (b ≡ false) × (found ≡ None)
none_parts true x found none = absurd (cc)
none_parts false x found none = (refl, none)

module _ {X : Type 0} (test : X → Bool) where
  find_later : (x : X) (xs : List X) → test x ≡ false → find test (x ∷ xs) ≡ find test xs
  find_later x xs fails = ap (λ b. cond b (Some x) (find test xs)) fails

  none_push : (xs : List X) (x : X) → find test xs ≡ None → test x ≡ false → find test (xs ++ x ∷ []) ≡ None
  none_push [] x none fails = find_later x [] fails
  none_push (y ∷ xs) x none fails =
      let parts = none_parts (test y) y (find test xs) none in
      find_later y (xs ++ x ∷ []) parts.0 ∙ none_push xs x parts.1 fails

  -- one more was passed
  pub none_more : (xs : List X) (i : ℕ) (x : X) → i < length xs → x ≡ get_or xs i x → test x ≡ false → find test (take i xs) ≡ None
      → find test (take (i + 1) xs) ≡ None
  none_more xs i x lt is fails none =
      ap (find test) (take_more xs i x lt) ∙ ap (λ y. find test (take i xs ++ y ∷ [])) (sym is) ∙ none_push (take i xs) x none fails

  pub find_passed : (xs : List X) (i : ℕ) (x : X) → i < length xs → x ≡ get_or xs i x → test x ≡ false → find test (drop (i + 1) xs) ≡ find test (drop i xs)
  find_passed xs i x lt is fails =
      sym (ap (find test) (drop_more xs i x lt) ∙ ap (λ y. find test (y ∷ drop (i + 1) xs)) (sym is) ∙ find_later x (drop (i + 1) xs) fails)

  -- the first one left
  pub find_left : (xs : List X) (x : X) → x ≡ get_or xs 0 x → test x ≡ false → find test (drop 1 xs) ≡ find test xs
  find_left [] x is fails = refl
  find_left (y ∷ xs) x is fails = sym (find_later y xs (ap test (sym is) ∙ fails))

  pub filter_left : (xs : List X) (x : X) → x ≡ get_or xs 0 x → test x ≡ false → filter test (drop 1 xs) ≡ filter test xs
  filter_left [] x is fails = refl
  filter_left (y ∷ xs) x is fails = sym (ap (λ b. cond b (y ∷ filter test xs) (filter test xs)) (ap test (sym is) ∙ fails))

  none_taken : (n : ℕ) → find test (take n []) ≡ None
  none_taken zero = refl
  none_taken (suc n) = refl

  pub none_left : (n : ℕ) (xs : List X) → find test (take n xs) ≡ None → find test (take (n - 1) (drop 1 xs)) ≡ None
  none_left n [] none = none_taken (n - 1)
  none_left zero (x ∷ xs) none = refl
  none_left (suc n) (x ∷ xs) none =
      let e : suc n - 1 ≡ n = omega arith in
      ap (λ k. find test (take k xs)) e ∙ (none_parts (test x) x (find test (take n xs)) none).1

  twice : (b : Bool) (x : X) (xs : List X) → test x ≡ b → filter test xs ≡ xs → filter test (cond b (x ∷ xs) xs) ≡ cond b (x ∷ xs) xs
  twice true x xs is same = ap (λ c. cond c (x ∷ filter test xs) (filter test xs)) is ∙ ap (λ l. x ∷ l) same
  twice false x xs is same = same

  pub filter_again : (xs : List X) → filter test (filter test xs) ≡ filter test xs
  filter_again [] = refl
  filter_again (x ∷ xs) = twice (test x) x (filter test xs) refl (filter_again xs)
