-- What a push, a DELETE and an UPDATE do to the rows that pass a test.
use Rattle.std.proofs.Common.{◌≡◌, Bool, true, false, true≢false, cond, not, ◌&&◌, List, [], ◌∷◌, ◌++◌, filter, refl, sym, ap, ◌∙◌, append-nil, Option, Some, None, option_map, is_none, unwrap_or, length, ◌≤◌, arith}
use Rattle.std.specs.List.{AllByRecursion}
use Rattle.std.proofs.lemmas.List.Elements.{filter-append}
use Rattle.sqlite_keyed.specs.Lists.{update_where, delete_where}
use Rattle.bh_view.specs.Grouped.{first}

pub none_some : {T : Type 0} {x : T} → None ≡ Some x → ⊥
none_some e = absurd (true≢false (ap is_none e))

pub same_Some : {T : Type 0} {x y : T} → Some x ≡ Some y → x ≡ y
same_Some {x = x} e = ap (λ o. unwrap_or o x) e

pub none_mapped : {T U : Type 0} (f : T → U) (o : Option T) → option_map f o ≡ None → o ≡ None
none_mapped f None e = refl
none_mapped f (Some x) e = absurd (none_some (sym e))

-- of a list that is not longer than one
pub single : {T : Type 0} (xs : List T) → length xs ≤ 1 → (x : T) → first xs ≡ Some x → xs ≡ x ∷ []
single [] short x h = absurd (none_some h)
single (y ∷ []) short x h = ap (λ z. z ∷ []) (same_Some h)
single (y ∷ z ∷ xs) short x h = absurd (omega arith)

module _ {T : Type 0} (p : T → Bool) where
  pub first_passes : (xs : List T) (x : T) → first (filter p xs) ≡ Some x → p x ≡ true
  first_passes [] x h = absurd (none_some h)
  first_passes (y ∷ ys) x h = elim (p y) as (λ b. p y ≡ b → first (cond b (y ∷ filter p ys) (filter p ys)) ≡ Some x → p x ≡ true) [
    | true ↦ λ e h. sym (ap p (same_Some h)) ∙ e
    | false ↦ λ e h. first_passes ys x h
  ] refl h

  -- what a DELETE's own test finds afterwards
  pub delete_all : (xs : List T) → filter p (delete_where p xs) ≡ []
  delete_all [] = refl
  delete_all (x ∷ xs) = elim (p x) as (λ b. p x ≡ b → filter p (cond (not b) (x ∷ delete_where p xs) (delete_where p xs)) ≡ []) [
    | true ↦ λ e. delete_all xs
    | false ↦ λ e. ap (λ b. cond b (x ∷ filter p (delete_where p xs)) (filter p (delete_where p xs))) e ∙ delete_all xs
  ] refl

  -- a DELETE that finds nothing
  pub delete_none : (xs : List T) → filter p xs ≡ [] → delete_where p xs ≡ xs
  delete_none [] none = refl
  delete_none (x ∷ xs) none = elim (p x) as (λ b. cond b (x ∷ filter p xs) (filter p xs) ≡ [] → cond (not b) (x ∷ delete_where p xs) (delete_where p xs) ≡ x ∷ xs) [
    | true ↦ λ some. absurd (none_some (sym (ap first some)))
    | false ↦ λ rest. ap (λ l. x ∷ l) (delete_none xs rest)
  ] none

  pub push_here : (xs : List T) (x : T) → p x ≡ true → filter p (xs ++ x ∷ []) ≡ filter p xs ++ x ∷ []
  push_here xs x h = filter-append p xs (x ∷ []) ∙ ap (λ b. filter p xs ++ cond b (x ∷ []) []) h

  pub push_other : (xs : List T) (x : T) → p x ≡ false → filter p (xs ++ x ∷ []) ≡ filter p xs
  push_other xs x h = filter-append p xs (x ∷ []) ∙ ap (λ b. filter p xs ++ cond b (x ∷ []) []) h ∙ append-nil (filter p xs)

  -- tests on rows in any order
  pub filter_swap : (t : T → Bool) (xs : List T) → filter p (filter t xs) ≡ filter t (filter p xs)
  filter_swap t [] = refl
  filter_swap t (x ∷ xs) =
      elim (t x) as (λ b. t x ≡ b → filter p (cond b (x ∷ filter t xs) (filter t xs)) ≡ filter t (cond (p x) (x ∷ filter p xs) (filter p xs))) [
        | true ↦ λ e. elim (p x) as (λ a. cond a (x ∷ filter p (filter t xs)) (filter p (filter t xs)) ≡ filter t (cond a (x ∷ filter p xs) (filter p xs))) [
          | true ↦ ap (λ l. x ∷ l) (filter_swap t xs) ∙ ap (λ b. cond b (x ∷ filter t (filter p xs)) (filter t (filter p xs))) (sym e)
          | false ↦ filter_swap t xs
        ]
        | false ↦ λ e. elim (p x) as (λ a. filter p (filter t xs) ≡ filter t (cond a (x ∷ filter p xs) (filter p xs))) [
          | true ↦ filter_swap t xs ∙ ap (λ b. cond b (x ∷ filter t (filter p xs)) (filter t (filter p xs))) (sym e)
          | false ↦ filter_swap t xs
        ]
      ] refl

  -- a test that each row of the list that passes p passes too, is no further test
  pub filter_within : (t : T → Bool) (xs : List T) → AllByRecursion (λ x. p x ≡ true → t x ≡ true) xs → filter p (filter t xs) ≡ filter p xs
  filter_within t [] all = refl
  filter_within t (x ∷ xs) all =
      elim (t x) as (λ b. t x ≡ b → filter p (cond b (x ∷ filter t xs) (filter t xs)) ≡ cond (p x) (x ∷ filter p xs) (filter p xs)) [
        | true ↦ λ e. ap (λ l. cond (p x) (x ∷ l) l) (filter_within t xs all.1)
        | false ↦ λ e. elim (p x) as (λ a. p x ≡ a → filter p (filter t xs) ≡ cond a (x ∷ filter p xs) (filter p xs)) [
          | true ↦ λ h. absurd (true≢false (sym (all.0 h) ∙ e))
          | false ↦ λ h. filter_within t xs all.1
        ] refl
      ] refl

  pub all_at : {P : T → Type 0} → ((x : T) → P x) → (xs : List T) → AllByRecursion P xs
  all_at h [] = tt
  all_at h (x ∷ xs) = (h x, all_at h xs)

  -- a DELETE of other rows
  pub delete_other : (t : T → Bool) (xs : List T) → ((x : T) → p x ≡ true → t x ≡ false) → filter p (delete_where t xs) ≡ filter p xs
  delete_other t xs apart = filter_within (λ x. not (t x)) xs (all_at (λ x h. ap not (apart x h)) xs)

  -- an UPDATE of other rows, which does not bring them here
  pub update_other : (t : T → Bool) (f : T → T) → ((x : T) → p x ≡ true → t x ≡ false) → ((x : T) → t x ≡ true → p (f x) ≡ false) → (xs : List T) → filter p (update_where t f xs) ≡ filter p xs
  update_other t f apart away [] = refl
  update_other t f apart away (x ∷ xs) =
      let rest = update_other t f apart away xs in
      elim (t x) as (λ b. t x ≡ b → cond (p (cond b (f x) x)) (cond b (f x) x ∷ filter p (update_where t f xs)) (filter p (update_where t f xs)) ≡ cond (p x) (x ∷ filter p xs) (filter p xs)) [
        | true ↦ λ e. ap (λ b. cond b (f x ∷ filter p (update_where t f xs)) (filter p (update_where t f xs))) (away x e) ∙ rest
            ∙ elim (p x) as (λ a. p x ≡ a → filter p xs ≡ cond a (x ∷ filter p xs) (filter p xs)) [ true ↦ λ h. absurd (true≢false (sym e ∙ apart x h)) | false ↦ λ h. refl ] refl
        | false ↦ λ e. ap (λ l. cond (p x) (x ∷ l) l) rest
      ] refl

  -- an UPDATE of these rows, which stay here
  pub update_here : (t : T → Bool) (f : T → T) → ((x : T) → t x ≡ true → p (f x) ≡ p x) → (xs : List T) → filter p (update_where t f xs) ≡ update_where t f (filter p xs)
  update_here t f stays [] = refl
  update_here t f stays (x ∷ xs) =
      let rest = update_here t f stays xs in
      let kept : p (cond (t x) (f x) x) ≡ p x = elim (t x) as (λ b. t x ≡ b → p (cond b (f x) x) ≡ p x) [ true ↦ λ e. stays x e | false ↦ λ e. refl ] refl in
      ap (λ b. cond b (cond (t x) (f x) x ∷ filter p (update_where t f xs)) (filter p (update_where t f xs))) kept
      ∙ elim (p x) as (λ a. cond a (cond (t x) (f x) x ∷ filter p (update_where t f xs)) (filter p (update_where t f xs)) ≡ update_where t f (cond a (x ∷ filter p xs) (filter p xs))) [
        | true ↦ ap (λ l. cond (t x) (f x) x ∷ l) rest
        | false ↦ rest
      ]

  -- of the rows that pass p, a DELETE and an UPDATE whose test says p too
  pub delete_mine : (t : T → Bool) (xs : List T) → filter p (delete_where (λ x. p x && t x) xs) ≡ delete_where t (filter p xs)
  delete_mine t [] = refl
  delete_mine t (x ∷ xs) =
      elim (p x) as (λ b. p x ≡ b → filter p (cond (not (b && t x)) (x ∷ delete_where (λ x. p x && t x) xs) (delete_where (λ x. p x && t x) xs)) ≡ delete_where t (cond b (x ∷ filter p xs) (filter p xs))) [
        | true ↦ λ e. elim (not (t x)) as (λ a. filter p (cond a (x ∷ delete_where (λ x. p x && t x) xs) (delete_where (λ x. p x && t x) xs)) ≡ cond a (x ∷ delete_where t (filter p xs)) (delete_where t (filter p xs))) [
          | true ↦ ap (λ b. cond b (x ∷ filter p (delete_where (λ x. p x && t x) xs)) (filter p (delete_where (λ x. p x && t x) xs))) e ∙ ap (λ l. x ∷ l) (delete_mine t xs)
          | false ↦ delete_mine t xs
        ]
        | false ↦ λ e. ap (λ b. cond b (x ∷ filter p (delete_where (λ x. p x && t x) xs)) (filter p (delete_where (λ x. p x && t x) xs))) e ∙ delete_mine t xs
      ] refl

  pub update_mine : (t : T → Bool) (f : T → T) → ((x : T) → p (f x) ≡ p x) → (xs : List T) → filter p (update_where (λ x. p x && t x) f xs) ≡ update_where t f (filter p xs)
  update_mine t f stays [] = refl
  update_mine t f stays (x ∷ xs) =
      let rest = update_mine t f stays xs in
      let l = filter p (update_where (λ x. p x && t x) f xs) in
      elim (p x) as (λ b. p x ≡ b → cond (p (cond (b && t x) (f x) x)) (cond (b && t x) (f x) x ∷ l) l ≡ update_where t f (cond b (x ∷ filter p xs) (filter p xs))) [
        | true ↦ λ e. elim (t x) as (λ a. cond (p (cond a (f x) x)) (cond a (f x) x ∷ l) l ≡ cond a (f x) x ∷ update_where t f (filter p xs)) [
          | true ↦ ap (λ b. cond b (f x ∷ l) l) (stays x ∙ e) ∙ ap (λ m. f x ∷ m) rest
          | false ↦ ap (λ b. cond b (x ∷ l) l) e ∙ ap (λ m. x ∷ m) rest
        ]
        | false ↦ λ e. ap (λ b. cond b (x ∷ l) l) e ∙ rest
      ] refl

  -- the first of these rows after an UPDATE of them all
  pub first_updated : (f : T → T) → ((x : T) → p (f x) ≡ p x) → (xs : List T) (x : T) → first (filter p xs) ≡ Some x → first (filter p (update_where p f xs)) ≡ Some (f x)
  first_updated f stays xs x there = ap first (update_here p f (λ x _. stays x) xs) ∙ go (filter p xs) there (first_passes xs x there)
    where
      go : (l : List T) → first l ≡ Some x → p x ≡ true → first (update_where p f l) ≡ Some (f x)
      go [] h t = absurd (none_some h)
      go (y ∷ ys) h t = ap (λ z. Some (cond (p z) (f z) z)) (same_Some h) ∙ ap (λ b. Some (cond b (f x) x)) t

  -- two tests one after the other
  pub filter_both : (t : T → Bool) (xs : List T) → filter t (filter p xs) ≡ filter (λ x. p x && t x) xs
  filter_both t [] = refl
  filter_both t (x ∷ xs) = elim (p x) as (λ b. filter t (cond b (x ∷ filter p xs) (filter p xs)) ≡ cond (b && t x) (x ∷ filter (λ y. p y && t y) xs) (filter (λ y. p y && t y) xs)) [
    | true ↦ ap (λ l. cond (t x) (x ∷ l) l) (filter_both t xs)
    | false ↦ filter_both t xs
  ]

pub length-filter-le : {T : Type 0} (p : T → Bool) (xs : List T) → length (filter p xs) ≤ length xs
length-filter-le p [] = omega arith
length-filter-le p (x ∷ xs) = let rest = length-filter-le p xs in elim (p x) as (λ b. length (cond b (x ∷ filter p xs) (filter p xs)) ≤ length (x ∷ xs)) [ true ↦ omega arith | false ↦ omega arith ]
