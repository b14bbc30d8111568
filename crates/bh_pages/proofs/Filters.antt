-- Lists of which a test lets some through.
use Rattle.std.proofs.Common.{◌≡◌, Bool, true, false, true≢false, cond, List, [], ◌∷◌, ◌++◌, ◌&&◌, Some, refl, sym, ap, subst, ◌∙◌}
use Rattle.std.specs.List.{filter, AllByRecursion}
use Rattle.bh_model.specs.Pages.{last_of}
use Rattle.bh_pages.proofs.Bytes.{some_same, none_some}

module _ {X : Type 0} where
  pub all_map : {P Q : X → Type 0} → ((x : X) → P x → Q x) → (l : List X) → AllByRecursion P l → AllByRecursion Q l
  all_map f [] all = tt
  all_map f (x ∷ l) all = (f x all.0, all_map f l all.1)

  pub filter_none : (p : X → Bool) (l : List X) → AllByRecursion (λ x. p x ≡ false) l → filter p l ≡ []
  filter_none p [] all = refl
  filter_none p (x ∷ l) all = ap (λ t. cond t (x ∷ filter p l) (filter p l)) all.0 ∙ filter_none p l all.1

  pub filter_whole : (p : X → Bool) (l : List X) → AllByRecursion (λ x. p x ≡ true) l → filter p l ≡ l
  filter_whole p [] all = refl
  filter_whole p (x ∷ l) all = ap (λ t. cond t (x ∷ filter p l) (filter p l)) all.0 ∙ ap (λ l. x ∷ l) (filter_whole p l all.1)

  pub keep_all : (l : List X) → filter (λ x. true) l ≡ l
  keep_all [] = refl
  keep_all (x ∷ l) = ap (λ k. x ∷ k) (keep_all l)

  pub filter_all : (P : X → Type 0) (p : X → Bool) (l : List X) → AllByRecursion P l → AllByRecursion P (filter p l)
  filter_all P p [] all = tt
  filter_all P p (x ∷ l) all = elim (p x) as (λ t. AllByRecursion P (cond t (x ∷ filter p l) (filter p l))) [ true ↦ (all.0, filter_all P p l all.1) | false ↦ filter_all P p l all.1 ]

  pub filter_passes : (p : X → Bool) (l : List X) → AllByRecursion (λ x. p x ≡ true) (filter p l)
  filter_passes p [] = tt
  filter_passes p (x ∷ l) = elim (p x) as (λ t. p x ≡ t → AllByRecursion (λ x. p x ≡ true) (cond t (x ∷ filter p l) (filter p l))) [ true ↦ λ e. (e, filter_passes p l) | false ↦ λ _. filter_passes p l ] refl

  -- a narrower test after a wider one
  pub filter_narrow : (p q : X → Bool) → ((x : X) → q x ≡ true → p x ≡ true) → (l : List X) → filter q l ≡ filter q (filter p l)
  filter_narrow p q within [] = refl
  filter_narrow p q within (x ∷ l) =
      elim (p x) as (λ t. p x ≡ t → cond (q x) (x ∷ filter q l) (filter q l) ≡ filter q (cond t (x ∷ filter p l) (filter p l))) [
        | true ↦ λ e. ap (λ k. cond (q x) (x ∷ k) k) (filter_narrow p q within l)
        | false ↦ λ e. ap (λ t. cond t (x ∷ filter q l) (filter q l)) (missed e) ∙ filter_narrow p q within l
      ] refl
    where
      missed : p x ≡ false → q x ≡ false
      missed e = elim (q x) as (λ t. q x ≡ t → t ≡ false) [ true ↦ λ h. absurd (true≢false (sym (within x h) ∙ e)) | false ↦ λ _. refl ] refl

  pub filter_same : (p q : X → Bool) (l : List X) → AllByRecursion (λ x. p x ≡ q x) l → filter p l ≡ filter q l
  filter_same p q [] all = refl
  filter_same p q (x ∷ l) all = λ i. cond (all.0 i) (x ∷ filter_same p q l all.1 i) (filter_same p q l all.1 i)

  pub filter_swap : (p q : X → Bool) (l : List X) → filter p (filter q l) ≡ filter q (filter p l)
  filter_swap p q [] = refl
  filter_swap p q (x ∷ l) = go (p x) (q x) refl refl (filter_swap p q l)
    where
      go : (a b : Bool) → p x ≡ a → q x ≡ b → filter p (filter q l) ≡ filter q (filter p l) → filter p (cond b (x ∷ filter q l) (filter q l)) ≡ filter q (cond a (x ∷ filter p l) (filter p l))
      go true true e f more = ap (λ t. cond t (x ∷ filter p (filter q l)) (filter p (filter q l))) e ∙ ap (λ k. x ∷ k) more ∙ ap (λ t. cond t (x ∷ filter q (filter p l)) (filter q (filter p l))) (sym f)
      go true false e f more = more ∙ ap (λ t. cond t (x ∷ filter q (filter p l)) (filter q (filter p l))) (sym f)
      go false true e f more = ap (λ t. cond t (x ∷ filter p (filter q l)) (filter p (filter q l))) e ∙ more
      go false false e f more = more

  pub filter_twice : (p q : X → Bool) (l : List X) → filter (λ x. p x && q x) l ≡ filter q (filter p l)
  filter_twice p q [] = refl
  filter_twice p q (x ∷ l) = elim (p x) as (λ t. cond (t && q x) (x ∷ filter (λ x. p x && q x) l) (filter (λ x. p x && q x) l) ≡ filter q (cond t (x ∷ filter p l) (filter p l))) [
    | true ↦ ap (λ k. cond (q x) (x ∷ k) k) (filter_twice p q l)
    | false ↦ filter_twice p q l
  ]

  pub all_front : (P : X → Type 0) (xs ys : List X) → AllByRecursion P (xs ++ ys) → AllByRecursion P xs × AllByRecursion P ys
  all_front P [] ys all = (tt, all)
  all_front P (x ∷ xs) ys all = let more = all_front P xs ys all.1 in ((all.0, more.0), more.1)

  pub last_all : (P : X → Type 0) (l : List X) (x : X) → last_of l ≡ Some x → AllByRecursion P l → P x
  last_all P [] x h all = absurd (none_some h)
  last_all P (y ∷ []) x h all = subst P (some_same h) all.0
  last_all P (y ∷ z ∷ l) x h all = last_all P (z ∷ l) x h all.1
