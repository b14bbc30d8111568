-- What stands at places of a list, one place after another.
use Rattle.std.proofs.Common.{◌≡◌, ℕ, zero, suc, ◌+◌, ◌<◌, add-one, arith, List, [], ◌∷◌, ◌++◌, length, take, drop, get_or, map, slice_get, Some, refl, sym, ap, ◌∙◌, sum_by, flat_map, append_assoc, append-nil}
use Rattle.std.specs.List.{cons_option}
use Rattle.std.proofs.lemmas.List.Elements.{filter_map-append}
use Rattle.std.proofs.lemmas.List.Sums.{sum_by-append, sum_by-cons}
use Rattle.bh_uploads.specs.Joining.{taken}

-- one more place
pub places_next : (places : List ℕ) (i : ℕ) → i < length places → take (i + 1) places ≡ take i places ++ get_or places i 0 ∷ []
places_next places i low = ap (λ n. take n places) (add-one i) ∙ go places i low
  where
    go : (places : List ℕ) (i : ℕ) → i < length places → take (suc i) places ≡ take i places ++ get_or places i 0 ∷ []
    go [] i low = absurd (omega (arith, low))
    go (p ∷ ps) zero low = refl
    go (p ∷ ps) (suc i) low = ap (λ l. p ∷ l) (go ps i (omega (arith, low)))

module _ {X : Type 0} (xs : List X) (places : List ℕ) (i : ℕ) (x : X) (low : i < length places) (there : slice_get xs (get_or places i 0) ≡ Some x) where
  -- what stands there
  pub taken_next : taken xs (take (i + 1) places) ≡ taken xs (take i places) ++ x ∷ []
  taken_next = ap (taken xs) (places_next places i low) ∙ filter_map-append (slice_get xs) (take i places) (get_or places i 0 ∷ []) ∙ ap (λ o. taken xs (take i places) ++ cons_option o []) there

  pub taken_sum : (f : X → ℕ) (total more : ℕ) → total ≡ sum_by f (taken xs (take i places)) → more ≡ total + f x → more ≡ sum_by f (taken xs (take (i + 1) places))
  taken_sum f total more so_far sum =
      sum ∙ ap (λ n. n + f x) so_far ∙ ap (λ n. sum_by f (taken xs (take i places)) + n) (last (f x) ∙ sym (sum_by-cons f x [])) ∙ sym (sum_by-append f (taken xs (take i places)) (x ∷ [])) ∙ ap (sum_by f) (sym taken_next)
    where
      last : (n : ℕ) → n ≡ n + 0
      last n = omega arith

-- the last of what was mapped
pub split_last : {A B : Type 0} (f : A → B) (ys : List B) (y : B) (xs : List A) → ys ++ y ∷ [] ≡ map f xs → (front : List A) × (last : A) × (xs ≡ front ++ last ∷ []) × (ys ≡ map f front) × (y ≡ f last)
split_last f [] y [] e = absurd (cc)
split_last f [] y (x ∷ []) e = ([], x, refl, refl, cc)
split_last f [] y (x ∷ z ∷ xs) e = absurd (cc)
split_last f (b ∷ ys) y [] e = absurd (cc)
split_last f (b ∷ ys) y (x ∷ xs) e =
    let it = split_last f ys y xs (cc) in
    (x ∷ it.0, it.1, ap (λ l. x ∷ l) it.2, (λ i. head i ∷ it.3 i), it.4)
  where
    head : b ≡ f x
    head = cc

-- the one at a place, and those after it
pub drop_next : (xs : List ℕ) (i : ℕ) → i < length xs → drop i xs ≡ get_or xs i 0 ∷ drop (i + 1) xs
drop_next xs i low = go xs i low ∙ ap (λ n. get_or xs i 0 ∷ drop n xs) (sym (add-one i))
  where
    go : (xs : List ℕ) (i : ℕ) → i < length xs → drop i xs ≡ get_or xs i 0 ∷ drop (suc i) xs
    go [] i low = absurd (omega (arith, low))
    go (x ∷ xs) zero low = refl
    go (x ∷ xs) (suc i) low = go xs i (omega (arith, low))

pub drop_last : (xs : List ℕ) (i : ℕ) → (i < length xs → ⊥) → drop i xs ≡ []
drop_last [] zero high = refl
drop_last [] (suc i) high = refl
drop_last (x ∷ xs) zero high = absurd (high (omega arith))
drop_last (x ∷ xs) (suc i) high = drop_last xs i (λ low. high (omega (arith, low)))

-- the item at a place, and those after it
drop_here : {A : Type 0} (xs : List A) (i : ℕ) (x d : A) → i < length xs → x ≡ get_or xs i d → drop i xs ≡ x ∷ drop (i + 1) xs
drop_here {A} xs i x d low here = go xs i low here ∙ ap (λ n. x ∷ drop n xs) (sym (add-one i))
  where
    go : (xs : List A) (i : ℕ) → i < length xs → x ≡ get_or xs i d → drop i xs ≡ x ∷ drop (suc i) xs
    go [] i low here = absurd (omega (arith, low))
    go (y ∷ ys) zero low here = ap (λ z. z ∷ ys) (sym here)
    go (y ∷ ys) (suc i) low here = go ys i (omega (arith, low)) here

drop_past : {A : Type 0} (xs : List A) (i : ℕ) → (i < length xs → ⊥) → drop i xs ≡ []
drop_past [] zero high = refl
drop_past [] (suc i) high = refl
drop_past (x ∷ xs) zero high = absurd (high (omega arith))
drop_past (x ∷ xs) (suc i) high = drop_past xs i (λ low. high (omega (arith, low)))

-- what several items make, one after the other
module _ {A B : Type 0} (f : A → List B) (xs : List A) where
  pub flat_next : (i : ℕ) (x d : A) (so_far found all : List B) → i < length xs → x ≡ get_or xs i d → found ≡ f x → so_far ++ flat_map f (drop i xs) ≡ all → (so_far ++ found) ++ flat_map f (drop (i + 1) xs) ≡ all
  flat_next i x d so_far found all low here is sum =
      append_assoc so_far found (flat_map f (drop (i + 1) xs))
      ∙ ap (λ l. so_far ++ (l ++ flat_map f (drop (i + 1) xs))) is
      ∙ ap (λ l. so_far ++ flat_map f l) (sym (drop_here xs i x d low here))
      ∙ sum

  pub flat_all : (i : ℕ) (so_far all : List B) → (i < length xs → ⊥) → so_far ++ flat_map f (drop i xs) ≡ all → so_far ≡ all
  flat_all i so_far all high sum = sym (append-nil so_far) ∙ ap (λ l. so_far ++ flat_map f l) (sym (drop_past xs i high)) ∙ sum

pub flat_named : {A B C : Type 0} (g : B → List C) (f : A → B) (xs : List A) → flat_map g (map f xs) ≡ flat_map (λ x. g (f x)) xs
flat_named g f [] = refl
flat_named g f (x ∷ xs) = ap (λ l. g (f x) ++ l) (flat_named g f xs)
