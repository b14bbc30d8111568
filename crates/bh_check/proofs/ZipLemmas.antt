-- A walk over two lists of one length.
use Rattle.std.proofs.Common.{arith, ◌≡◌, ℕ, zero, suc, ◌+◌, ◌<◌, List, [], ◌∷◌, ◌++◌, length, take, get_or, refl, sym, subst, subst₂}
use Rattle.std.specs.List.{AllZip}

module _ {A B : Type 0} (R : A → B → Type 0) where
  pub zip_more : (xs : List A) (ys : List B) (i : ℕ) (x : A) (y : B) → i < length xs → i < length ys → x ≡ get_or xs i x → y ≡ get_or ys i y → AllZip R (take i xs) (take i ys) → R x y → AllZip R (take (i + 1) xs) (take (i + 1) ys)
  zip_more xs ys i x y low below is its so_far holds = subst (λ n. AllZip R (take n xs) (take n ys)) (one i) (go xs ys i low below is its so_far)
    where
      one : (n : ℕ) → suc n ≡ n + 1
      one n = omega arith

      go : (xs : List A) (ys : List B) (i : ℕ) → i < length xs → i < length ys → x ≡ get_or xs i x → y ≡ get_or ys i y → AllZip R (take i xs) (take i ys) → AllZip R (take (suc i) xs) (take (suc i) ys)
      go [] ys i low below is its h = absurd (omega (arith, low))
      go (a ∷ xs) [] i low below is its h = absurd (omega (arith, below))
      go (a ∷ xs) (b ∷ ys) zero low below is its h = (subst₂ R is its holds, tt)
      go (a ∷ xs) (b ∷ ys) (suc i) low below is its h = (h.0, go xs ys i (omega (arith, low)) (omega (arith, below)) is its h.1)

  pub zip_end : (xs : List A) (ys : List B) (i : ℕ) → (i < length xs → ⊥) → (i < length ys → ⊥) → AllZip R (take i xs) (take i ys) → AllZip R xs ys
  zip_end [] [] i high past h = tt
  zip_end [] (b ∷ ys) zero high past h = absurd (past (omega arith))
  zip_end [] (b ∷ ys) (suc i) high past h = absurd h
  zip_end (a ∷ xs) [] zero high past h = absurd (high (omega arith))
  zip_end (a ∷ xs) [] (suc i) high past h = absurd h
  zip_end (a ∷ xs) (b ∷ ys) zero high past h = absurd (high (omega arith))
  zip_end (a ∷ xs) (b ∷ ys) (suc i) high past h = (h.0, zip_end xs ys i (λ low. high (omega (arith, low))) (λ low. past (omega (arith, low))) h.1)

  -- a list that is made item by item
  pub zip_made : (xs : List A) (ys : List B) (i : ℕ) (x : A) (y : B) → i < length xs → x ≡ get_or xs i x → AllZip R (take i xs) ys → R x y → AllZip R (take (i + 1) xs) (ys ++ y ∷ [])
  zip_made xs ys i x y low is so_far holds = subst (λ n. AllZip R (take n xs) (ys ++ y ∷ [])) (one i) (go xs ys i low is so_far)
    where
      one : (n : ℕ) → suc n ≡ n + 1
      one n = omega arith

      go : (xs : List A) (ys : List B) (i : ℕ) → i < length xs → x ≡ get_or xs i x → AllZip R (take i xs) ys → AllZip R (take (suc i) xs) (ys ++ y ∷ [])
      go [] ys i low is h = absurd (omega (arith, low))
      go (a ∷ xs) [] zero low is h = (subst (λ z. R z y) is holds, tt)
      go (a ∷ xs) (b ∷ ys) zero low is h = absurd h
      go (a ∷ xs) [] (suc i) low is h = absurd h
      go (a ∷ xs) (b ∷ ys) (suc i) low is h = (h.0, go xs ys i (omega (arith, low)) is h.1)

  pub made_end : (xs : List A) (ys : List B) (i : ℕ) → (i < length xs → ⊥) → AllZip R (take i xs) ys → AllZip R xs ys
  made_end [] ys zero high h = h
  made_end [] ys (suc i) high h = h
  made_end (a ∷ xs) ys zero high h = absurd (high (omega arith))
  made_end (a ∷ xs) [] (suc i) high h = absurd h
  made_end (a ∷ xs) (b ∷ ys) (suc i) high h = (h.0, made_end xs ys i (λ low. high (omega (arith, low))) h.1)

  -- what stands beside an item
  pub zip_got : (xs : List A) (ys : List B) (i : ℕ) (x : A) → AllZip R xs ys → i < length xs → x ≡ get_or xs i x → (y : B) × (i < length ys) × (y ≡ get_or ys i y) × R x y
  zip_got [] ys i x all low is = absurd (omega (arith, low))
  zip_got (a ∷ xs) [] i x all low is = absurd all
  zip_got (a ∷ xs) (b ∷ ys) zero x all low is = (b, omega arith, refl, subst (λ v. R v b) (sym is) all.0)
  zip_got (a ∷ xs) (b ∷ ys) (suc i) x all low is = let r = zip_got xs ys i x all.1 (omega (arith, low)) is in (r.0, omega (arith, r.1), r.2, r.3)

pub zip_so : {A B : Type 0} (R S : A → B → Type 0) → ((a : A) (b : B) → R a b → S a b) → (xs : List A) (ys : List B) → AllZip R xs ys → AllZip S xs ys
zip_so R S so [] [] all = tt
zip_so R S so [] (b ∷ ys) all = absurd all
zip_so R S so (a ∷ xs) [] all = absurd all
zip_so R S so (a ∷ xs) (b ∷ ys) all = (so a b all.0, zip_so R S so xs ys all.1)

pub zip_long : {A B : Type 0} (R : A → B → Type 0) (xs : List A) (ys : List B) → AllZip R xs ys → length xs ≡ length ys
zip_long R [] [] all = refl
zip_long R [] (b ∷ ys) all = absurd all
zip_long R (a ∷ xs) [] all = absurd all
zip_long R (a ∷ xs) (b ∷ ys) all = let rest = zip_long R xs ys all.1 in omega (arith, rest)
