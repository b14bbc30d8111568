-- The bytes of the blocks so far whose counts are 0.
use Rattle.std.proofs.Common.{arith, ◌≡◌, ℕ, zero, suc, ◌+◌, ◌<◌, List, [], ◌∷◌, ◌++◌, length, take, get_or, refl, ap, ap₂, ◌∙◌}
use Rattle.sqlite.specs.Order.{Row}
use Rattle.bh_check.specs.Garbage.{unused_in, unused_size}

module _ {X : Type 0} where
  pub size_more : (us : List Row) (bs : List ℕ) (yielded : List X) (x : X) (u : Row) (b : ℕ) → length yielded < length us → length yielded < length bs → u ≡ get_or us (length yielded) u → b ≡ get_or bs (length yielded) b
      → unused_size (take (length (yielded ++ x ∷ [])) us) (take (length (yielded ++ x ∷ [])) bs) ≡ unused_size (take (length yielded) us) (take (length yielded) bs) + unused_in u b
  size_more us bs yielded x u b low below is its = ap (λ n. unused_size (take n us) (take n bs)) (one yielded) ∙ go us bs (length yielded) low below is its
    where
      one : (xs : List X) → length (xs ++ x ∷ []) ≡ suc (length xs)
      one [] = refl
      one (y ∷ xs) = ap suc (one xs)

      go : (us : List Row) (bs : List ℕ) (i : ℕ) → i < length us → i < length bs → u ≡ get_or us i u → b ≡ get_or bs i b → unused_size (take (suc i) us) (take (suc i) bs) ≡ unused_size (take i us) (take i bs) + unused_in u b
      go [] bs i low below is its = absurd (omega (arith, low))
      go (v ∷ us) [] i low below is its = absurd (omega (arith, below))
      go (v ∷ us) (c ∷ bs) zero low below is its = let same = ap₂ unused_in is its in omega (arith, same)
      go (v ∷ us) (c ∷ bs) (suc i) low below is its = let rest = go us bs i (omega (arith, low)) (omega (arith, below)) is its in omega (arith, rest)

pub size_end : (us : List Row) (bs : List ℕ) (i : ℕ) → (i < length us → i < length bs → ⊥) → unused_size (take i us) (take i bs) ≡ unused_size us bs
size_end [] bs zero past = refl
size_end [] bs (suc i) past = refl
size_end (v ∷ us) [] zero past = refl
size_end (v ∷ us) [] (suc i) past = refl
size_end (v ∷ us) (c ∷ bs) zero past = absurd (past (omega arith) (omega arith))
size_end (v ∷ us) (c ∷ bs) (suc i) past = ap (λ n. unused_in v c + n) (size_end us bs i (λ low below. past (omega (arith, low)) (omega (arith, below))))
