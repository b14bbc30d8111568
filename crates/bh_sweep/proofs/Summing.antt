-- The sum of the first rows, and of one more.
use Rattle.std.proofs.Common.{arith, ◌≡◌, ◌+◌, ℕ, zero, suc, add-one, List, [], ◌∷◌, take, slice_get, Some, sum_by, ap, ◌∙◌}
use Rattle.std.proofs.lemmas.List.Sums.{sum_by-cons}

pub summed_next : {X : Type 0} (f : X → ℕ) (xs : List X) (n : ℕ) (x : X) → slice_get xs n ≡ Some x → sum_by f (take (n + 1) xs) ≡ sum_by f (take n xs) + f x
summed_next {X} f xs n x there = ap (λ m. sum_by f (take m xs)) (add-one n) ∙ go xs n there
  where
    go : (xs : List X) (n : ℕ) → slice_get xs n ≡ Some x → sum_by f (take (suc n) xs) ≡ sum_by f (take n xs) + f x
    go [] n there = absurd (cc)
    go (y ∷ ys) zero there = let one = sum_by-cons f y [] in let same : y ≡ x = cc in let size = ap f same in omega (arith, one, size)
    go (y ∷ ys) (suc n) there = let rest = go ys n there in let more = sum_by-cons f y (take (suc n) ys) in let less = sum_by-cons f y (take n ys) in omega (arith, rest, more, less)
