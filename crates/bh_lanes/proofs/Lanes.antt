-- What is done to each lane of eight.
use Rattle.std.proofs.Common.{◌≡◌, ℕ, zero, suc, ◌<◌, ◌+◌, ◌-◌, ◌*◌, ◌/◌, ◌%◌, ◌^◌, List, [], length, replicate, slice_index, slice_index_or, slice_set, bit_or, arith, refl, ◌∙◌, inl, inr}
use Rattle.std.proofs.lemmas.Bool.{cases_lt}
use Rattle.std.proofs.lemmas.List.{get_or-map, get_or-set_same, get_or-set_other, length-map, map-set}
use Rattle.std.proofs.lemmas.Simd.{get_or-zip2, length-zip2, zip2_splat}
use Rattle.std.specs.Int.{w32, rotate_right}
use Rattle.std.specs.Simd.Lanes.{zip2}
use Rattle.bh_lanes.specs.Lanes.{window_of}

-- what holds of each of the eight lanes
pub below_eight : (P : ℕ → Type 0) → P 0 → P 1 → P 2 → P 3 → P 4 → P 5 → P 6 → P 7 → (j : ℕ) → j < 8 → P j
below_eight P p0 p1 p2 p3 p4 p5 p6 p7 zero h = p0
below_eight P p0 p1 p2 p3 p4 p5 p6 p7 (suc zero) h = p1
below_eight P p0 p1 p2 p3 p4 p5 p6 p7 (suc (suc zero)) h = p2
below_eight P p0 p1 p2 p3 p4 p5 p6 p7 (suc (suc (suc zero))) h = p3
below_eight P p0 p1 p2 p3 p4 p5 p6 p7 (suc (suc (suc (suc zero)))) h = p4
below_eight P p0 p1 p2 p3 p4 p5 p6 p7 (suc (suc (suc (suc (suc zero))))) h = p5
below_eight P p0 p1 p2 p3 p4 p5 p6 p7 (suc (suc (suc (suc (suc (suc zero)))))) h = p6
below_eight P p0 p1 p2 p3 p4 p5 p6 p7 (suc (suc (suc (suc (suc (suc (suc zero))))))) h = p7
below_eight P p0 p1 p2 p3 p4 p5 p6 p7 (suc (suc (suc (suc (suc (suc (suc (suc n)))))))) h = absurd (omega arith)

-- lane j of what two vectors give
pub at_both : (f : ℕ → ℕ → ℕ) (xs ys : List ℕ) (j : ℕ) → length xs ≡ 8 → length ys ≡ 8 → j < 8
    → slice_index (zip2 f xs ys) j ≡ f (slice_index xs j) (slice_index ys j)
at_both f xs ys j lx ly h = get_or-zip2 f xs ys j 0 0 0 (omega arith) (omega arith)

-- lane j of what a vector and one word give
pub at_splat : (f : ℕ → ℕ → ℕ) (xs : List ℕ) (k j : ℕ) → length xs ≡ 8 → j < 8
    → slice_index (zip2 f xs (replicate 8 k)) j ≡ f (slice_index xs j) k
at_splat f xs k j l h = rw (zip2_splat f xs 8 k l) (get_or-map (λ x. f x k) xs j 0 0 (omega arith))

-- two shifts of each lane and an or are a rotation
pub shifts_rotate : (x : List ℕ) (k j : ℕ) → 0 < k → k < 32 → length x ≡ 8 → j < 8
    → slice_index (zip2 bit_or (zip2 (λ x n. x / 2 ^ n) x (replicate 8 k)) (zip2 (λ x n. x * 2 ^ n % 2 ^ 32) x (replicate 8 (32 - k)))) j
    ≡ rotate_right w32 (slice_index x j) k
shifts_rotate x k j low high l h =
    let down : k % 32 ≡ k = omega arith in
    let up : (32 - k) % 32 ≡ 32 - k = omega arith in
    let right = zip2 (λ x n. x / 2 ^ n) x (replicate 8 k) in
    let left = zip2 (λ x n. x * 2 ^ n % 2 ^ 32) x (replicate 8 (32 - k)) in
    at_both bit_or right left j
    (length-zip2 (λ x n. x / 2 ^ n) x (replicate 8 k) l ∙ l) (length-zip2 (λ x n. x * 2 ^ n % 2 ^ 32) x (replicate 8 (32 - k)) l ∙ l) h
    ∙ rw (at_splat (λ x n. x / 2 ^ n) x k j l h, at_splat (λ x n. x * 2 ^ n % 2 ^ 32) x (32 - k) j l h, down, up) refl

-- word k of message j
pub word_of : (j : ℕ) (w : List (List ℕ)) (k : ℕ) → k < length w → slice_index (window_of j w) k ≡ slice_index (slice_index_or w k []) j
word_of j w k h = get_or-map (λ x. slice_index x j) w k [] 0 h

-- the window of each message with one more word of a list of words
pub one_word_more : (j i : ℕ) (w : List (List ℕ)) (x : List ℕ) (word : ℕ → ℕ) → length w ≡ 16 → i < 16
    → ((k : ℕ) → k < i → slice_index (window_of j w) k ≡ word k) → slice_index x j ≡ word i
    → (k : ℕ) → k < i + 1 → slice_index (window_of j (slice_set w i x)) k ≡ word k
one_word_more j i w x word long fits before new k below =
    let at = λ (v : List ℕ). slice_index v j in
    let set : window_of j (slice_set w i x) ≡ slice_set (window_of j w) i (slice_index x j) = map-set at w i x in
    let wide : length (window_of j w) ≡ 16 = length-map w at ∙ long in
    elim (cases_lt k i) [
      | inl a ↦ rw set (get_or-set_other (window_of j w) i k (slice_index x j) 0 (omega arith) ∙ before k a)
      | inr b ↦
          let e : k ≡ i = omega arith in
          rw (set, e) (get_or-set_same (window_of j w) i (slice_index x j) 0 (omega arith) ∙ new)
    ]
