-- Eight messages side by side: each word is a vector, with one lane for each message.
use Rattle.std.specs.Prelude.{◌≡◌, ℕ, ◌*◌, ◌<◌, List, [], ◌∷◌, map, take, drop, slice_index, slice_index_or}
use Rattle.sha2.specs.Sha256.{word_at}

-- lane j of vector k
abbrev pub lane_at : List (List ℕ) → ℕ → ℕ → ℕ
lane_at x k j = slice_index (slice_index_or x k []) j

-- the hash value of message j
abbrev pub state_of : ℕ → List (List ℕ) → List ℕ
state_of j x =
    lane_at x 0 j ∷ lane_at x 1 j ∷ lane_at x 2 j ∷ lane_at x 3 j
    ∷ lane_at x 4 j ∷ lane_at x 5 j ∷ lane_at x 6 j ∷ lane_at x 7 j ∷ []

-- the window of message j
abbrev pub window_of : ℕ → List (List ℕ) → List ℕ
window_of j w = map (λ x. slice_index x j) w

-- message j of those of a size that stand one after another
abbrev pub piece : ℕ → ℕ → List ℕ → List ℕ
piece size j bytes = take size (drop (j * size) bytes)

-- message j's words are those of a block
abbrev pub AreWordsOf : List ℕ → ℕ → List (List ℕ) → Type 0
AreWordsOf b j words = (k : ℕ) → k < 16 → slice_index (window_of j words) k ≡ word_at b (4 * k)
