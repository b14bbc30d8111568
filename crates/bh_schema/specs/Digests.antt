-- The names of eight blocks that stand one after another.
use Rattle.std.specs.Prelude.{◌≡◌, ◌*◌, ◌<◌, ℕ, List, [], take, drop, slice_index_or}

-- the digests of the first eight blocks of a size
abbrev pub AreNamed : (List ℕ → List ℕ) → ℕ → List ℕ → List (List ℕ) → Type 0
AreNamed digest_of size bytes digests = (j : ℕ) → j < 8 → slice_index_or digests j [] ≡ digest_of (take size (drop (j * size) bytes))
