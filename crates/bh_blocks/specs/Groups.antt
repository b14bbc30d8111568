-- The digests of the blocks at the front of bytes.
use Rattle.std.specs.Prelude.{◌≡◌, ◌*◌, ◌<◌, ℕ, List, [], take, drop, slice_index_or}
use Rattle.bh_tables.specs.Schema.{Octets}

-- the first digests are those of the first blocks of a size
abbrev pub AreFirst : (Octets → Octets) → ℕ → ℕ → Octets → List Octets → Type 0
AreFirst digest_of count size bytes digests =
    (j : ℕ) → j < count → slice_index_or digests j [] ≡ digest_of (take size (drop (j * size) bytes))
