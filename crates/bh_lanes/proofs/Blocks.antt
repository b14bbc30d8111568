-- The blocks of a message that stands among others, and its last one.
use Rattle.std.proofs.Common.{◌≡◌, ℕ, ◌<◌, ◌≤◌, ◌+◌, ◌*◌, ◌/◌, ◌%◌, List, ◌++◌, length, take, drop, slice_index, arith, refl, sym, ap, ◌∙◌, length-append, length-drop}
use Rattle.std.proofs.lemmas.List.{get_or-take, get_or-drop, length-take-le, take_all, drop_at}
use Rattle.sha2.specs.Sha256.{word_at, padding, padded_message, hash_after, compress, digest_bytes, final_hash, initial_hash_256, sha256}
use Rattle.sha2.proofs.Absorbing256.{hash_after-append, hash_after_next}
use Rattle.bh_lanes.specs.Lanes.{piece}

-- a byte of block n of piece j
byte_there : (bytes : List ℕ) (size j n i : ℕ) → i < 64 → 64 * n + 64 ≤ size
    → slice_index (take 64 (drop (n * 64) (piece size j bytes))) i ≡ slice_index bytes (j * size + 64 * n + i)
byte_there bytes size j n i low fits =
    get_or-take 64 (drop (n * 64) (piece size j bytes)) i 0 low
    ∙ get_or-drop (n * 64) (piece size j bytes) i 0
    ∙ get_or-take size (drop (j * size) bytes) (n * 64 + i) 0 (omega arith)
    ∙ get_or-drop (j * size) bytes (n * 64 + i) 0
    ∙ ap (slice_index bytes) (omega arith)

-- a word of it
pub word_there : (bytes : List ℕ) (size j n k : ℕ) → k < 16 → 64 * n + 64 ≤ size
    → word_at bytes (j * size + 64 * n + 4 * k) ≡ word_at (take 64 (drop (n * 64) (piece size j bytes))) (4 * k)
word_there bytes size j n k low fits =
    let b = take 64 (drop (n * 64) (piece size j bytes)) in
    let at = j * size + 64 * n + 4 * k in
    let e0 : slice_index b (4 * k) ≡ slice_index bytes at = byte_there bytes size j n (4 * k) (omega arith) fits in
    let e1 : slice_index b (4 * k + 1) ≡ slice_index bytes (at + 1) =
    byte_there bytes size j n (4 * k + 1) (omega arith) fits ∙ ap (slice_index bytes) (omega arith) in
    let e2 : slice_index b (4 * k + 2) ≡ slice_index bytes (at + 2) =
    byte_there bytes size j n (4 * k + 2) (omega arith) fits ∙ ap (slice_index bytes) (omega arith) in
    let e3 : slice_index b (4 * k + 3) ≡ slice_index bytes (at + 3) =
    byte_there bytes size j n (4 * k + 3) (omega arith) fits ∙ ap (slice_index bytes) (omega arith) in
    rw (e0, e1, e2, e3) refl

length-piece : (bytes : List ℕ) (size j : ℕ) → j * size + size ≤ length bytes → length (piece size j bytes) ≡ size
length-piece bytes size j fits = length-take-le size (drop (j * size) bytes) (omega (arith, length-drop (j * size) bytes))

length-padding : (n : ℕ) → n % 64 ≡ 0 → length (padding n) ≡ 64
length-padding n whole = rw whole refl

-- the digest of a message of whole blocks, from the hash value after them and that after its padding
digest_of : (m h last : List ℕ) (size : ℕ) → length m ≡ size → size % 64 ≡ 0
    → h ≡ hash_after initial_hash_256 m (size / 64) → last ≡ compress h (padding size) → digest_bytes last 8 ≡ sha256 m
unfolding sha256
digest_of m h last size long whole before after =
    let n = size / 64 in
    let edge : n * 64 ≡ size = omega arith in
    let pad : length (padding size) ≡ 64 = length-padding size whole in
    let same : padded_message m ≡ m ++ padding size = rw long refl in
    let count : length (m ++ padding size) / 64 ≡ n + 1 = omega (arith, length-append m (padding size)) in
    let block : take 64 (drop (n * 64) (m ++ padding size)) ≡ padding size =
    ap (take 64) (drop_at m (padding size) (n * 64) (omega arith)) ∙ take_all 64 (padding size) (omega arith) in
    let next : hash_after initial_hash_256 (m ++ padding size) (n + 1) ≡ compress h (padding size) =
    hash_after_next initial_hash_256 (m ++ padding size) n
    ∙ rw (block, hash_after-append initial_hash_256 m (padding size) n (omega arith), ← before) refl in
    let all : final_hash initial_hash_256 m ≡ last = rw (same, count) (next ∙ sym after) in
    ap (λ h. digest_bytes h 8) (sym all)

pub digest_of_piece : (bytes h last : List ℕ) (size j : ℕ) → j * size + size ≤ length bytes → size % 64 ≡ 0
    → h ≡ hash_after initial_hash_256 (piece size j bytes) (size / 64) → last ≡ compress h (padding size)
    → digest_bytes last 8 ≡ sha256 (piece size j bytes)
digest_of_piece bytes h last size j fits whole before after =
    digest_of (piece size j bytes) h last size (length-piece bytes size j fits) whole before after
