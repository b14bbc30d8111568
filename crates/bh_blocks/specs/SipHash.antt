-- SipHash-2-4 with 128 bits (Aumasson and Bernstein, "SipHash: a fast short-input PRF", 2012) under two keys. A word is a number
-- below 2 ^ 64.
use Rattle.std.specs.Prelude.{ℕ, ◌+◌, ◌*◌, ◌/◌, ◌%◌, ◌^◌, List, [], ◌∷◌, length, drop, slice_index, bit_or, bit_xor, fold, reverse}
use Rattle.std.specs.Int.{w64, rotate_left, from_le_bytes, to_le_bytes}
use Rattle.std.specs.Simd.{first_chunks}
use Rattle.bh_blocks.specs.declared.siphash.Lane.{Lane}
use Rattle.bh_blocks.specs.declared.siphash.Lanes.{Lanes}

abbrev pub add : ℕ → ℕ → ℕ
add x y = (x + y) % 2 ^ 64

-- the state under a key of two words
unfoldable pub keyed : ℕ → ℕ → Lane
keyed k0 k1 = record {
  v0 = bit_xor k0 0x736f_6d65_7073_6575;
  v1 = bit_xor (bit_xor k1 0x646f_7261_6e64_6f6d) 0xee;
  v2 = bit_xor k0 0x6c79_6765_6e65_7261;
  v3 = bit_xor k1 0x7465_6462_7974_6573;
}

-- SipRound
unfoldable pub round : Lane → Lane
round s =
    let a0 = add s.v0 s.v1 in
    let a2 = add s.v2 s.v3 in
    let a1 = bit_xor (rotate_left w64 s.v1 13) a0 in
    let a3 = bit_xor (rotate_left w64 s.v3 16) a2 in
    let b0 = add (rotate_left w64 a0 32) a3 in
    let b2 = add a2 a1 in
    record { v0 = b0; v1 = bit_xor (rotate_left w64 a1 17) b2; v2 = rotate_left w64 b2 32; v3 = bit_xor (rotate_left w64 a3 21) b0 }

-- absorbs one word
unfoldable pub absorb : Lane → ℕ → Lane
absorb s m = let t = round (round (record s { v3 = bit_xor s.v3 m })) in record t { v0 = bit_xor t.v0 m }

unfoldable pub four_rounds : Lane → Lane
four_rounds s = round (round (round (round s)))

abbrev pub folded : Lane → ℕ
folded s = bit_xor (bit_xor (bit_xor s.v0 s.v1) s.v2) s.v3

-- the two words that a state ends in
unfoldable pub end_of : Lane → ℕ × ℕ
end_of s =
    let first = four_rounds (record s { v2 = bit_xor s.v2 0xee }) in
    let second = four_rounds (record first { v1 = bit_xor first.v1 0xdd }) in
    (folded first, folded second)

-- the last bytes, less than a word, the first of them lowest
abbrev pub tail_of : List ℕ → ℕ
tail_of rest = fold (λ word byte. bit_or ((word * 2 ^ 8) % 2 ^ 64) byte) 0 (reverse rest)

-- they, and as the highest byte how many bytes there are, modulo 256
unfoldable pub last_word : List ℕ → ℕ → ℕ
last_word rest count = bit_or ((count % 256 * 2 ^ 56) % 2 ^ 64) (tail_of rest)

-- ---- under both keys: the bytes 0 to 15, and 16 to 31

unfoldable pub start : Lanes
start = record { one = keyed 0x0706_0504_0302_0100 0x0f0e_0d0c_0b0a_0908; other = keyed 0x1716_1514_1312_1110 0x1f1e_1d1c_1b1a_1918 }

unfoldable pub absorb_both : Lanes → ℕ → Lanes
absorb_both s m = record { one = absorb s.one m; other = absorb s.other m }

abbrev pub absorb_all : Lanes → List (List ℕ) → Lanes
absorb_all = fold (λ s word. absorb_both s (from_le_bytes w64 word))

-- eight bytes, and more
abbrev pub before : List ℕ → List ℕ → List ℕ
before b more =
    slice_index b 0 ∷ slice_index b 1 ∷ slice_index b 2 ∷ slice_index b 3 ∷ slice_index b 4 ∷ slice_index b 5 ∷ slice_index b 6
    ∷ slice_index b 7 ∷ more

abbrev pub in_a_row : List ℕ → List ℕ → List ℕ → List ℕ → List ℕ
in_a_row a b c d = before a (before b (before c (before d [])))

-- the bytes of the final words, the lowest of each word first
unfoldable pub digest_in : Lanes → List ℕ
digest_in s =
    let one = end_of s.one in
    let other = end_of s.other in
    in_a_row (to_le_bytes w64 one.0) (to_le_bytes w64 one.1) (to_le_bytes w64 other.0) (to_le_bytes w64 other.1)

-- the digests of some bytes, 16 bytes each
unfoldable pub siphash : List ℕ → List ℕ
siphash bytes =
    let count = length bytes / 8 in
    digest_in (absorb_both (absorb_all start (first_chunks 8 count bytes)) (last_word (drop (count * 8) bytes) (length bytes)))
