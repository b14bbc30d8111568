-- The text of a number is the one text that decodes to it and is in lower case.
use Rattle.std.proofs.Common.{◌≡◌, ℕ, zero, suc, ◌%◌, ◌/◌, ◌<◌, ◌^◌, List, get_or, refl, arith, Ok, Err, Result, ap, sym, ◌∙◌}
use Rattle.std.specs.Int.{w64, to_be_bytes, from_be_bytes, byte_at, bytes_high_first}
use Rattle.std.proofs.lemmas.Nat.{be_bytes_8}
use Rattle.hex.specs.declared.error.FromHexError.{FromHexError}
use Rattle.hex.specs.Hex.{encode_lower, decode_sized}
use Rattle.hex.proofs.HexLemmas.{decode_sized-encode_lower}
use Rattle.bh_types.specs.Ids.{number_text}

one_byte : (i n : ℕ) → byte_at i n < 256
one_byte zero n = omega arith
one_byte (suc i) n = let q = n / 256 ^ suc i in let h : q % 256 < 256 = omega arith in h

small : (k n i : ℕ) → get_or (bytes_high_first k n) i 0 < 256
small zero n i = omega arith
small (suc k) n zero = one_byte k n
small (suc k) n (suc i) = small k n i

pub decode_sized-number_text : (n : ℕ) → decode_sized (number_text n) 8 ≡ Ok (to_be_bytes w64 n)
decode_sized-number_text n = decode_sized-encode_lower (to_be_bytes w64 n) 8 refl (small 8 n)

-- a number's text decodes
pub decodes : (text : List ℕ) (n : ℕ) (e : FromHexError) → text ≡ number_text n → decode_sized text 8 ≡ Err e → ⊥
decodes text n e same h = cc (sym h ∙ ap (λ t. decode_sized t 8) same ∙ decode_sized-number_text n)

-- and the number that is read of it has that text
pub again : (text bytes : List ℕ) (n m : ℕ) → text ≡ number_text n → decode_sized text 8 ≡ Ok bytes → m ≡ from_be_bytes w64 bytes → number_text m ≡ text
again text bytes n m same h value =
    let read : Result (List ℕ) FromHexError = decode_sized text 8 in
    let both : read ≡ Ok (to_be_bytes w64 n) = ap (λ t. decode_sized t 8) same ∙ decode_sized-number_text n in
    let same_bytes : bytes ≡ to_be_bytes w64 n = cc (both, h) in
    ap encode_lower (be_bytes_8 (to_be_bytes w64 n) m refl (small 8 n) (value ∙ ap (from_be_bytes w64) same_bytes)) ∙ sym same
