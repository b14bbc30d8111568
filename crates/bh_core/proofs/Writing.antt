-- A range that is written in decimal digits is read as that range.
use Rattle.std.proofs.Common.{◌≡◌, ℕ, ◌<◌, ◌≤◌, ◌^◌, true, false, not, List, [], ◌∷◌, ◌++◌, length, Some, refl, ◌∙◌, arith}
use Rattle.std.specs.Prelude.{position}
use Rattle.std.specs.Fmt.{decimal}
use Rattle.std.specs.List.{list_all, prefix_len}
use Rattle.std.specs.Char.{is_ascii_digit}
use Rattle.std.proofs.Math.Seq.{take-append_seam, drop-append-add}
use Rattle.std.proofs.lemmas.Bool.{and_parts, and_from, lt-ltb, le-leb}
use Rattle.std.proofs.lemmas.Bool.Decides.{nat_tests}
use Rattle.std.proofs.lemmas.List.{length-append}
use Rattle.std.proofs.lemmas.Fmt.{decimal_nonempty, digits_decimal, digits_value-decimal}
use Rattle.bh_types.specs.Digits.{is_number}
use Rattle.bh_types.specs.Ranges.{Asked.Between, Asked.From, Asked.Last, number_in, asked_by, is_hyphen, asked_in_set}
use Rattle.bh_types.proofs.Numerals.{digit_numerals}
use Rattle.bh_core.specs.Laws.{WrittenIsAsked}

digit_no_hyphen : (b : ℕ) → is_ascii_digit b ≡ true → is_hyphen b ≡ false
digit_no_hyphen b h = grind (arith, nat_tests)

-- the hyphen after digits is the first
first_hyphen : (digits rest : List ℕ) → list_all is_ascii_digit digits ≡ true → prefix_len (λ b. not (is_hyphen b)) (digits ++ 45 ∷ rest) ≡ length digits
first_hyphen [] rest h = refl
first_hyphen (b ∷ digits) rest h =
    let parts = and_parts (is_ascii_digit b) (list_all is_ascii_digit digits) h in
    rw (digit_no_hyphen b parts.0, first_hyphen digits rest parts.1) (omega arith)

hyphen_after : (digits rest : List ℕ) → list_all is_ascii_digit digits ≡ true → position is_hyphen (digits ++ 45 ∷ rest) ≡ Some (length digits)
hyphen_after digits rest h =
    rw (first_hyphen digits rest h, lt-ltb (length digits) (length (digits ++ 45 ∷ rest)) (omega (arith, length-append digits (45 ∷ rest)))) refl

set_parts : (digits rest : List ℕ) → list_all is_ascii_digit digits ≡ true → asked_in_set (digits ++ 45 ∷ rest) ≡ asked_by digits rest
set_parts digits rest h = rw (hyphen_after digits rest h, take-append_seam digits (45 ∷ rest), drop-append-add digits (45 ∷ rest) 1) refl

below : (n : ℕ) → n ≤ 2 ^ 62 → n < 2 ^ 64
below n h = omega arith

decimal_number : (n : ℕ) → n ≤ 2 ^ 62 → is_number (decimal n) ≡ true
decimal_number n h = and_from _ _ (lt-ltb 0 (length (decimal n)) (decimal_nonempty n (below n h))) (digits_decimal digit_numerals n (below n h))

decimal_value : (n : ℕ) → n ≤ 2 ^ 62 → number_in (decimal n) ≡ n
decimal_value n h = rw (digits_value-decimal digit_numerals n (below n h)) (omega arith)

pub written_is_asked : WrittenIsAsked
written_is_asked (Between first last) h =
    let small : first ≤ 2 ^ 62 = omega (arith, h.0, h.1) in
    set_parts (decimal first) (decimal last) (digits_decimal digit_numerals first (below first small))
    ∙ rw (decimal_number first small, decimal_number last h.1, decimal_value first small, decimal_value last h.1, le-leb first last h.0) refl
written_is_asked (From first) h = set_parts (decimal first) [] (digits_decimal digit_numerals first (below first h)) ∙ rw (decimal_number first h, decimal_value first h) refl
written_is_asked (Last count) h = set_parts [] (decimal count) refl ∙ rw (decimal_number count h, decimal_value count h) refl
