-- What digits write.
use Rattle.std.proofs.Common.{◌≡◌, ℕ, ◌<◌, ◌≤◌, ◌^◌, List, length, true, nat_lt, arith}
use Rattle.std.specs.List.{list_all}
use Rattle.std.specs.Char.{is_ascii_digit}
use Rattle.std.specs.Str.Parse.{digits_value}
use Rattle.std.proofs.lemmas.Str.Parse.{digits_value_short}
use Rattle.std.proofs.lemmas.Bool.{and_parts}
use Rattle.bh_types.proofs.Numerals.{digit_numerals}
use Rattle.bh_types.specs.Digits.{is_number}

-- ten digits are below 2^64
pub ten_digits : (text : List ℕ) → is_number text ≡ true → length text ≤ 10 → 2 ^ 64 ≤ digits_value 10 text → ⊥
ten_digits text h short large =
    let parts = and_parts (nat_lt 0 (length text)) (list_all is_ascii_digit text) h in
    let small : digits_value 10 text < 10 ^ 10 = digits_value_short digit_numerals text 10 parts.1 short in
    omega arith
