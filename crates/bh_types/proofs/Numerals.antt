-- What `parse` answers at digits.
use Rattle.std.proofs.Common.{◌≡◌, ℕ, ◌≤◌, ◌^◌, List, length, nat_lt, true, rules, subst, inl, inr, Err}
use Rattle.std.specs.List.{list_all}
use Rattle.std.specs.Char.{is_ascii_digit}
use Rattle.std.specs.Str.Parse.{digits_value, ParsesUnsigned}
use Rattle.std.proofs.lemmas.Str.Parse.{IsNumeralModel, numerals_by_value, parse_digits}
use Rattle.std.proofs.lemmas.Bool.{and_parts, cases_lt, ltb-true}
use Rattle.bh_types.specs.Digits.{is_number}

-- texts of digits are the numerals of their values
pub digit_numerals : IsNumeralModel (λ ds. list_all is_ascii_digit ds ≡ true) (digits_value 10)
digit_numerals = numerals_by_value _ (search rules)

-- an error at a number says that it is too large, whatever the type of the error
pub too_large : (text digits : List ℕ) → text ≡ digits → ParsesUnsigned {E = Unit {0}} 64 10 text (Err tt)
    → is_number digits ≡ true → 2 ^ 64 ≤ digits_value 10 digits
too_large text digits same h number =
    let parts = and_parts (nat_lt 0 (length digits)) (list_all is_ascii_digit digits) number in
    let P : List ℕ → Type 0 = λ t. ParsesUnsigned {E = Unit {0}} 64 10 t (Err tt) in
    let no = parse_digits digit_numerals {E = Unit {0}} 64 digits (Err tt) (subst P same h) parts.1 in
    elim (cases_lt (digits_value 10 digits) (2 ^ 64)) [ inl small ↦ absurd (no (ltb-true 0 (length digits) parts.0, small)) | inr large ↦ large ]
