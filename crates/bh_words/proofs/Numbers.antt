-- What `parse` reads, as `number_of` says it, and blocks without a size.
use Rattle.std.proofs.Common.{◌≡◌, ℕ, List, [], ◌∷◌, true, ap, refl, sym, min, Result, Ok, Err}
use Rattle.std.proofs.Math.Nat.{div-zero}
use Rattle.std.proofs.lemmas.Bool.{cond-false, false_from_ne_true, lt-ltb, ltb-true}
use Rattle.std.specs.Char.{digit_value}
use Rattle.std.specs.List.{list_all}
use Rattle.std.specs.Prelude.{nat_lt}
use Rattle.std.specs.Result.{result_ok}
use Rattle.std.specs.Str.Parse.{AllDigits, IsNumeral, ParsesUnsigned}
use Rattle.clap.specs.ValueTests.{is_numeral}
use Rattle.clap.proofs.WalkLemmas.{both}
use Rattle.bh_words.specs.Readings.{blocks_in, number_of}

digits_pass : (ds : List ℕ) → AllDigits 10 ds → list_all (λ d. nat_lt (digit_value d) 10) ds ≡ true
digits_pass [] h = refl
digits_pass (d ∷ ds) h = rw (lt-ltb (digit_value d) 10 h.0) (digits_pass ds h.1)

digits_from : (ds : List ℕ) → list_all (λ d. nat_lt (digit_value d) 10) ds ≡ true → AllDigits 10 ds
digits_from [] e = tt
digits_from (d ∷ ds) e = let parts = both _ _ e in (ltb-true _ _ parts.0, digits_from ds parts.1)

numeral-from : (ds : List ℕ) → is_numeral ds ≡ true → IsNumeral 10 ds
numeral-from ds e = let parts = both _ _ e in (ltb-true _ _ parts.0, digits_from ds parts.1)

pub number_parsed : {E : Type 0} (bits : ℕ) (text : List ℕ) (r : Result ℕ E) → ParsesUnsigned bits 10 text r → result_ok r ≡ number_of bits text
number_parsed bits text (Ok n) h = rw (h.1, lt-ltb _ _ h.0.0.0, digits_pass _ h.0.0.1, lt-ltb _ _ h.0.1) refl
number_parsed bits text (Err e) h = sym (cond-false _ _ _ (false_from_ne_true _ (λ all.
    let parts = both _ _ all in h (numeral-from _ parts.0, ltb-true _ _ parts.1))))

pub no_size : (bytes : ℕ) → blocks_in bytes 0 ≡ 0
no_size bytes = ap (λ n. min n 65_536) (div-zero bytes)
