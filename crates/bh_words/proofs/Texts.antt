-- Texts that differ, and the digits of the numbers that missing options stand for.
use Rattle.std.proofs.Common.{◌≡◌, List, ℕ, false, refl, sym, codes}
use Rattle.std.proofs.lemmas.Bool.{false_from_ne_true}
use Rattle.std.proofs.lemmas.Slice.Eq.{bytes_eq-Decides}
use Rattle.std.specs.Fmt.{decimal, digits}
use Rattle.std.specs.Str.{bytes_eq}

pub unequal : (a b : List ℕ) → (b ≡ a → ⊥) → bytes_eq a b ≡ false
unequal a b differ = false_from_ne_true _ (λ same. differ (sym ((bytes_eq-Decides a b).0 same)))

pub digits_30 : codes "30" ≡ decimal 30
unfolding digits
digits_30 = refl

pub digits_5242880 : codes "5242880" ≡ decimal 5242880
unfolding digits
digits_5242880 = refl

pub digits_16777216 : codes "16777216" ≡ decimal 16777216
unfolding digits
digits_16777216 = refl

pub digits_65536 : codes "65536" ≡ decimal 65536
unfolding digits
digits_65536 = refl

pub digits_4096 : codes "4096" ≡ decimal 4096
unfolding digits
digits_4096 = refl

pub digits_3600 : codes "3600" ≡ decimal 3600
unfolding digits
digits_3600 = refl

pub digits_0 : codes "0" ≡ decimal 0
unfolding digits
digits_0 = refl
