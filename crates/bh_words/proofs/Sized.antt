-- A text may be cut after the digits that it begins with; and one more word is done.
use Rattle.std.proofs.Common.{◌≡◌, ◌∙◌, ◌<◌, ◌≤◌, ◌+◌, ◌++◌, ℕ, Bool, List, [], ◌∷◌, Option, None, Some, ap, arith, drop, false, get_or, length, map, refl, subst, suc, sym, true, zero}
use Rattle.std.proofs.lemmas.Bool.{ltb-true}
use Rattle.std.proofs.lemmas.List.{append_assoc, at_drop_more, map-append}
use Rattle.std.proofs.lemmas.List.Sums.{prefix_len_passes}
use Rattle.std.proofs.lemmas.Str.{IsCharBoundary-after_ascii, IsCharBoundary-start}
use Rattle.std.specs.List.{position_or_len}
use Rattle.std.specs.Prelude.{IfSome, cond, nat_lt, not, position}
use Rattle.std.specs.Str.{IsCharBoundary, IsUtf8}
use Rattle.std.specs.String.{string_bytes}
use Rattle.std.specs.declared.string.String.{String}
use Rattle.clap.specs.Words.{Text}
use Rattle.bh_words.specs.Sizes.{is_no_digit, sized_after, sized_word}

digit_small : (b : ℕ) → not (is_no_digit b) ≡ true → b < 128
digit_small b e = grind arith

cut_at : (bs : List ℕ) (at : ℕ) → IsUtf8 bs → at ≤ position_or_len is_no_digit bs → at < length bs → IsCharBoundary bs at
cut_at bs zero u e l = IsCharBoundary-start bs u
cut_at bs (suc k) u e l =
    let within : k < length bs = omega arith in
    let before : k < position_or_len is_no_digit bs = omega arith in
    let next : k + 1 ≡ suc k = omega arith in
    let small = digit_small _ (prefix_len_passes (λ b. not (is_no_digit b)) bs k 0 before) in
    rw (← next) (IsCharBoundary-after_ascii bs k u within small)

cut_found : (bs : List ℕ) (b : Bool) → IsUtf8 bs → nat_lt (position_or_len is_no_digit bs) (length bs) ≡ b
    → IfSome (cond b (Some (position_or_len is_no_digit bs)) None) (λ at. IsCharBoundary bs at)
cut_found bs false u t = tt
cut_found bs true u t = cut_at bs _ u (omega arith) (ltb-true _ _ t)

pub cut_there : (bs : List ℕ) (at : ℕ) → IsUtf8 bs → Some at ≡ position is_no_digit bs → IsCharBoundary bs at
cut_there bs at u e =
    let P : Option ℕ → Type 0 = λ r. IfSome r (λ at. IsCharBoundary bs at) in
    subst P (sym e) (cut_found bs _ u refl)

-- done are the first words; `word` is the next, and `told` is it as a size
pub one_more : {Z : Type 0} (words : List (String Z)) (i : ℕ) (word : String Z) (done : List (String Z)) (told : String Z) (before : Text)
    → i < length words → word ≡ get_or words i word → string_bytes told ≡ sized_word before (string_bytes word)
    → map string_bytes (done ++ told ∷ []) ++ sized_after (string_bytes word) (map string_bytes (drop (i + 1) words))
    ≡ map string_bytes done ++ sized_after before (map string_bytes (drop i words))
one_more {Z} words i word done told before l is so =
    let left = sized_after (string_bytes word) (map string_bytes (drop (i + 1) words)) in
    let F : List (String Z) → List Text = λ ws. sized_after before (map string_bytes ws) in
    let later : String Z → List Text = λ w. sized_word before (string_bytes w) ∷ sized_after (string_bytes w) (map string_bytes (drop (i + 1) words)) in
    let step : F (drop i words) ≡ later word = at_drop_more F words i word l ∙ ap later (sym is) in
    let more : F (drop i words) ≡ string_bytes told ∷ left = step ∙ ap (λ (t : Text). t ∷ left) (sym so) in
    let both = ap (λ (t : List Text). t ++ left) (map-append string_bytes done (told ∷ [])) ∙ append_assoc (map string_bytes done) (string_bytes told ∷ []) left in
    both ∙ ap (λ (t : List Text). map string_bytes done ++ t) (sym more)
