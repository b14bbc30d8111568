-- The first line of some bytes, and what is left.
use Rattle.std.proofs.Common.{arith, ◌≡◌, ℕ, ◌+◌, ◌-◌, ◌<◌, Bool, true, false, List, [], ◌∷◌, ◌++◌, length, take, drop, Option, Some, None, Bor, refl, sym, ap, ◌∙◌}
use Rattle.std.specs.Prelude.{◌==◌, slice_index_or, MatchOption}
use Rattle.std.proofs.lemmas.Bool.Decides.{nat_tests}
use Rattle.std.proofs.lemmas.Grind.{common_steps}
use Rattle.std.proofs.lemmas.List.{take-append-drop, drop_more}
use Rattle.std.proofs.lemmas.List.Splits.{slice_split_at, slice_split_none}
use Rattle.memchr.specs.Find.{NoneBefore, Nowhere, Passes, is_byte}
use Rattle.bh_script.specs.Lines.{lines}

not_true : (b : Bool) → ¬ (b ≡ true) → b ≡ false
not_true true h = absurd (h refl)
not_true false h = refl

pub one_line : (bytes : List ℕ) → Nowhere (Passes (is_byte 10) bytes) 0 (length bytes) → lines bytes ≡ bytes ∷ []
one_line bytes none = slice_split_none (λ b. b == 10) bytes (λ k d lt. not_true _ (λ is. none k (omega arith) lt (grind (arith, common_steps, is))))

front : (bytes : List ℕ) (at : ℕ) → at < length bytes → Nowhere (Passes (is_byte 10) bytes) 0 at → (k d : ℕ) → k < length (take at bytes) → (slice_index_or (take at bytes) k d == 10) ≡ false
front bytes at within none k d lt = not_true _ (λ is. none k (omega arith) (grind (arith, common_steps, lt)) (grind (arith, common_steps, is, lt)))

parted : (bytes : List ℕ) (at : ℕ) → at < length bytes → Passes (is_byte 10) bytes at → bytes ≡ take at bytes ++ 10 ∷ drop (at + 1) bytes
parted bytes at within is =
    sym (take-append-drop at bytes) ∙ ap (λ l. take at bytes ++ l) (drop_more bytes at 0 within ∙ ap (λ b. b ∷ drop (at + 1) bytes) (grind (arith, common_steps, nat_tests, is, within)))

pub first_line : (bytes : List ℕ) (at : ℕ) → NoneBefore (Passes (is_byte 10) bytes) 0 (length bytes) at → Passes (is_byte 10) bytes at → lines bytes ≡ take at bytes ∷ lines (drop (at + 1) bytes)
first_line bytes at none is =
    ap lines (parted bytes at none.high is) ∙ slice_split_at (λ b. b == 10) (take at bytes) 10 (drop (at + 1) bytes) (front bytes at none.high none.before) refl

pub rest_of : (bytes : List ℕ) (at : ℕ) → drop (at + 1) bytes ≡ take (length bytes - (at + 1)) (drop (at + 1) bytes)
rest_of bytes at = grind (arith, common_steps)

-- the lines of what is left; of nothing none
abbrev pub lines_left : Option (Bor (List ℕ)) → List (List ℕ)
lines_left None = []
lines_left (Some rest) = lines rest.now

pub taken : (next later : Option (Bor (List ℕ))) (rest : Bor (List ℕ)) (line : List ℕ) → next ≡ Some rest
    → MatchOption later (lines rest.now ≡ line ∷ []) (λ l. lines rest.now ≡ line ∷ lines l.now) → lines_left next ≡ line ∷ lines_left later
taken next None rest line is parts = ap lines_left is ∙ parts
taken next (Some later) rest line is parts = ap lines_left is ∙ parts
