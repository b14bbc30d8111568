-- Bytes that are kept are given from the front.
use Rattle.std.proofs.Common.{◌≡◌, ℕ, ◌+◌, ◌≤◌, Bool, true, false, List, ◌++◌, length, take, drop, take-append-drop, append_assoc, refl, sym, ap, ◌∙◌}
use Rattle.std.specs.Io.KnownBytes.{Consumes, IsAtEnd}
use Rattle.std.proofs.lemmas.List.{drop-drop, drop_all}
use Rattle.bh_stage.specs.Records.{told_unless}

-- from memory
pub given : (spooled : Bool) (bytes room : List ℕ) (at n : ℕ) → take n room ≡ take n (drop at bytes)
    → Consumes (told_unless spooled (drop at bytes)) (told_unless spooled (drop (at + n) bytes)) (take n room)
given true bytes room at n same = tt
given false bytes room at n same =
    sym (take-append-drop n (drop at bytes)) ∙ ap (λ x. x ++ drop n (drop at bytes)) (sym same) ∙ ap (λ x. take n room ++ x) (drop-drop n at bytes)

-- from a file, or none where there is no file
pub given_spooled : (spooled : Bool) (bytes room : List ℕ) (at n : ℕ) → length bytes ≤ at → (spooled ≡ false → n ≡ 0)
    → Consumes (told_unless spooled (drop at bytes)) (told_unless spooled (drop at bytes)) (take n room)
given_spooled true bytes room at n past none = tt
given_spooled false bytes room at n past none = ap (λ m. take m room ++ drop at bytes) (sym (none refl))

pub at_end : (spooled : Bool) (bytes : List ℕ) (at : ℕ) → length bytes ≤ at → IsAtEnd (told_unless spooled (drop at bytes))
at_end true bytes at past = tt
at_end false bytes at past = drop_all at bytes past

-- what was given and what is left are all, after more was given from memory
pub gave_kept : (gave after bytes room rest all : List ℕ) (at n : ℕ) → gave ++ (drop at bytes ++ rest) ≡ all → after ≡ gave ++ take n room → take n room ≡ take n (drop at bytes)
    → after ++ (drop (at + n) bytes ++ rest) ≡ all
gave_kept gave after bytes room rest all at n before is same =
    ap (λ x. x ++ (drop (at + n) bytes ++ rest)) is ∙ append_assoc gave (take n room) (drop (at + n) bytes ++ rest)
    ∙ ap (λ x. gave ++ (x ++ (drop (at + n) bytes ++ rest))) same
    ∙ ap (λ x. gave ++ (take n (drop at bytes) ++ (x ++ rest))) (sym (drop-drop n at bytes))
    ∙ ap (λ x. gave ++ x) (sym (append_assoc (take n (drop at bytes)) (drop n (drop at bytes)) rest) ∙ ap (λ x. x ++ rest) (take-append-drop n (drop at bytes)))
    ∙ before

-- and after more was given from the file
pub gave_spooled : (gave after bytes room rest left all : List ℕ) (at n : ℕ) → gave ++ (drop at bytes ++ rest) ≡ all → after ≡ gave ++ take n room → length bytes ≤ at
    → rest ≡ take n room ++ left → after ++ (drop at bytes ++ left) ≡ all
gave_spooled gave after bytes room rest left all at n before is past parts =
    let none = drop_all at bytes past in
    ap (λ x. after ++ (x ++ left)) none ∙ ap (λ x. x ++ left) is ∙ append_assoc gave (take n room) left
    ∙ ap (λ x. gave ++ x) (sym parts) ∙ sym (ap (λ x. gave ++ (x ++ rest)) none) ∙ before
