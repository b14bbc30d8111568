-- A disk that has the first bytes of another one, and gets more of them.
use Rattle.std.proofs.Common.{◌≡◌, ℕ, ◌+◌, ◌-◌, ◌<◌, ◌≤◌, List, length, take, slice_index, inl, inr, sym, ap, ◌∙◌, arith, length-take, get_or-take}
use Rattle.std.proofs.lemmas.Bool.{cases_lt}
use Rattle.std.proofs.lemmas.List.{ext_get_or}
use Rattle.sqlite_disk.specs.Disk.{Holds, Torn}

-- a piece was read at the end of what is there, and written there
pub appended : (whole old new bytes : List ℕ) (at : ℕ) → at ≤ length whole → old ≡ take at whole → Holds whole at bytes → Holds new at bytes → Torn at (length bytes) old new
    → new ≡ take (at + length bytes) whole
appended whole old new bytes at low is there here torn =
    let short : length old ≡ at = omega (arith, ap (length {A = ℕ}) is, length-take at whole) in
    let long : length new ≡ at + length bytes = omega (arith, torn.no_longer, here.within) in
    let goal : length (take (at + length bytes) whole) ≡ at + length bytes = omega (arith, there.within, length-take (at + length bytes) whole) in
    let front : (i : ℕ) → i < at → slice_index new i ≡ slice_index whole i =
    λ i early. torn.below i (omega (arith, short)) early ∙ ap (λ l. slice_index l i) is ∙ get_or-take at whole i 0 early in
    let back : (i : ℕ) → at ≤ i → i < at + length bytes → slice_index new i ≡ slice_index whole i =
    λ i late high.
    let place : at + (i - at) ≡ i = omega arith in
    let few : i - at < length bytes = omega arith in
    sym (ap (slice_index new) place) ∙ here.each (i - at) few ∙ sym (there.each (i - at) few) ∙ ap (slice_index whole) place in
    ext_get_or 0 new (take (at + length bytes) whole) (long ∙ sym goal) (λ i within.
    let high : i < at + length bytes = omega (arith, long) in
    let kept = sym (get_or-take (at + length bytes) whole i 0 high) in
    elim (cases_lt i at) [
      | inl early ↦ front i early ∙ kept
      | inr late ↦ back i late high ∙ kept
    ])
