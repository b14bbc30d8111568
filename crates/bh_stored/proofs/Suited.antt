-- The columns of a row from a place on.
use Rattle.std.proofs.Common.{arith, ◌≡◌, ℕ, zero, suc, ◌+◌, ◌<◌, ◌≤◌, false, ◌&&◌, nat_eq, List, [], ◌∷◌, length, drop, length-drop, refl, sym, ap, ◌∙◌}
use Rattle.sqlite.specs.Order.{Row, column}
use Rattle.bh_stored.specs.Cells.{suits, are_suited}
use Rattle.bh_stored.specs.declared.cells.Kind.{Kind}

none_left : (row : Row) → are_suited [] row ≡ nat_eq (length row) 0
none_left [] = refl
none_left (v ∷ row) = grind arith

none : (ks : List Kind) → length ks < 1 → ks ≡ []
none [] h = refl
none (k ∷ ks) h = absurd (omega (arith, h))

pub suited_end : (ks : List Kind) (row : Row) (at : ℕ) → length ks < 1 → at ≤ length row → nat_eq at (length row) ≡ are_suited ks (drop at row)
suited_end ks row at few low =
    let left = length-drop at row in
    let is : nat_eq at (length row) ≡ are_suited [] (drop at row) = grind (arith, left, none_left (drop at row), low) in
    is ∙ ap (λ l. are_suited l (drop at row)) (sym (none ks few))

one : (n : ℕ) → suc n ≡ n + 1
one n = omega arith

next : (k : Kind) (ks : List Kind) (row : Row) (at : ℕ) → at < length row → are_suited (k ∷ ks) (drop at row) ≡ (suits k (column row at) && are_suited ks (drop (suc at) row))
next k ks [] at low = absurd (omega (arith, low))
next k ks (v ∷ row) zero low = refl
next k ks (v ∷ row) (suc at) low = next k ks row at (omega (arith, low))

pub suited_next : (k : Kind) (ks : List Kind) (row : Row) (at : ℕ) → at < length row → are_suited (k ∷ ks) (drop at row) ≡ (suits k (column row at) && are_suited ks (drop (at + 1) row))
suited_next k ks row at low = next k ks row at low ∙ ap (λ n. suits k (column row at) && are_suited ks (drop n row)) (one at)

none_after : (row : Row) (at : ℕ) → length row ≤ at → drop at row ≡ []
none_after [] zero h = refl
none_after [] (suc at) h = refl
none_after (v ∷ row) zero h = absurd (omega (arith, h))
none_after (v ∷ row) (suc at) h = none_after row at (omega (arith, h))

pub suited_past : (k : Kind) (ks : List Kind) (row : Row) (at : ℕ) → length row ≤ at → are_suited (k ∷ ks) (drop at row) ≡ false
suited_past k ks row at high = ap (are_suited (k ∷ ks)) (none_after row at high)
