-- A call for more of a body that comes from a source.
use Rattle.std.proofs.Common.{◌≡◌, ◌≤◌, ℕ, ◌+◌, Bool, true, false, List, [], ◌∷◌, ◌++◌, length, length-take, take, refl, sym, ap, ◌∙◌, subst, arith, Option, Some, None}
use Rattle.std.proofs.lemmas.List.{take-append-le}
use Rattle.std.specs.Io.KnownBytes.{Consumes, Keeps}
use Rattle.bh_http.specs.Bodies.{Coming, Gives, is_fault, broken_by}
use Rattle.bh_http.specs.Transfers as transfers
use Rattle.bh_http.specs.Transfers.{Moved, Failed, Logs}
use Rattle.bh_http.specs.declared.body.Break.{Break}
use Rattle.bh_http.proofs.TransferLemmas.{gives_piece}
use Rattle.bh_link.proofs.TakingLemmas.{consumes_none, consumes_kept}

abbrev IsNone : Option Break → Type 0
IsNone None = Unit {0}
IsNone (Some b) = ⊥

some_is_none : (b : Break) → Some b ≡ None → ⊥
some_is_none b e = subst IsNone (sym e) tt

-- a source that has not failed is at its end without a fault
pub end_is_none : (failed ended : Bool) → broken_by failed ended ≡ None → is_fault (broken_by failed true) ≡ false
end_is_none true ended e = absurd (some_is_none _ e)
end_is_none false true e = absurd (some_is_none _ e)
end_is_none false false e = refl

nothing : (room : List ℕ) → take 0 room ≡ []
nothing [] = refl
nothing (x ∷ xs) = refl

module _ (a b : Coming) where
  pub came_bytes : (bytes : List ℕ) → Consumes a.left b.left bytes → Logs a.gave b.gave (Moved bytes ∷ []) → a.due ≡ length bytes + b.due → is_fault b.broken ≡ false → Gives a b bytes
  came_bytes bytes taken told due going = record { consumed = taken; gave = subst (transfers.Gives a.gave b.gave bytes) (sym going) (gives_piece a.gave b.gave bytes told); counted = due }

  -- at the front of a room
  pub came_front : (room rest : List ℕ) (n : ℕ) → n ≤ length room → Consumes a.left b.left (take n room) → Logs a.gave b.gave (Moved (take n room) ∷ []) → a.due ≡ n + b.due → is_fault b.broken ≡ false → Gives a b (take n (room ++ rest))
  came_front room rest n le taken told due going =
      let size : length (take n room) ≡ n = omega (arith, le, length-take {A = ℕ}) in
      subst (Gives a b) (sym (take-append-le n room rest le)) (came_bytes (take n room) taken told (omega (arith, due, size)) going)

  pub came_end : (room : List ℕ) (n : ℕ) → n ≡ 0 → Consumes a.left b.left (take n room) → Logs a.gave b.gave (Moved (take n room) ∷ []) → a.due ≡ b.due → is_fault b.broken ≡ false → Gives a b []
  came_end room n zero taken told due going =
      let none : take n room ≡ [] = ap (λ k. take k room) zero ∙ nothing room in
      let L : List ℕ → Type 0 = λ l. Logs a.gave b.gave (Moved l ∷ []) in
      came_bytes [] (subst (Consumes a.left b.left) none taken) (subst L none told) (omega (arith, due)) going

  pub came_fault : Keeps a.left b.left → Logs a.gave b.gave (Failed ∷ []) → a.due ≡ b.due → is_fault b.broken ≡ true → Gives a b []
  came_fault kept told due is = record { consumed = consumes_kept a.left a.left b.left [] (consumes_none a.left) kept; gave = subst (transfers.Gives a.gave b.gave []) (sym is) ([], refl, told); counted = omega (arith, due) }
