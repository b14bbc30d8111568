-- The row of what nobody needs has the bytes of the blocks that no reference names.
use Rattle.std.proofs.Common.{arith, ◌≡◌, ℕ, zero, suc, ◌==◌, pos, true, List, [], ◌∷◌, length, filter, map, cond, refl, ap, ◌∙◌}
use Rattle.std.specs.List.{AllByRecursion, AllZip}
use Rattle.std.specs.Ordering.{int_eq}
use Rattle.std.proofs.lemmas.Int.{ints}
use Rattle.sqlite.specs.Order.{Row}
use Rattle.bh_rows.specs.Form.{typed}
use Rattle.bh_tables.specs.Bodies.{Name, same_name, ref_name, is_unreferenced, unneeded}
use Rattle.bh_tables.specs.Typed.{RefRow, garbage_form, weight, block_of, block_form}
use Rattle.bh_tables.proofs.TotalLemmas.{total_cons, unused_is}
use Rattle.bh_tables.proofs.GarbageLemmas.{size_of}
use Rattle.bh_stored.specs.Cells.{is_fit}
use Rattle.bh_stored.specs.Fits.{garbage_kinds}
use Rattle.bh_stored.proofs.Fitted.{garbage_is}
use Rattle.bh_check.specs.Blocks.{IsUseOf}
use Rattle.bh_check.specs.Garbage.{unused_in, unused_size, IsGarbage}
use Rattle.bh_check.specs.Holds.{first_two, number_at, block_length}

none_alike : (n : ℕ) → (n == 0) ≡ int_eq (pos n) (pos 0)
none_alike zero = refl
none_alike (suc n) = grind (arith, ints)

module _ (of : Name → ℕ) (refs : List RefRow) (is : (q : Name) → of q ≡ length (filter (λ r. same_name (ref_name r) q) refs)) where
  unneeded_is : (us bs : List Row) → AllZip (IsUseOf of) us bs → unused_size us (map block_length bs) ≡ unneeded refs (typed block_form bs)
  unneeded_is [] [] h = refl
  unneeded_is [] (b ∷ bs) h = absurd h
  unneeded_is (u ∷ us) [] h = absurd h
  unneeded_is (u ∷ us) (b ∷ bs) h =
      let count = h.0.count ∙ is (first_two b) in
      let one : unused_in u (block_length b) ≡ cond (is_unreferenced refs (block_of b)) (size_of (block_of b)) 0 = ap (λ s. cond s (size_of (block_of b)) 0) (ap (λ n. n == 0) count ∙ none_alike _ ∙ unused_is refs (block_of b)) in
      let rest = unneeded_is us bs h.1 in
      let all = total_cons size_of (is_unreferenced refs) (block_of b) (typed block_form bs) in
      omega (arith, one, rest, all)

  pub weighed_is : (rows us bs : List Row) → AllByRecursion (λ r. is_fit garbage_kinds r ≡ true) rows → AllZip (IsUseOf of) us bs → IsGarbage rows us bs → typed garbage_form rows ≡ weight (unneeded refs (typed block_form bs)) ∷ []
  weighed_is [] us bs fit uses one = absurd (cc)
  weighed_is (r ∷ s ∷ rows) us bs fit uses one = absurd (cc)
  weighed_is (r ∷ []) us bs fit uses one =
      let number : number_at 2 r ≡ unused_size us (map block_length bs) = first_is (number_at 2 r) [] one in
      ap (λ z. record { bytes = z } ∷ []) (garbage_is r fit.0 ∙ ap pos (number ∙ unneeded_is us bs uses))
    where
      first_is : (n : ℕ) (ns : List ℕ) → n ∷ ns ≡ unused_size us (map block_length bs) ∷ [] → n ≡ unused_size us (map block_length bs)
      first_is n ns e = cc
