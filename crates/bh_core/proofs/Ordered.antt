-- A part that is looked for from a place on is the one of its number, where the parts stand in the order of their numbers.
use Rattle.std.proofs.Common.{◌≡◌, ℕ, zero, suc, ◌+◌, ◌<◌, nat_lt, Bool, true, false, true≢false, not, cond, ◌&&◌, List, [], ◌∷◌, length, drop, Option, Some, None, option_map, refl, sym, ap, subst, ◌∙◌, arith}
use Rattle.std.specs.Prelude.{position}
use Rattle.std.specs.List.{AllByRecursion, position_or_len}
use Rattle.std.specs.Option.{option_or}
use Rattle.std.proofs.lemmas.Bool.{eqb-true}
use Rattle.std.proofs.lemmas.Bool.Decides.{nat_tests}
use Rattle.std.proofs.lemmas.List.{length-drop}
use Rattle.bh_core.specs.declared.parts.PartRow.{PartRow}
use Rattle.bh_core.specs.Completions.{is_numbered, place_of, are_ordered, IsStart}

lt_of : (a b : ℕ) → nat_lt a b ≡ true → a < b
lt_of a b h = grind (arith, nat_tests, h)

lt_is : (a b : ℕ) → a < b → nat_lt a b ≡ true
lt_is a b h = grind (arith, nat_tests, h)

and_parts : (a b : Bool) → (a && b) ≡ true → (a ≡ true) × (b ≡ true)
and_parts true b h = (refl, h)
and_parts false b h = absurd (true≢false (sym h))

-- in rows that ascend, those behind have greater numbers
abbrev AreAbove : ℕ → List PartRow → Type 0
AreAbove m rows = AllByRecursion (λ (row : PartRow). m < row.number) rows

above_more : (m n : ℕ) (rows : List PartRow) → m < n → AreAbove n rows → AreAbove m rows
above_more m n [] h all = tt
above_more m n (row ∷ rows) h all = ((let low = all.0 in omega (arith, h, low)), above_more m n rows h all.1)

above : (row : PartRow) (rows : List PartRow) → are_ordered (row ∷ rows) ≡ true → AreAbove row.number rows × (are_ordered rows ≡ true)
above row [] h = (tt, refl)
above row (next ∷ rows) h =
    let both = and_parts (nat_lt row.number next.number) (are_ordered (next ∷ rows)) h in
    let low = lt_of row.number next.number both.0 in
    ((low, above_more row.number next.number rows low (above next rows both.1).0), both.1)

module _ (number : ℕ) where
  abbrev at : List PartRow → ℕ
  at rows = position_or_len (is_numbered number) rows

  none_at : (rows : List PartRow) → AreAbove number rows → at rows ≡ length rows
  none_at [] all = refl
  none_at (row ∷ rows) all = let more = none_at rows all.1 in ap (λ t. cond (not t) (1 + at rows) 0) (apart (is_numbered number row) refl) ∙ omega (arith, more)
    where
      apart : (t : Bool) → is_numbered number row ≡ t → t ≡ false
      apart true e = let is = eqb-true row.number number e in let low = all.0 in absurd (omega (arith, is, low))
      apart false e = refl

  later_at : (from : ℕ) (rows : List PartRow) → are_ordered rows ≡ true → at (drop from rows) < length (drop from rows) → at rows ≡ from + at (drop from rows)
  later_at zero rows up there = omega arith
  later_at (suc from) [] up there = absurd (omega (arith, there))
  later_at (suc from) (row ∷ rows) up there =
      let order = above row rows up in
      let more : at rows ≡ from + at (drop from rows) = later_at from rows order.1 there in
      ap (λ t. cond (not t) (1 + at rows) 0) (behind (is_numbered number row) refl order.0 more) ∙ omega (arith, more)
    where
      behind : (t : Bool) → is_numbered number row ≡ t → AreAbove row.number rows → at rows ≡ from + at (drop from rows) → t ≡ false
      behind false e all more = refl
      behind true e all more =
          let none : at rows ≡ length rows = none_at rows (subst (λ n. AreAbove n rows) (eqb-true row.number number e) all) in
          let size = length-drop from rows in
          absurd (omega (arith, none, more, there, size))

  -- from any place on, or else from the first
  abbrev pub from_place : List PartRow → ℕ → Option ℕ
  from_place rows from = option_or (option_map (λ i. from + i) (position (is_numbered number) (drop from rows))) (position (is_numbered number) rows)

  pub found_anyway : (rows : List PartRow) (from : ℕ) → IsStart rows from → from_place rows from ≡ place_of rows number
  found_anyway rows from start = by_order (are_ordered rows) refl
    where
      later : are_ordered rows ≡ true → (t : Bool) → nat_lt (at (drop from rows)) (length (drop from rows)) ≡ t
          → option_or (option_map (λ i. from + i) (cond t (Some (at (drop from rows))) None)) (place_of rows number) ≡ place_of rows number
      later up false e = refl
      later up true e =
          let there = lt_of _ _ e in
          let is : at rows ≡ from + at (drop from rows) = later_at from rows up there in
          let size = length-drop from rows in
          ap Some (sym is) ∙ sym (ap (λ t. cond t (Some (at rows)) None) (lt_is (at rows) (length rows) (omega (arith, is, there, size))))

      twice : (o : Option ℕ) → option_or (option_map (λ i. 0 + i) o) o ≡ o
      twice None = refl
      twice (Some i) = ap Some (omega arith)

      by_order : (t : Bool) → are_ordered rows ≡ t → from_place rows from ≡ place_of rows number
      by_order true up = later up (nat_lt (at (drop from rows)) (length (drop from rows))) refl
      by_order false up = subst (λ n. from_place rows n ≡ place_of rows number) (sym (start up)) (twice (place_of rows number))
