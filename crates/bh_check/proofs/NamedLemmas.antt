-- The bytes of a body, from the references and blocks that were found.
use Rattle.std.proofs.Common.{arith, ◌≡◌, inl, inr, ℕ, zero, suc, ◌+◌, ◌<◌, ◌≤◌, Bool, true, false, cond, if◌then◌else◌, List, [], ◌∷◌, ◌++◌, append_assoc, append-nil, length, length-append, take, drop, get_or, map, filter, Some, refl, sym, ap, ap₂, ◌∙◌, subst}
use Rattle.std.specs.List.{list_all}
use Rattle.std.specs.Option.{option_map_or}
use Rattle.std.proofs.lemmas.Bool.{cases_Bool}
use Rattle.std.proofs.lemmas.List.{take-append-drop}
use Rattle.std.proofs.lemmas.List.Sums.{sum_by-cons}
use Rattle.sqlite.specs.Order.{Row}
use Rattle.sqlite_keyed.proofs.ListLemmas.{filter-map, filter_all, all_from_test}
use Rattle.bh_rows.specs.Form.{typed}
use Rattle.bh_tables.specs.Bodies.{Name, same_name, block_name, block_at, first}
use Rattle.bh_tables.specs.Typed.{BlockRow, block_of, block_form}
use Rattle.bh_check.specs.Blocks.{block_octets, AreNamed, refs_of, named_octets}
use Rattle.bh_check.specs.Holds.{first_two, ref_block, one}
use Rattle.bh_check.specs.Sums.{total}
use Rattle.bh_check.proofs.OnceLemmas.{one_more}

-- ---- blocks

-- a row of a name that no other has is the first one of it
pub sole : {T : Type 0} (m : T → Bool) (rows : List T) (i : ℕ) (row : T) → i < length rows → row ≡ get_or rows i row → m row ≡ true → length (filter m rows) ≤ 1 → first (filter m rows) ≡ Some row
sole m [] i row low is on few = absurd (omega (arith, low))
sole m (r ∷ rows) zero row low is on few = ap (λ b. first (cond b (r ∷ filter m rows) (filter m rows))) (ap m (sym is) ∙ on) ∙ ap Some (sym is)
sole {T} m (r ∷ rows) (suc i) row low is on few = elim (cases_Bool (m r)) [
  | inl here ↦ absurd (none_left (subst (λ b. length (cond b (r ∷ filter m rows) (filter m rows)) ≤ 1) here few))
  | inr not ↦ ap (λ b. first (cond b (r ∷ filter m rows) (filter m rows))) not ∙ sole m rows i row (omega (arith, low)) is on (subst (λ b. length (cond b (r ∷ filter m rows) (filter m rows)) ≤ 1) not few)
]
  where
    some_left : (rows : List T) (i : ℕ) → i < length rows → row ≡ get_or rows i row → 0 < length (filter m rows)
    some_left [] i low is = absurd (omega (arith, low))
    some_left (r ∷ rows) zero low is = subst (λ b. 0 < length (cond b (r ∷ filter m rows) (filter m rows))) (sym (ap m (sym is) ∙ on)) (omega arith)
    some_left (r ∷ rows) (suc i) low is = let rest = some_left rows i (omega (arith, low)) is in elim (cases_Bool (m r)) [
      | inl here ↦ subst (λ b. 0 < length (cond b (r ∷ filter m rows) (filter m rows))) (sym here) (omega arith)
      | inr not ↦ subst (λ b. 0 < length (cond b (r ∷ filter m rows) (filter m rows))) (sym not) rest
    ]

    none_left : length (r ∷ filter m rows) ≤ 1 → ⊥
    none_left few = let more = some_left rows i (omega (arith, low)) is in omega (arith, few, more)

pub block_found : (rows : List Row) (i : ℕ) (row : Row) (q : Name) → i < length rows → row ≡ get_or rows i row → same_name (first_two row) q ≡ true → AreNamed rows → block_octets row ≡ block_at (typed block_form rows) q
block_found rows i row q low is on named =
    sym (ap (λ o. option_map_or (λ (b : BlockRow). b.bytes) o [])
    (ap first (filter-map (λ (b : BlockRow). same_name (block_name b) q) block_of rows) ∙ first_mapped (filter (λ r. same_name (first_two r) q) rows) (sole (λ r. same_name (first_two r) q) rows i row low is on (named q))))
  where
    first_mapped : (xs : List Row) → first xs ≡ Some row → first (map block_of xs) ≡ Some (block_of row)
    first_mapped [] e = cc
    first_mapped (x ∷ xs) e = let same : x ≡ row = cc in ap (λ y. Some (block_of y)) same

-- ---- references

empty : {R : Type 0} (xs : List R) → length xs ≡ 0 → xs ≡ []
empty [] h = refl
empty (x ∷ xs) h = absurd (omega (arith, h))

module _ {R : Type 0} (name : R → Name) (q : Name) where
  abbrev has : R → Bool
  has r = same_name (name r) q

  filter_length : (rows : List R) → length (filter has rows) ≡ total name (λ _. 1) rows q
  filter_length [] = refl
  filter_length (r ∷ rows) = elim (cases_Bool (has r)) [
    | inl is ↦ let more = sum_by-cons (λ s. if has s then 1 else 0) r rows ∙ ap (λ b. (if b then 1 else 0) + total name (λ _. 1) rows q) is in let rest = filter_length rows in ap (λ b. length (cond b (r ∷ filter has rows) (filter has rows))) is ∙ omega (arith, more, rest)
    | inr not ↦ let more = sum_by-cons (λ s. if has s then 1 else 0) r rows ∙ ap (λ b. (if b then 1 else 0) + total name (λ _. 1) rows q) not in let rest = filter_length rows in ap (λ b. length (cond b (r ∷ filter has rows) (filter has rows))) not ∙ omega (arith, more, rest)
  ]

  filter_parts : (xs ys : List R) → filter has (xs ++ ys) ≡ filter has xs ++ filter has ys
  filter_parts [] ys = refl
  filter_parts (x ∷ xs) ys = elim (has x) as (λ b. cond b (x ∷ filter has (xs ++ ys)) (filter has (xs ++ ys)) ≡ cond b (x ∷ filter has xs) (filter has xs) ++ filter has ys) [ true ↦ ap (λ l. x ∷ l) (filter_parts xs ys) | false ↦ filter_parts xs ys ]

  -- rows that are so many as there are of a name are all of them
  pub slice_is_all : (before those after : List R) → list_all (λ r. same_name (name r) q) those ≡ true → length those ≡ total name (λ _. 1) (before ++ (those ++ after)) q → filter (λ r. same_name (name r) q) (before ++ (those ++ after)) ≡ those
  slice_is_all before those after all count =
      let mine = filter_all has those (all_from_test has those all) in
      let parts = filter_parts before (those ++ after) ∙ ap (λ l. filter has before ++ l) (filter_parts those after ∙ ap (λ l. l ++ filter has after) mine) in
      let sizes = count ∙ sym (filter_length (before ++ (those ++ after))) ∙ ap length parts ∙ length-append (filter has before) (those ++ filter has after) in
      let inner = length-append those (filter has after) in
      let none_before = empty (filter has before) (omega (arith, sizes, inner)) in
      let none_after = empty (filter has after) (omega (arith, sizes, inner)) in
      parts ∙ ap₂ (λ x y. x ++ (those ++ y)) none_before none_after ∙ append-nil those

-- of a slice
pub refs_whole : (refs : List Row) (i n : ℕ) (q : Name) → list_all (λ r. same_name (first_two r) q) (take n (drop i refs)) ≡ true → length (take n (drop i refs)) ≡ total first_two one refs q → take n (drop i refs) ≡ refs_of refs q
refs_whole refs i n q all count =
    let before = take i refs in
    let those = take n (drop i refs) in
    let after = drop n (drop i refs) in
    let whole = ap (λ l. before ++ l) (take-append-drop n (drop i refs)) ∙ take-append-drop i refs in
    sym (subst (λ l. filter (λ r. same_name (first_two r) q) l ≡ those) whole (slice_is_all first_two q before those after all (count ∙ sym (ap (λ l. total first_two one l q) whole))))

-- ---- bytes so far

pub named_more : (blocks rows : List Row) (i : ℕ) (row : Row) → i < length rows → row ≡ get_or rows i row → named_octets blocks (take (i + 1) rows) ≡ named_octets blocks (take i rows) ++ block_at (typed block_form blocks) (ref_block row)
named_more blocks rows i row low is = ap (named_octets blocks) (one_more rows i row low is) ∙ last (take i rows)
  where
    last : (rows : List Row) → named_octets blocks (rows ++ row ∷ []) ≡ named_octets blocks rows ++ block_at (typed block_form blocks) (ref_block row)
    last [] = append-nil (block_at (typed block_form blocks) (ref_block row))
    last (r ∷ rows) = ap (λ l. block_at (typed block_form blocks) (ref_block r) ++ l) (last rows) ∙ sym (append_assoc (block_at (typed block_form blocks) (ref_block r)) (named_octets blocks rows) (block_at (typed block_form blocks) (ref_block row)))
