-- An UPDATE changes the rows that it finds, and a DELETE takes them out.
use Rattle.std.proofs.Common.{◌≡◌, inl, inr, ℤ, eqb, List, [], ◌∷◌, map, filter, fold, cond, not, ◌||◌, Bool, true, false, true≢false, Less, refl, sym, ap, ap₂, subst, ◌∙◌, int_eq}
use Rattle.std.specs.List.{list_any}
use Rattle.std.specs.List.Sorted.{IsPermutation}
use Rattle.std.specs.Ordering.{ordering_reverse}
use Rattle.std.proofs.lemmas.Bool.{cases_Bool, not-true}
use Rattle.std.proofs.lemmas.List.Sorted.{length_permutation, Contains-permutation, IsPermutation-sym}
use Rattle.sqlite_trees.proofs.ListLemmas.{IsPermutation-filter}
use Rattle.sqlite.specs.Order.{Row, value_cmp}
use Rattle.sqlite.specs.Tree.{IsTable, IsAscending, rowid, put_row}
use Rattle.sqlite.specs.Edit.{without_all, put_all, are_fresh}
use Rattle.sqlite_value.proofs.OrderLemmas.{value_cmp-Int, value_cmp_total}
use Rattle.sqlite_rules.specs.Lists.{Has}
use Rattle.sqlite_rules.proofs.ListLemmas.{has_filtered, has_kept, has_contained, contains_had, all_has}
use Rattle.sqlite_rules.proofs.ProbeLemmas.{has_mapped, mapped_has}
use Rattle.sqlite_rules.proofs.TableLemmas.{put_all_has, put_all_keeps, put_all_adds}
use Rattle.sqlite_trees.proofs.TreeLemmas.{IsTable-put_row}
use Rattle.sqlite_keyed.specs.Lists.{update_where, delete_where, without_key}
use Rattle.sqlite_keyed.proofs.ListLemmas.{none_counted, filter_all, all_of, ascending-map, ascending_weaker}
use Rattle.sqlite_keyed.proofs.KeyedLemmas.{Less-from_lt, IsKeyedBy-update_where, IsKeyedBy-delete_where}
use Rattle.sqlite_keyed.proofs.WriteLemmas.{removes_delete}
use Rattle.sqlite_typed.proofs.RowLemmas.{deletes-map}
use Rattle.bh_rows.specs.Form.{Form, AreRows, Entry, put, entries}
use Rattle.bh_rows.proofs.FormLemmas.{stored, keyed}

-- ---- lists

-- an order holds the same elements
pub has_permuted : {X : Type 0} (xs ys : List X) (x : X) → IsPermutation xs ys → Has xs x → Has ys x
has_permuted xs ys x h there = has_contained ys x (Contains-permutation xs ys x h (contains_had xs x there))

not_not : (a b : Bool) → not a ≡ not b → a ≡ b
not_not true true h = refl
not_not true false h = absurd (true≢false (sym h))
not_not false true h = absurd (true≢false h)
not_not false false h = refl

any_permuted : {X : Type 0} (p : X → Bool) (xs ys : List X) → IsPermutation xs ys → list_any p ys ≡ list_any p xs
any_permuted p xs ys h = not_not _ _ (sym (none_counted p ys) ∙ ap (λ n. eqb n 0) (length_permutation _ _ (IsPermutation-filter p xs ys h)) ∙ none_counted p xs)

filter_both : {X : Type 0} (a b : X → Bool) (xs : List X) → filter (λ x. not (b x)) (filter (λ x. not (a x)) xs) ≡ filter (λ x. not (a x || b x)) xs
filter_both a b [] = refl
filter_both a b (x ∷ xs) =
    elim (a x) as (λ s. filter (λ y. not (b y)) (cond (not s) (x ∷ filter (λ y. not (a y)) xs) (filter (λ y. not (a y)) xs)) ≡ cond (not (s || b x)) (x ∷ filter (λ y. not (a y || b y)) xs) (filter (λ y. not (a y || b y)) xs)) [
      | true ↦ filter_both a b xs
      | false ↦ elim (b x) as (λ t. cond (not t) (x ∷ filter (λ y. not (b y)) (filter (λ y. not (a y)) xs)) (filter (λ y. not (b y)) (filter (λ y. not (a y)) xs)) ≡ cond (not t) (x ∷ filter (λ y. not (a y || b y)) xs) (filter (λ y. not (a y || b y)) xs))
          [ true ↦ filter_both a b xs | false ↦ ap (λ l. x ∷ l) (filter_both a b xs) ]
    ]

-- two lists that rise and have the same elements are one list
module _ {X : Type 0} (R : X → X → Type 0) (asym : (a b : X) → R a b → R b a → ⊥) where
  -- the lists are one
  pub ascending_same : (xs ys : List X) → IsAscending R xs → IsAscending R ys → ((x : X) → Has xs x → Has ys x) → ((x : X) → Has ys x → Has xs x) → xs ≡ ys
  ascending_same [] [] up vp to from = refl
  ascending_same [] (y ∷ ys) up vp to from = absurd (from y (inl refl))
  ascending_same (x ∷ xs) [] up vp to from = absurd (to x (inl refl))
  ascending_same (x ∷ xs) (y ∷ ys) up vp to from =
      let same : x ≡ y = elim (to x (inl refl)) [
        | inl e ↦ e
        | inr later ↦ elim (from y (inl refl)) [ inl e ↦ sym e | inr also ↦ absurd (asym x y (all_has (R x) xs y up.0 also) (all_has (R y) ys x vp.0 later)) ]
      ] in
      let to_tail : (z : X) → Has xs z → Has ys z = λ z h. elim (to z (inr h)) [
        | inl e ↦ absurd (let self = subst (R x) (e ∙ sym same) (all_has (R x) xs z up.0 h) in asym x x self self)
        | inr more ↦ more
      ] in
      let from_tail : (z : X) → Has ys z → Has xs z = λ z h. elim (from z (inr h)) [
        | inl e ↦ absurd (let self = subst (R y) (e ∙ same) (all_has (R y) ys z vp.0 h) in asym y y self self)
        | inr more ↦ more
      ] in
      ap₂ ◌∷◌ same (ascending_same xs ys up.1 vp.1 to_tail from_tail)

rises_asym : (a b : Row) → value_cmp (rowid a) (rowid b) ≡ Less → value_cmp (rowid b) (rowid a) ≡ Less → ⊥
rises_asym a b h k = let turned = value_cmp_total.antisymm (rowid a) (rowid b) in absurd (let e = sym h ∙ turned ∙ ap ordering_reverse k in cc)

tables_put : (news rows : List Row) → IsTable rows → IsTable (put_all rows news)
tables_put [] rows up = up
tables_put (n ∷ news) rows up = tables_put news (put_row n rows) (IsTable-put_row n rows up)

-- ---- the rows that an edit leaves, and those that it puts back

module _ {T : Type 0} (form : Form T) (rows : List Row) (held : AreRows form rows) (m : T → Bool) where
  abbrev es : List (Entry T)
  es = entries form rows

  abbrev hit : Entry T → Bool
  hit e = m e.1

  abbrev id_of : Entry T → ℤ
  id_of e = e.0

  without_is : (xs : List (Entry T)) (ids : List ℤ) → fold (without_key id_of) xs ids ≡ filter (λ e. not (list_any (λ id. int_eq e.0 id) ids)) xs
  without_is xs [] = sym (filter_all _ xs (all_of _ (λ _. refl) xs))
  without_is xs (id ∷ ids) = without_is (without_key id_of xs id) ids ∙ filter_both (λ e. int_eq e.0 id) (λ e. list_any (λ d. int_eq e.0 d) ids) xs

  left_entries : (ids : List ℤ) → IsPermutation (map id_of (filter hit es)) ids → fold (without_key id_of) es ids ≡ delete_where hit es
  left_entries ids perm =
      without_is es ids ∙ (λ i. filter (λ e. not (any_permuted (λ id. int_eq e.0 id) _ ids perm i)) es) ∙ sym (without_is es _) ∙ removes_delete id_of hit es (keyed form rows held)

  -- the rows that are left
  pub left_is : (ids : List ℤ) → IsPermutation (map id_of (filter hit es)) ids → without_all rows ids ≡ map (put form) (delete_where hit es)
  left_is ids perm = ap (λ l. without_all l ids) (stored form rows held) ∙ deletes-map id_of (put form) (λ _. refl) ids es ∙ ap (map (put form)) (left_entries ids perm)

  -- ---- the typed rows

  module _ (f : T → T) where
    abbrev changed : Entry T → Entry T
    changed e = (e.0, f e.1)

    abbrev wanted : List Row
    wanted = map (put form) (update_where hit changed es)

    wanted_rises : IsTable wanted
    wanted_rises = ascending-map _ (put form) _ (ascending_weaker _ _ (λ a b h. value_cmp-Int a.0 b.0 ∙ Less-from_lt a.0 b.0 h) _ (IsKeyedBy-update_where id_of hit changed (λ _. refl) es (keyed form rows held)))

    -- the rows that an UPDATE leaves, in whatever order it found them
    pub edited_is : (ids : List ℤ) (news : List Row) → IsPermutation (map id_of (filter hit es)) ids → IsPermutation (map (λ e. put form (changed e)) (filter hit es)) news
        → are_fresh (without_all rows ids) news ≡ true → put_all (without_all rows ids) news ≡ wanted
    edited_is ids news perm renewed fresh =
        let left = left_is ids perm in
        let rises : IsTable (without_all rows ids) = subst IsTable (sym left) (ascending-map _ (put form) _ (ascending_weaker _ _ (λ a b h. value_cmp-Int a.0 b.0 ∙ Less-from_lt a.0 b.0 h) _ (IsKeyedBy-delete_where id_of hit es (keyed form rows held)))) in
        ascending_same _ rises_asym _ _ (tables_put news _ rises) wanted_rises
        (λ r h. elim (put_all_has news _ r h) [
          | inl new ↦
              let at = has_mapped _ _ r (has_permuted _ _ r (IsPermutation-sym _ _ renewed) new) in
              let e = has_filtered hit es at.0 at.1 in
              subst (Has wanted) (ap (put form) (ap (λ b. cond b (changed at.0) at.0) e.1) ∙ sym at.2) (mapped_has (put form) _ _ (mapped_has (λ e'. cond (hit e') (changed e') e') es at.0 e.0))
          | inr kept ↦
              let at = has_mapped (put form) _ r (subst (λ l. Has l r) left kept) in
              let e = has_filtered (λ e'. not (hit e')) es at.0 at.1 in
              subst (Has wanted) (ap (put form) (ap (λ b. cond b (changed at.0) at.0) (not-true _ e.1)) ∙ sym at.2) (mapped_has (put form) _ _ (mapped_has (λ e'. cond (hit e') (changed e') e') es at.0 e.0))
        ])
        (λ r h.
        let one = has_mapped (put form) _ r h in
        let two = has_mapped (λ e'. cond (hit e') (changed e') e') es one.0 one.1 in
        elim (cases_Bool (hit two.0)) [
          | inl hits ↦
              let is : r ≡ put form (changed two.0) = one.2 ∙ ap (put form) (two.2 ∙ ap (λ b. cond b (changed two.0) two.0) hits) in
              put_all_adds news _ r fresh (has_permuted _ _ r renewed (subst (Has _) (sym is) (mapped_has (λ e. put form (changed e)) (filter hit es) two.0 (has_kept hit es two.0 two.1 hits))))
          | inr misses ↦
              let is : r ≡ put form two.0 = one.2 ∙ ap (put form) (two.2 ∙ ap (λ b. cond b (changed two.0) two.0) misses) in
              put_all_keeps news _ r fresh (subst (λ l. Has l r) (sym left) (subst (Has _) (sym is) (mapped_has (put form) _ two.0 (has_kept (λ e'. not (hit e')) es two.0 two.1 (ap not misses)))))
        ])
