-- The entries of a map of rows are the rows in the order of their keys, as a SELECT with ORDER BY gives them.
use Rattle.std.proofs.Common.{◌≡◌, ◌≤◌, Bool, true, false, true≢false, cond, ◌&&◌, T, List, [], ◌∷◌, length, map, Some, option_map, refl, sym, ap, ◌∙◌, subst, arith, Ordering, Less, Equal, Greater, is_gt, is_lt}
use Rattle.std.specs.List.{AllByRecursion}
use Rattle.std.specs.Cmp.{on_total}
use Rattle.std.specs.FinMap.{entries, entries_sorted, get-entries, find, is_sorted}
use Rattle.std.specs.FinMap.Entries.{below_all, same_entries}
use Rattle.sqlite_trees.specs.Tree.{IsAscending}
use Rattle.sqlite_keyed.specs.Lists.{sort_by}
use Rattle.bh_model.proofs.MapLemmas.{both}
use Rattle.bh_view.specs.Grouped.{IsKey, first, matching, keyed, HasUnique}
use Rattle.bh_view.proofs.SortLemmas.{AtMost, sorted_single, up-sort_by, sort_by-filter}
use Rattle.bh_view.proofs.GroupedLemmas.{get-keyed, key_agrees, is_itself}

module _ {K X A : Type 0} {R : K → K → Ordering} {is : K → K → Bool} (k : IsKey R is) (key : A → K) (value : K → A → X) where
  abbrev pub by_key : A → A → Ordering
  by_key a b = R (key a) (key b)

  abbrev pub shown_pair : A → K × X
  shown_pair r = (key r, value (key r) r)

  found_sorted : (q : K) (l : List A) → find R q (map shown_pair l) ≡ option_map (value q) (first (matching is key q l))
  found_sorted q [] = refl
  found_sorted q (r ∷ rs) =
      ap (λ b. cond b (Some (value (key r) r)) (find R q (map shown_pair rs))) (key_agrees k q (key r))
      ∙ elim (is (key r) q) as (λ b. is (key r) q ≡ b → cond b (Some (value (key r) r)) (find R q (map shown_pair rs)) ≡ option_map (value q) (first (cond b (r ∷ matching is key q rs) (matching is key q rs)))) [
        | true ↦ λ e. ap (λ z. Some (value z r)) ((k.decides (key r) q).0 e)
        | false ↦ λ e. found_sorted q rs
      ] refl

  less : (x y : K) (o : Ordering) → R x y ≡ o → is_gt o ≡ false → is y x ≡ false → T (is_lt o)
  less x y Less e h apart = tt
  less x y Equal e h apart = absurd (true≢false (sym (ap (λ z. is z x) (sym (k.same x y e)) ∙ is_itself k x) ∙ apart))
  less x y Greater e h apart = absurd (true≢false h)

  below : (y : A) (zs : List A) → AllByRecursion (AtMost by_key y) zs → matching is key (key y) zs ≡ [] → T (below_all R (key y) (map shown_pair zs))
  below y [] all none = tt
  below y (z ∷ zs) all none =
      elim (is (key z) (key y)) as (λ b. is (key z) (key y) ≡ b → cond b (z ∷ matching is key (key y) zs) (matching is key (key y) zs) ≡ [] → T (is_lt (R (key y) (key z)) && below_all R (key y) (map shown_pair zs))) [
        | true ↦ λ e h. absurd (no_cons h)
        | false ↦ λ e h. both _ _ (less (key y) (key z) (R (key y) (key z)) refl all.0 e) (below y zs all.1 h)
      ] refl none
    where
      no_cons : {x : A} {l : List A} → x ∷ l ≡ [] → ⊥
      no_cons {x} {l} e = true≢false (ap (λ (m : List A). elim m as (λ _. Bool) [ [] ↦ false | ◌∷◌ a as' ↦ true ]) e)

  tail : (y : A) (ys : List A) (q : K) → length (matching is key q (y ∷ ys)) ≤ 1 → length (matching is key q ys) ≤ 1
  tail y ys q = elim (is (key y) q) as (λ b. length (cond b (y ∷ matching is key q ys) (matching is key q ys)) ≤ 1 → length (matching is key q ys) ≤ 1) [ true ↦ λ h. omega arith | false ↦ λ h. h ]

  no_more : (y : A) (l : List A) → length (y ∷ l) ≤ 1 → l ≡ []
  no_more y [] h = refl
  no_more y (z ∷ l) h = absurd (omega arith)

  strict : (ys : List A) → IsAscending (AtMost by_key) ys → HasUnique is key ys → T (is_sorted R (map shown_pair ys))
  strict [] up one = tt
  strict (y ∷ ys) up one =
      let none : matching is key (key y) ys ≡ [] = no_more y _ (subst (λ b. length (cond b (y ∷ matching is key (key y) ys) (matching is key (key y) ys)) ≤ 1) (is_itself k (key y)) (one (key y))) in
      both _ _ (below y ys up.0 none) (strict ys up.1 (λ q. tail y ys q (one q)))

  pub entries-keyed : (rows : List A) → HasUnique is key rows → entries (keyed R is key value rows) ≡ map shown_pair (sort_by by_key rows)
  entries-keyed rows one =
      let sorted = sort_by by_key rows in
      let order = on_total key k.total in
      let at = λ (q : K). sym (sort_by-filter by_key order (λ r. is (key r) q) rows) ∙ sorted_single by_key (matching is key q rows) (one q) in
      same_entries R k.total k.same _ (map shown_pair sorted) (entries_sorted _) (strict sorted (up-sort_by by_key order rows) (λ q. subst (λ l. length l ≤ 1) (sym (at q)) (one q)))
      (λ q. sym (get-entries _ q) ∙ get-keyed k key value rows q ∙ ap (λ l. option_map (value q) (first l)) (sym (at q)) ∙ sym (found_sorted q sorted))
