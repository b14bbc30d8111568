-- The lists of a map of groups, one after another, are the rows by key and then by the groups' order.
use Rattle.std.proofs.Common.{◌≡◌, Bool, true, false, true≢false, cond, T, List, [], ◌∷◌, ◌++◌, map, flat_map, Some, None, unwrap_or, refl, sym, ap, ap₂, ◌∙◌, subst, append-nil, Ordering, Less, Equal, Greater, is_gt, is_lt}
use Rattle.std.specs.List.{AllByRecursion}
use Rattle.std.specs.Ordering.{ordering_then, ordering_reverse}
use Rattle.std.specs.Cmp.{IsTotalOrder, on_total, then_total}
use Rattle.std.proofs.lemmas.Cmp.{tied_itself}
use Rattle.std.proofs.lemmas.List.Elements.{filter-append}
use Rattle.std.specs.FinMap.{entries, entries_sorted, get-entries, find, is_sorted}
use Rattle.std.specs.FinMap.Entries.{below_all}
use Rattle.sqlite_trees.specs.Tree.{IsAscending}
use Rattle.sqlite_keyed.specs.Lists.{sort_by, insert_sorted}
use Rattle.sqlite_keyed.proofs.ListLemmas.{all-filter, filter-map, ascending-map, ascending_weaker, all-append, ascending-append, filter_all, filter_none}
use Rattle.bh_model.specs.FinMaps.{non_empty}
use Rattle.bh_view.specs.Grouped.{IsKey, first, matching, grouped}
use Rattle.bh_view.proofs.FilterLemmas.{first_passes, none_some, same_Some}
use Rattle.bh_view.proofs.SortLemmas.{AtMost, up-sort_by, sort_by-filter}
use Rattle.bh_view.proofs.GroupedLemmas.{get-grouped, key_agrees, is_itself, unwrapped}
use Rattle.bh_model.proofs.MapLemmas.{left, right, find_below}

first_holds : {A : Type 0} (P : A → Type 0) (l : List A) (z : A) → AllByRecursion P l → first l ≡ Some z → P z
first_holds P [] z all h = absurd (none_some h)
first_holds P (x ∷ xs) z all h = subst P (same_Some h) all.0

head_same : {A : Type 0} {x y : A} {l m : List A} → x ∷ l ≡ y ∷ m → (x ≡ y) × (l ≡ m)
head_same {A} {x} {y} {l} {m} e = (same_Some (ap first e), ap rest e)
  where
    rest : List A → List A
    rest [] = []
    rest (z ∷ zs) = zs

both_at_most : (o : Ordering) → is_gt o ≡ false → is_gt (ordering_reverse o) ≡ false → o ≡ Equal
both_at_most Less h g = absurd (true≢false g)
both_at_most Equal h g = refl
both_at_most Greater h g = absurd (true≢false h)

module _ {K A : Type 0} {R : K → K → Ordering} {is : K → K → Bool} (k : IsKey R is) (key : A → K) where
  abbrev by_key : A → A → Ordering
  by_key a b = R (key a) (key b)

  least : (q : K) (y : A) (ys : List A) → AllByRecursion (AtMost by_key y) ys → (z : A) → first (matching is key q (y ∷ ys)) ≡ Some z → is_gt (R (key y) q) ≡ false
  least q y ys up z h = subst (λ w. is_gt (R (key y) w) ≡ false) ((k.decides (key z) q).0 (first_passes (λ r. is (key r) q) (y ∷ ys) z h))
      (first_holds (AtMost by_key y) (matching is key q (y ∷ ys)) z (all-filter (AtMost by_key y) (λ r. is (key r) q) (y ∷ ys) (ap is_gt (tied_itself k.total (key y)), up)) h)

  here : (x : A) (xs : List A) → matching is key (key x) (x ∷ xs) ≡ x ∷ matching is key (key x) xs
  here x xs = ap (λ b. cond b (x ∷ matching is key (key x) xs) (matching is key (key x) xs)) (is_itself k (key x))

  -- two lists in the order of the keys, with the same at each key
  same_by_key : (xs ys : List A) → IsAscending (AtMost by_key) xs → IsAscending (AtMost by_key) ys → ((q : K) → matching is key q xs ≡ matching is key q ys) → xs ≡ ys
  same_by_key [] [] up vp same = refl
  same_by_key [] (y ∷ ys) up vp same = absurd (none_some (ap first (same (key y) ∙ here y ys)))
  same_by_key (x ∷ xs) [] up vp same = absurd (none_some (ap first (sym (same (key x)) ∙ here x xs)))
  same_by_key (x ∷ xs) (y ∷ ys) up vp same =
      let down : is_gt (R (key y) (key x)) ≡ false = least (key x) y ys vp.0 x (ap first (sym (same (key x)) ∙ here x xs)) in
      let over : is_gt (R (key x) (key y)) ≡ false = least (key y) x xs up.0 y (ap first (same (key y) ∙ here y ys)) in
      let keys : key x ≡ key y = k.same _ _ (both_at_most (R (key x) (key y)) over (ap is_gt (sym (k.total.antisymm (key y) (key x))) ∙ down)) in
      let heads = head_same (sym (here x xs) ∙ same (key x) ∙ ap (λ z. matching is key z (y ∷ ys)) keys ∙ here y ys) in
      let tails = same_by_key xs ys up.1 vp.1 (λ q. elim (is (key x) q) as (λ b. is (key x) q ≡ b → matching is key q xs ≡ matching is key q ys) [
        | true ↦ λ e. subst (λ z. matching is key z xs ≡ matching is key z ys) ((k.decides (key x) q).0 e) (heads.1 ∙ ap (λ z. matching is key z ys) (sym keys))
        | false ↦ λ e. ap (λ b. cond b (x ∷ matching is key q xs) (matching is key q xs)) (sym e) ∙ same q ∙ ap (λ b. cond b (y ∷ matching is key q ys) (matching is key q ys)) (ap (λ z. is z q) (sym keys) ∙ e)
      ] refl) in
      λ i. heads.0 i ∷ tails i

not_above : (o : Ordering) → T (is_lt o) → is_gt o ≡ false
not_above Less h = refl
not_above Equal h = absurd h
not_above Greater h = absurd h

module _ {K X : Type 0} {R : K → K → Ordering} {is : K → K → Bool} (k : IsKey R is) where
  abbrev pub flat : List (K × List X) → List (K × X)
  flat = flat_map (λ e. map (λ x. (e.0, x)) e.1)

  abbrev by_first : K × X → K × X → Ordering
  by_first a b = R a.0 b.0

  all_own : (P : K × X → Type 0) (q : K) (l : List X) → ((x : X) → P (q, x)) → AllByRecursion P (map (λ x. (q, x)) l)
  all_own P q [] h = tt
  all_own P q (x ∷ xs) h = (h x, all_own P q xs h)

  up_own : (q : K) (l : List X) → IsAscending (AtMost by_first) (map (λ x. (q, x)) l)
  up_own q [] = tt
  up_own q (x ∷ xs) = (all_own (AtMost by_first (q, x)) q xs (λ y. ap is_gt (tied_itself k.total q)), up_own q xs)

  all_later : (q : K) (es : List (K × List X)) → T (below_all R q es) → AllByRecursion (λ (p : K × X). is_gt (R q p.0) ≡ false) (flat es)
  all_later q [] h = tt
  all_later q (e ∷ es) h = all-append (λ (p : K × X). is_gt (R q p.0) ≡ false) _ _ (all_own _ e.0 e.1 (λ x. not_above _ (left _ _ h))) (all_later q es (right _ _ h))

  up-flat : (es : List (K × List X)) → T (is_sorted R es) → IsAscending (AtMost by_first) (flat es)
  up-flat [] h = tt
  up-flat (e ∷ es) h = ascending-append (AtMost by_first) _ _ (up_own e.0 e.1) (up-flat es (right _ _ h)) (all_own _ e.0 e.1 (λ x. all_later e.0 es (left _ _ h)))

  at_flat : (q : K) (es : List (K × List X)) → T (is_sorted R es) → matching is (λ (p : K × X). p.0) q (flat es) ≡ map (λ x. (q, x)) (unwrap_or (find R q es) [])
  at_flat q [] h = refl
  at_flat q (e ∷ es) h =
      filter-append (λ (p : K × X). is p.0 q) (map (λ x. (e.0, x)) e.1) (flat es)
      ∙ elim (is e.0 q) as (λ b. is e.0 q ≡ b → matching is (λ (p : K × X). p.0) q (map (λ x. (e.0, x)) e.1) ++ matching is (λ (p : K × X). p.0) q (flat es) ≡ map (λ x. (q, x)) (unwrap_or (cond b (Some e.1) (find R q es)) [])) [
        | true ↦ λ t. ap₂ ◌++◌ (filter_all _ _ (all_own _ e.0 e.1 (λ x. t))) (at_flat q es (right _ _ h) ∙ ap (λ o. map {B = K × X} (λ (x : X). (q, x)) (unwrap_or o [])) (subst (λ z. find R z es ≡ None) ((k.decides e.0 q).0 t) (find_below R e.0 es (left _ _ h))))
            ∙ append-nil _ ∙ ap (λ (z : K). map (λ (x : X). (z, x)) e.1) ((k.decides e.0 q).0 t)
        | false ↦ λ t. ap₂ ◌++◌ (filter_none _ _ (all_own _ e.0 e.1 (λ x. t))) (at_flat q es (right _ _ h))
      ] refl
      ∙ ap (λ b. map (λ x. (q, x)) (unwrap_or (cond b (Some e.1) (find R q es)) [])) (sym (key_agrees k q e.0))

  module _ {A : Type 0} (key : A → K) (c : A → A → Ordering) (orders : IsTotalOrder c) (f : A → X) where
    abbrev pub by_both : A → A → Ordering
    by_both a b = ordering_then (R (key a) (key b)) (c a b)

    all-inserted : (P : A → Type 0) (x : A) (l : List A) → P x → AllByRecursion P l → AllByRecursion P (insert_sorted c x l)
    all-inserted P x [] h all = (h, tt)
    all-inserted P x (y ∷ l) h all = elim (is_gt (c x y)) as (λ b. AllByRecursion P (cond b (y ∷ insert_sorted c x l) (x ∷ y ∷ l))) [ true ↦ (all.0, all-inserted P x l h all.1) | false ↦ (h, all) ]

    all-sorted : (P : A → Type 0) (l : List A) → AllByRecursion P l → AllByRecursion P (sort_by c l)
    all-sorted P [] all = tt
    all-sorted P (x ∷ l) all = all-inserted P x (sort_by c l) all.0 (all-sorted P l all.1)

    -- among rows of one key the second order alone decides
    inserted_tied : (q : K) (x : A) (l : List A) → key x ≡ q → AllByRecursion (λ r. key r ≡ q) l → insert_sorted by_both x l ≡ insert_sorted c x l
    inserted_tied q x [] h all = refl
    inserted_tied q x (y ∷ l) h all =
        let tied : R (key x) (key y) ≡ Equal = ap (R (key x)) (all.0 ∙ sym h) ∙ tied_itself k.total (key x) in
        λ i. cond (is_gt (ordering_then (tied i) (c x y))) (y ∷ inserted_tied q x l h all.1 i) (x ∷ y ∷ l)

    sorted_tied : (q : K) (l : List A) → AllByRecursion (λ r. key r ≡ q) l → sort_by by_both l ≡ sort_by c l
    sorted_tied q [] all = refl
    sorted_tied q (x ∷ l) all = ap (insert_sorted by_both x) (sorted_tied q l all.1) ∙ inserted_tied q x (sort_by c l) all.0 (all-sorted _ l all.1)

    of_key : (q : K) (rows : List A) → AllByRecursion (λ r. key r ≡ q) (matching is key q rows)
    of_key q [] = tt
    of_key q (r ∷ rs) = elim (is (key r) q) as (λ b. is (key r) q ≡ b → AllByRecursion (λ r. key r ≡ q) (cond b (r ∷ matching is key q rs) (matching is key q rs))) [
      | true ↦ λ e. ((k.decides (key r) q).0 e, of_key q rs)
      | false ↦ λ e. of_key q rs
    ] refl

    pairs_agree : (q : K) (l : List A) → AllByRecursion (λ r. key r ≡ q) l → map {B = K × X} (λ x. (q, x)) (map f l) ≡ map {B = K × X} (λ r. (key r, f r)) l
    pairs_agree q [] all = refl
    pairs_agree q (x ∷ l) all = λ i. (sym all.0 i, f x) ∷ pairs_agree q l all.1 i

    at_most_first : (a b : Ordering) → is_gt (ordering_then a b) ≡ false → is_gt a ≡ false
    at_most_first Less b h = refl
    at_most_first Equal b h = refl
    at_most_first Greater b h = h

    pub flat_entries : (rows : List A) → flat (entries (grouped R is key (λ _ l. non_empty (map f (sort_by c l))) rows)) ≡ map {B = K × X} (λ r. (key r, f r)) (sort_by by_both rows)
    flat_entries rows =
        let m = grouped R is key (λ _ l. non_empty (map f (sort_by c l))) rows in
        let order : IsTotalOrder by_both = then_total (on_total key k.total) orders in
        same_by_key k (λ (p : K × X). p.0) _ _ (up-flat (entries m) (entries_sorted m))
        (ascending-map (AtMost by_first) (λ r. (key r, f r)) (sort_by by_both rows) (ascending_weaker _ _ (λ a b. at_most_first (R (key a) (key b)) (c a b)) _ (up-sort_by by_both order rows)))
        (λ q.
        at_flat q (entries m) (entries_sorted m) ∙ ap (λ o. map {B = K × X} (λ (x : X). (q, x)) (unwrap_or o [])) (sym (get-entries m q) ∙ get-grouped k key (λ _ l. non_empty (map f (sort_by c l))) (λ _. refl) rows q)
        ∙ ap (map {B = K × X} (λ (x : X). (q, x))) (unwrapped (map f (sort_by c (matching is key q rows))))
        ∙ pairs_agree q (sort_by c (matching is key q rows)) (all-sorted _ _ (of_key q rows))
        ∙ ap (map {B = K × X} (λ (r : A). (key r, f r))) (sym (sorted_tied q (matching is key q rows) (of_key q rows)) ∙ sort_by-filter by_both order (λ r. is (key r) q) rows)
        ∙ sym (filter-map (λ (p : K × X). is p.0 q) (λ r. (key r, f r)) (sort_by by_both rows)))
