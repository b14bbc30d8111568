-- A sum over the values of a map, against a sum over rows.
use Rattle.std.proofs.Common.{◌≡◌, ℕ, ◌+◌, ◌≤◌, length, zero-add, option_map, Bool, true, false, true≢false, cond, not, T, List, [], ◌∷◌, filter, sum_by, Some, refl, sym, ap, ap₂, subst, ◌∙◌, arith, Ordering}
use Rattle.std.specs.Option.{option_map_or}
use Rattle.std.specs.List.{AllByRecursion}
use Rattle.std.proofs.lemmas.List.Sums.{sum_by-cons}
use Rattle.std.proofs.lemmas.List.Filters.{sum_by-filter_both}
use Rattle.std.specs.FinMap.{FinMap, entries, entries_sorted, get, get-entries, find, is_sorted}
use Rattle.sqlite_keyed.specs.Lists.{delete_where}
use Rattle.bh_model.specs.FinMaps.{total}
use Rattle.bh_model.proofs.MapLemmas.{left, right, find_below}
use Rattle.bh_view.specs.Grouped.{IsKey, first, matching, keyed, HasUnique}
use Rattle.bh_view.proofs.FilterLemmas.{first_passes, delete_all, delete_other}
use Rattle.bh_view.proofs.GroupedLemmas.{get-keyed, key_agrees, key_itself, is_other}

pub sum_filter-cons : {A : Type 0} (p : A → Bool) (w : A → ℕ) (x : A) (xs : List A) → sum_by w (filter p (x ∷ xs)) ≡ cond (p x) (w x) 0 + sum_by w (filter p xs)
sum_filter-cons p w x xs = elim (p x) as (λ b. sum_by w (cond b (x ∷ filter p xs) (filter p xs)) ≡ cond b (w x) 0 + sum_by w (filter p xs)) [ true ↦ sum_by-cons w x (filter p xs) | false ↦ omega arith ]

pub sum_by_add : {A : Type 0} (f g : A → ℕ) (xs : List A) → sum_by (λ x. f x + g x) xs ≡ sum_by f xs + sum_by g xs
sum_by_add f g [] = refl
sum_by_add f g (x ∷ xs) = omega (arith, sum_by-cons (λ x. f x + g x) x xs, sum_by-cons f x xs, sum_by-cons g x xs, sum_by_add f g xs)

pub total_add : {K X : Type 0} {R : K → K → Ordering} (f g : X → ℕ) (m : FinMap R X) → total (λ x. f x + g x) m ≡ total f m + total g m
unfolding total
total_add f g m = sum_by_add (λ e. f e.1) (λ e. g e.1) (entries m)

module _ {K : Type 0} {R : K → K → Ordering} {is : K → K → Bool} (k : IsKey R is) where
  module _ {X A : Type 0} (f : X → ℕ) (key : A → K) (w : A → ℕ) where
    nothing : (rows : List A) → ((q : K) → 0 ≡ sum_by w (matching is key q rows)) → 0 ≡ sum_by w rows
    nothing [] h = refl
    nothing (r ∷ rs) h =
        let here : 0 ≡ w r + sum_by w (matching is key (key r) rs) = h (key r) ∙ sum_filter-cons (λ x. is (key x) (key r)) w r rs ∙ ap (λ b. cond b (w r) 0 + sum_by w (matching is key (key r) rs)) ((k.decides (key r) (key r)).1 refl) in
        let rest : 0 ≡ sum_by w rs = nothing rs (λ q. let e : 0 ≡ cond (is (key r) q) (w r) 0 + sum_by w (matching is key q rs) = h q ∙ sum_filter-cons (λ x. is (key x) q) w r rs in omega arith) in
        omega (arith, sum_by-cons w r rs)

    sums : (es : List (K × X)) → T (is_sorted R es) → (rows : List A) → ((q : K) → option_map_or f (find R q es) 0 ≡ sum_by w (matching is key q rows)) → sum_by (λ e. f e.1) es ≡ sum_by w rows
    sums [] up rows h = nothing rows h
    sums (e ∷ es) up rows h =
        let here : f e.1 ≡ sum_by w (matching is key e.0 rows) = ap (λ b. option_map_or f (cond b (Some e.1) (find R e.0 es)) 0) (sym (key_itself k e.0)) ∙ h e.0 in
        let rest : sum_by (λ e. f e.1) es ≡ sum_by w (delete_where (λ r. is (key r) e.0) rows) = sums es (right _ _ up) _ (λ q.
        elim (is e.0 q) as (λ b. is e.0 q ≡ b → option_map_or f (find R q es) 0 ≡ sum_by w (matching is key q (delete_where (λ r. is (key r) e.0) rows))) [
          | true ↦ λ t. subst (λ z. option_map_or f (find R z es) 0 ≡ sum_by w (matching is key z (delete_where (λ r. is (key r) e.0) rows))) ((k.decides e.0 q).0 t)
              (ap (λ o. option_map_or f o 0) (find_below R e.0 es (left _ _ up)) ∙ sym (ap (sum_by w) (delete_all (λ r. is (key r) e.0) rows)))
          | false ↦ λ t. ap (λ b. option_map_or f (cond b (Some e.1) (find R q es)) 0) (sym (key_agrees k q e.0 ∙ t)) ∙ h q
              ∙ sym (ap (sum_by w) (delete_other _ _ rows (λ x here. is_other k (key x) e.0 (λ there. true≢false (sym ((k.decides e.0 q).1 (sym there ∙ (k.decides (key x) q).0 here)) ∙ t)))))
        ] refl) in
        sum_by-cons (λ e. f e.1) e es ∙ ap₂ ◌+◌ here rest ∙ sum_by-filter_both (λ r. is (key r) e.0) (λ r. not (is (key r) e.0)) (λ _. refl) w rows

    -- where each key's value has the size of its rows, the map has the size of all rows
    pub total_is : (m : FinMap R X) (rows : List A) → ((q : K) → option_map_or f (get m q) 0 ≡ sum_by w (matching is key q rows)) → total f m ≡ sum_by w rows
    unfolding total
    total_is m rows h = sums (entries m) (entries_sorted m) rows (λ q. ap (λ o. option_map_or f o 0) (sym (get-entries m q)) ∙ h q)

-- a table in which no two rows have one key: the sum over the map is that over the rows
pub keyed_total : {K X T : Type 0} {R : K → K → Ordering} {is : K → K → Bool} (k : IsKey R is) (f : X → ℕ) (key : T → K) (value : K → T → X) (w : T → ℕ) → ((r : T) → f (value (key r) r) ≡ w r)
    → (rows : List T) → HasUnique is key rows → total f (keyed R is key value rows) ≡ sum_by w rows
keyed_total {K = K} {X = X} {T = T} {is = is} k f key value w sized rows unique = total_is k f key w (keyed _ is key value rows) rows (λ q.
    ap (λ o. option_map_or f o 0) (get-keyed k key value rows q) ∙ go q (matching is key q rows) (unique q) (λ x h. (k.decides (key x) q).0 (first_passes (λ r. is (key r) q) rows x h)))
  where
    go : (q : K) (l : List T) → length l ≤ 1 → ((x : T) → first l ≡ Some x → key x ≡ q) → option_map_or f (option_map (value q) (first l)) 0 ≡ sum_by w l
    go q [] short of = refl
    go q (x ∷ []) short of = ap (λ z. f (value z x)) (sym (of x refl)) ∙ sized x ∙ sym (zero-add (w x))
    go q (x ∷ y ∷ l) short of = absurd (omega arith)

-- a sum of a column that holds each row's size
pub sum_by_agree : {A : Type 0} (f g : A → ℕ) (xs : List A) → AllByRecursion (λ x. f x ≡ g x) xs → sum_by f xs ≡ sum_by g xs
sum_by_agree f g [] all = refl
sum_by_agree f g (x ∷ xs) all = sum_by-cons f x xs ∙ ap₂ ◌+◌ all.0 (sum_by_agree f g xs all.1) ∙ sym (sum_by-cons g x xs)
