-- Facts on the rows of a table that stay when it changes: each row's own, one row for a key, references.
use Rattle.std.proofs.Common.{◌≡◌, ◌≤◌, Bool, true, false, true≢false, cond, not, List, [], ◌∷◌, ◌++◌, length, suc, map, filter, Some, None, refl, sym, ap, ◌∙◌, subst, arith, Ordering, le_trans}
use Rattle.std.specs.List.{AllByRecursion}
use Rattle.sqlite_keyed.specs.Lists.{delete_where, update_where}
use Rattle.sqlite_keyed.proofs.ListLemmas.{all-append, all_weaker}
use Rattle.bh_view.specs.Grouped.{IsKey, first, matching, HasUnique, Refers}
use Rattle.bh_view.proofs.FilterLemmas.{push_here, push_other, filter_swap, delete_other, update_here, none_some, same_Some, length-filter-le}
use Rattle.bh_view.proofs.GroupedLemmas.{is_itself, is_other}

-- ---- a fact of each row

module _ {T : Type 0} (P : T → Type 0) where
  pub all_pushed : (rows : List T) (r : T) → AllByRecursion P rows → P r → AllByRecursion P (rows ++ r ∷ [])
  all_pushed rows r all it = all-append P rows (r ∷ []) all (it, tt)

  pub all_updated : (t : T → Bool) (f : T → T) → ((r : T) → P r → P (f r)) → (rows : List T) → AllByRecursion P rows → AllByRecursion P (update_where t f rows)
  all_updated t f keeps [] all = tt
  all_updated t f keeps (r ∷ rs) all = (elim (t r) as (λ b. P (cond b (f r) r)) [ true ↦ keeps r all.0 | false ↦ all.0 ], all_updated t f keeps rs all.1)

  pub all_first : (rows : List T) (r : T) → first rows ≡ Some r → AllByRecursion P rows → P r
  all_first [] r h all = absurd (none_some h)
  all_first (x ∷ xs) r h all = subst P (same_Some h) all.0

pub none_first : {T : Type 0} (xs : List T) → first xs ≡ None → xs ≡ []
none_first [] h = refl
none_first (x ∷ xs) h = absurd (none_some (sym h))

-- ---- unique keys and references

length-map_ : {A B : Type 0} (f : A → B) (xs : List A) → length (map f xs) ≡ length xs
length-map_ f [] = refl
length-map_ f (x ∷ xs) = ap (λ n. suc n) (length-map_ f xs)

no_push : {T : Type 0} (xs : List T) (x : T) → first (xs ++ x ∷ []) ≡ None → ⊥
no_push [] x h = none_some (sym h)
no_push (y ∷ ys) x h = none_some (sym h)

module _ {K T : Type 0} {R : K → K → Ordering} {is : K → K → Bool} (k : IsKey R is) (key : T → K) where
  -- a table that has no key has no rows
  pub no_keys : (rows : List T) → ((q : K) → matching is key q rows ≡ []) → rows ≡ []
  no_keys [] none = refl
  no_keys (r ∷ rs) none = absurd (none_some (sym (ap (λ b. first (cond b (r ∷ matching is key (key r) rs) (matching is key (key r) rs))) (sym (is_itself k (key r))) ∙ ap first (none (key r)))))

  pub unique_pushed : (rows : List T) (r : T) → HasUnique is key rows → matching is key (key r) rows ≡ [] → HasUnique is key (rows ++ r ∷ [])
  unique_pushed rows r one fresh q = elim (is (key r) q) as (λ b. is (key r) q ≡ b → length (matching is key q (rows ++ r ∷ [])) ≤ 1) [
    | true ↦ λ e.
        let none : matching is key q rows ≡ [] = subst (λ z. matching is key z rows ≡ []) ((k.decides (key r) q).0 e) fresh in
        subst (λ l. length l ≤ 1) (sym (push_here (λ x. is (key x) q) rows r e ∙ ap (λ l. l ++ r ∷ []) none)) (omega arith)
    | false ↦ λ e. subst (λ l. length l ≤ 1) (sym (push_other (λ x. is (key x) q) rows r e)) (one q)
  ] refl

  pub unique_filtered : (rows : List T) (t : T → Bool) → HasUnique is key rows → HasUnique is key (filter t rows)
  unique_filtered rows t one q = subst (λ l. length l ≤ 1) (sym (filter_swap (λ x. is (key x) q) t rows)) (le_trans (length-filter-le _ (matching is key q rows)) (one q))

  pub unique_deleted : (rows : List T) (t : T → Bool) → HasUnique is key rows → HasUnique is key (delete_where t rows)
  unique_deleted rows t = unique_filtered rows (λ x. not (t x))

  pub unique_updated : (rows : List T) (t : T → Bool) (f : T → T) → ((x : T) → key (f x) ≡ key x) → HasUnique is key rows → HasUnique is key (update_where t f rows)
  unique_updated rows t f keeps one q = subst (λ n. n ≤ 1) (sym (ap length (update_here (λ x. is (key x) q) t f (λ x _. ap (λ z. is z q) (keeps x)) rows) ∙ length-map_ _ (matching is key q rows))) (one q)

  module _ {U : Type 0} (child : U → K) where
    -- a child row whose parent is there
    pub refers_pushed : (rows : List T) (children : List U) (c : U) → Refers is key rows child children → (first (matching is key (child c) rows) ≡ None → ⊥) → Refers is key rows child (children ++ c ∷ [])
    refers_pushed rows children c refers has q none = elim (is (child c) q) as (λ b. is (child c) q ≡ b → matching is child q (children ++ c ∷ []) ≡ []) [
      | true ↦ λ e. absurd (has (subst (λ z. first (matching is key z rows) ≡ None) (sym ((k.decides (child c) q).0 e)) none))
      | false ↦ λ e. push_other (λ x. is (child x) q) children c e ∙ refers q none
    ] refl

    pub refers_deleted : (rows : List T) (children : List U) (t : U → Bool) → Refers is key rows child children → Refers is key rows child (delete_where t children)
    refers_deleted rows children t refers q none = filter_swap (λ x. is (child x) q) (λ x. not (t x)) children ∙ ap (delete_where t) (refers q none)

    -- one more parent
    pub refers_grown : (rows : List T) (children : List U) (r : T) → Refers is key rows child children → Refers is key (rows ++ r ∷ []) child children
    refers_grown rows children r refers q none = elim (is (key r) q) as (λ b. is (key r) q ≡ b → matching is child q children ≡ []) [
      | true ↦ λ e. absurd (no_push (matching is key q rows) r (ap first (sym (push_here (λ x. is (key x) q) rows r e)) ∙ none))
      | false ↦ λ e. refers q (ap first (sym (push_other (λ x. is (key x) q) rows r e)) ∙ none)
    ] refl

    -- a parent without children taken out
    pub refers_left : (rows : List T) (children : List U) (at : K) → Refers is key rows child children → matching is child at children ≡ [] → Refers is key (delete_where (λ r. is (key r) at) rows) child children
    refers_left rows children at refers childless q none = elim (is at q) as (λ b. is at q ≡ b → matching is child q children ≡ []) [
      | true ↦ λ e. subst (λ z. matching is child z children ≡ []) ((k.decides at q).0 e) childless
      | false ↦ λ e. refers q (ap first (sym (delete_other (λ x. is (key x) q) (λ r. is (key r) at) rows (λ x here. is_other k (key x) at (λ there. true≢false (sym ((k.decides at q).1 (sym there ∙ (k.decides (key x) q).0 here)) ∙ e))))) ∙ none)
    ] refl

    -- parents that keep their keys
    pub refers_updated : (rows : List T) (children : List U) (t : T → Bool) (f : T → T) → ((x : T) → key (f x) ≡ key x) → Refers is key rows child children → Refers is key (update_where t f rows) child children
    refers_updated rows children t f keeps refers q none = refers q (none_there (matching is key q rows) (ap first (sym (update_here (λ x. is (key x) q) t f (λ x _. ap (λ z. is z q) (keeps x)) rows)) ∙ none))
      where
        none_there : (l : List T) → first (update_where t f l) ≡ None → first l ≡ None
        none_there [] h = refl
        none_there (x ∷ xs) h = absurd (none_some (sym h))

module _ {K T : Type 0} {R : K → K → Ordering} {is : K → K → Bool} (k : IsKey R is) (key : T → K) where
  -- no two rows of one key: each is the first with its key
  pub each_first : (rows : List T) → HasUnique is key rows → AllByRecursion (λ r. first (matching is key (key r) rows) ≡ Some r) rows
  each_first [] one = tt
  each_first (r ∷ rs) one = (
    ap (λ b. first (cond b (r ∷ matching is key (key r) rs) (matching is key (key r) rs))) (is_itself k (key r)),
    all_weaker _ _ later rs (each_first rs (λ q. fewer q (one q))),
  )
    where
      fewer : (q : K) → length (matching is key q (r ∷ rs)) ≤ 1 → length (matching is key q rs) ≤ 1
      fewer q = elim (is (key r) q) as (λ b. length (cond b (r ∷ matching is key q rs) (matching is key q rs)) ≤ 1 → length (matching is key q rs) ≤ 1) [ true ↦ λ h. omega (arith, h) | false ↦ λ h. h ]

      two : (x : T) (l : List T) → length (r ∷ l) ≤ 1 → first l ≡ Some x → first (r ∷ l) ≡ Some x
      two x [] h there = absurd (none_some there)
      two x (y ∷ l) h there = absurd (omega (arith, h))

      later : (x : T) → first (matching is key (key x) rs) ≡ Some x → first (matching is key (key x) (r ∷ rs)) ≡ Some x
      later x there = elim (is (key r) (key x)) as (λ b. length (cond b (r ∷ matching is key (key x) rs) (matching is key (key x) rs)) ≤ 1 → first (cond b (r ∷ matching is key (key x) rs) (matching is key (key x) rs)) ≡ Some x) [
        | true ↦ λ h. two x (matching is key (key x) rs) h there
        | false ↦ λ h. there
      ] (one (key x))
