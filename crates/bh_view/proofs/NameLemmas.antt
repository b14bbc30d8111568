-- Names of blocks and of bodies as keys, and lists that the lemmas on blocks need.
use Rattle.std.proofs.Common.{◌≡◌, ℕ, zero, suc, ◌+◌, Bool, true, false, cond, List, [], ◌∷◌, ◌++◌, filter, flat_map, refl, sym, ap, ap₂, ◌∙◌, Ordering, Less, Equal, Greater, is_gt, Decides, None, nat_cmp, arith, ◌||◌, map, not}
use Rattle.std.specs.Bool.{one_answer}
use Rattle.std.specs.List.{AllByRecursion, list_any, range_with_len}
use Rattle.std.specs.Ordering.{ordering_then}
use Rattle.std.specs.Cmp.Derive.{both_true}
use Rattle.std.proofs.lemmas.Bool.{and_parts, or_parts}
use Rattle.std.proofs.lemmas.List.Folds.{list_any-append}
use Rattle.std.proofs.lemmas.Cmp.{on_total, then_total}
use Rattle.sqlite_keyed.specs.Lists.{insert_sorted, sort_by, delete_where}
use Rattle.sqlite_keyed.proofs.ListLemmas.{all_map, all_unmap, none_from_any, any_from_none}
use Rattle.bh_model.specs.State.{octets_cmp}
use Rattle.bh_view.specs.Grouped.{IsKey, first, matching, Refers}
use Rattle.bh_view.proofs.FilterLemmas.{none_some}
use Rattle.bh_view.proofs.GroupedLemmas.{is_itself}
use Rattle.bh_view.proofs.Keys.{octets, numbers}
use Rattle.bh_tables.specs.Shown.{Name, same_name}

-- ---- names

pub name_Decides : (x y : Name) → Decides (same_name x y) (x ≡ y)
name_Decides x y = (
  λ h. let p = and_parts _ _ h in λ i. ((octets.decides x.0 y.0).0 p.0 i, (numbers.decides x.1 y.1).0 p.1 i),
  λ e. both_true ((octets.decides x.0 y.0).1 (ap (λ (n : Name). n.0) e)) ((numbers.decides x.1 y.1).1 (ap (λ (n : Name). n.1) e)),
)

abbrev pub name_cmp : Name → Name → Ordering
name_cmp a b = ordering_then (octets_cmp a.0 b.0) (nat_cmp a.1 b.1)

both_equal : (a b : Ordering) → ordering_then a b ≡ Equal → (a ≡ Equal) × (b ≡ Equal)
both_equal Less b h = absurd (cc)
both_equal Equal b h = (refl, h)
both_equal Greater b h = absurd (cc)

pub names : IsKey name_cmp same_name
names = record {
  total = then_total (on_total (λ (n : Name). n.0) octets.total) (on_total (λ (n : Name). n.1) numbers.total);
  same = λ x y h. let p = both_equal _ _ h in λ i. (octets.same x.0 y.0 p.0 i, numbers.same x.1 y.1 p.1 i);
  decides = name_Decides;
}

pub name_swap : (a b : Name) → same_name a b ≡ same_name b a
name_swap a b = one_answer _ _ (names.decides a b) (λ h. sym ((names.decides b a).0 h), λ e. (names.decides b a).1 (sym e))

-- ---- the names of rows

-- none of the first, and none of the others
pub none_both : {X : Type 0} (p : X → Bool) (xs ys : List X) → list_any p (xs ++ ys) ≡ false → (list_any p xs ≡ false) × (list_any p ys ≡ false)
none_both p xs ys none = or_parts _ _ (sym (list_any-append p xs ys) ∙ none)

pub none_either : {X : Type 0} (p : X → Bool) (xs ys : List X) → list_any p xs ≡ false → list_any p ys ≡ false → list_any p (xs ++ ys) ≡ false
none_either p xs ys first others = list_any-append p xs ys ∙ ap (λ c. c || list_any p ys) first ∙ others

module _ {T : Type 0} (name : T → Name) where
  pub unnamed_each : (at : Name) (rows : List T) → list_any (same_name at) (map name rows) ≡ false → AllByRecursion (λ x. same_name at (name x) ≡ false) rows
  unnamed_each at rows none = all_unmap (λ q. same_name at q ≡ false) name rows (none_from_any (same_name at) (map name rows) none)

  pub each_unnamed : (at : Name) (rows : List T) → AllByRecursion (λ x. same_name at (name x) ≡ false) rows → list_any (same_name at) (map name rows) ≡ false
  each_unnamed at rows all = any_from_none (same_name at) (map name rows) (all_map (λ q. same_name at q ≡ false) name rows all)

  -- a name of no row that is taken out, and of none that is left, is of none
  pub none_parted : (p : Name → Bool) (test : T → Bool) (rows : List T) → list_any p (map name (filter test rows)) ≡ false → list_any p (map name (delete_where test rows)) ≡ false → list_any p (map name rows) ≡ false
  none_parted p test [] gone left = refl
  none_parted p test (x ∷ xs) gone left = elim (test x) as (λ b. list_any p (map name (cond b (x ∷ filter test xs) (filter test xs))) ≡ false → list_any p (map name (cond (not b) (x ∷ delete_where test xs) (delete_where test xs))) ≡ false → list_any p (map name (x ∷ xs)) ≡ false) [
    | true ↦ λ g l. let it = or_parts _ _ g in ap (λ c. c || list_any p (map name xs)) it.0 ∙ none_parted p test xs it.1 l
    | false ↦ λ g l. let it = or_parts _ _ l in ap (λ c. c || list_any p (map name xs)) it.0 ∙ none_parted p test xs g it.1
  ] gone left

-- ---- lists

pub flat_map_agree : {A B : Type 0} (f g : A → List B) (xs : List A) → AllByRecursion (λ x. f x ≡ g x) xs → flat_map f xs ≡ flat_map g xs
flat_map_agree f g [] all = refl
flat_map_agree f g (x ∷ xs) all = ap₂ ◌++◌ all.0 (flat_map_agree f g xs all.1)

range_push : (a n : ℕ) → range_with_len a n ++ (a + n) ∷ [] ≡ range_with_len a (suc n)
range_push a zero = ap (λ k. k ∷ []) (omega arith)
range_push a (suc n) = ap (λ l. a ∷ l) (ap (λ k. range_with_len (a + 1) n ++ k ∷ []) (omega arith) ∙ range_push (a + 1) n)

pub range_last : (n : ℕ) → range_with_len 0 n ++ n ∷ [] ≡ range_with_len 0 (suc n)
range_last n = ap (λ k. range_with_len 0 n ++ k ∷ []) (omega arith) ∙ range_push 0 n

module _ {X : Type 0} (p : X → Bool) where
  pub none_pass : (xs : List X) → filter p xs ≡ [] → AllByRecursion (λ x. p x ≡ false) xs
  none_pass [] h = tt
  none_pass (x ∷ xs) h =
      elim (p x) as (λ b. p x ≡ b → cond b (x ∷ filter p xs) (filter p xs) ≡ [] → AllByRecursion (λ x. p x ≡ false) (x ∷ xs)) [
        | true ↦ λ e some. absurd (none_some (sym (ap first some)))
        | false ↦ λ e rest. (e, none_pass xs rest)
      ] refl h

module _ {X : Type 0} (cmp : X → X → Ordering) where
  all-uninserted : (P : X → Type 0) (new : X) (xs : List X) → AllByRecursion P (insert_sorted cmp new xs) → P new × AllByRecursion P xs
  all-uninserted P new [] all = (all.0, tt)
  all-uninserted P new (x ∷ xs) all = elim (is_gt (cmp new x)) as (λ b. AllByRecursion P (cond b (x ∷ insert_sorted cmp new xs) (new ∷ x ∷ xs)) → P new × AllByRecursion P (x ∷ xs)) [
    | true ↦ λ all. let rest = all-uninserted P new xs all.1 in (rest.0, (all.0, rest.1))
    | false ↦ λ all. (all.0, all.1)
  ] all

  pub all-unsorted : (P : X → Type 0) (xs : List X) → AllByRecursion P (sort_by cmp xs) → AllByRecursion P xs
  all-unsorted P [] all = tt
  all-unsorted P (x ∷ xs) all = let rest = all-uninserted P x (sort_by cmp xs) all in (rest.0, all-unsorted P xs rest.1)

  inserted_before : (x new : X) (ys : List X) → is_gt (cmp x new) ≡ false → insert_sorted cmp x (ys ++ new ∷ []) ≡ insert_sorted cmp x ys ++ new ∷ []
  inserted_before x new [] h = ap (λ b. cond b (new ∷ x ∷ []) (x ∷ new ∷ [])) h
  inserted_before x new (y ∷ ys) h =
      elim (is_gt (cmp x y)) as (λ b. cond b (y ∷ insert_sorted cmp x (ys ++ new ∷ [])) (x ∷ y ∷ (ys ++ new ∷ [])) ≡ cond b (y ∷ insert_sorted cmp x ys) (x ∷ y ∷ ys) ++ new ∷ []) [
        | true ↦ ap (λ l. y ∷ l) (inserted_before x new ys h)
        | false ↦ refl
      ]

  -- one that stands behind all the others
  pub sort_by_last : (xs : List X) (new : X) → AllByRecursion (λ x. is_gt (cmp x new) ≡ false) xs → sort_by cmp (xs ++ new ∷ []) ≡ sort_by cmp xs ++ new ∷ []
  sort_by_last [] new all = refl
  sort_by_last (x ∷ xs) new all = ap (insert_sorted cmp x) (sort_by_last xs new all.1) ∙ inserted_before x new (sort_by cmp xs) all.0

-- ---- references

-- each child names a parent
pub refers_each : {K T U : Type 0} {R : K → K → Ordering} {is : K → K → Bool} (k : IsKey R is) (key : T → K) (parents : List T) (child : U → K) (children : List U) → Refers is key parents child children
    → AllByRecursion (λ c. first (matching is key (child c) parents) ≡ None → ⊥) children
refers_each k key parents child [] refers = tt
refers_each {is = is} k key parents child (c ∷ cs) refers = (
  λ none. none_some (sym (ap (λ b. first (cond b (c ∷ matching is child (child c) cs) (matching is child (child c) cs))) (sym (is_itself k (child c))) ∙ ap first (refers (child c) none))),
  refers_each k key parents child cs (λ q none. elim (is (child c) q) as (λ b. cond b (c ∷ matching is child q cs) (matching is child q cs) ≡ [] → matching is child q cs ≡ []) [
    | true ↦ λ some. absurd (none_some (sym (ap first some)))
    | false ↦ λ h. h
  ] (refers q none)),
)
