-- The least free ordinal of a digest.
use Rattle.std.proofs.Common.{◌≡◌, ◌≢◌, inl, inr, ℕ, suc, ◌<◌, ◌≤◌, ◌==◌, pos, Bool, true, false, true≢false, cond, ◌||◌, List, [], ◌∷◌, filter, length, refl, sym, ap, ◌∙◌, subst, is_gt, arith, int_cmp}
use Rattle.std.specs.List.{AllByRecursion, list_any}
use Rattle.std.specs.Cmp.{IsTotalOrder}
use Rattle.std.proofs.lemmas.Bool.{cases_eq, eq-eqb, ne_eqb}
use Rattle.std.proofs.lemmas.Cmp.{on_total, int_cmp_total}
use Rattle.std.proofs.lemmas.Int.{ints}
use Rattle.std.proofs.lemmas.Bool.Decides.{nat_tests}
use Rattle.sqlite_trees.specs.Tree.{IsAscending}
use Rattle.sqlite_keyed.specs.Lists.{sort_by}
use Rattle.sqlite_keyed.proofs.ListLemmas.{all_weaker, filter_none, any_from_none}
use Rattle.bh_model.specs.State.{Octets}
use Rattle.bh_view.specs.Grouped.{matching, same_number, HasUnique}
use Rattle.bh_view.proofs.FilterLemmas.{filter_both}
use Rattle.bh_view.proofs.GroupedLemmas.{is_other}
use Rattle.bh_view.proofs.Keys.{numbers}
use Rattle.bh_view.proofs.SortLemmas.{AtMost, all-sort_by, up-sort_by, sort_by-filter, sorted_single}
use Rattle.bh_tables.specs.Typed.{BlockRow}
use Rattle.bh_tables.specs.Shown.{same_name, block_name, by_ord, has_digest}
use Rattle.bh_view.specs.Blocks.{least, free_ord, IsLeastFree}
use Rattle.bh_view.proofs.NameLemmas.{none_pass, all-unsorted}

abbrev Below : BlockRow → BlockRow → Type 0
Below a b = a.ord < b.ord

-- of rows whose ordinals rise, from n on
least_is : (n : ℕ) (bs : List BlockRow) → IsAscending Below bs → AllByRecursion (λ b. n ≤ b.ord) bs
    → AllByRecursion (λ b. b.ord ≢ least n bs) bs × ((m : ℕ) → n ≤ m → m < least n bs → list_any (λ b. b.ord == m) bs ≡ true) × (n ≤ least n bs)
least_is n [] up all = (tt, (λ m low high. absurd (omega arith)), omega arith)
least_is n (b ∷ bs) up all = elim (cases_eq b.ord n) [
  | inl same ↦
      let here : least n (b ∷ bs) ≡ least (suc n) bs = ap (λ t. cond t (least (suc n) bs) n) (eq-eqb b.ord n same) in
      let rest = least_is (suc n) bs up.1 (all_weaker (Below b) (λ x. suc n ≤ x.ord) (λ x h. omega (arith, same)) bs up.0) in (
        (λ e. absurd (omega (arith, same, e, here, rest.2)), all_weaker (λ x. x.ord ≢ least (suc n) bs) (λ x. x.ord ≢ least n (b ∷ bs)) (λ x h e. h (e ∙ here)) bs rest.0),
        (λ m low high. elim (cases_eq b.ord m) [
          | inl first ↦ ap (λ t. t || list_any (λ x. x.ord == m) bs) (eq-eqb b.ord m first)
          | inr later ↦ ap (λ t. (b.ord == m) || t) (rest.1 m (omega (arith, same, low, later)) (subst (λ k. m < k) here high)) ∙ either (b.ord == m)
        ]),
        omega (arith, here, rest.2),
      )
  | inr other ↦
      let here : least n (b ∷ bs) ≡ n = ap (λ t. cond t (least (suc n) bs) n) (ne_eqb b.ord n other) in (
        ((λ e. other (e ∙ here)), all_weaker (Below b) (λ x. x.ord ≢ least n (b ∷ bs)) (λ x h e. absurd (omega (arith, here, h, e, all.0))) bs up.0),
        (λ m low high. absurd (omega (arith, here, low, high))),
        omega (arith, here),
      )
]
  where
    either : (t : Bool) → (t || true) ≡ true
    either true = refl
    either false = refl

by_ord_total : IsTotalOrder by_ord
by_ord_total = on_total (λ (b : BlockRow). pos b.ord) int_cmp_total

apart : (a b : ℕ) → a ≢ b → same_number a b ≡ false
apart a b = is_other numbers a b

all_low : (bs : List BlockRow) → AllByRecursion (λ b. 0 ≤ b.ord) bs
all_low [] = tt
all_low (b ∷ bs) = (omega arith, all_low bs)

at_most_other : (a b : ℕ) → is_gt (int_cmp (pos a) (pos b)) ≡ false → a ≢ b → a < b
at_most_other a b low other = grind (arith, ints, nat_tests)

-- rows in order, of which no two have one ordinal, rise
rises : (bs : List BlockRow) → IsAscending (AtMost by_ord) bs → HasUnique same_number (λ (b : BlockRow). b.ord) bs → IsAscending Below bs
rises [] up one = (tt)
rises (b ∷ bs) up one = (
  below bs up.0 (none_pass (λ x. same_number x.ord b.ord) bs (alone (one b.ord))),
  rises bs up.1 (λ k. fewer k (one k)),
)
  where
    alone : length (matching same_number (λ (x : BlockRow). x.ord) b.ord (b ∷ bs)) ≤ 1 → matching same_number (λ (x : BlockRow). x.ord) b.ord bs ≡ []
    alone h = empty _ (subst (λ t. length (cond t (b ∷ matching same_number (λ (x : BlockRow). x.ord) b.ord bs) (matching same_number (λ (x : BlockRow). x.ord) b.ord bs)) ≤ 1) ((numbers.decides b.ord b.ord).1 refl) h)
      where
        empty : (l : List BlockRow) → suc (length l) ≤ 1 → l ≡ []
        empty [] h = refl
        empty (x ∷ xs) h = absurd (omega (arith, h))

    fewer : (k : ℕ) → length (matching same_number (λ (x : BlockRow). x.ord) k (b ∷ bs)) ≤ 1 → length (matching same_number (λ (x : BlockRow). x.ord) k bs) ≤ 1
    fewer k = elim (same_number b.ord k) as (λ t. length (cond t (b ∷ matching same_number (λ (x : BlockRow). x.ord) k bs) (matching same_number (λ (x : BlockRow). x.ord) k bs)) ≤ 1 → length (matching same_number (λ (x : BlockRow). x.ord) k bs) ≤ 1) [
      | true ↦ λ h. omega (arith, h)
      | false ↦ λ h. h
    ]

    strict : (x : BlockRow) → is_gt (by_ord b x) ≡ false → same_number x.ord b.ord ≡ false → b.ord < x.ord
    strict x at_most other = at_most_other b.ord x.ord at_most (λ e. true≢false (sym ((numbers.decides x.ord b.ord).1 (sym e)) ∙ other))

    below : (l : List BlockRow) → AllByRecursion (AtMost by_ord b) l → AllByRecursion (λ x. same_number x.ord b.ord ≡ false) l → AllByRecursion (Below b) l
    below [] u o = tt
    below (x ∷ xs) u o = (strict x u.0 o.0, below xs u.1 o.1)

-- no row of the digest has it, and each less one is taken
pub free_ord_is_least : (digest : Octets) (blocks : List BlockRow) → HasUnique same_name block_name blocks → IsLeastFree digest blocks (free_ord digest blocks)
free_ord_is_least digest blocks one =
    let mine = filter (has_digest digest) blocks in
    let sorted = sort_by by_ord mine in
    let unique : HasUnique same_number (λ (b : BlockRow). b.ord) mine = λ k. subst (λ l. length l ≤ 1) (sym (filter_both (has_digest digest) (λ b. same_number b.ord k) blocks)) (one (digest, k)) in
    let still : HasUnique same_number (λ (b : BlockRow). b.ord) sorted = λ k. subst (λ l. length l ≤ 1) (sym (sorted_single by_ord _ (unique k)) ∙ sort_by-filter by_ord by_ord_total (λ b. same_number b.ord k) mine) (unique k) in
    let it = least_is 0 sorted (rises sorted (up-sort_by by_ord by_ord_total mine) still) (all_low sorted) in
    record {
      free = sym (filter_both (has_digest digest) (λ b. same_number b.ord (free_ord digest blocks)) blocks)
          ∙ filter_none _ mine (all_weaker (λ (b : BlockRow). b.ord ≢ least 0 sorted) (λ b. same_number b.ord (least 0 sorted) ≡ false) (λ b h. apart b.ord _ h) mine (all-unsorted by_ord _ mine it.0));
      least = λ m low none.
          let nobody = none_pass (λ (b : BlockRow). same_number b.ord m) mine (filter_both (has_digest digest) (λ b. same_number b.ord m) blocks ∙ none) in
          true≢false (sym (it.1 m (omega arith) low) ∙ any_from_none (λ (b : BlockRow). b.ord == m) sorted (all_weaker (λ (b : BlockRow). same_number b.ord m ≡ false) (λ b. (b.ord == m) ≡ false) (λ b h. ne_eqb b.ord m (λ e. true≢false (sym ((numbers.decides b.ord m).1 e) ∙ h))) sorted (all-sort_by by_ord _ mine nobody)));
    }
