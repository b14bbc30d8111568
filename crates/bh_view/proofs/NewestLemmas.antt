-- The newest entry of a key is the first of its entries in their order.
use Rattle.std.proofs.Common.{◌≡◌, inl, inr, true≢false, ℕ, ◌≤◌, pos, int_cmp, int_lt, Bool, true, false, cond, not, List, [], ◌∷◌, length, filter, Option, None, Some, refl, sym, ap, subst, ◌∙◌, arith, Less, Greater, Equal, is_gt}
use Rattle.std.proofs.lemmas.Bool.{cases_Bool}
use Rattle.std.specs.List.{AllByRecursion}
use Rattle.std.specs.Ordering.{int_eq}
use Rattle.std.proofs.lemmas.Int.{ints}
use Rattle.std.proofs.lemmas.List.Sorted.{length_permutation}
use Rattle.sqlite_trees.specs.Tree.{IsAscending}
use Rattle.sqlite_keyed.specs.Lists.{sort_by, delete_where}
use Rattle.sqlite_keyed.proofs.ListLemmas.{all_weaker, filter_none}
use Rattle.sqlite_keyed.proofs.SortLemmas.{IsPermutation-sort_by}
use Rattle.bh_tables.specs.Typed.{VersionRow}
use Rattle.bh_tables.specs.Shown.{newer}
use Rattle.bh_tables.proofs.TallyLemmas.{IsNewest, Newest}
use Rattle.bh_view.specs.Grouped.{first, same_number, HasUnique}
use Rattle.bh_view.proofs.Keys.{numbers}
use Rattle.bh_view.proofs.FactLemmas.{unique_filtered}
use Rattle.bh_view.proofs.ObjectLemmas.{newer_total}
use Rattle.bh_view.proofs.SortLemmas.{AtMost, up-sort_by, sort_by-filter, sorted_single}

pub as_many : (vs : List VersionRow) → length (sort_by newer vs) ≡ length vs
as_many vs = sym (length_permutation _ _ (IsPermutation-sort_by newer newer_total vs))

none_sorted : (vs : List VersionRow) → sort_by newer vs ≡ [] → vs ≡ []
none_sorted [] is = refl
none_sorted (v ∷ vs) is = let many = as_many (v ∷ vs) in let none = ap length is in absurd (omega (arith, many, none))

-- what a test that finds nothing in their order finds of them
none_passes : (p : VersionRow → Bool) (vs : List VersionRow) → filter p vs ≡ [] → AllByRecursion (λ v. p v ≡ false) vs
none_passes p [] is = tt
none_passes p (v ∷ vs) is = elim (cases_Bool (p v)) [
  | inl on ↦ let some : v ∷ filter p vs ≡ [] = sym (ap (λ b. cond b (v ∷ filter p vs) (filter p vs)) on) ∙ is in absurd (cc)
  | inr off ↦ (off, none_passes p vs (sym (ap (λ b. cond b (v ∷ filter p vs) (filter p vs)) off) ∙ is))
]

none_after_itself : (n : ℕ) → int_lt (pos n) (pos n) ≡ false
none_after_itself n = grind (arith, ints)

self_number : (n : ℕ) → int_eq (pos n) (pos n) ≡ true
self_number n = grind (arith, ints)

not_greater : (h v : ℕ) → is_gt (int_cmp (pos v) (pos h)) ≡ false → int_lt (pos h) (pos v) ≡ false
not_greater h v low = elim (cases_Bool (int_lt (pos v) (pos h))) [
  | inl less ↦ grind (arith, ints, less)
  | inr other ↦ go (int_lt (pos h) (pos v)) (sym (ap (λ b. is_gt (cond b Less (cond (int_lt (pos h) (pos v)) Greater Equal))) other) ∙ low)
]
  where
    go : (b : Bool) → is_gt (cond b Greater Equal) ≡ false → b ≡ false
    go true is = absurd (true≢false is)
    go false is = refl

no_more : {X : Type 0} (x : X) (l : List X) → length (x ∷ l) ≤ 1 → l ≡ []
no_more x [] few = refl
no_more x (y ∷ l) few = absurd (omega (arith, few))

module _ (vs : List VersionRow) (unique : HasUnique same_number (λ (v : VersionRow). v.seq) vs) (h : VersionRow) (rest : List VersionRow) (is : sort_by newer vs ≡ h ∷ rest) where
  abbrev same : VersionRow → Bool
  same v = int_eq (pos v.seq) (pos h.seq)

  abbrev later : VersionRow → Bool
  later v = int_lt (pos h.seq) (pos v.seq)

  none_later : filter later vs ≡ []
  none_later = none_sorted (filter later vs) (sort_by-filter newer newer_total later vs ∙ ap (filter later) is
      ∙ filter_none later (h ∷ rest) (none_after_itself h.seq, all_weaker _ _ (λ v low. not_greater h.seq v.seq low) rest (subst (IsAscending (AtMost newer)) is (up-sort_by newer newer_total vs)).0))

  all_same : filter same vs ≡ h ∷ filter same rest
  all_same = sym (sorted_single newer (filter same vs) (unique h.seq)) ∙ sort_by-filter newer newer_total same vs ∙ ap (filter same) is ∙ ap (λ b. cond b (h ∷ filter same rest) (filter same rest)) (self_number h.seq)

  first_newest : IsNewest vs h
  first_newest = record { alone = all_same ∙ ap (λ l. h ∷ l) (no_more h (filter same rest) (subst (λ l. length l ≤ 1) all_same (unique h.seq))); last = none_passes later vs none_later }

pub newest_is : (vs : List VersionRow) → HasUnique same_number (λ (v : VersionRow). v.seq) vs → Newest vs (first (sort_by newer vs))
newest_is vs unique = go (sort_by newer vs) refl
  where
    go : (l : List VersionRow) → sort_by newer vs ≡ l → Newest vs (first l)
    go [] is = none_sorted vs is
    go (h ∷ rest) is = first_newest vs unique h rest is

-- once some are gone
pub newest_without : (m : VersionRow → Bool) (vs : List VersionRow) → HasUnique same_number (λ (v : VersionRow). v.seq) vs → Newest (delete_where m vs) (first (delete_where m (sort_by newer vs)))
newest_without m vs unique =
    subst (λ l. Newest (delete_where m vs) (first l)) (sort_by-filter newer newer_total (λ v. not (m v)) vs) (newest_is (delete_where m vs) (unique_filtered numbers (λ (v : VersionRow). v.seq) vs (λ v. not (m v)) unique))

-- if one goes at most, it is the first that goes, and then the second is the newest, or another, and then the first still is
abbrev pub after_first : (m : VersionRow → Bool) → List VersionRow → Option VersionRow
after_first m [] = None
after_first m (h ∷ rest) = cond (m h) (first rest) (Some h)

pub next_first : (m : VersionRow → Bool) (l : List VersionRow) → length (filter m l) ≤ 1 → first (delete_where m l) ≡ after_first m l
next_first m [] few = refl
next_first m (h ∷ rest) few = elim (cases_Bool (m h)) [
  | inl on ↦ ap (λ b. first (cond (not b) (h ∷ delete_where m rest) (delete_where m rest))) on ∙ ap first (all_stay rest (none_passes m rest (no_more h (filter m rest) (subst (λ b. length (cond b (h ∷ filter m rest) (filter m rest)) ≤ 1) on few))))
      ∙ sym (ap (λ b. cond b (first rest) (Some h)) on)
  | inr off ↦ ap (λ b. first (cond (not b) (h ∷ delete_where m rest) (delete_where m rest))) off ∙ sym (ap (λ b. cond b (first rest) (Some h)) off)
]
  where
    all_stay : (l : List VersionRow) → AllByRecursion (λ v. m v ≡ false) l → delete_where m l ≡ l
    all_stay [] all = refl
    all_stay (v ∷ l) all = ap (λ b. cond (not b) (v ∷ delete_where m l) (delete_where m l)) all.0 ∙ ap (λ l. v ∷ l) (all_stay l all.1)

pub next_newest : (m : VersionRow → Bool) (vs : List VersionRow) → HasUnique same_number (λ (v : VersionRow). v.seq) vs → length (filter m vs) ≤ 1 → Newest (delete_where m vs) (after_first m (sort_by newer vs))
next_newest m vs unique few = subst (Newest (delete_where m vs)) (next_first m (sort_by newer vs) (subst (λ n. n ≤ 1) (sym (as_many (filter m vs)) ∙ ap length (sort_by-filter newer newer_total m vs)) few)) (newest_without m vs unique)
