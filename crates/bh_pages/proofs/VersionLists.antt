-- What is to come of a bucket's rows is what the definition lists.
use Rattle.std.proofs.Common.{◌≡◌, ℕ, pos, int_lt, not, Bool, true, false, true≢false, cond, ◌&&◌, List, [], ◌∷◌, ◌++◌, map, Option, Some, None, refl, sym, ap, subst, ◌∙◌, arith, int_cmp, Ordering, Less, Equal, Greater}
use Rattle.std.specs.List.{filter, AllByRecursion}
use Rattle.std.specs.Ordering.{is_lt, is_le, is_eq, ordering_then, ordering_reverse}
use Rattle.std.proofs.lemmas.Cmp.{nat_list_cmp_total, tied_itself}
use Rattle.std.proofs.lemmas.Int.{ints}
use Rattle.std.proofs.lemmas.List.Elements.{filter-append}
use Rattle.bh_types.specs.declared.id.VersionId.{VersionId}
use Rattle.bh_types.specs.declared.wanted.Wanted.{Wanted}
use Rattle.bh_types.specs.declared.wanted.Wanted.TheVariants.{Current, Named, Unknown}
use Rattle.bh_model.specs.State.{Octets, octets_cmp, Entry}
use Rattle.bh_model.specs.Entries.{same_id}
use Rattle.bh_model.specs.Pages.{Listed, VersionItem, VersionPlace, begins, is_upto, is_before, is_name, same, merged, after_id, after_version, versions_after, version_item, all_versions, passes_version, entries_after, key_of}
use Rattle.bh_pages.specs.Gathered.{past_key, start_of}
use Rattle.bh_pages.specs.Versions.{Numbered, row_key, spot, is_from, is_older, at_key, after_entry, version_after, items_next, nothing_after, version_entry, versions_to_come, IsStrict}
use Rattle.bh_pages.proofs.Bytes.{upto_begun, same_is}
use Rattle.bh_pages.proofs.Keyed.{AreOthers, AreApart}
use Rattle.bh_pages.proofs.VersionRows.{precedes, precedes_key, all_map, filter_none, filter_whole, filter_all, filter_passes, filter_same, filter_swap, filter_twice, strict_filter, before_upto, past_is_after, older_split}

-- ---- keys that a test lets through

both_same : (o : Ordering) → is_le o ≡ true → is_le (ordering_reverse o) ≡ true → is_eq o ≡ true
both_same Less h k = absurd (true≢false (sym k))
both_same Equal h k = refl
both_same Greater h k = absurd (true≢false (sym h))

upto_both : (a b : Octets) → is_upto a b ≡ true → is_upto b a ≡ true → a ≡ b
upto_both a b h k = same_is a b (both_same (octets_cmp a b) h (ap is_le (sym (nat_list_cmp_total.antisymm b a)) ∙ k))

pub IsLow : Option Octets → Numbered → Type 0
IsLow None r = Unit {0}
IsLow (Some j) r = is_upto j (row_key r) ≡ true

module _ (q : Octets → Bool) where
  abbrev pub Agree : Option Octets → Option Octets → Numbered → Type 0
  Agree k0 k1 s = q (row_key s) ≡ true → is_name (row_key s) k0 ≡ is_name (row_key s) k1

  -- where the row before is not let through, nor is any of its key
  apart_from : (r s : Numbered) (key : Option Octets) → q (row_key r) ≡ false → q (row_key s) ≡ true → is_upto (row_key r) (row_key s) ≡ true → IsLow key r → is_name (row_key s) key ≡ false
  unfolding IsLow
  apart_from r s None miss hit up low = refl
  apart_from r s (Some j) miss hit up low = elim (same j (row_key s)) as (λ t. same j (row_key s) ≡ t → t ≡ false) [
    | true ↦ λ e. absurd (true≢false (sym hit ∙ ap q (sym (upto_both (row_key r) (row_key s) up (subst (λ z. is_upto z (row_key r) ≡ true) (same_is j (row_key s) e) low))) ∙ miss))
    | false ↦ λ _. refl
  ] refl

  low_self : (k : Octets) (s : Numbered) → is_upto k (row_key s) ≡ true → IsLow (Some k) s
  unfolding IsLow
  low_self k s h = h

  upto_itself : (k : Octets) → is_upto k k ≡ true
  upto_itself k = ap is_le (tied_itself nat_list_cmp_total k)

  pub key_filter : (rows : List Numbered) (k0 k1 : Option Octets) → IsStrict rows → AllByRecursion (IsLow k1) rows → AllByRecursion (Agree k0 k1) rows
      → filter (λ (v : VersionItem). q v.key) (items_next k0 rows) ≡ items_next k1 (filter (λ r. q (row_key r)) rows)
  key_filter [] k0 k1 up low agree = refl
  key_filter (r ∷ rows) k0 k1 up low agree = go (q (row_key r)) refl (λ key lows agrees. key_filter rows (Some (row_key r)) key up.1 lows agrees)
    where
      go : (t : Bool) → q (row_key r) ≡ t
          → ((key : Option Octets) → AllByRecursion (IsLow key) rows → AllByRecursion (Agree (Some (row_key r)) key) rows → filter (λ (v : VersionItem). q v.key) (items_next (Some (row_key r)) rows) ≡ items_next key (filter (λ r. q (row_key r)) rows))
          → cond t (version_after k0 r ∷ filter (λ (v : VersionItem). q v.key) (items_next (Some (row_key r)) rows)) (filter (λ (v : VersionItem). q v.key) (items_next (Some (row_key r)) rows))
          ≡ items_next k1 (cond t (r ∷ filter (λ r. q (row_key r)) rows) (filter (λ r. q (row_key r)) rows))
      go true e more = λ i. record r.1 { latest = not (agree.0 e i) } ∷ more (Some (row_key r)) (all_map (λ s k. low_self (row_key r) s (precedes_key (spot r) (spot s) k)) rows up.0) (all_map (λ s k _. refl) rows up.0) i
      go false e more = more k1 low.1 (all_map (λ s k hit.
          apart_from r s (Some (row_key r)) e hit (precedes_key (spot r) (spot s) k) (low_self (row_key r) r (upto_itself (row_key r)))
          ∙ sym (apart_from r s k1 e hit (precedes_key (spot r) (spot s) k) low.0)) rows up.0)

  lows : (rows : List Numbered) → AllByRecursion (IsLow None) rows
  unfolding IsLow
  lows [] = tt
  lows (r ∷ rows) = (tt, lows rows)

  agrees : (rows : List Numbered) → AllByRecursion (Agree None None) rows
  agrees [] = tt
  agrees (r ∷ rows) = (λ _. refl, agrees rows)

  pub keys_through : (rows : List Numbered) → IsStrict rows → filter (λ (v : VersionItem). q v.key) (items_next None rows) ≡ items_next None (filter (λ r. q (row_key r)) rows)
  keys_through rows up = key_filter rows None None up (lows rows) (agrees rows)

  -- ---- the same of what is after a marker

  after_id_all : (P : VersionItem → Type 0) (id : VersionId) (l : List VersionItem) → AllByRecursion P l → AllByRecursion P (after_id id l)
  after_id_all P id [] all = tt
  after_id_all P id (v ∷ l) all = elim (same_id v.id id) as (λ t. AllByRecursion P (cond t l (after_id id l))) [ true ↦ all.1 | false ↦ after_id_all P id l all.1 ]

  after_all : (P : VersionItem → Type 0) (w : Wanted) (l : List VersionItem) → AllByRecursion P l → AllByRecursion P (after_version w l)
  after_all P Current l all = tt
  after_all P (Named id) l all = after_id_all P id l all
  after_all P Unknown l all = tt

  after_none : (w : Wanted) → after_version w [] ≡ []
  after_none Current = refl
  after_none (Named id) = refl
  after_none Unknown = refl

  abbrev through : VersionItem → Bool
  through v = q v.key

  own_through : (k : Octets) (w : Wanted) (items : List VersionItem) → filter through (after_version w (filter (λ v. same v.key k) items)) ≡ after_version w (filter (λ v. same v.key k) (filter through items))
  own_through k w items = go (q k) refl ∙ ap (after_version w) (filter_swap through (λ (v : VersionItem). same v.key k) items)
    where
      own : (t : Bool) → q k ≡ t → AllByRecursion (λ (v : VersionItem). q v.key ≡ t) (filter (λ (v : VersionItem). same v.key k) items)
      own t e = all_map (λ v h. ap q (same_is v.key k h) ∙ e) (filter (λ (v : VersionItem). same v.key k) items) (filter_passes (λ (v : VersionItem). same v.key k) items)

      go : (t : Bool) → q k ≡ t → filter through (after_version w (filter (λ (v : VersionItem). same v.key k) items)) ≡ after_version w (filter through (filter (λ (v : VersionItem). same v.key k) items))
      go true e = filter_whole through _ (after_all _ w _ (own true e)) ∙ ap (after_version w) (sym (filter_whole through _ (own true e)))
      go false e = filter_none through _ (after_all _ w _ (own false e)) ∙ sym (after_none w) ∙ ap (after_version w) (sym (filter_none through _ (own false e)))

  pub after_through : (marker : Option VersionPlace) (items : List VersionItem) → filter through (versions_after marker items) ≡ versions_after marker (filter through items)
  after_through None items = refl
  after_through (Some m) items =
      filter-append through (after_version m.version (filter (λ (v : VersionItem). same v.key m.key) items)) (filter (λ (v : VersionItem). is_before m.key v.key) items)
      ∙ (λ i. own_through m.key m.version items i ++ filter_swap through (λ (v : VersionItem). is_before m.key v.key) items i)

-- ---- rows after a marker

lt_is : (m n : ℕ) → is_lt (int_cmp (pos m) (pos n)) ≡ int_lt (pos m) (pos n)
lt_is m n = grind (arith, ints)

not_lt_self : (n : ℕ) → int_lt (pos n) (pos n) ≡ false
not_lt_self n = grind (arith, ints)

not_lt_back : (m n : ℕ) → int_lt (pos m) (pos n) ≡ true → int_lt (pos n) (pos m) ≡ false
not_lt_back m n h = grind (arith, ints, h)

-- of two rows of a key the later one has the lesser number
lesser : (k : Octets) (r s : Numbered) → same (row_key r) k ≡ true → same (row_key s) k ≡ true → precedes (spot r) (spot s) ≡ true → int_lt (pos s.0) (pos r.0) ≡ true
lesser k r s hr hs h =
    sym (lt_is s.0 r.0)
    ∙ ap (λ o. is_lt (ordering_then o (int_cmp (pos s.0) (pos r.0)))) (sym (ap (λ z. octets_cmp z (row_key s)) (same_is (row_key r) k hr ∙ sym (same_is (row_key s) k hs)) ∙ tied_itself nat_list_cmp_total (row_key s)))
    ∙ h

abbrev has : VersionId → Numbered → Bool
has id r = same_id r.1.id id

cons_none : {X : Type 0} {x : X} {l : List X} → x ∷ l ≡ [] → ⊥
cons_none h = cc

head_is : {X : Type 0} {x y : X} {l m : List X} → x ∷ l ≡ y ∷ m → x ≡ y
head_is h = cc

pub not_among : (id : VersionId) (rows : List Numbered) (k0 : Option Octets) → filter (has id) rows ≡ [] → after_id id (items_next k0 rows) ≡ []
not_among id [] k0 none = refl
not_among id (r ∷ rows) k0 none = go (same_id r.1.id id) none (λ h. not_among id rows (Some (row_key r)) h)
  where
    go : (t : Bool) → cond t (r ∷ filter (has id) rows) (filter (has id) rows) ≡ [] → (filter (has id) rows ≡ [] → after_id id (items_next (Some (row_key r)) rows) ≡ [])
        → cond t (items_next (Some (row_key r)) rows) (after_id id (items_next (Some (row_key r)) rows)) ≡ []
    go true none more = absurd (cons_none none)
    go false none more = more none

abbrev below : ℕ → Numbered → Bool
below seq x = int_lt (pos x.0) (pos seq)

among : (k : Octets) (id : VersionId) (r : Numbered) (rows : List Numbered) (k0 : Option Octets) → IsStrict rows → AllByRecursion (λ x. same (row_key x) k ≡ true) rows → filter (has id) rows ≡ r ∷ []
    → after_id id (items_next k0 rows) ≡ items_next (Some k) (filter (below r.0) rows)
among k id r [] k0 up own is = absurd (cons_none (sym is))
among k id r (x ∷ rows) k0 up own is = go (same_id x.1.id id) is (λ h. among k id r rows (Some (row_key x)) up.1 own.1 h)
  where
    all_below : (l : List Numbered) → AllByRecursion (λ s. precedes (spot x) (spot s) ≡ true) l → AllByRecursion (λ s. same (row_key s) k ≡ true) l → AllByRecursion (λ s. below x.0 s ≡ true) l
    all_below [] after own2 = tt
    all_below (s ∷ l) after own2 = (lesser k x s own.0 own2.0 after.0, all_below l after.1 own2.1)

    found : x ≡ r → items_next (Some (row_key x)) rows ≡ items_next (Some k) (filter (below r.0) (x ∷ rows))
    found e =
        ap (λ z. items_next (Some z) rows) (same_is (row_key x) k own.0)
        ∙ ap (items_next (Some k)) (sym (filter_whole (below x.0) rows (all_below rows up.0 own.1)) ∙ ap (λ t. cond t (x ∷ filter (below x.0) rows) (filter (below x.0) rows)) (sym (not_lt_self x.0)))
        ∙ ap (λ (z : Numbered). items_next (Some k) (filter (below z.0) (x ∷ rows))) e

    pair : (l : List Numbered) → AllByRecursion (λ s. precedes (spot x) (spot s) ≡ true) l → AllByRecursion (λ s. same (row_key s) k ≡ true) l → AllByRecursion (λ s. (precedes (spot x) (spot s) ≡ true) × (same (row_key s) k ≡ true)) l
    pair [] a b = tt
    pair (s ∷ l) a b = ((a.0, b.0), pair l a.1 b.1)

    later : filter (has id) rows ≡ r ∷ [] → (precedes (spot x) (spot r) ≡ true) × (same (row_key r) k ≡ true)
    later h = (subst (AllByRecursion (λ s. (precedes (spot x) (spot s) ≡ true) × (same (row_key s) k ≡ true))) h (filter_all _ (has id) rows (pair rows up.0 own.1))).0

    go : (t : Bool) → cond t (x ∷ filter (has id) rows) (filter (has id) rows) ≡ r ∷ []
        → (filter (has id) rows ≡ r ∷ [] → after_id id (items_next (Some (row_key x)) rows) ≡ items_next (Some k) (filter (below r.0) rows))
        → cond t (items_next (Some (row_key x)) rows) (after_id id (items_next (Some (row_key x)) rows)) ≡ items_next (Some k) (filter (below r.0) (x ∷ rows))
    go true is more = found (head_is is)
    go false is more =
        let it = later is in
        more is ∙ ap (λ t. items_next (Some k) (cond t (x ∷ filter (below r.0) rows) (filter (below r.0) rows))) (sym (not_lt_back r.0 x.0 (lesser k x r own.0 it.1 it.0)))

-- the older rows of a key, and then those of greater keys
key_then : (k : Octets) (a b : List Numbered) → AllByRecursion (λ x. same (row_key x) k ≡ true) a → AllByRecursion (λ x. is_before k (row_key x) ≡ true) b
    → items_next (Some k) a ++ items_next None b ≡ items_next (Some k) (a ++ b)
key_then k [] [] own after = refl
key_then k [] (x ∷ b) own after = ap (λ t. record x.1 { latest = not t } ∷ items_next (Some (row_key x)) b) (sym (apart (octets_cmp k (row_key x)) after.0))
  where
    apart : (o : Ordering) → is_lt o ≡ true → is_eq o ≡ false
    apart Less h = refl
    apart Equal h = absurd (true≢false (sym h))
    apart Greater h = refl
key_then k (x ∷ a) b own after =
    ap (λ l. version_after (Some k) x ∷ l) (ap (λ z. items_next (Some z) a ++ items_next None b) (same_is (row_key x) k own.0) ∙ key_then k a b own.1 after ∙ ap (λ z. items_next (Some z) (a ++ b)) (sym (same_is (row_key x) k own.0)))

module _ (rows : List Numbered) (up : IsStrict rows) (k : Octets) where
  abbrev own_rows : List Numbered
  own_rows = filter (λ r. same (row_key r) k) rows

  abbrev from_key : List Numbered
  from_key = filter (is_from (at_key (past_key k))) rows

  greater : filter (λ (v : VersionItem). is_before k v.key) (items_next None rows) ≡ items_next None from_key
  greater = keys_through (is_before k) rows up ∙ ap (items_next None) (filter_same (λ r. is_before k (row_key r)) (is_from (at_key (past_key k))) rows (each rows))
    where
      each : (l : List Numbered) → AllByRecursion (λ r. is_before k (row_key r) ≡ is_upto (past_key k) (row_key r)) l
      each [] = tt
      each (r ∷ l) = (sym (past_is_after k (row_key r)), each l)

  own_items : filter (λ (v : VersionItem). same v.key k) (items_next None rows) ≡ items_next None own_rows
  own_items = keys_through (λ y. same y k) rows up

  -- nothing of the marker's own key is left
  pub none_of_key : (w : Wanted) → after_version w (items_next None own_rows) ≡ [] → versions_after (Some (record { key = k; version = w })) (items_next None rows) ≡ items_next None from_key
  none_of_key w none = λ i. ((ap (after_version w) own_items ∙ none) i) ++ greater i

  -- its entries after the one with this id
  pub after_one : (id : VersionId) (r : Numbered) → filter (has id) own_rows ≡ r ∷ []
      → versions_after (Some (record { key = k; version = Named id })) (items_next None rows) ≡ items_next (Some k) (filter (is_from (after_entry k r.0)) rows)
  after_one id r is =
      (λ i. ((ap (after_id id) own_items ∙ among k id r own_rows None (strict_filter _ rows up) (filter_passes (λ r. same (row_key r) k) rows) is ∙ ap (items_next (Some k)) (sym (filter_twice (λ x. same (row_key x) k) (below r.0) rows))) i) ++ greater i)
      ∙ key_then k (filter (is_older k r.0) rows) from_key (all_map (λ x h. first (same (row_key x) k) (below r.0 x) h) _ (filter_passes (is_older k r.0) rows)) (all_map (λ x h. sym (past_is_after k (row_key x)) ∙ h) from_key (filter_passes (is_from (at_key (past_key k))) rows))
      ∙ ap (items_next (Some k)) (sym (older_split k r.0 rows up))
    where
      first : (a b : Bool) → (a && b) ≡ true → a ≡ true
      first true b h = refl
      first false b h = absurd (true≢false (sym h))

-- ---- the rows under a prefix

module _ (prefix delimiter : Octets) (all_rows : List Numbered) (up : IsStrict all_rows) where
  abbrev under : List Numbered
  under = filter (λ r. begins prefix (row_key r)) all_rows

  abbrev listing : Option VersionPlace → List (Listed VersionItem)
  listing marker = entries_after prefix delimiter (λ (v : VersionItem). v.key) (passes_version (key_of marker)) (versions_after marker (items_next None all_rows))

  abbrev left : Option VersionPlace → List VersionItem → List (Listed VersionItem)
  left marker items = merged None (filter (passes_version (key_of marker)) (map (version_entry prefix delimiter (key_of marker)) items))

  listing_is : (marker : Option VersionPlace) → listing marker ≡ left marker (versions_after marker (items_next None under))
  listing_is marker = ap (left marker) (after_through (begins prefix) marker (items_next None all_rows) ∙ ap (versions_after marker) (keys_through (begins prefix) all_rows up))

  strict_under : IsStrict under
  strict_under = strict_filter _ all_rows up

  from_prefix : AllByRecursion (λ r. is_from (at_key prefix) r ≡ true) under
  from_prefix = all_map (λ r h. upto_begun prefix (row_key r) h) under (filter_passes (λ r. begins prefix (row_key r)) all_rows)

  -- with no marker
  pub start_first : listing None ≡ versions_to_come prefix delimiter None (nothing_after None) (filter (is_from (at_key prefix)) under)
  start_first = listing_is None ∙ ap (λ l. left None (items_next None l)) (sym (filter_whole (is_from (at_key prefix)) under from_prefix))

  turned_before : (o : Ordering) → is_le o ≡ false → is_lt (ordering_reverse o) ≡ true
  turned_before Less h = absurd (true≢false h)
  turned_before Equal h = absurd (true≢false h)
  turned_before Greater h = refl

  from_start : (k : Octets) → filter (is_from (at_key (start_of prefix (Some k)))) under ≡ filter (is_from (at_key (past_key k))) under
  from_start k = go (is_upto prefix k) refl
    where
      before : is_upto prefix k ≡ false → is_before k prefix ≡ true
      before e = ap is_lt (nat_list_cmp_total.antisymm k prefix) ∙ turned_before (octets_cmp prefix k) e

      go : (t : Bool) → is_upto prefix k ≡ t → filter (is_from (at_key (cond t (past_key k) prefix))) under ≡ filter (is_from (at_key (past_key k))) under
      go true e = refl
      go false e =
          filter_whole (is_from (at_key prefix)) under from_prefix
          ∙ sym (filter_whole (is_from (at_key (past_key k))) under (all_map (λ r h. past_is_after k (row_key r) ∙ before_upto k prefix (row_key r) (before e) h) under from_prefix))

  -- after all that the marker's key has
  pub start_past : (k : Octets) (w : Wanted) → after_version w (items_next None (filter (λ r. same (row_key r) k) under)) ≡ []
      → listing (Some (record { key = k; version = w })) ≡ versions_to_come prefix delimiter (Some k) (nothing_after None) (filter (is_from (at_key (start_of prefix (Some k)))) under)
  start_past k w none =
      let marker : Option VersionPlace = Some (record { key = k; version = w }) in
      listing_is marker ∙ ap (left marker) (none_of_key under strict_under k w none) ∙ ap (λ l. left marker (items_next None l)) (sym (from_start k))

  -- after one of its versions
  pub start_one : (k : Octets) (id : VersionId) (r : Numbered) → filter (has id) (filter (λ r. same (row_key r) k) under) ≡ r ∷ []
      → listing (Some (record { key = k; version = Named id })) ≡ versions_to_come prefix delimiter (Some k) (nothing_after (Some k)) (filter (is_from (after_entry k r.0)) under)
  start_one k id r is =
      let marker : Option VersionPlace = Some (record { key = k; version = Named id }) in
      listing_is marker ∙ ap (left marker) (after_one under strict_under k id r is)

  -- a key that is not under the prefix has no rows there
  pub not_under : (k : Octets) → begins prefix k ≡ false → filter (λ r. same (row_key r) k) under ≡ []
  not_under k h = filter_none (λ r. same (row_key r) k) under (all_map (λ r begun. apart r begun) under (filter_passes (λ r. begins prefix (row_key r)) all_rows))
    where
      apart : (r : Numbered) → begins prefix (row_key r) ≡ true → same (row_key r) k ≡ false
      apart r begun = elim (same (row_key r) k) as (λ t. same (row_key r) k ≡ t → t ≡ false) [ true ↦ λ e. absurd (true≢false (sym begun ∙ ap (begins prefix) (same_is (row_key r) k e) ∙ h)) | false ↦ λ _. refl ] refl

-- ---- the rows of a bucket's keys

abbrev pub marked : Option Octets → List VersionItem → List VersionItem
marked key [] = []
marked key (v ∷ items) = record v { latest = not (is_name v.key key) } ∷ marked (Some v.key) items

pub items_marked : (key : Option Octets) (rows : List Numbered) → items_next key rows ≡ marked key (map (λ (r : Numbered). r.1) rows)
items_marked key [] = refl
items_marked key (r ∷ rows) = ap (λ l. version_after key r ∷ l) (items_marked (Some (row_key r)) rows)

abbrev pub flat_items : List (Octets × List Entry) → List VersionItem
flat_items [] = []
flat_items (k ∷ keys) = map (version_item k.0 false) k.1 ++ flat_items keys

older_marked : (k : Octets) (es : List Entry) (rest : List VersionItem) → marked (Some k) (map (version_item k false) es ++ rest) ≡ map (version_item k false) es ++ marked (Some k) rest
older_marked k [] rest = refl
older_marked k (e ∷ es) rest = (λ i. version_item k (not (is_eq (tied_itself nat_list_cmp_total k i))) e ∷ older_marked k es rest i)

pub keys_marked : (key : Option Octets) (keys : List (Octets × List Entry)) → AreOthers key keys → AreApart keys → marked key (flat_items keys) ≡ all_versions keys
keys_marked key [] others apart = refl
keys_marked key ((k, []) ∷ keys) others apart = keys_marked key keys others.1 apart.1
keys_marked key ((k, e ∷ es) ∷ keys) others apart =
    λ i. version_item k (not (others.0 i)) e ∷ ((older_marked k es (flat_items keys) ∙ ap (λ l. map (version_item k false) es ++ l) (keys_marked (Some k) keys apart.0 apart.1)) i)
