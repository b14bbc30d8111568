-- Pages of versions that are chained by their markers show each entry once and in order.
use Rattle.std.proofs.Common.{◌≡◌, ◌⊎◌, inl, inr, ℕ, ◌≤◌, Bool, true, false, true≢false, cond, ◌==◌, List, [], ◌∷◌, ◌++◌, length, map, filter, take, Option, None, Some, refl, sym, ap, subst, ◌∙◌, arith, Ordering, Less, Equal, Greater, T}
use Rattle.std.specs.List.{AllByRecursion}
use Rattle.std.specs.FinMap.{entries, entries_sorted, get-entries, find, is_sorted}
use Rattle.std.specs.FinMap.Entries.{below_all}
use Rattle.std.specs.Cmp.{Equal-is}
use Rattle.std.proofs.lemmas.Option.{none-some}
use Rattle.std.specs.Ordering.{is_eq, is_lt, is_le, ordering_reverse, eq_by_cmp}
use Rattle.std.proofs.lemmas.Bool.Decides.{nat_tests}
use Rattle.std.proofs.lemmas.Cmp.{nat_list_cmp_total, tied_itself}
use Rattle.bh_types.specs.declared.id.VersionId.{VersionId}
use Rattle.bh_types.specs.declared.id.VersionId.TheVariants.{Null, Numbered}
use Rattle.bh_model.specs.State.{Octets, octets_cmp, Entry}
use Rattle.bh_model.specs.Entries.{same_id, has_id}
use Rattle.bh_model.specs.Pages.{Listed, Listed.Single, Listed.Common, is_before, is_upto, same, begins, rolled, as_listed, paged, merged, entry_of, entries_after, VersionItem, VersionPlace, version_item, versions_of, all_versions, after_id, versions_after, passes_version, key_of}
use Rattle.bh_model.specs.Ids.{HaveOwnIds}
use Rattle.bh_model.proofs.MapLemmas.{find_below}
use Rattle.bh_model.proofs.MapLemmas as pairs
use Rattle.bh_model.proofs.UsedLemmas.{octets_same}
use Rattle.bh_pages.specs.Laws.{total, chained, version_key, version_marked, VersionsChain}
use Rattle.bh_pages.proofs.Bytes.{same_number, upto_self, upto_begun, rolled_begins}
use Rattle.bh_pages.proofs.Before.{less_not_equal, less_not_same, before_upto}
use Rattle.bh_pages.proofs.Filters.{all_map, filter_none, filter_whole, filter_passes, keep_all}
use Rattle.bh_pages.proofs.Pairs.{Pairs, all_append, pairs_append, Rises, sorted_pairs}
use Rattle.bh_pages.proofs.VersionLists.{after_through}
use Rattle.bh_pages.proofs.Resuming.{Resumes, so_far, chain_entries}
use Rattle.bh_pages.proofs.Coming.{Comes, Leads, under, leads, past_name, after_rolled, upto_before, not_before, before_back, before_self}

-- a version before another one: of a lesser key, or of the same key and with another id
abbrev Follows : VersionItem → VersionItem → Type 0
Follows v w = (is_before v.key w.key ≡ true) ⊎ ((v.key ≡ w.key) × (same_id v.id w.id ≡ false))

key_up : (v w : VersionItem) → Follows v w → is_upto v.key w.key ≡ true
key_up v w (inl before) = upto_before v.key w.key before
key_up v w (inr both) = ap (is_upto v.key) (sym both.0) ∙ upto_self v.key

same_self : (k : Octets) → same k k ≡ true
same_self k = ap is_eq (tied_itself nat_list_cmp_total k)

id_self : (id : VersionId) → same_id id id ≡ true
id_self Null = refl
id_self (Numbered n) = same_number n

id_back : (a b : VersionId) → same_id a b ≡ same_id b a
id_back Null Null = refl
id_back Null (Numbered n) = refl
id_back (Numbered m) Null = refl
id_back (Numbered m) (Numbered n) = numbers m n
  where
    numbers : (m n : ℕ) → (m == n) ≡ (n == m)
    numbers m n = grind (arith, nat_tests)

-- ---- versions after a marker

abbrev own : Octets → List VersionItem → List VersionItem
own k = filter (λ (v : VersionItem). same v.key k)

abbrev greater : Octets → List VersionItem → List VersionItem
greater k = filter (λ (v : VersionItem). is_before k v.key)

-- an earlier version is not after a later one
one_skips : (v w : VersionItem) → Follows v w → (l : List VersionItem) → versions_after (version_marked (Single w)) (v ∷ l) ≡ versions_after (version_marked (Single w)) l
one_skips v w (inl before) l =
    λ i. after_id w.id (cond (less_not_equal (octets_cmp v.key w.key) before i) (v ∷ own w.key l) (own w.key l)) ++ cond (before_back v.key w.key before i) (v ∷ greater w.key l) (greater w.key l)
one_skips v w (inr both) l =
    (λ i. after_id w.id (cond ((ap (λ k. same k w.key) both.0 ∙ same_self w.key) i) (v ∷ own w.key l) (own w.key l)) ++ cond (not_before v.key w.key (key_up v w (inr both)) i) (v ∷ greater w.key l) (greater w.key l))
    ∙ ap (λ t. cond t (own w.key l) (after_id w.id (own w.key l)) ++ greater w.key l) both.1

-- versions from a key on are those of the key, and then those of greater keys
own_then : (k : Octets) (l : List VersionItem) → AllByRecursion (λ (v : VersionItem). is_upto k v.key ≡ true) l → Pairs Follows l → own k l ++ greater k l ≡ l
own_then k [] low up = refl
own_then k (v ∷ l) low up = elim (is_before k v.key) as (λ t. is_before k v.key ≡ t → cond (same v.key k) (v ∷ own k l) (own k l) ++ cond t (v ∷ greater k l) (greater k l) ≡ v ∷ l) [
  | true ↦ λ e.
      let further : AllByRecursion (λ (w : VersionItem). is_before k w.key ≡ true) l = all_map (λ w h. before_upto k v.key w.key e (key_up v w h)) l up.0 in
      ap (λ t. cond t (v ∷ own k l) (own k l) ++ (v ∷ greater k l)) (less_not_same k v.key e)
      ∙ (λ i. filter_none (λ (w : VersionItem). same w.key k) l (all_map (λ w h. less_not_same k w.key h) l further) i ++ (v ∷ filter_whole (λ (w : VersionItem). is_before k w.key) l further i))
  | false ↦ λ e.
      ap (λ t. cond t (v ∷ own k l) (own k l) ++ greater k l) (ap is_eq (nat_list_cmp_total.antisymm v.key k) ∙ tie (octets_cmp k v.key) low.0 e)
      ∙ ap (λ r. v ∷ r) (own_then k l low.1 up.1)
] refl
  where
    tie : (o : Ordering) → is_le o ≡ true → is_lt o ≡ false → is_eq (ordering_reverse o) ≡ true
    tie Less h k = absurd (true≢false k)
    tie Equal h k = refl
    tie Greater h k = absurd (true≢false (sym h))

-- after a version come those that follow it
one_here : (v : VersionItem) (l : List VersionItem) → AllByRecursion (Follows v) l → Pairs Follows l → versions_after (version_marked (Single v)) (v ∷ l) ≡ l
one_here v l all up =
    (λ i. after_id v.id (cond (same_self v.key i) (v ∷ own v.key l) (own v.key l)) ++ cond (before_self v.key i) (v ∷ greater v.key l) (greater v.key l))
    ∙ ap (λ t. cond t (own v.key l) (after_id v.id (own v.key l)) ++ greater v.key l) (id_self v.id)
    ∙ own_then v.key l (all_map (λ w h. key_up v w h) l all) up

-- ---- the entries that are left after one

module _ (prefix delimiter : Octets) where
  abbrev entry : VersionItem → Listed VersionItem
  entry = entry_of prefix delimiter version_key

  abbrev left : Listed VersionItem → List VersionItem → List (Listed VersionItem)
  left e l = filter (passes_version (key_of (version_marked e))) (map entry (versions_after (version_marked e) l))

  abbrev Led : VersionItem → VersionItem → Type 0
  Led = Leads prefix delimiter version_key Follows

  abbrev AreUnder : List VersionItem → Type 0
  AreUnder l = AllByRecursion (λ (v : VersionItem). begins prefix v.key ≡ true) l

  -- a version before a rolled-up name, or of it, is not after it
  name_skips : (v : VersionItem) (m : Octets) → Comes prefix delimiter version_key (entry v) (Common m) → (l : List VersionItem) → left (Common m) (v ∷ l) ≡ left (Common m) l
  name_skips v m c l = elim (is_before m v.key) as (λ t. is_before m v.key ≡ t → filter (passes_version (Some m)) (map entry (cond t (v ∷ greater m l) (greater m l))) ≡ left (Common m) l) [
    | true ↦ λ e. ap (λ t. cond t (entry v ∷ left (Common m) l) (left (Common m) l)) (missed (rolled prefix delimiter v.key) e c)
    | false ↦ λ e. refl
  ] refl
    where
      missed : (o : Option Octets) → is_before m v.key ≡ true → Comes prefix delimiter version_key (as_listed v o) (Common m) → passes_version (Some m) (as_listed v o) ≡ false
      missed None e c = absurd (true≢false (sym e ∙ before_back v.key m c))
      missed (Some n) e (inl is) = ap (is_before m) is ∙ before_self m
      missed (Some n) e (inr before) = before_back n m before

  skips : (v w : VersionItem) → Led v w → (l : List VersionItem) → left (entry w) (v ∷ l) ≡ left (entry w) l
  skips v w led = go (rolled prefix delimiter w.key) led.1
    where
      go : (o : Option Octets) → Comes prefix delimiter version_key (entry v) (as_listed w o) → (l : List VersionItem) → left (as_listed w o) (v ∷ l) ≡ left (as_listed w o) l
      go None c l = ap (λ r. filter (passes_version (Some w.key)) (map entry r)) (one_skips v w led.0 l)
      go (Some m) c l = name_skips v m c l

  skipped : (v : VersionItem) (l : List VersionItem) → AllByRecursion (Led v) l → AllByRecursion (λ w. (k : List VersionItem) → left (entry w) (v ∷ k) ≡ left (entry w) k) l
  skipped v [] all = tt
  skipped v (w ∷ l) all = (skips v w all.0, skipped v l all.1)

  -- of versions under the prefix those with a key greater than a name have an entry that is past it
  name_left : (n : Octets) (l : List VersionItem) → AreUnder l → left (Common n) l ≡ filter (past_name prefix delimiter version_key n) (map entry l)
  name_left n [] begun = refl
  name_left n (v ∷ l) begun = elim (is_before n v.key) as (λ t. is_before n v.key ≡ t → filter (passes_version (Some n)) (map entry (cond t (v ∷ greater n l) (greater n l))) ≡ cond (past (entry v)) (entry v ∷ filter past (map entry l)) (filter past (map entry l))) [
    | true ↦ λ e. λ i. cond (alike (rolled prefix delimiter v.key) e i) (entry v ∷ name_left n l begun.1 i) (name_left n l begun.1 i)
    | false ↦ λ e. name_left n l begun.1 ∙ ap (λ t. cond t (entry v ∷ filter past (map entry l)) (filter past (map entry l))) (sym (not_past (rolled prefix delimiter v.key) refl e))
  ] refl
    where
      past : Listed VersionItem → Bool
      past = past_name prefix delimiter version_key n

      alike : (o : Option Octets) → is_before n v.key ≡ true → passes_version (Some n) (as_listed v o) ≡ past (as_listed v o)
      alike None e = sym e
      alike (Some m) e = refl

      not_past : (o : Option Octets) → rolled prefix delimiter v.key ≡ o → is_before n v.key ≡ false → past (as_listed v o) ≡ false
      not_past None is e = e
      not_past (Some m) is e = elim (is_before n m) as (λ t. is_before n m ≡ t → t ≡ false) [
        | true ↦ λ h. absurd (true≢false (sym (before_upto n m v.key h (upto_begun m v.key (rolled_begins prefix delimiter v.key m begun.0 is))) ∙ e))
        | false ↦ λ _. refl
      ] refl

  passes_all : (v : VersionItem) (l : List VersionItem) → AllByRecursion (λ w. Follows v w × Comes prefix delimiter version_key (Single v) (entry w)) l → AllByRecursion (λ e. passes_version (Some v.key) e ≡ true) (map entry l)
  passes_all v [] all = tt
  passes_all v (w ∷ l) all = (go (rolled prefix delimiter w.key) all.0.1, passes_all v l all.1)
    where
      go : (o : Option Octets) → Comes prefix delimiter version_key (Single v) (as_listed w o) → passes_version (Some v.key) (as_listed w o) ≡ true
      go None c = refl
      go (Some m) c = c

  all_follow : (v : VersionItem) (e : Listed VersionItem) (l : List VersionItem) → AllByRecursion (λ w. Follows v w × Comes prefix delimiter version_key e (entry w)) l → AllByRecursion (Follows v) l
  all_follow v e l all = all_map (λ w h. h.0) l all

  pairs_follow : (l : List VersionItem) → Pairs Led l → Pairs Follows l
  pairs_follow [] up = tt
  pairs_follow (v ∷ l) up = (all_follow v (entry v) l up.0, pairs_follow l up.1)

  here : (v : VersionItem) (l : List VersionItem) → AllByRecursion (Led v) l → Pairs Led l → AreUnder l → merged None (left (entry v) (v ∷ l)) ≡ merged (so_far (entry v)) (map entry l)
  here v l all up begun = go (rolled prefix delimiter v.key) refl all
    where
      go : (o : Option Octets) → rolled prefix delimiter v.key ≡ o → AllByRecursion (λ w. Follows v w × Comes prefix delimiter version_key (as_listed v o) (entry w)) l
          → merged None (left (as_listed v o) (v ∷ l)) ≡ merged (so_far (as_listed v o)) (map entry l)
      go None is all =
          ap (λ r. merged None (filter (passes_version (Some v.key)) (map entry r))) (one_here v l (all_follow v (Single v) l all) (pairs_follow l up))
          ∙ ap (merged None) (filter_whole (passes_version (Some v.key)) (map entry l) (passes_all v l all))
      go (Some n) is all =
          ap (merged None) (name_skips v n (subst (λ o. Comes prefix delimiter version_key (as_listed v o) (Common n)) (sym is) (inl refl)) l ∙ name_left n l begun)
          ∙ after_rolled prefix delimiter version_key Follows v n l up all

  led_versions : (l : List VersionItem) → Pairs Led l → AreUnder l → Resumes entry left l
  led_versions [] up begun = tt
  led_versions (v ∷ l) up begun = ((skipped v l up.0, here v l up.0 up.1 begun.1), led_versions l up.1 begun.1)

  -- ---- the pages

  module _ (items : List VersionItem) (up : Pairs Follows items) where
    abbrev listing : Option VersionPlace → List (Listed VersionItem)
    listing marker = entries_after prefix delimiter version_key (passes_version (key_of marker)) (versions_after marker items)

    at_entry : (e : Listed VersionItem) → listing (version_marked e) ≡ merged None (left e (under prefix delimiter version_key items))
    at_entry e = ap (λ l. merged None (filter (passes_version (key_of (version_marked e))) (map entry l))) (after_through (begins prefix) (version_marked e) items)

    chained_listing : (sizes : List ℕ) → AllByRecursion (λ m. 1 ≤ m) sizes → chained version_marked (λ m marker. paged m (listing marker)) sizes None ≡ take (total sizes) (listing None)
    chained_listing =
        chain_entries entry left version_marked listing (under prefix delimiter version_key items)
        (led_versions (under prefix delimiter version_key items) (leads prefix delimiter version_key Follows (λ v w h. key_up v w h) items up) (filter_passes (λ (v : VersionItem). begins prefix v.key) items))
        None (ap (merged None) (keep_all (map entry (under prefix delimiter version_key items)))) at_entry

-- ---- the versions of a bucket's keys

abbrev IsOther : Entry → Entry → Type 0
IsOther e f = same_id e.id f.id ≡ false

none_have : (p : Entry → Bool) (l : List Entry) → length (filter p l) ≤ 0 → AllByRecursion (λ e. p e ≡ false) l
none_have p [] few = tt
none_have p (e ∷ l) few = let it = go (p e) few in (it.0, none_have p l it.1)
  where
    go : (t : Bool) → length (cond t (e ∷ filter p l) (filter p l)) ≤ 0 → (t ≡ false) × (length (filter p l) ≤ 0)
    go true few = absurd (omega (arith, few))
    go false few = (refl, few)

own_ids : (es : List Entry) → HaveOwnIds es → Pairs IsOther es
own_ids [] one = tt
own_ids (e ∷ es) one = (all_map (λ (f : Entry) h. id_back e.id f.id ∙ h) es (none_have (has_id e.id) es (head (has_id e.id e) (id_self e.id) (one e.id))), own_ids es (λ id. tail (has_id id) (has_id id e) (one id)))
  where
    head : (t : Bool) → t ≡ true → length (cond t (e ∷ filter (has_id e.id) es) (filter (has_id e.id) es)) ≤ 1 → length (filter (has_id e.id) es) ≤ 0
    head true is h = omega (arith, h)
    head false is h = absurd (true≢false (sym is))

    tail : (p : Entry → Bool) (t : Bool) → length (cond t (e ∷ filter p es) (filter p es)) ≤ 1 → length (filter p es) ≤ 1
    tail p true h = omega (arith, h)
    tail p false h = h

one_key : (key : Octets) (es : List Entry) → Pairs IsOther es → Pairs Follows (versions_of key es)
one_key key [] up = tt
one_key key (e ∷ es) up = (each true e es up.0, older es up.1)
  where
    each : (latest : Bool) (e : Entry) (l : List Entry) → AllByRecursion (IsOther e) l → AllByRecursion (Follows (version_item key latest e)) (map (version_item key false) l)
    each latest e [] all = tt
    each latest e (f ∷ l) all = (inr (refl, all.0), each latest e l all.1)

    older : (l : List Entry) → Pairs IsOther l → Pairs Follows (map (version_item key false) l)
    older [] up = tt
    older (f ∷ l) up = (each false f l up.0, older l up.1)

all_of_key : (P : VersionItem → Type 0) (key : Octets) → ((latest : Bool) (e : Entry) → P (version_item key latest e)) → (es : List Entry) → AllByRecursion P (versions_of key es)
all_of_key P key has [] = tt
all_of_key P key has (e ∷ es) = (has true e, older es)
  where
    older : (l : List Entry) → AllByRecursion P (map (version_item key false) l)
    older [] = tt
    older (f ∷ l) = (has false f, older l)

versions_above : (k : Octets × List Entry) (keys : List (Octets × List Entry)) → AllByRecursion (Rises octets_cmp k) keys → AllByRecursion (λ (v : VersionItem). is_before k.0 v.key ≡ true) (all_versions keys)
versions_above k [] all = tt
versions_above k (j ∷ keys) all =
    all_append Follows (λ (v : VersionItem). is_before k.0 v.key ≡ true) (versions_of j.0 j.1) (all_versions keys) (all_of_key (λ (v : VersionItem). is_before k.0 v.key ≡ true) j.0 (λ latest e. all.0) j.1) (versions_above k keys all.1)

versions_ascend : (keys : List (Octets × List Entry)) → Pairs (Rises octets_cmp) keys → AllByRecursion (λ (k : Octets × List Entry). HaveOwnIds k.1) keys → Pairs Follows (all_versions keys)
versions_ascend [] up ids = tt
versions_ascend (k ∷ keys) up ids =
    pairs_append Follows (versions_of k.0 k.1) (all_versions keys) (one_key k.0 k.1 (own_ids k.1 ids.0)) (versions_ascend keys up.1 ids.1)
    (all_of_key (λ v. AllByRecursion (Follows v) (all_versions keys)) k.0 (λ latest e. all_map (λ w h. inl h) (all_versions keys) (versions_above k keys up.0)) k.1)

-- what holds of each value of a map holds of each of its entries
each_entry : {X : Type 0} (P : X → Type 0) (es : List (Octets × X)) → T (is_sorted octets_cmp es) → ((q : Octets) (x : X) → find octets_cmp q es ≡ Some x → P x) → AllByRecursion (λ e. P e.1) es
each_entry P [] up all = tt
each_entry {X = X} P (e ∷ es) up all = (
  all e.0 e.1 (ap (λ t. cond t (Some e.1) (find octets_cmp e.0 es)) (same_self e.0)),
  each_entry P es (pairs.right (below_all octets_cmp e.0 es) (is_sorted octets_cmp es) up) (λ q x there. all q x (ap (λ t. cond t (Some e.1) (find octets_cmp q es)) (apart q x there) ∙ there)),
)
  where
    apart : (q : Octets) (x : X) → find octets_cmp q es ≡ Some x → eq_by_cmp octets_cmp q e.0 ≡ false
    apart q x there = elim (eq_by_cmp octets_cmp q e.0) as (λ t. eq_by_cmp octets_cmp q e.0 ≡ t → t ≡ false) [
      | true ↦ λ here.
          let below : T (below_all octets_cmp q es) = subst (λ k. T (below_all octets_cmp k es)) (sym (octets_same q e.0 ((Equal-is _).0 here))) (pairs.left (below_all octets_cmp e.0 es) (is_sorted octets_cmp es) up) in
          absurd (none-some x (sym (find_below octets_cmp q es below) ∙ there))
      | false ↦ λ here. refl
    ] refl

pub versions_chain : VersionsChain
versions_chain prefix delimiter t name b sizes numbered here =
    let objects = b.objects in
    let ids : AllByRecursion (λ (k : Octets × List Entry). HaveOwnIds k.1) (entries objects)
    = each_entry HaveOwnIds (entries objects) (entries_sorted objects) (λ key versions there. (numbered name b here key versions (get-entries objects key ∙ there)).own) in
    chained_listing prefix delimiter (all_versions (entries objects)) (versions_ascend (entries objects) (sorted_pairs octets_cmp (entries objects) (entries_sorted objects)) ids) sizes
