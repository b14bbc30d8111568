-- What a listing of uploads may show after a marker is what it may show from a place on.
use Rattle.std.proofs.Common.{◌≡◌, ℕ, ◌<◌, ◌^◌, min, nat_lt, Bool, true, false, true≢false, cond, ◌&&◌, ◌||◌, ◌==◌, List, [], ◌∷◌, map, filter, Option, Some, None, option_map, refl, sym, ap, ◌∙◌, arith, Ordering, Less, Equal, Greater}
use Rattle.std.specs.List.{AllByRecursion, starts_with}
use Rattle.std.specs.Ordering.{is_lt, is_le, is_eq, nat_cmp, ordering_then, ordering_reverse}
use Rattle.std.proofs.lemmas.Bool.Decides.{nat_tests}
use Rattle.std.proofs.lemmas.Cmp.{nat_list_cmp_total}
use Rattle.bh_types.specs.declared.id.UploadId.{UploadId}
use Rattle.bh_model.specs.State.{Octets, octets_cmp}
use Rattle.bh_model.specs.Pages.{Listed, Listed.Single, Listed.Common, UploadItem, UploadPlace, begins, is_upto, is_before, same, rolled, as_listed, merged, entry_of, is_later, passes_upload, entries_after}
use Rattle.bh_pages.specs.Gathered.{past_key, start_of}
use Rattle.bh_pages.specs.Seen.{token_of}
use Rattle.bh_pages.specs.Uploads.{is_from}
use Rattle.bh_pages.specs.Taken.{passes_name}
use Rattle.bh_pages.specs.Places.{Place, at_key, after_entry}
use Rattle.bh_pages.specs.declared.gathering.PageAsked.{PageAsked}
use Rattle.bh_pages.proofs.Bytes.{upto_begun, rolled_begins, same_is, some_same, none_some}
use Rattle.bh_pages.proofs.Before.{before_upto, past_is_after}
use Rattle.bh_pages.proofs.Filters.{all_map, filter_passes, filter_whole}
use Rattle.bh_upload_listing.specs.Places.{uploads_of_items, marked, place_by, listed_from}

-- ---- what a filter of a map leaves

module _ {X Y : Type 0} (f : X → Y) (p q : Y → Bool) (r : X → Bool) where
  -- each is left by both, or by none
  abbrev Agrees : X → Type 0
  Agrees x = p (f x) ≡ (r x && q (f x))

  filter_agrees : (l : List X) → AllByRecursion Agrees l → filter p (map f l) ≡ filter q (map f (filter r l))
  filter_agrees [] all = refl
  filter_agrees (x ∷ l) all =
      ap (λ t. cond t (f x ∷ filter p (map f l)) (filter p (map f l))) all.0
      ∙ elim (r x) as (λ t. cond (t && q (f x)) (f x ∷ filter p (map f l)) (filter p (map f l)) ≡ filter q (map f (cond t (x ∷ filter r l) (filter r l)))) [
        | true ↦ ap (λ k. cond (q (f x)) (f x ∷ k) k) (filter_agrees l all.1)
        | false ↦ filter_agrees l all.1
      ]

-- ---- an entry and its key

both_less : (a b : Ordering) → is_lt (ordering_then a b) ≡ (is_lt a || (is_eq a && is_lt b))
both_less Less b = refl
both_less Equal b = refl
both_less Greater b = refl

less_is : (m n : ℕ) → is_lt (nat_cmp m n) ≡ nat_lt m n
less_is m n = grind (arith, nat_tests)

not_less : (o : Ordering) → is_le o ≡ true → is_lt (ordering_reverse o) ≡ false
not_less Less h = refl
not_less Equal h = refl
not_less Greater h = absurd (true≢false (sym h))

module _ (prefix delimiter : Octets) where
  abbrev entry : UploadItem → Listed UploadItem
  entry = entry_of prefix delimiter (λ u. u.key)

  abbrev through : Option UploadPlace → Octets → Place → UploadItem → Type 0
  through marker k place u = passes_upload marker (entry u) ≡ (is_from place u && passes_name (Some k) (entry u))

  -- a name that a key is rolled up under is not after what the key is not after
  name_kept : (k p : Octets) (u : UploadItem) → begins prefix u.key ≡ true → rolled prefix delimiter u.key ≡ Some p → is_before k p ≡ true → is_before k u.key ≡ true
  name_kept k p u begun is h = before_upto k p u.key h (upto_begun p u.key (rolled_begins prefix delimiter u.key p begun is))

  common_agrees : (marker : UploadPlace) (k : Octets) (from : Bool) (u : UploadItem) (p : Octets) → marker.key ≡ k → begins prefix u.key ≡ true → rolled prefix delimiter u.key ≡ Some p → (is_before k u.key ≡ true → from ≡ true)
      → passes_upload (Some marker) (Common p) ≡ (from && passes_name {T = UploadItem} (Some k) (Common p))
  common_agrees marker k from u p at begun is later = go (is_before k p) refl
    where
      go : (t : Bool) → is_before k p ≡ t → is_before marker.key p ≡ (from && is_before k p)
      go true e = ap (λ z. is_before z p) at ∙ e ∙ sym (λ i. later (name_kept k p u begun is e) i && e i)
      go false e = ap (λ z. is_before z p) at ∙ e ∙ sym (ap (λ t. from && t) e ∙ pure from)
        where
          pure : (f : Bool) → (f && false) ≡ false
          pure f = grind arith

  -- what passes is what is from the place on, and of that the names that pass
  agrees : (marker : UploadPlace) (k : Octets) (place : Place) (u : UploadItem) → marker.key ≡ k → begins prefix u.key ≡ true → (is_before k u.key ≡ true → is_from place u ≡ true) → passes_upload (Some marker) (Single u) ≡ is_from place u
      → through (Some marker) k place u
  agrees marker k place u at begun later single = go (rolled prefix delimiter u.key) refl
    where
      go : (o : Option Octets) → rolled prefix delimiter u.key ≡ o → passes_upload (Some marker) (as_listed u o) ≡ (is_from place u && passes_name (Some k) (as_listed u o))
      go None is = single ∙ sym (pure (is_from place u))
        where
          pure : (f : Bool) → (f && true) ≡ f
          pure f = grind arith
      go (Some p) is = common_agrees marker k (is_from place u) u p at begun is later

  -- ---- the places that a page begins at

  first_of : (a b : Bool) → a ≡ true → (a || b) ≡ true
  first_of a b h = ap (λ t. t || b) h

  -- past all of the marker's key, where none of it passes
  past_all : (k : Octets) (upload : Option UploadId) (u : UploadItem) → begins prefix u.key ≡ true → (same k u.key && is_later upload u) ≡ false → through (Some (record { key = k; upload = upload })) k (at_key (past_key k)) u
  past_all k upload u begun none = agrees (record { key = k; upload = upload }) k (at_key (past_key k)) u refl begun (λ h. past_is_after k u.key ∙ h) (ap (λ t. is_before k u.key || t) none ∙ pure (is_before k u.key) ∙ sym (past_is_after k u.key))
    where
      pure : (f : Bool) → (f || false) ≡ f
      pure f = grind arith

  -- after one upload of the marker's key
  past_one : (k : Octets) (id : UploadId) (n : ℕ) (u : UploadItem) → begins prefix u.key ≡ true → nat_lt id.number u.id.number ≡ nat_lt n u.id.number → through (Some (record { key = k; upload = Some id })) k (after_entry k n) u
  past_one k id n u begun alike =
      let spot : is_from (after_entry k n) u ≡ (is_before k u.key || (same k u.key && nat_lt n u.id.number)) = both_less (octets_cmp k u.key) (nat_cmp n u.id.number) ∙ ap (λ t. is_before k u.key || (same k u.key && t)) (less_is n u.id.number) in
      agrees (record { key = k; upload = Some id }) k (after_entry k n) u refl begun (λ h. spot ∙ first_of (is_before k u.key) (same k u.key && nat_lt n u.id.number) h) (ap (λ t. is_before k u.key || (same k u.key && t)) alike ∙ sym spot)

  module _ (items : List UploadItem) where
    abbrev under : List UploadItem
    under = filter (λ u. begins prefix u.key) items

    abbrev listing : Option UploadPlace → List (Listed UploadItem)
    listing marker = entries_after prefix delimiter (λ (u : UploadItem). u.key) (passes_upload marker) items

    abbrev shown : Option Octets → Place → List (Listed UploadItem)
    shown token place = merged None (filter (passes_name token) (map entry (filter (is_from place) under)))

    begun : AllByRecursion (λ u. begins prefix u.key ≡ true) under
    begun = filter_passes (λ u. begins prefix u.key) items

    from_prefix : AllByRecursion (λ u. is_from (at_key prefix) u ≡ true) under
    from_prefix = all_map (λ u h. upto_begun prefix u.key h) under begun

    first_passes : (e : Listed UploadItem) → passes_upload None e ≡ passes_name None e
    first_passes e = refl

    -- with no marker
    pub start_first : listing None ≡ shown None (at_key prefix)
    start_first = ap (λ l. merged None (filter (passes_name None) (map entry l))) (sym (filter_whole (is_from (at_key prefix)) under from_prefix))

    less_of : (o : Ordering) → is_le o ≡ false → is_lt (ordering_reverse o) ≡ true
    less_of Less h = absurd (true≢false h)
    less_of Equal h = absurd (true≢false h)
    less_of Greater h = refl

    from_start : (k : Octets) → filter (is_from (at_key (start_of prefix (Some k)))) under ≡ filter (is_from (at_key (past_key k))) under
    from_start k = go (is_upto prefix k) refl
      where
        before : is_upto prefix k ≡ false → is_before k prefix ≡ true
        before e = ap is_lt (nat_list_cmp_total.antisymm k prefix) ∙ less_of (octets_cmp prefix k) e

        go : (t : Bool) → is_upto prefix k ≡ t → filter (is_from (at_key (cond t (past_key k) prefix))) under ≡ filter (is_from (at_key (past_key k))) under
        go true e = refl
        go false e =
            filter_whole (is_from (at_key prefix)) under from_prefix
            ∙ sym (filter_whole (is_from (at_key (past_key k))) under (all_map (λ u h. past_is_after k u.key ∙ before_upto k prefix u.key (before e) h) under from_prefix))

    module _ (k : Octets) (upload : Option UploadId) where
      abbrev marker : Option UploadPlace
      marker = Some (record { key = k; upload = upload })

      by_place : (place : Place) → AllByRecursion (λ u. through marker k place u) under → listing marker ≡ shown (Some k) place
      by_place place all = ap (merged None) (filter_agrees entry (passes_upload marker) (passes_name (Some k)) (is_from place) under all)

      -- after all that the marker's key has
      pub start_past : AllByRecursion (λ u. (same k u.key && is_later upload u) ≡ false) under → listing marker ≡ shown (Some k) (at_key (start_of prefix (Some k)))
      start_past none = by_place (at_key (past_key k)) (each under begun none) ∙ ap (λ l. merged None (filter (passes_name (Some k)) (map entry l))) (sym (from_start k))
        where
          each : (l : List UploadItem) → AllByRecursion (λ u. begins prefix u.key ≡ true) l → AllByRecursion (λ u. (same k u.key && is_later upload u) ≡ false) l → AllByRecursion (λ u. through marker k (at_key (past_key k)) u) l
          each [] b n = tt
          each (u ∷ l) b n = (past_all k upload u b.0 n.0, each l b.1 n.1)

    -- after one of its uploads
    pub start_one : (k : Octets) (id : UploadId) (n : ℕ) → AllByRecursion (λ (u : UploadItem). nat_lt id.number u.id.number ≡ nat_lt n u.id.number) under → listing (Some (record { key = k; upload = Some id })) ≡ shown (Some k) (after_entry k n)
    start_one k id n alike = by_place k (Some id) (after_entry k n) (each under begun alike)
      where
        each : (l : List UploadItem) → AllByRecursion (λ u. begins prefix u.key ≡ true) l → AllByRecursion (λ (u : UploadItem). nat_lt id.number u.id.number ≡ nat_lt n u.id.number) l → AllByRecursion (λ u. through (Some (record { key = k; upload = Some id })) k (after_entry k n) u) l
        each [] b a = tt
        each (u ∷ l) b a = (past_one k id n u b.0 a.0, each l b.1 a.1)

-- ---- the page that is asked for

small_alike : (id n : ℕ) → n < 2 ^ 62 → nat_lt id n ≡ nat_lt (min id (2 ^ 62)) n
small_alike id n h = grind (arith, nat_tests, h)

abbrev pub AreSmall : List UploadItem → Type 0
AreSmall items = AllByRecursion (λ (u : UploadItem). u.id.number < 2 ^ 62) items

module _ (asked : PageAsked) (upload : Option UploadId) (items : List UploadItem) (small : AreSmall items) where
  abbrev start : Octets
  start = asked.prefix.now

  abbrev below : List UploadItem
  below = filter (λ u. begins start u.key) items

  kept : (P : UploadItem → Type 0) (p : UploadItem → Bool) (l : List UploadItem) → AllByRecursion P l → AllByRecursion P (filter p l)
  kept P p [] all = tt
  kept P p (u ∷ l) all = elim (p u) as (λ t. AllByRecursion P (cond t (u ∷ filter p l) (filter p l))) [ true ↦ (all.0, kept P p l all.1) | false ↦ kept P p l all.1 ]

  and_no : (b : Bool) → (b && false) ≡ false
  and_no b = grind arith

  abbrev from_place : Option Octets → Option (Octets × ℕ) → Place
  from_place token None = at_key (start_of start token)
  from_place token (Some mark) = after_entry mark.0 mark.1

  abbrev place_of : Option Octets → Option UploadId → Option UploadPlace
  place_of token upload = option_map (λ k. record { key = k; upload = upload }) token

  -- what the page may show is what it may show from that place on
  pub begins_so : listed_from asked (place_by asked (marked start (token_of asked) upload)) items ≡ uploads_of_items asked upload items
  begins_so = by_token (token_of asked) upload
    where
      by_token : (token : Option Octets) (upload : Option UploadId) → shown start asked.delimiter.now items token (from_place token (marked start token upload)) ≡ listing start asked.delimiter.now items (place_of token upload)
      by_token None upload = sym (start_first start asked.delimiter.now items)
      by_token (Some k) None = sym (start_past start asked.delimiter.now items k None (all_map (λ u h. and_no (same k u.key)) below (begun start asked.delimiter.now items)))
      by_token (Some k) (Some id) = by_prefix (begins start k) refl
        where
          apart : begins start k ≡ false → (u : UploadItem) → begins start u.key ≡ true → same k u.key ≡ false
          apart e u h = elim (same k u.key) as (λ t. same k u.key ≡ t → t ≡ false) [ true ↦ λ s. absurd (true≢false (sym h ∙ ap (begins start) (sym (same_is k u.key s)) ∙ e)) | false ↦ λ _. refl ] refl

          by_prefix : (t : Bool) → begins start k ≡ t
              → shown start asked.delimiter.now items (Some k) (from_place (Some k) (cond {A = Option (Octets × ℕ)} t (Some (k, min id.number (2 ^ 62))) None)) ≡ listing start asked.delimiter.now items (Some (record { key = k; upload = Some id }))
          by_prefix true e = sym (start_one start asked.delimiter.now items k id (min id.number (2 ^ 62)) (all_map (λ u h. small_alike id.number u.id.number h) below (kept (λ (u : UploadItem). u.id.number < 2 ^ 62) (λ u. begins start u.key) items small)))
          by_prefix false e = sym (start_past start asked.delimiter.now items k (Some id) (all_map (λ u h. ap (λ t. t && is_later (Some id) u) (apart e u h)) below (begun start asked.delimiter.now items)))

-- ---- the mark of a marker

starts_begins : (p k : Octets) → starts_with ◌==◌ k p ≡ begins p k
starts_begins [] k = refl
starts_begins (b ∷ p) [] = refl
starts_begins (b ∷ p) (c ∷ k) = ap (λ t. (b == c) && t) (starts_begins p k)

pub marked_there : (prefix : Octets) (token : Option Octets) (upload : Option UploadId) (k : Octets) (id : UploadId) (n : ℕ) (test : Bool) → token ≡ Some k → upload ≡ Some id → test ≡ starts_with ◌==◌ k prefix → test ≡ true
    → n ≡ min id.number (2 ^ 62) → Some (k, n) ≡ marked prefix token upload
marked_there prefix token upload k id n test at is tested e number =
    ap (λ m. Some (k, m)) number
    ∙ sym ((λ i. marked prefix (at i) (is i)) ∙ ap (λ t. cond {A = Option (Octets × ℕ)} t (Some (k, min id.number (2 ^ 62))) None) (sym (starts_begins prefix k) ∙ sym tested ∙ e))

pub marked_away : (prefix : Octets) (token : Option Octets) (upload : Option UploadId) (k : Octets) (id : UploadId) (test : Bool) → token ≡ Some k → upload ≡ Some id → test ≡ starts_with ◌==◌ k prefix → test ≡ false
    → None ≡ marked prefix token upload
marked_away prefix token upload k id test at is tested e =
    sym ((λ i. marked prefix (at i) (is i)) ∙ ap (λ t. cond {A = Option (Octets × ℕ)} t (Some (k, min id.number (2 ^ 62))) None) (sym (starts_begins prefix k) ∙ sym tested ∙ e))

-- the key of a mark is under the prefix
pub mark_under : (prefix : Octets) (token : Option Octets) (upload : Option UploadId) (mark : Octets × ℕ) → Some mark ≡ marked prefix token upload → begins prefix mark.0 ≡ true
mark_under prefix None upload mark h = absurd (none_some (sym h))
mark_under prefix (Some k) None mark h = absurd (none_some (sym h))
mark_under prefix (Some k) (Some id) mark h = go (begins prefix k) refl h
  where
    go : (t : Bool) → begins prefix k ≡ t → Some mark ≡ cond {A = Option (Octets × ℕ)} t (Some (k, min id.number (2 ^ 62))) None → begins prefix mark.0 ≡ true
    go true e h = ap (λ (m : Octets × ℕ). begins prefix m.0) (some_same h) ∙ e
    go false e h = absurd (none_some (sym h))
