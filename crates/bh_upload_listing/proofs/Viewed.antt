-- A bucket's uploads in the order of a listing: each before the next, what a chunk is of those under a prefix, and the bucket's map.
use Rattle.std.proofs.Common.{◌≡◌, ℕ, pos, ◌<◌, ◌≤◌, ◌^◌, int_lt, nat_lt, Bool, true, false, true≢false, cond, ◌&&◌, ◌==◌, List, [], ◌∷◌, length, map, filter, take, Option, Some, None, refl, sym, ap, subst, ◌∙◌, arith, Ordering, Less, Equal, Greater, int_cmp, nat_cmp}
use Rattle.std.specs.List.{AllByRecursion}
use Rattle.std.specs.Cmp.{IsTotalOrder}
use Rattle.std.specs.FinMap.{entries}
use Rattle.std.specs.Ordering.{is_lt, is_gt, is_eq, ordering_then}
use Rattle.std.proofs.lemmas.Bool.Decides.{nat_tests}
use Rattle.std.proofs.lemmas.Cmp.{nat_list_cmp_total, int_cmp_total, on_total, then_total}
use Rattle.std.proofs.lemmas.Int.{ints}
use Rattle.std.proofs.lemmas.Simd.{map-map}
use Rattle.sqlite_trees.specs.Tree.{IsAscending}
use Rattle.sqlite_keyed.specs.Lists.{insert_sorted, sort_by}
use Rattle.sqlite_keyed.proofs.ListLemmas.{all-filter, filter-map}
use Rattle.sqlite_keyed.proofs.SortLemmas.{sort_by-map}
use Rattle.sqlite_typed.specs.Tests.{bytes_eq, bytes_lt}
use Rattle.bh_model.specs.State.{Octets, octets_cmp, State}
use Rattle.bh_model.specs.Pages.{UploadItem, begins, is_upto, same, upload_order, put_upload, in_key_order, upload_item, all_uploads}
use Rattle.bh_tables.specs.Shown.{is_upload_in, by_key}
use Rattle.bh_tables.specs.Typed.{UploadRow, PartRow, Tables}
use Rattle.bh_view.specs.Grouped.{matching, same_number, HasUnique}
use Rattle.bh_view.specs.Sound.{IsSound}
use Rattle.bh_view.specs.View.{rows_of, uploads_in, upload_shown, uploads_of, view}
use Rattle.bh_view.proofs.Keys.{numbers}
use Rattle.bh_view.proofs.ListingLemmas as listing
use Rattle.bh_view.proofs.PutLemmas.{counters_good}
use Rattle.bh_view.proofs.SortLemmas.{AtMost, all-sort_by, up-sort_by, sort_by-filter, sorted_single}
use Rattle.bh_view.proofs.TenantChanges.{absent_rows}
use Rattle.bh_view.proofs.UploadChanges.{uploads_below}
use Rattle.bh_pages.specs.Gathered.{past_name}
use Rattle.bh_pages.specs.Places as places
use Rattle.bh_pages.specs.Uploads.{upload_key, upload_number, is_from, is_behind, IsStrict}
use Rattle.bh_pages.specs.Places.{at_key}
use Rattle.bh_pages.proofs.Bytes.{upto_trans, same_is}
use Rattle.bh_pages.proofs.Filters.{all_map, filter_same, filter_swap, filter_twice}
use Rattle.bh_listing.proofs.RowLemmas.{take_map}
use Rattle.bh_listing.proofs.Small.{small_utf8}
use Rattle.bh_listing.proofs.Viewed.{range_is}
use Rattle.bh_listing.specs.Uploads.{is_listed, is_later_of, listed_rows, later_rows, row_item, own_items}
use Rattle.bh_upload_listing.proofs.Sorting.{AreApart, sorted_twice, AreOnce, once}
use Rattle.bh_upload_listing.proofs.Starting.{AreSmall}

-- ---- numbers as the store and as the machine compare them

pub lt_same : (m n : ℕ) → int_lt (pos m) (pos n) ≡ nat_lt m n
lt_same m n = grind (arith, ints, nat_tests)

pub number_order : (m n : ℕ) → int_cmp (pos m) (pos n) ≡ nat_cmp m n
number_order m n = ap (λ t. cond t Less (cond (int_lt (pos n) (pos m)) Greater Equal)) (lt_same m n) ∙ go (nat_lt m n) (m == n) refl refl
  where
    back : nat_lt m n ≡ false → (m == n) ≡ true → int_lt (pos n) (pos m) ≡ false
    back h k = grind (arith, ints, nat_tests, h, k)

    more : nat_lt m n ≡ false → (m == n) ≡ false → int_lt (pos n) (pos m) ≡ true
    more h k = grind (arith, ints, nat_tests, h, k)

    go : (a b : Bool) → nat_lt m n ≡ a → (m == n) ≡ b → cond a Less (cond (int_lt (pos n) (pos m)) Greater Equal) ≡ cond a Less (cond b Equal Greater)
    go true b e f = refl
    go false true e f = ap (λ t. cond t Greater Equal) (back e f)
    go false false e f = ap (λ t. cond t Greater Equal) (more e f)

pub less_is : (m n : ℕ) → is_lt (nat_cmp m n) ≡ int_lt (pos m) (pos n)
less_is m n = grind (arith, ints, nat_tests)

apart_numbers : (m n : ℕ) → same_number n m ≡ false → is_eq (nat_cmp m n) ≡ false
apart_numbers m n h = grind (arith, ints, nat_tests, h)

-- ---- the order of the rows is that of the items

pub row_total : IsTotalOrder by_key
row_total = then_total (on_total (λ (u : UploadRow). u.okey) nat_list_cmp_total) (on_total (λ (u : UploadRow). pos u.upload) int_cmp_total)

abbrev item_order : UploadRow → UploadRow → Ordering
item_order a b = upload_order (row_item a) (row_item b)

orders_are : by_key ≡ item_order
orders_are = λ i a b. ordering_then (octets_cmp a.okey b.okey) (number_order a.upload b.upload i)

less_of : (o : Ordering) → is_gt o ≡ false → is_eq o ≡ false → is_lt o ≡ true
less_of Less h k = refl
less_of Equal h k = absurd (true≢false k)
less_of Greater h k = absurd (true≢false h)

both_equal : (a b : Ordering) → is_eq b ≡ false → is_eq (ordering_then a b) ≡ false
both_equal Less b h = refl
both_equal Equal b h = h
both_equal Greater b h = refl

pub strict_rows : (l : List UploadRow) → IsAscending (AtMost by_key) l → AreOnce (λ (u : UploadRow). u.upload) l → IsStrict (map row_item l)
strict_rows [] up apart = tt
strict_rows (u ∷ l) up apart = (each l up.0 apart.0, strict_rows l up.1 apart.1)
  where
    each : (k : List UploadRow) → AllByRecursion (AtMost by_key u) k → AllByRecursion (λ (v : UploadRow). same_number v.upload u.upload ≡ false) k
        → AllByRecursion (λ s. places.precedes nat_cmp (u.okey, u.upload) (places.spot nat_cmp upload_key upload_number s) ≡ true) (map row_item k)
    each [] all once = tt
    each (v ∷ k) all once = (
      less_of (item_order u v) (ap (λ (o : UploadRow → UploadRow → Ordering). is_gt (o u v)) (sym orders_are) ∙ all.0) (both_equal (octets_cmp u.okey v.okey) _ (apart_numbers u.upload v.upload once.0)),
      each k all.1 once.1,
    )

-- ---- a chunk

all_matching : {X : Type 0} (P : X → Type 0) (p : X → Bool) (l : List X) → AllByRecursion P (filter p l) → AllByRecursion (λ x. p x ≡ true → P x) l
all_matching P p [] all = tt
all_matching P p (x ∷ l) all = go (p x) refl all (λ rest. all_matching P p l rest)
  where
    go : (t : Bool) → p x ≡ t → AllByRecursion P (cond t (x ∷ filter p l) (filter p l)) → (AllByRecursion P (filter p l) → AllByRecursion (λ x. p x ≡ true → P x) l) → (p x ≡ true → P x) × AllByRecursion (λ x. p x ≡ true → P x) l
    go true e all more = (λ _. all.0, more all.1)
    go false e all more = (λ h. absurd (true≢false (sym h ∙ e)), more all)

module _ (tenant bucket : Octets) (uploads : List UploadRow) where
  abbrev is_own : UploadRow → Bool
  is_own = is_upload_in tenant bucket

  -- the bucket's uploads that pass a test, by a test of the tables
  rows_tested : (p : UploadRow → Bool) (q : UploadItem → Bool) → AllByRecursion (λ (u : UploadRow). p u ≡ (is_own u && q (row_item u))) uploads
      → map row_item (sort_by by_key (filter p uploads)) ≡ filter q (own_items tenant bucket uploads)
  rows_tested p q all =
      ap (λ l. map row_item (sort_by by_key l)) (filter_same p (λ u. is_own u && q (row_item u)) uploads all ∙ filter_twice is_own (λ u. q (row_item u)) uploads)
      ∙ ap (map row_item) (sort_by-filter by_key row_total (λ u. q (row_item u)) (filter is_own uploads))
      ∙ sym (filter-map q row_item (sort_by by_key (filter is_own uploads)))

  -- no key of the bucket has a byte of 255
  abbrev pub AreSmallKeys : Type 0
  AreSmallKeys = AllByRecursion (λ (u : UploadRow). is_own u ≡ true → AllByRecursion (λ b. b < 255) u.okey) uploads

  module _ (prefix : Octets) (small : AreSmallKeys) where
    abbrev under : List UploadItem
    under = filter (λ u. begins prefix u.key) (own_items tenant bucket uploads)

    abbrev from_key : Octets → UploadItem → Bool
    from_key key u = begins prefix u.key && is_upto key u.key

    abbrev later_key : Octets → ℕ → UploadItem → Bool
    later_key key n u = begins prefix u.key && is_behind key n u

    tests_from : (key : Octets) → is_upto prefix key ≡ true → (l : List UploadRow) → AllByRecursion (λ (u : UploadRow). is_own u ≡ true → AllByRecursion (λ b. b < 255) u.okey) l
        → AllByRecursion (λ (u : UploadRow). is_listed tenant bucket key (past_name prefix) u ≡ (is_own u && from_key key (row_item u))) l
    tests_from key low [] few = tt
    tests_from key low (u ∷ l) few = (go (bytes_eq u.tenant tenant) (bytes_eq u.bucket bucket) few.0, tests_from key low l few.1)
      where
        inside : (f v p g : Bool) → (f ≡ true → p ≡ true) → (p && v) ≡ g → (f && v) ≡ (g && f)
        inside f v p g h k = grind (arith, h, k)

        go : (t b : Bool) → ((t && b) ≡ true → AllByRecursion (λ b. b < 255) u.okey) → (t && (b && (is_upto key u.okey && bytes_lt u.okey (past_name prefix)))) ≡ ((t && b) && from_key key (row_item u))
        go true true fine = inside (is_upto key u.okey) (bytes_lt u.okey (past_name prefix)) (is_upto prefix u.okey) (begins prefix u.okey) (λ h. upto_trans prefix key u.okey low h) (range_is tenant bucket prefix u.okey (fine refl))
        go true false fine = refl
        go false b fine = refl

    tests_later : (key : Octets) (n : ℕ) → begins prefix key ≡ true → (l : List UploadRow) → AllByRecursion (λ (u : UploadRow). is_later_of tenant bucket key n u ≡ (is_own u && later_key key n (row_item u))) l
    tests_later key n begun [] = tt
    tests_later key n begun (u ∷ l) = (
      pure (bytes_eq u.tenant tenant) (bytes_eq u.bucket bucket) (same u.okey key) (int_lt (pos n) (pos u.upload)) (begins prefix u.okey) (λ h. ap (begins prefix) (same_is u.okey key h) ∙ begun)
          ∙ ap (λ t. is_own u && (begins prefix u.okey && (same u.okey key && t))) (sym (less_is n u.upload)),
      tests_later key n begun l,
    )
      where
        pure : (t b e v g : Bool) → (e ≡ true → g ≡ true) → (t && (b && (e && v))) ≡ ((t && b) && (g && (e && v)))
        pure t b e v g h = grind (arith, h)

    -- the uploads from a key on
    pub chunk_from : (key : Octets) → is_upto prefix key ≡ true → (n : ℕ) → map row_item (listed_rows tenant bucket key (past_name prefix) n uploads) ≡ take n (filter (is_from (at_key key)) under)
    chunk_from key low n =
        sym (take_map row_item n _)
        ∙ ap (take n) (rows_tested (is_listed tenant bucket key (past_name prefix)) (from_key key) (tests_from key low uploads small) ∙ filter_twice (λ u. begins prefix u.key) (is_from (at_key key)) (own_items tenant bucket uploads))

    -- the later ones of a key
    pub chunk_later : (key : Octets) (m : ℕ) → begins prefix key ≡ true → (n : ℕ) → map row_item (later_rows tenant bucket key m n uploads) ≡ take n (filter (is_behind key m) under)
    chunk_later key m begun n =
        sym (take_map row_item n _)
        ∙ ap (take n) (rows_tested (is_later_of tenant bucket key m) (later_key key m) (tests_later key m begun uploads) ∙ filter_twice (λ u. begins prefix u.key) (is_behind key m) (own_items tenant bucket uploads))

-- ---- the bucket's map

put_same : (u : UploadItem) (l : List UploadItem) → put_upload u l ≡ insert_sorted upload_order u l
put_same u [] = refl
put_same u (v ∷ l) = ap (λ k. cond (is_gt (upload_order u v)) (v ∷ k) (u ∷ v ∷ l)) (put_same u l)

in_order_is : (l : List UploadItem) → in_key_order l ≡ sort_by upload_order l
in_order_is [] = refl
in_order_is (u ∷ l) = ap (put_upload u) (in_order_is l) ∙ put_same u (sort_by upload_order l)

apart_rows : (l : List UploadRow) → AreOnce (λ (u : UploadRow). u.upload) l → AreApart by_key row_total item_order l
apart_rows [] once = tt
apart_rows (u ∷ l) once = (each l once.0, apart_rows l once.1)
  where
    each : (k : List UploadRow) → AllByRecursion (λ (v : UploadRow). same_number v.upload u.upload ≡ false) k → AllByRecursion (λ (v : UploadRow). is_eq (by_key u v) ≡ false) k
    each [] all = tt
    each (v ∷ k) all = (both_equal (octets_cmp u.okey v.okey) _ (ap is_eq (number_order u.upload v.upload) ∙ apart_numbers u.upload v.upload all.0), each k all.1)

-- the uploads of the bucket's map are those of the table's rows
pub uploads_are : (parts : List PartRow) (own : List UploadRow) → HasUnique same_number (λ (u : UploadRow). u.upload) own → all_uploads (entries (uploads_of parts own)) ≡ map row_item (sort_by by_key own)
uploads_are parts own one =
    let by_number = listing.by_key numbers (λ (u : UploadRow). u.upload) (upload_shown parts) in
    let pair = listing.shown_pair numbers (λ (u : UploadRow). u.upload) (upload_shown parts) in
    ap (λ l. in_key_order (map upload_item l)) (listing.entries-keyed numbers (λ (u : UploadRow). u.upload) (upload_shown parts) own one)
    ∙ ap in_key_order (map-map upload_item pair (sort_by by_number own))
    ∙ in_order_is (map row_item (sort_by by_number own))
    ∙ sort_by-map upload_order row_item (sort_by by_number own)
    ∙ ap (λ (o : UploadRow → UploadRow → Ordering). map row_item (sort_by o (sort_by by_number own))) (sym orders_are)
    ∙ ap (map row_item) (sorted_twice by_key row_total by_number own (apart_rows own (once (λ (u : UploadRow). u.upload) own one)))

-- ---- what sound tables say of a bucket's uploads

short_filter : {X : Type 0} (p : X → Bool) (l : List X) → length l ≤ 1 → length (filter p l) ≤ 1
short_filter p [] short = short
short_filter p (x ∷ []) short = elim (p x) as (λ t. length (cond t (x ∷ []) []) ≤ 1) [ true ↦ short | false ↦ omega arith ]
short_filter p (x ∷ y ∷ l) short = absurd (omega (arith, short))

module _ (tables : Tables) (t b : Octets) (sound : IsSound tables) where
  abbrev pub own : List UploadRow
  own = uploads_in b (rows_of t tables).uploads

  pub own_is : own_items t b tables.uploads ≡ map row_item (sort_by by_key own)
  own_is = ap (λ l. map row_item (sort_by by_key l)) (filter_twice (λ (u : UploadRow). bytes_eq u.tenant t) (λ (u : UploadRow). bytes_eq u.bucket b) tables.uploads)

  pub one_number : HasUnique same_number (λ (u : UploadRow). u.upload) own
  one_number k = subst (λ l. length l ≤ 1) (filter_swap (λ (u : UploadRow). bytes_eq u.bucket b) (λ u. same_number u.upload k) (rows_of t tables).uploads)
      (short_filter (λ (u : UploadRow). bytes_eq u.bucket b) (matching same_number (λ (u : UploadRow). u.upload) k (rows_of t tables).uploads) ((sound.tenants t).uploads.one k))

  one_sorted : HasUnique same_number (λ (u : UploadRow). u.upload) (sort_by by_key own)
  one_sorted k = subst (λ l. length l ≤ 1) (sym (sym (sort_by-filter by_key row_total (λ u. same_number u.upload k) own) ∙ sorted_single by_key (filter (λ u. same_number u.upload k) own) (one_number k))) (one_number k)

  pub own_strict : IsStrict (own_items t b tables.uploads)
  own_strict = subst IsStrict (sym own_is) (strict_rows (sort_by by_key own) (up-sort_by by_key row_total own) (once (λ (u : UploadRow). u.upload) (sort_by by_key own) one_sorted))

  pub small_keys : AreSmallKeys t b tables.uploads
  small_keys =
      all_matching (λ (u : UploadRow). AllByRecursion (λ b. b < 255) u.okey) (is_upload_in t b) tables.uploads
      (subst (AllByRecursion (λ (u : UploadRow). AllByRecursion (λ b. b < 255) u.okey)) (sym (filter_twice (λ (u : UploadRow). bytes_eq u.tenant t) (λ (u : UploadRow). bytes_eq u.bucket b) tables.uploads))
      (all-filter (λ (u : UploadRow). AllByRecursion (λ b. b < 255) u.okey) (λ (u : UploadRow). bytes_eq u.bucket b) (rows_of t tables).uploads
      (all_map (λ u good. small_utf8 u.okey good.text) (rows_of t tables).uploads (sound.tenants t).uploads.each)))

  -- no number is one that no counter gives
  low_numbers : AllByRecursion (λ (u : UploadRow). u.upload < 2 ^ 62) (rows_of t tables).uploads
  low_numbers = go (view tables t) refl
    where
      go : (o : Option State) → view tables t ≡ o → AllByRecursion (λ (u : UploadRow). u.upload < 2 ^ 62) (rows_of t tables).uploads
      go None is = subst (λ r. AllByRecursion (λ (u : UploadRow). u.upload < 2 ^ 62) r) (sym (ap (λ r. r.uploads) (absent_rows tables t sound is))) tt
      go (Some s) is = let most = (counters_good tables t s sound is).1.1 in all_map (λ u less. omega (arith, less, most)) (rows_of t tables).uploads (uploads_below tables t s sound is)

  pub small_numbers : AreSmall (own_items t b tables.uploads)
  small_numbers = subst AreSmall (sym own_is) (items (sort_by by_key own) (all-sort_by by_key (λ (u : UploadRow). u.upload < 2 ^ 62) own (all-filter (λ (u : UploadRow). u.upload < 2 ^ 62) (λ (u : UploadRow). bytes_eq u.bucket b) (rows_of t tables).uploads low_numbers)))
    where
      items : (l : List UploadRow) → AllByRecursion (λ (u : UploadRow). u.upload < 2 ^ 62) l → AreSmall (map row_item l)
      items [] all = tt
      items (u ∷ l) all = (all.0, items l all.1)

  -- no key of an item has a byte of 255
  pub small_items : AllByRecursion (λ (u : UploadItem). AllByRecursion (λ b. b < 255) u.key) (own_items t b tables.uploads)
  small_items = subst (AllByRecursion (λ (u : UploadItem). AllByRecursion (λ b. b < 255) u.key)) (sym own_is)
      (items (sort_by by_key own) (all-sort_by by_key (λ (u : UploadRow). AllByRecursion (λ b. b < 255) u.okey) own (all-filter (λ (u : UploadRow). AllByRecursion (λ b. b < 255) u.okey) (λ (u : UploadRow). bytes_eq u.bucket b) (rows_of t tables).uploads
      (all_map (λ u good. small_utf8 u.okey good.text) (rows_of t tables).uploads (sound.tenants t).uploads.each))))
    where
      items : (l : List UploadRow) → AllByRecursion (λ (u : UploadRow). AllByRecursion (λ b. b < 255) u.okey) l → AllByRecursion (λ (u : UploadItem). AllByRecursion (λ b. b < 255) u.key) (map row_item l)
      items [] all = tt
      items (u ∷ l) all = (all.0, items l all.1)
