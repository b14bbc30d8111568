-- A bucket's rows in the order of a listing of versions: each before the next, what a chunk is of those under a prefix, and
-- the bucket's map.
use Rattle.std.proofs.Common.{◌≡◌, ℕ, zero, suc, pos, ◌≤◌, int_lt, Bool, true, false, true≢false, cond, ◌&&◌, List, [], ◌∷◌, ◌++◌, length, map, filter, take, Some, None, refl, sym, ap, subst, ◌∙◌, arith, Ordering, Less, Equal, Greater, int_cmp}
use Rattle.std.specs.List.{AllByRecursion}
use Rattle.std.specs.FinMap.{entries}
use Rattle.std.specs.Ordering.{is_lt, is_gt, is_eq, ordering_then}
use Rattle.std.proofs.lemmas.List.{map-append}
use Rattle.std.proofs.lemmas.Int.{ints}
use Rattle.sqlite_trees.specs.Tree.{IsAscending}
use Rattle.sqlite_keyed.specs.Lists.{sort_by}
use Rattle.sqlite_keyed.proofs.ListLemmas.{filter-map}
use Rattle.sqlite_typed.specs.Tests.{bytes_eq, bytes_lt}
use Rattle.bh_model.specs.State.{Octets, Entry}
use Rattle.bh_model.specs.Pages.{VersionItem, begins, is_upto, same, stored_in, version_item, all_versions}
use Rattle.bh_tables.specs.Typed.{VersionRow}
use Rattle.bh_view.specs.Grouped.{matching, same_number, HasUnique}
use Rattle.bh_view.specs.View.{entry_of, content_of, objects_of}
use Rattle.bh_view.proofs.Keys.{octets}
use Rattle.bh_view.proofs.GroupListingLemmas.{flat}
use Rattle.bh_view.proofs.SortLemmas.{AtMost, sort_by-filter}
use Rattle.bh_view.proofs.VersionListing.{versions_listed}
use Rattle.bh_pages.specs.Gathered.{past_name}
use Rattle.bh_pages.specs.Versions.{Numbered, row_key, spot, is_from, is_older, at_key, items_next, stored_of}
use Rattle.bh_pages.proofs.Bytes.{upto_trans, same_is}
use Rattle.bh_pages.proofs.Keyed.{AreApart}
use Rattle.bh_pages.specs.Versions.{IsStrict}
use Rattle.bh_pages.proofs.VersionRows.{precedes, filter_same, filter_twice}
use Rattle.bh_pages.proofs.VersionLists.{marked, items_marked, flat_items, keys_marked}
use Rattle.bh_listing.specs.Rows.{version_order, is_listed, listed_rows, AreSmallKeys}
use Rattle.bh_listing.specs.Versions.{is_older_of, older_rows, row_numbered, own_rows}
use Rattle.bh_listing.proofs.RowLemmas.{take_map}
use Rattle.bh_listing.proofs.ListLemmas.{order_total}
use Rattle.bh_listing.proofs.Viewed.{range_is}

-- ---- each row stands before the next

less_of : (o : Ordering) → is_gt o ≡ false → is_eq o ≡ false → is_lt o ≡ true
less_of Less h k = refl
less_of Equal h k = absurd (true≢false k)
less_of Greater h k = absurd (true≢false h)

both_equal : (a b : Ordering) → is_eq b ≡ false → is_eq (ordering_then a b) ≡ false
both_equal Less b h = refl
both_equal Equal b h = h
both_equal Greater b h = refl

itself : (n : ℕ) → same_number n n ≡ true
itself n = grind (arith, ints)

abbrev numbered_as : ℕ → List VersionRow → List VersionRow
numbered_as = matching same_number (λ (v : VersionRow). v.seq)

unique_tail : (v : VersionRow) (l : List VersionRow) → HasUnique same_number (λ (v : VersionRow). v.seq) (v ∷ l) → HasUnique same_number (λ (v : VersionRow). v.seq) l
unique_tail v l one k = go (same_number v.seq k) (one k)
  where
    go : (t : Bool) → length (cond t (v ∷ numbered_as k l) (numbered_as k l)) ≤ 1 → length (numbered_as k l) ≤ 1
    go true h = omega (arith, h)
    go false h = h

empty_of : {X : Type 0} (l : List X) → suc (length l) ≤ 1 → l ≡ []
empty_of [] h = refl
empty_of (x ∷ l) h = absurd (omega (arith, h))

none_as : (n : ℕ) (l : List VersionRow) → numbered_as n l ≡ [] → AllByRecursion (λ (w : VersionRow). same_number w.seq n ≡ false) l
none_as n [] h = tt
none_as n (w ∷ l) h = go (same_number w.seq n) refl h (λ k. none_as n l k)
  where
    cons_none : {X : Type 0} {x : X} {l : List X} → x ∷ l ≡ [] → ⊥
    cons_none h = cc

    go : (t : Bool) → same_number w.seq n ≡ t → cond t (w ∷ numbered_as n l) (numbered_as n l) ≡ [] → (numbered_as n l ≡ [] → AllByRecursion (λ (w : VersionRow). same_number w.seq n ≡ false) l)
        → (same_number w.seq n ≡ false) × AllByRecursion (λ (w : VersionRow). same_number w.seq n ≡ false) l
    go true e h more = absurd (cons_none h)
    go false e h more = (e, more h)

head_alone : (v : VersionRow) (l : List VersionRow) → HasUnique same_number (λ (v : VersionRow). v.seq) (v ∷ l) → AllByRecursion (λ (w : VersionRow). same_number w.seq v.seq ≡ false) l
head_alone v l one = none_as v.seq l (empty_of (numbered_as v.seq l) (subst (λ t. length (cond t (v ∷ numbered_as v.seq l) (numbered_as v.seq l)) ≤ 1) (itself v.seq) (one v.seq)))

pub strict_rows : (l : List VersionRow) → IsAscending (AtMost version_order) l → HasUnique same_number (λ (v : VersionRow). v.seq) l → IsStrict (map row_numbered l)
strict_rows [] up one = tt
strict_rows (v ∷ l) up one = (each l up.0 (head_alone v l one), strict_rows l up.1 (unique_tail v l one))
  where
    each : (k : List VersionRow) → AllByRecursion (AtMost version_order v) k → AllByRecursion (λ (w : VersionRow). same_number w.seq v.seq ≡ false) k → AllByRecursion (λ s. precedes (spot (row_numbered v)) (spot s) ≡ true) (map row_numbered k)
    each [] all apart = tt
    each (w ∷ k) all apart = (less_of (version_order v w) all.0 (both_equal _ (int_cmp (pos w.seq) (pos v.seq)) apart.0), each k all.1 apart.1)

-- ---- a chunk

module _ (tenant bucket : Octets) (versions : List VersionRow) where
  abbrev is_own : VersionRow → Bool
  is_own v = bytes_eq v.tenant tenant && bytes_eq v.bucket bucket

  abbrev rows : List Numbered
  rows = own_rows tenant bucket versions

  -- the bucket's rows that pass a test, by a test of the tables
  pub rows_tested : (p : VersionRow → Bool) (q : Numbered → Bool) → AllByRecursion (λ (v : VersionRow). p v ≡ (is_own v && q (row_numbered v))) versions
      → map row_numbered (sort_by version_order (filter p versions)) ≡ filter q rows
  rows_tested p q all =
      ap (λ l. map row_numbered (sort_by version_order l)) (filter_same p (λ v. is_own v && q (row_numbered v)) versions all ∙ filter_twice is_own (λ v. q (row_numbered v)) versions)
      ∙ ap (map row_numbered) (sort_by-filter version_order order_total (λ v. q (row_numbered v)) (filter is_own versions))
      ∙ sym (filter-map q row_numbered (sort_by version_order (filter is_own versions)))

module _ (tenant bucket prefix : Octets) (versions : List VersionRow) (small : AreSmallKeys versions) where
  abbrev own : VersionRow → Bool
  own = is_own tenant bucket versions

  abbrev listed : List Numbered
  listed = rows tenant bucket versions

  abbrev under : List Numbered
  under = filter (λ r. begins prefix (row_key r)) listed

  abbrev from_key : Octets → Numbered → Bool
  from_key key r = begins prefix (row_key r) && is_upto key (row_key r)

  abbrev older_key : Octets → ℕ → Numbered → Bool
  older_key key seq r = begins prefix (row_key r) && is_older key seq r

  tests_from : (key : Octets) → is_upto prefix key ≡ true → (l : List VersionRow) → AreSmallKeys l
      → AllByRecursion (λ (v : VersionRow). is_listed tenant bucket key (past_name prefix) v ≡ (own v && from_key key (row_numbered v))) l
  tests_from key low [] few = tt
  tests_from key low (v ∷ l) few = (
    pure (bytes_eq v.tenant tenant) (bytes_eq v.bucket bucket) (is_upto key v.okey) (bytes_lt v.okey (past_name prefix)) (is_upto prefix v.okey) (begins prefix v.okey)
        (λ h. upto_trans prefix key v.okey low h) (range_is tenant bucket prefix v.okey few.0),
    tests_from key low l few.1,
  )
    where
      pure : (t b f u p g : Bool) → (f ≡ true → p ≡ true) → (p && u) ≡ g → (t && (b && (f && u))) ≡ ((t && b) && (g && f))
      pure t b f u p g h k = grind (arith, h, k)

  tests_older : (key : Octets) (seq : ℕ) → begins prefix key ≡ true → (l : List VersionRow) → AllByRecursion (λ (v : VersionRow). is_older_of tenant bucket key seq v ≡ (own v && older_key key seq (row_numbered v))) l
  tests_older key seq begun [] = tt
  tests_older key seq begun (v ∷ l) = (
    pure (bytes_eq v.tenant tenant) (bytes_eq v.bucket bucket) (same v.okey key) (int_lt (pos v.seq) (pos seq)) (begins prefix v.okey) (λ h. ap (begins prefix) (same_is v.okey key h) ∙ begun),
    tests_older key seq begun l,
  )
    where
      pure : (t b e u g : Bool) → (e ≡ true → g ≡ true) → (t && (b && (e && u))) ≡ ((t && b) && (g && (e && u)))
      pure t b e u g h = grind (arith, h)

  -- the rows from a key on
  pub chunk_from : (key : Octets) → is_upto prefix key ≡ true → (n : ℕ) → map row_numbered (listed_rows tenant bucket key (past_name prefix) n versions) ≡ take n (filter (is_from (at_key key)) under)
  chunk_from key low n =
      sym (take_map row_numbered n _) ∙ ap (take n) (rows_tested tenant bucket versions (is_listed tenant bucket key (past_name prefix)) (from_key key) (tests_from key low versions small) ∙ filter_twice (λ r. begins prefix (row_key r)) (is_from (at_key key)) listed)

  -- the older ones of a key
  pub chunk_older : (key : Octets) (seq : ℕ) → begins prefix key ≡ true → (n : ℕ) → map row_numbered (older_rows tenant bucket key seq n versions) ≡ take n (filter (is_older key seq) under)
  chunk_older key seq begun n =
      sym (take_map row_numbered n _) ∙ ap (take n) (rows_tested tenant bucket versions (is_older_of tenant bucket key seq) (older_key key seq) (tests_older key seq begun versions) ∙ filter_twice (λ r. begins prefix (row_key r)) (is_older key seq) listed)

-- ---- the bucket's map

item_is : (v : VersionRow) → v.size ≡ length v.bytes → version_item v.okey false (entry_of v) ≡ (row_numbered v).1
item_is v size = go v.marker
  where
    go : (n : ℕ) → ◌≡◌ {A = VersionItem} (record { key = v.okey; id = (entry_of v).id; moment = v.stamp; latest = false; object = stored_in (content_of n v) }) (record { key = v.okey; id = (entry_of v).id; moment = v.stamp; latest = false; object = stored_of n v.size v.checksum })
    go zero = λ i. record { key = v.okey; id = (entry_of v).id; moment = v.stamp; latest = false; object = Some (record { size = sym size i; checksum = v.checksum }) }
    go (suc n) = refl

abbrev pair_item : Octets × Entry → VersionItem
pair_item p = version_item p.0 false p.1

pair_items : (k : Octets) (es : List Entry) → map (version_item k false) es ≡ map pair_item (map {B = Octets × Entry} (λ (x : Entry). (k, x)) es)
pair_items k [] = refl
pair_items k (e ∷ es) = ap (λ l. version_item k false e ∷ l) (pair_items k es)

flat_are : (m : List (Octets × List Entry)) → flat_items m ≡ map pair_item (flat octets m)
flat_are [] = refl
flat_are (k ∷ m) = (λ i. pair_items k.0 k.1 i ++ flat_are m i) ∙ sym (map-append pair_item (map {B = Octets × Entry} (λ (x : Entry). (k.0, x)) k.1) (flat octets m))

items_are : (l : List VersionRow) → AllByRecursion (λ (v : VersionRow). v.size ≡ length v.bytes) l → map pair_item (map {B = Octets × Entry} (λ (v : VersionRow). (v.okey, entry_of v)) l) ≡ map (λ (r : Numbered). r.1) (map row_numbered l)
items_are [] sizes = refl
items_are (v ∷ l) sizes = λ i. item_is v sizes.0 i ∷ items_are l sizes.1 i

-- the versions of the bucket's map are those of the table's rows
pub versions_are : (own : List VersionRow) → AllByRecursion (λ (v : VersionRow). v.size ≡ length v.bytes) (sort_by version_order own) → AreApart (entries (objects_of own))
    → items_next None (map row_numbered (sort_by version_order own)) ≡ all_versions (entries (objects_of own))
versions_are own sizes apart =
    items_marked None (map row_numbered (sort_by version_order own))
    ∙ ap (marked None) (sym (flat_are (entries (objects_of own)) ∙ ap (map pair_item) (versions_listed own) ∙ items_are (sort_by version_order own) sizes))
    ∙ keys_marked None (entries (objects_of own)) (others (entries (objects_of own))) apart
  where
    others : (m : List (Octets × List Entry)) → AllByRecursion (λ (k : Octets × List Entry). false ≡ false) m
    others [] = tt
    others (k ∷ m) = (refl, others m)
