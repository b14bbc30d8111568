-- The rows that a listing reads are those of the bucket's map.
use Rattle.std.proofs.Common.{◌≡◌, ℕ, zero, suc, ◌<◌, Bool, true, false, true≢false, cond, ◌&&◌, List, [], ◌∷◌, ◌++◌, length, map, filter, Option, Some, refl, sym, ap, ◌∙◌, Ordering, Less, Equal, Greater}
use Rattle.std.specs.List.{AllByRecursion}
use Rattle.std.specs.FinMap.{entries}
use Rattle.std.proofs.lemmas.List.{map-append}
use Rattle.sqlite_keyed.specs.Lists.{sort_by}
use Rattle.std.specs.Ordering.{is_lt, is_le, ordering_reverse}
use Rattle.std.proofs.lemmas.Cmp.{nat_list_cmp_total}
use Rattle.sqlite_typed.specs.Tests.{bytes_cmp, bytes_eq, bytes_le, bytes_lt}
use Rattle.bh_model.specs.State.{Octets, Entry}
use Rattle.bh_tables.specs.Typed.{VersionRow}
use Rattle.bh_view.specs.View.{entry_of, content_of, objects_of, in_bucket}
use Rattle.bh_view.specs.Grouped.{matching}
use Rattle.bh_view.proofs.Keys.{octets}
use Rattle.bh_view.proofs.GroupListingLemmas.{flat}
use Rattle.bh_view.proofs.VersionListing.{versions_listed}
use Rattle.bh_view.proofs.SortLemmas.{sort_by-filter}
use Rattle.bh_model.specs.Pages.{Listed, begins, after_name, entries_after, ObjectItem, object_of, objects_in}
use Rattle.bh_pages.specs.Gathered.{past_name, to_come, nothing_gathered}
use Rattle.bh_pages.proofs.Bytes.{upto_begun, before_past_name, begins_between}
use Rattle.bh_pages.proofs.Defined.{listed_as_defined}
use Rattle.bh_pages.specs.Seen.{Shown, item_of, item_in}
use Rattle.bh_pages.proofs.Keyed.{shown_entry, rows_of, AreApart}
use Rattle.bh_listing.specs.Rows.{version_order, row_shown, is_listed, bucket_rows, AreSmallKeys}
use Rattle.bh_listing.proofs.ListLemmas.{both2, order_total, not_upto_lt}

-- what is to come of rows of which none is read
abbrev pub entries_of : Octets → Octets → Option Octets → List Shown → List (Listed ObjectItem)
entries_of prefix delimiter token rows =
    to_come (λ (r : Shown). r.0) item_in prefix delimiter (λ (o : ObjectItem). o.key) (after_name (λ (o : ObjectItem). o.key) token) nothing_gathered rows

abbrev shown_pair : Octets × Entry → Shown
shown_pair p = shown_entry p.0 p.1

pair_row : (k : Octets) (es : List Entry) → map (shown_entry k) es ≡ map shown_pair (map {B = Octets × Entry} (λ (x : Entry). (k, x)) es)
pair_row k [] = refl
pair_row k (e ∷ es) = ap (λ l. shown_entry k e ∷ l) (pair_row k es)

flat_rows : (m : List (Octets × List Entry)) → rows_of m ≡ map shown_pair (flat octets m)
flat_rows [] = refl
flat_rows (k ∷ m) = (λ i. pair_row k.0 k.1 i ++ flat_rows m i) ∙ sym (map-append shown_pair (map {B = Octets × Entry} (λ (x : Entry). (k.0, x)) k.1) (flat octets m))

row_entry : (v : VersionRow) → v.size ≡ length v.bytes → shown_pair (v.okey, entry_of v) ≡ row_shown v
row_entry v size = go v.marker
  where
    go : (n : ℕ) → ◌≡◌ {A = Shown} (v.okey, object_of v.okey v.stamp (content_of n v)) (v.okey, item_of n (record { key = v.okey; moment = v.stamp; size = v.size; checksum = v.checksum }))
    go zero = λ i. (v.okey, Some (record { key = v.okey; moment = v.stamp; size = sym size i; checksum = v.checksum }))
    go (suc n) = refl

row_entries : (l : List VersionRow) → AllByRecursion (λ (v : VersionRow). v.size ≡ length v.bytes) l → map shown_pair (map {B = Octets × Entry} (λ (v : VersionRow). (v.okey, entry_of v)) l) ≡ map row_shown l
row_entries [] sizes = refl
row_entries (v ∷ l) sizes = λ i. row_entry v sizes.0 i ∷ row_entries l sizes.1 i

-- the rows of the map are the table's, in the order of a listing
pub map_rows : (rows : List VersionRow) → AllByRecursion (λ (v : VersionRow). v.size ≡ length v.bytes) (sort_by version_order rows) → rows_of (entries (objects_of rows)) ≡ map row_shown (sort_by version_order rows)
map_rows rows sizes = flat_rows (entries (objects_of rows)) ∙ ap (map shown_pair) (versions_listed rows) ∙ row_entries (sort_by version_order rows) sizes

-- ---- those under the prefix

lt_of : (o : Ordering) → is_le (ordering_reverse o) ≡ false → is_lt o ≡ true
lt_of Less h = refl
lt_of Equal h = absurd (true≢false h)
lt_of Greater h = absurd (true≢false h)

module _ (tenant bucket prefix : Octets) where
  abbrev listed : VersionRow → Bool
  listed = is_listed tenant bucket prefix (past_name prefix)

  abbrev under : VersionRow → Bool
  under v = begins prefix v.okey

  pub range_is : (k : Octets) → AllByRecursion (λ b. b < 255) k → (bytes_le prefix k && bytes_lt k (past_name prefix)) ≡ begins prefix k
  range_is k small = go (begins prefix k) refl
    where
      inside : begins prefix k ≡ true → (bytes_le prefix k && bytes_lt k (past_name prefix)) ≡ true
      inside h = ap (λ t. t && bytes_lt k (past_name prefix)) (upto_begun prefix k h)
          ∙ lt_of (bytes_cmp k (past_name prefix)) (ap is_le (sym (nat_list_cmp_total.antisymm (past_name prefix) k)) ∙ before_past_name prefix k h small)

      outside : (b : Bool) → (bytes_le prefix k && bytes_lt k (past_name prefix)) ≡ b → begins prefix k ≡ false → b ≡ false
      outside true e h = absurd (true≢false (sym (begins_between prefix k (both2 e).0 (not_upto_lt k (past_name prefix) (both2 e).1)) ∙ h))
      outside false e h = refl

      go : (b : Bool) → begins prefix k ≡ b → (bytes_le prefix k && bytes_lt k (past_name prefix)) ≡ b
      go true e = inside e
      go false e = outside (bytes_le prefix k && bytes_lt k (past_name prefix)) refl e

  filters_are : (l : List VersionRow) → AreSmallKeys l → filter listed l ≡ filter under (in_bucket bucket (matching bytes_eq (λ (r : VersionRow). r.tenant) tenant l))
  filters_are [] small = refl
  filters_are (v ∷ l) small =
      let own = matching bytes_eq (λ (r : VersionRow). r.tenant) tenant l in
      let inner : (b : Bool) → cond (b && (bytes_le prefix v.okey && bytes_lt v.okey (past_name prefix))) (v ∷ filter listed l) (filter listed l) ≡ filter under (cond b (v ∷ in_bucket bucket own) (in_bucket bucket own)) =
      λ b. elim b as (λ b. cond (b && (bytes_le prefix v.okey && bytes_lt v.okey (past_name prefix))) (v ∷ filter listed l) (filter listed l) ≡ filter under (cond b (v ∷ in_bucket bucket own) (in_bucket bucket own))) [
        | true ↦ λ i. cond (range_is v.okey small.0 i) (v ∷ filters_are l small.1 i) (filters_are l small.1 i)
        | false ↦ filters_are l small.1
      ] in
      elim (bytes_eq v.tenant tenant) as (λ t. cond (t && (bytes_eq v.bucket bucket && (bytes_le prefix v.okey && bytes_lt v.okey (past_name prefix)))) (v ∷ filter listed l) (filter listed l)
      ≡ filter under (in_bucket bucket (cond t (v ∷ own) own))) [
        | true ↦ inner (bytes_eq v.bucket bucket)
        | false ↦ filters_are l small.1
      ]

  shown_under : (l : List VersionRow) → map row_shown (filter under l) ≡ filter (λ (r : Shown). begins prefix r.0) (map row_shown l)
  shown_under [] = refl
  shown_under (v ∷ l) = elim (under v) as (λ t. map row_shown (cond t (v ∷ filter under l) (filter under l)) ≡ cond t (row_shown v ∷ filter (λ (r : Shown). begins prefix r.0) (map row_shown l)) (filter (λ (r : Shown). begins prefix r.0) (map row_shown l))) [
    | true ↦ ap (λ k. row_shown v ∷ k) (shown_under l)
    | false ↦ shown_under l
  ]

  -- the entries that a listing may show of the table's rows are the definition's of the bucket's map
  pub entries_are : (delimiter : Octets) (token : Option Octets) (versions : List VersionRow) → AreSmallKeys versions
      → AllByRecursion (λ (v : VersionRow). v.size ≡ length v.bytes) (sort_by version_order (in_bucket bucket (matching bytes_eq (λ (r : VersionRow). r.tenant) tenant versions)))
      → AreApart (entries (objects_of (in_bucket bucket (matching bytes_eq (λ (r : VersionRow). r.tenant) tenant versions))))
      → entries_of prefix delimiter token (map row_shown (bucket_rows tenant bucket prefix versions))
      ≡ entries_after prefix delimiter (λ (o : ObjectItem). o.key) (after_name (λ (o : ObjectItem). o.key) token) (objects_in (entries (objects_of (in_bucket bucket (matching bytes_eq (λ (r : VersionRow). r.tenant) tenant versions)))))
  entries_are delimiter token versions small sizes apart =
      let own = in_bucket bucket (matching bytes_eq (λ (r : VersionRow). r.tenant) tenant versions) in
      ap (entries_of prefix delimiter token) (ap (λ l. map row_shown (sort_by version_order l)) (filters_are versions small) ∙ ap (map row_shown) (sort_by-filter version_order order_total under own) ∙ shown_under (sort_by version_order own)
      ∙ ap (filter (λ (r : Shown). begins prefix r.0)) (sym (map_rows own sizes)))
      ∙ listed_as_defined prefix delimiter token (entries (objects_of own)) apart
