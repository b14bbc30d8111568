-- The rows of a bucket as a listing reads them.
use Rattle.std.proofs.Common.{◌≡◌, ℕ, ◌<◌, Bool, true, false, true≢false, cond, ◌&&◌, List, [], ◌∷◌, map, take, filter, refl, sym, ap, ◌∙◌, arith, Ordering, Less, Equal, Greater}
use Rattle.std.specs.List.{AllByRecursion}
use Rattle.std.specs.Ordering.{is_gt, is_lt, is_le, ordering_then, ordering_reverse}
use Rattle.std.specs.Cmp.{IsTotalOrder}
use Rattle.std.proofs.lemmas.Cmp.{nat_list_cmp_total, on_total, then_total}
use Rattle.sqlite_trees.specs.Tree.{IsAscending}
use Rattle.sqlite_keyed.specs.Lists.{sort_by, insert_sorted}
use Rattle.sqlite_typed.specs.Tests.{bytes_cmp, bytes_eq, bytes_lt}
use Rattle.bh_model.specs.State.{Octets}
use Rattle.bh_tables.specs.Typed.{VersionRow}
use Rattle.bh_view.proofs.ObjectLemmas.{newer_total}
use Rattle.bh_view.proofs.SortLemmas.{AtMost, up-sort_by, sort_by-filter}
use Rattle.bh_model.specs.Pages.{begins, is_upto}
use Rattle.bh_pages.specs.Gathered.{InOrder, past_name, rows_from}
use Rattle.bh_pages.specs.Seen.{Shown}
use Rattle.bh_pages.proofs.Bytes.{upto_trans, begins_between}
use Rattle.bh_listing.proofs.RowLemmas.{take_map}
use Rattle.bh_listing.specs.Rows.{version_order, is_listed, listed_rows, row_shown, bucket_rows, AreSmallKeys}

pub order_total : IsTotalOrder version_order
order_total = then_total (on_total (λ (v : VersionRow). v.okey) nat_list_cmp_total) newer_total

key_first : (a b : Ordering) → is_gt (ordering_then a b) ≡ false → is_le a ≡ true
key_first Less b h = refl
key_first Equal b h = refl
key_first Greater b h = absurd (true≢false h)

ordered : (rows : List VersionRow) → IsAscending (AtMost version_order) rows → InOrder (λ (r : Shown). r.0) (map row_shown rows)
ordered [] up = tt
ordered (v ∷ rows) up = (each rows up.0, ordered rows up.1)
  where
    each : (l : List VersionRow) → AllByRecursion (AtMost version_order v) l → AllByRecursion (λ (s : Shown). is_upto v.okey s.0 ≡ true) (map row_shown l)
    each [] all = tt
    each (w ∷ l) all = (key_first _ _ all.0, each l all.1)

not_before : (o : Ordering) → is_lt o ≡ true → is_le (ordering_reverse o) ≡ false
not_before Less h = refl
not_before Equal h = absurd (true≢false (sym h))
not_before Greater h = absurd (true≢false (sym h))

pub not_upto_lt : (a b : Octets) → bytes_lt a b ≡ true → is_upto b a ≡ false
not_upto_lt a b h = ap is_le (nat_list_cmp_total.antisymm b a) ∙ not_before (bytes_cmp a b) h

pub both2 : {a b : Bool} → (a && b) ≡ true → (a ≡ true) × (b ≡ true)
both2 {a} {b} h = elim a as (λ a. (a && b) ≡ true → (a ≡ true) × (b ≡ true)) [ true ↦ λ h. (refl, h) | false ↦ λ h. absurd (true≢false (sym h)) ] h

module _ (tenant bucket prefix : Octets) (versions : List VersionRow) where
  abbrev rows : List Shown
  rows = map row_shown (bucket_rows tenant bucket prefix versions)

  pub rows_in_order : InOrder (λ (r : Shown). r.0) rows
  rows_in_order = ordered _ (up-sort_by version_order order_total (filter (is_listed tenant bucket prefix (past_name prefix)) versions))

  IsFine : VersionRow → Type 0
  IsFine v = (begins prefix v.okey ≡ true) × AllByRecursion (λ b. b < 255) v.okey

  filtered : (l : List VersionRow) → AreSmallKeys l → AllByRecursion IsFine (filter (is_listed tenant bucket prefix (past_name prefix)) l)
  unfolding IsFine
  filtered [] small = tt
  filtered (v ∷ l) small =
      elim (is_listed tenant bucket prefix (past_name prefix) v) as (λ t. is_listed tenant bucket prefix (past_name prefix) v ≡ t → AllByRecursion IsFine (cond t (v ∷ filter (is_listed tenant bucket prefix (past_name prefix)) l) (filter (is_listed tenant bucket prefix (past_name prefix)) l))) [
        | true ↦ λ e. let in_range = both2 (both2 (both2 e).1).1 in ((begins_between prefix v.okey in_range.0 (not_upto_lt v.okey (past_name prefix) in_range.1), small.0), filtered l small.1)
        | false ↦ λ _. filtered l small.1
      ] refl

  inserted : (P : VersionRow → Type 0) (v : VersionRow) (l : List VersionRow) → P v → AllByRecursion P l → AllByRecursion P (insert_sorted version_order v l)
  inserted P v [] h all = (h, tt)
  inserted P v (w ∷ l) h all = elim (is_gt (version_order v w)) as (λ t. AllByRecursion P (cond t (w ∷ insert_sorted version_order v l) (v ∷ w ∷ l))) [ true ↦ (all.0, inserted P v l h all.1) | false ↦ (h, all) ]

  sorted : (P : VersionRow → Type 0) (l : List VersionRow) → AllByRecursion P l → AllByRecursion P (sort_by version_order l)
  sorted P [] all = tt
  sorted P (v ∷ l) all = inserted P v (sort_by version_order l) all.0 (sorted P l all.1)

  shown_all : (l : List VersionRow) → AllByRecursion IsFine l → AllByRecursion (λ (r : Shown). (begins prefix r.0 ≡ true) × AllByRecursion (λ b. b < 255) r.0) (map row_shown l)
  unfolding IsFine
  shown_all [] all = tt
  shown_all (v ∷ l) all = (all.0, shown_all l all.1)

  pub rows_fine : AreSmallKeys versions → AllByRecursion (λ (r : Shown). (begins prefix r.0 ≡ true) × AllByRecursion (λ b. b < 255) r.0) rows
  rows_fine small = shown_all _ (sorted IsFine _ (filtered versions small))

  -- ---- a chunk

  module _ (from : Octets) (low : is_upto prefix from ≡ true) where
    abbrev listed_from : VersionRow → Bool
    listed_from v = is_upto from v.okey

    same_test : (v : VersionRow) → is_listed tenant bucket from (past_name prefix) v ≡ (is_listed tenant bucket prefix (past_name prefix) v && listed_from v)
    same_test v = pure (bytes_eq v.tenant tenant) (bytes_eq v.bucket bucket) (bytes_lt v.okey (past_name prefix)) (is_upto from v.okey) (is_upto prefix v.okey) (λ h. upto_trans prefix from v.okey low h)
      where
        pure : (t b u f p : Bool) → (f ≡ true → p ≡ true) → (t && (b && (f && u))) ≡ ((t && (b && (p && u))) && f)
        pure t b u f p h = grind (arith, h)

    filters : (l : List VersionRow) → filter (is_listed tenant bucket from (past_name prefix)) l ≡ filter listed_from (filter (is_listed tenant bucket prefix (past_name prefix)) l)
    filters [] = refl
    filters (v ∷ l) =
        ap (λ t. cond t (v ∷ filter (is_listed tenant bucket from (past_name prefix)) l) (filter (is_listed tenant bucket from (past_name prefix)) l)) (same_test v)
        ∙ elim (is_listed tenant bucket prefix (past_name prefix) v) as (λ t. cond (t && listed_from v) (v ∷ filter (is_listed tenant bucket from (past_name prefix)) l) (filter (is_listed tenant bucket from (past_name prefix)) l)
        ≡ filter listed_from (cond t (v ∷ filter (is_listed tenant bucket prefix (past_name prefix)) l) (filter (is_listed tenant bucket prefix (past_name prefix)) l))) [
          | true ↦ ap (λ k. cond (listed_from v) (v ∷ k) k) (filters l)
          | false ↦ filters l
        ]

    shown_filter : (l : List VersionRow) → map row_shown (filter listed_from l) ≡ rows_from (λ (r : Shown). r.0) from (map row_shown l)
    shown_filter [] = refl
    shown_filter (v ∷ l) = elim (listed_from v) as (λ t. map row_shown (cond t (v ∷ filter listed_from l) (filter listed_from l)) ≡ cond t (row_shown v ∷ rows_from (λ (r : Shown). r.0) from (map row_shown l)) (rows_from (λ (r : Shown). r.0) from (map row_shown l))) [
      | true ↦ ap (λ k. row_shown v ∷ k) (shown_filter l)
      | false ↦ shown_filter l
    ]

    pub chunk_is : (n : ℕ) → map row_shown (listed_rows tenant bucket from (past_name prefix) n versions) ≡ take n (rows_from (λ (r : Shown). r.0) from rows)
    chunk_is n =
        sym (take_map row_shown n _) ∙ ap (λ l. take n (map row_shown l)) (ap (sort_by version_order) (filters versions) ∙ sort_by-filter version_order order_total listed_from (filter (is_listed tenant bucket prefix (past_name prefix)) versions))
        ∙ ap (take n) (shown_filter (bucket_rows tenant bucket prefix versions))
