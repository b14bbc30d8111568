-- A tenant without a rule: nothing of it is ever stale.
use Rattle.std.proofs.Common.{◌≡◌, ℕ, Bool, true, false, true≢false, not, ◌&&◌, ◌||◌, cond, List, [], ◌∷◌, filter, Option, Some, None, option_map, option_and_then, is_none, is_some, Ordering, Less, Equal, Greater, is_gt, length, refl, sym, ap, ◌∙◌, arith}
use Rattle.std.specs.List.{list_all, list_any, filter_map, cons_option}
use Rattle.std.specs.Cmp.Derive.{both_true}
use Rattle.std.specs.Ordering.{eq_by_cmp}
use Rattle.std.specs.FinMap as map
use Rattle.std.specs.FinMap.{entries, get, get-entries, empty, from_entries, entries-insert, len-empty, len-entries}
use Rattle.std.specs.FinMap.Entries.{put, by_order}
use Rattle.std.proofs.lemmas.Bool.{and_parts}
use Rattle.sqlite_keyed.specs.Lists.{insert_sorted, sort_by, delete_where}
use Rattle.sqlite_typed.specs.Tests.{bytes_eq}
use Rattle.bh_model.specs.State.{Octets, octets_cmp, Bucket, State, is_stale}
use Rattle.bh_tables.specs.Shown.{by_bucket, is_bucket, is_ruled, is_upload}
use Rattle.bh_tables.specs.Typed.{TenantRow, BucketRow, UploadRow, Tables}
use Rattle.bh_view.specs.Grouped.{first, grouped}
use Rattle.bh_view.specs.Sound.{IsSound}
use Rattle.bh_view.specs.View.{TenantRows, rows_of, named, bucket_shown, buckets_of, state_of, view, goes, part_goes, ref_goes, days_in, is_stale_in, rows_purged}
use Rattle.bh_view.proofs.FilterLemmas.{none_some, same_Some, filter_both}
use Rattle.bh_view.proofs.FindLemmas.{first_find, bucket_found}
use Rattle.bh_view.proofs.Keys.{octets}
use Rattle.bh_view.proofs.ViewLemmas.{view_is}
use Rattle.bh_memo.specs.Facts.{has_no_rule}

-- ---- lists

-- nothing goes
delete_no : {T : Type 0} (p : T → Bool) → ((x : T) → p x ≡ false) → (xs : List T) → delete_where p xs ≡ xs
delete_no p none [] = refl
delete_no p none (x ∷ xs) = ap (λ b. cond (not b) (x ∷ delete_where p xs) (delete_where p xs)) (none x) ∙ ap (λ l. x ∷ l) (delete_no p none xs)

any_no : {T : Type 0} (p : T → Bool) → ((x : T) → p x ≡ false) → (xs : List T) → list_any p xs ≡ false
any_no p none [] = refl
any_no p none (x ∷ xs) = ap (λ b. b || list_any p xs) (none x) ∙ any_no p none xs

not_both : (a b : Bool) → b ≡ false → (a && b) ≡ false
not_both true b false_b = false_b
not_both false b false_b = refl

not_first : (a b : Bool) → a ≡ false → (a && b) ≡ false
not_first true b h = absurd (true≢false h)
not_first false b h = refl

without : {T : Type 0} (o : Option T) → is_none o ≡ true → o ≡ None
without None h = refl
without (Some x) h = absurd (true≢false (sym h))

insert_some : {T : Type 0} (cmp : T → T → Ordering) (x : T) (xs : List T) → insert_sorted cmp x xs ≡ [] → ⊥
insert_some cmp x [] h = absurd (none_some (sym (ap first h)))
insert_some cmp x (y ∷ xs) h = elim (is_gt (cmp x y)) as (λ b. cond b (y ∷ insert_sorted cmp x xs) (x ∷ y ∷ xs) ≡ [] → ⊥) [
  | true ↦ λ e. none_some (sym (ap first e))
  | false ↦ λ e. none_some (sym (ap first e))
] h

-- none are sorted where none are there
unsorted : {T : Type 0} (cmp : T → T → Ordering) (xs : List T) → sort_by cmp xs ≡ [] → xs ≡ []
unsorted cmp [] h = refl
unsorted cmp (x ∷ xs) h = absurd (insert_some cmp x (sort_by cmp xs) h)

-- ---- the values of a map

module _ {X : Type 0} (p : X → Bool) where
  abbrev all_of : List (Octets × X) → Bool
  all_of es = list_all (λ e. p e.1) es

  pub found_of : (q : Octets) (es : List (Octets × X)) (v : X) → map.find octets_cmp q es ≡ Some v → all_of es ≡ true → p v ≡ true
  found_of q [] v is all = absurd (none_some is)
  found_of q (e ∷ es) v is all = elim (eq_by_cmp octets_cmp q e.0) as (λ b. cond b (Some e.1) (map.find octets_cmp q es) ≡ Some v → p v ≡ true) [
    | true ↦ λ here. ap p (sym (same_Some here)) ∙ (and_parts _ _ all).0
    | false ↦ λ later. found_of q es v later (and_parts _ _ all).1
  ] is

  pub put_of : (k : Octets) (v : X) (es : List (Octets × X)) → p v ≡ true → all_of es ≡ true → all_of (put octets_cmp k v es) ≡ true
  put_of k v [] new all = both_true new refl
  put_of k v (e ∷ es) new all =
      let parts = and_parts _ _ all in
      let later = put_of k v es new parts.1 in
      elim (octets_cmp k e.0) as (λ o. all_of (by_order o ((k, v) ∷ e ∷ es) ((e.0, v) ∷ es) (e ∷ put octets_cmp k v es)) ≡ true) [
        | Less ↦ both_true new all
        | Equal ↦ both_true new parts.1
        | Greater ↦ both_true parts.0 later
      ]

  entries_none : (es : List (Octets × X)) → length es ≡ 0 → all_of es ≡ true
  entries_none [] h = refl
  entries_none (e ∷ es) h = absurd (omega (arith, h))

  pub made_of : (es : List (Octets × X)) → all_of es ≡ true → all_of (entries (from_entries {R = octets_cmp} es)) ≡ true
  made_of [] all = entries_none _ (sym (len-entries (empty {X = X} {R = octets_cmp})) ∙ len-empty octets_cmp X)
  made_of (e ∷ es) all =
      let parts = and_parts _ _ all in
      ap all_of (entries-insert octets.total (from_entries es) e.0 e.1) ∙ put_of e.0 e.1 (entries (from_entries es)) parts.0 (made_of es parts.1)

-- ---- a tenant without a rule

-- its buckets have none
no_rule_at : (s : Option State) → has_no_rule s ≡ true → (b : Octets) (B : Bucket) → option_and_then (λ (t : State). get t.buckets b) s ≡ Some B → B.days ≡ None
no_rule_at None none b B is = absurd (none_some is)
no_rule_at (Some t) none b B is = without B.days (found_of (λ (x : Bucket). is_none x.days) b (entries t.buckets) B (sym (get-entries t.buckets b) ∙ is) none)

module _ (tables : Tables) (t : Octets) (sound : IsSound tables) (none : has_no_rule (view tables t) ≡ true) where
  no_days : (b : Octets) → days_in t b tables.buckets ≡ None
  no_days b = ap (option_and_then (λ (r : BucketRow). r.days)) (sym (first_find (is_bucket t b) tables.buckets)) ∙ go (first (filter (is_bucket t b) tables.buckets)) refl
    where
      go : (o : Option BucketRow) → first (filter (is_bucket t b) tables.buckets) ≡ o → option_and_then (λ (r : BucketRow). r.days) o ≡ None
      go None is = refl
      go (Some r) is = no_rule_at (view tables t) none b (bucket_shown (rows_of t tables) b r) (bucket_found tables t sound b ∙ ap (option_map (bucket_shown (rows_of t tables) b)) is)

  module _ (at : ℕ) where
    none_stale : (n : ℕ) → is_stale_in t at tables n ≡ false
    none_stale n = any_no _ (λ (u : UploadRow). not_both (is_upload t n u) _ (ap (λ d. is_stale d u.begun at) (no_days u.bucket))) tables.uploads

    -- so a purge changes nothing
    pub purged_same : rows_purged t at tables ≡ tables
    unfolding rows_purged
    purged_same =
        let gone = is_stale_in t at tables in
        λ i. record tables {
          uploads = delete_no (goes t gone) (λ u. not_both _ _ (none_stale u.upload)) tables.uploads i;
          parts = delete_no (part_goes t gone) (λ p. not_both _ _ (none_stale p.upload)) tables.parts i;
          refs = delete_no (ref_goes t gone tables.parts) (λ r. any_no _ (λ p. not_first _ _ (not_both _ _ (none_stale p.upload))) tables.parts) tables.refs i;
        }

-- ---- rows without a rule

unruled : (q : BucketRow → Bool) (rows : List BucketRow) (r : BucketRow) → filter (λ (x : BucketRow). is_some x.days) rows ≡ [] → first (filter q rows) ≡ Some r → is_none r.days ≡ true
unruled q [] r none is = absurd (none_some is)
unruled q (x ∷ rows) r none is = elim (is_some x.days) as (λ b. is_some x.days ≡ b → cond b (x ∷ filter (λ (y : BucketRow). is_some y.days) rows) (filter (λ (y : BucketRow). is_some y.days) rows) ≡ [] → is_none r.days ≡ true) [
  | true ↦ λ e some. absurd (none_some (sym (ap first some)))
  | false ↦ λ e rest. elim (q x) as (λ b. first (cond b (x ∷ filter q rows) (filter q rows)) ≡ Some r → is_none r.days ≡ true) [
    | true ↦ λ here. ap (λ (y : BucketRow). is_none y.days) (sym (same_Some here)) ∙ ap not e
    | false ↦ λ later. unruled q rows r rest later
  ] is
] refl none

module _ (tables : Tables) (t : Octets) where
  abbrev rows : TenantRows
  rows = rows_of t tables

  module _ (none : filter (λ (x : BucketRow). is_some x.days) rows.buckets ≡ []) where
    pairs_of : (l : List BucketRow) → all_of (λ (b : Bucket). is_none b.days) (filter_map (λ (x : BucketRow). option_map (λ b. (x.bucket, b)) (option_map (bucket_shown rows x.bucket) (first (named x.bucket rows.buckets)))) l) ≡ true
    pairs_of [] = refl
    pairs_of (x ∷ l) = one (first (named x.bucket rows.buckets)) refl (pairs_of l)
      where
        one : (o : Option BucketRow) → first (named x.bucket rows.buckets) ≡ o → (rest : all_of (λ (b : Bucket). is_none b.days) (filter_map (λ (y : BucketRow). option_map (λ b. (y.bucket, b)) (option_map (bucket_shown rows y.bucket) (first (named y.bucket rows.buckets)))) l) ≡ true)
            → all_of (λ (b : Bucket). is_none b.days) (cons_option (option_map (λ b. (x.bucket, b)) (option_map (bucket_shown rows x.bucket) o)) (filter_map (λ (y : BucketRow). option_map (λ b. (y.bucket, b)) (option_map (bucket_shown rows y.bucket) (first (named y.bucket rows.buckets)))) l)) ≡ true
        one None is rest = rest
        one (Some r) is rest = both_true (unruled (λ (y : BucketRow). bytes_eq y.bucket x.bucket) rows.buckets r none is) rest

    entries_of_rows : all_of (λ (b : Bucket). is_none b.days) (entries (buckets_of rows)) ≡ true
    unfolding grouped
    entries_of_rows = made_of (λ (b : Bucket). is_none b.days) _ (pairs_of rows.buckets)

  -- whose rows have none, has none
  pub ruleless : sort_by by_bucket (filter (is_ruled t) tables.buckets) ≡ [] → has_no_rule (view tables t) ≡ true
  ruleless h = ap has_no_rule (view_is tables t) ∙ go (first rows.tenants)
    where
      none : filter (λ (x : BucketRow). is_some x.days) rows.buckets ≡ []
      none = filter_both (λ (x : BucketRow). bytes_eq x.tenant t) (λ x. is_some x.days) tables.buckets ∙ unsorted by_bucket (filter (is_ruled t) tables.buckets) h

      go : (o : Option TenantRow) → has_no_rule (option_map (state_of rows) o) ≡ true
      go None = refl
      go (Some r) = entries_of_rows none
