-- What a tenant uses, counted over its rows.
use Rattle.std.proofs.Common.{◌≡◌, ℕ, zero, suc, ◌+◌, ◌≤◌, ℤ, pos, int_cmp, int_lt, Bool, true, false, true≢false, cond, not, ◌&&◌, ◌||◌, List, [], ◌∷◌, length, map, filter, sum_by, Option, Some, None, option_map, refl, sym, ap, ap₂, subst, ◌∙◌, arith, Ordering, Less, Greater, Equal, is_gt, is_eq, is_lt}
use Rattle.std.specs.List.{AllByRecursion, list_any}
use Rattle.std.specs.Option.{option_map_or}
use Rattle.std.specs.Ordering.{int_eq, ordering_reverse}
use Rattle.std.specs.Cmp.{int_cmp_total}
use Rattle.std.specs.FinMap.{FinMap, entries, len, len-entries}
use Rattle.std.proofs.lemmas.Cmp.{tied_itself}
use Rattle.std.proofs.lemmas.List.Sums.{sum_by-cons, length-filter}
use Rattle.std.proofs.lemmas.List.Sorted.{sum_by-IsPermutation, list_any-IsPermutation, length_permutation}
use Rattle.sqlite_trees.specs.Tree.{IsAscending}
use Rattle.sqlite_keyed.specs.Lists.{sort_by}
use Rattle.sqlite_keyed.proofs.ListLemmas.{all_of, all_both, all-filter, all_weaker, any_from_none}
use Rattle.sqlite_keyed.proofs.SortLemmas.{IsPermutation-sort_by}
use Rattle.sqlite_typed.specs.Tests.{bytes_eq}
use Rattle.bh_model.specs.FinMaps.{total}
use Rattle.bh_model.specs.State.{Octets, Entry, Bucket, State, entry_size, upload_used, used}
use Rattle.bh_model.specs.Entries.{is_body, is_version}
use Rattle.bh_model.specs.Usage.{version_count, marker_count, object_count, of_keys, of_uploads}
use Rattle.bh_tables.specs.Typed.{BucketRow, VersionRow, UploadRow, Tables}
use Rattle.bh_tables.specs.Shown.{has_marker, is_later, current_versions, is_owned_bucket, is_owned_upload, is_version_of, is_part_used, newer}
use Rattle.bh_tables.proofs.Statements.{ones}
use Rattle.bh_view.specs.Grouped.{first, matching, same_number, HasUnique}
use Rattle.bh_view.specs.View.{TenantRows, rows_of, content_of, entry_of, entries_of, upload_shown, uploads_of, bucket_shown, buckets_of, view, latest_of, in_bucket, at_key, uploads_in, named}
use Rattle.bh_view.specs.Sound.{IsVersionRow, AreSound, IsSound}
use Rattle.bh_view.proofs.Keys.{octets, numbers}
use Rattle.bh_view.proofs.FactLemmas.{unique_filtered}
use Rattle.bh_view.proofs.FilterLemmas.{filter_both}
use Rattle.bh_view.proofs.GroupedLemmas.{is_itself, is_other}
use Rattle.bh_view.proofs.SortLemmas.{AtMost, up-sort_by, sort_by-filter}
use Rattle.bh_view.proofs.TotalLemmas.{total_is, total_add, keyed_total, sum_by_agree}
use Rattle.bh_view.proofs.ObjectLemmas.{newer_total, entries_total, objects_sized, version_size}
use Rattle.bh_view.proofs.BucketLemmas.{get-buckets_of}
use Rattle.bh_view.proofs.PurgeLemmas.{any_filtered}
use Rattle.bh_view.proofs.UsedLemmas.{row_size, used_is}
use Rattle.bh_view.proofs.ViewLemmas.{own_row}

-- ---- lists

abbrev one_if : Bool → ℕ
one_if b = cond b 1 0

zeros : {X : Type 0} (w : X → ℕ) (xs : List X) → AllByRecursion (λ x. w x ≡ 0) xs → sum_by w xs ≡ 0
zeros w [] all = refl
zeros w (x ∷ xs) all = omega (arith, sum_by-cons w x xs, all.0, zeros w xs all.1)

len_total : {K X : Type 0} {R : K → K → Ordering} (m : FinMap R X) → len m ≡ total (λ _. 1) m
unfolding total
len_total m = len-entries m ∙ sym (ones (entries m))

module _ {X : Type 0} (p : X → Bool) where
  each_passes : (xs : List X) → AllByRecursion (λ x. p x ≡ true) (filter p xs)
  each_passes [] = tt
  each_passes (x ∷ xs) = elim (p x) as (λ b. p x ≡ b → AllByRecursion (λ y. p y ≡ true) (cond b (x ∷ filter p xs) (filter p xs))) [ true ↦ λ e. (e, each_passes xs) | false ↦ λ e. each_passes xs ] refl

  none_passes : (xs : List X) → length (filter p xs) ≤ 0 → AllByRecursion (λ x. p x ≡ false) xs
  none_passes [] h = tt
  none_passes (x ∷ xs) h = elim (p x) as (λ b. p x ≡ b → length (cond b (x ∷ filter p xs) (filter p xs)) ≤ 0 → (p x ≡ false) × AllByRecursion (λ y. p y ≡ false) xs) [
    | true ↦ λ e h. absurd (omega (arith, h))
    | false ↦ λ e h. (e, none_passes xs h)
  ] refl h

-- how many of the tenant's rows pass a test
of_tenant : {X : Type 0} (own : X → Bool) (p : X → Bool) (xs : List X) → sum_by (λ x. one_if (p x)) (filter own xs) ≡ length (filter (λ x. own x && p x) xs)
of_tenant own p xs = sym (length-filter p (filter own xs)) ∙ ap length (filter_both own p xs)

-- and how many of a key's entries
of_key : (p : Entry → Bool) (rows : List VersionRow) → length (filter p (entries_of rows)) ≡ sum_by (λ v. one_if (p (entry_of v))) rows
of_key p rows = length-filter p (entries_of rows) ∙ entries_total (λ e. one_if (p e)) rows

-- ---- the newest entry of a key

lt_is : (x y : ℤ) → is_lt (int_cmp x y) ≡ int_lt x y
lt_is x y = go (int_lt x y) (int_lt y x)
  where
    go : (b c : Bool) → is_lt (cond b Less (cond c Greater Equal)) ≡ b
    go true c = refl
    go false true = refl
    go false false = refl

less_if : (o : Ordering) → is_gt o ≡ false → is_eq o ≡ false → o ≡ Less
less_if Less g e = refl
less_if Equal g e = absurd (true≢false e)
less_if Greater g e = absurd (true≢false g)

-- some row has a greater seq
abbrev outdone : List VersionRow → VersionRow → Bool
outdone rows v = list_any (λ x. int_lt (pos v.seq) (pos x.seq)) rows

abbrev no_marker : VersionRow → Bool
no_marker v = int_eq (pos v.marker) (pos 0)

body_is : (n : ℕ) (v : VersionRow) → is_body (content_of n v) ≡ int_eq (pos n) (pos 0)
body_is zero v = sym (is_itself numbers 0)
body_is (suc n) v = sym (is_other numbers (suc n) 0 (λ e. omega (arith, e)))

marker_is : (n : ℕ) (v : VersionRow) → n ≤ 1 → not (is_body (content_of n v)) ≡ int_eq (pos n) (pos 1)
marker_is zero v low = sym (is_other numbers 0 1 (λ e. omega (arith, e)))
marker_is (suc zero) v low = sym (is_itself numbers 1)
marker_is (suc (suc n)) v low = absurd (omega (arith, low))

and_false : (b : Bool) → (b && false) ≡ false
and_false true = refl
and_false false = refl

-- of rows in their order, all of whose seqs differ, the first alone is outdone by none
newest_alone : (rows : List VersionRow) → IsAscending (AtMost newer) rows → HasUnique same_number (λ (v : VersionRow). v.seq) rows → object_count (map entry_of rows) ≡ sum_by (λ v. one_if (no_marker v && not (outdone rows v))) rows
newest_alone [] up one = refl
newest_alone (n ∷ rest) up one =
    let here : one_if (is_version (entry_of n)) ≡ one_if (no_marker n && not (outdone (n ∷ rest) n)) = ap one_if (and_true (is_version (entry_of n)) ∙ ap₂ (λ a b. a && not b) (body_is n.marker n) (sym alone)) in
    let others : sum_by (λ v. one_if (no_marker v && not (outdone (n ∷ rest) v))) rest ≡ 0 = zeros _ rest (all_weaker _ (λ v. one_if (no_marker v && not (outdone (n ∷ rest) v)) ≡ 0) passed rest below) in
    omega (arith, here, others, sum_by-cons (λ v. one_if (no_marker v && not (outdone (n ∷ rest) v))) n rest)
  where
    and_true : (b : Bool) → b ≡ (b && not false)
    and_true true = refl
    and_true false = refl

    apart : AllByRecursion (λ (r : VersionRow). same_number r.seq n.seq ≡ false) rest
    apart = none_passes (λ (r : VersionRow). same_number r.seq n.seq) rest (fewer (same_number n.seq n.seq) (is_itself numbers n.seq) (one n.seq))
      where
        fewer : (b : Bool) → b ≡ true → length (cond b (n ∷ matching same_number (λ (v : VersionRow). v.seq) n.seq rest) (matching same_number (λ (v : VersionRow). v.seq) n.seq rest)) ≤ 1 → length (matching same_number (λ (v : VersionRow). v.seq) n.seq rest) ≤ 0
        fewer true e h = omega (arith, h)
        fewer false e h = absurd (true≢false (sym e))

    below : AllByRecursion (λ (r : VersionRow). int_cmp (pos r.seq) (pos n.seq) ≡ Less) rest
    below = all_both (AtMost newer n) (λ r. same_number r.seq n.seq ≡ false) (λ r. int_cmp (pos r.seq) (pos n.seq) ≡ Less) (λ r g e. less_if _ g e) rest up.0 apart

    passed : (r : VersionRow) → int_cmp (pos r.seq) (pos n.seq) ≡ Less → one_if (no_marker r && not (outdone (n ∷ rest) r)) ≡ 0
    passed r h = ap (λ b. one_if (no_marker r && not (b || outdone rest r))) (sym (lt_is (pos r.seq) (pos n.seq)) ∙ ap is_lt h) ∙ ap one_if (and_false (no_marker r))

    not_under : (r : VersionRow) → int_cmp (pos r.seq) (pos n.seq) ≡ Less → int_lt (pos n.seq) (pos r.seq) ≡ false
    not_under r h = sym (lt_is (pos n.seq) (pos r.seq)) ∙ ap is_lt (int_cmp_total.antisymm (pos n.seq) (pos r.seq) ∙ ap ordering_reverse h)

    alone : outdone (n ∷ rest) n ≡ false
    alone = ap₂ (λ a b. a || b) (sym (lt_is (pos n.seq) (pos n.seq)) ∙ ap is_lt (tied_itself int_cmp_total (pos n.seq))) (any_from_none _ rest (all_weaker _ (λ r. int_lt (pos n.seq) (pos r.seq) ≡ false) not_under rest below))

-- ---- of a tenant

module _ (tables : Tables) (t : Octets) (s : State) (sound : IsSound tables) (is : view tables t ≡ Some s) where
  abbrev mine : TenantRows
  mine = rows_of t tables

  all : AreSound (latest_of tables) mine
  all = sound.tenants t

  -- a size of the entries of each key
  module _ (f : List Entry → ℕ) (none : f [] ≡ 0) (w : VersionRow → ℕ) (each : (b q : Octets) → f (entries_of (at_key q (in_bucket b mine.versions))) ≡ sum_by w (at_key q (in_bucket b mine.versions))) where
    abbrev of_bucket : Bucket → ℕ
    of_bucket B = total f B.objects

    in_versions : (b : Octets) (o : Option BucketRow) → first (named b mine.buckets) ≡ o → option_map_or of_bucket (option_map (bucket_shown mine b) o) 0 ≡ sum_by w (in_bucket b mine.versions)
    in_versions b None e = sym (ap (sum_by w) (all.versions.owned b e))
    in_versions b (Some r) e = objects_sized f none w (in_bucket b mine.versions) (each b)

    of_keys_is : of_keys f s ≡ sum_by w mine.versions
    of_keys_is =
        ap (of_keys f) (sym (own_row tables t s is).2)
        ∙ total_is octets of_bucket (λ (v : VersionRow). v.bucket) w (buckets_of mine) mine.versions (λ b. ap (λ o. option_map_or of_bucket o 0) (get-buckets_of mine b) ∙ in_versions b (first (named b mine.buckets)) refl)

  pub versions_counted : of_keys version_count s ≡ length (filter (has_marker t 0) tables.versions)
  versions_counted =
      of_keys_is version_count refl (λ v. one_if (is_version (entry_of v))) (λ b q. of_key is_version (at_key q (in_bucket b mine.versions)))
      ∙ sum_by_agree _ (λ v. one_if (no_marker v)) mine.versions (all_of _ (λ v. ap one_if (body_is v.marker v)) mine.versions)
      ∙ of_tenant (is_version_of t) no_marker tables.versions

  pub markers_counted : of_keys marker_count s ≡ length (filter (has_marker t 1) tables.versions)
  markers_counted =
      of_keys_is marker_count refl (λ v. one_if (not (is_version (entry_of v)))) (λ b q. of_key (λ e. not (is_version e)) (at_key q (in_bucket b mine.versions)))
      ∙ sum_by_agree _ (λ v. one_if (int_eq (pos v.marker) (pos 1))) mine.versions (all_weaker (IsVersionRow (latest_of tables)) _ (λ v good. ap one_if (marker_is v.marker v good.marker)) mine.versions all.versions.each)
      ∙ of_tenant (is_version_of t) (λ v. int_eq (pos v.marker) (pos 1)) tables.versions

  -- rows of one key of a bucket
  module _ (b q : Octets) where
    abbrev group : List VersionRow
    group = at_key q (in_bucket b mine.versions)

    abbrev ordered : List VersionRow
    ordered = sort_by newer group

    pub record IsHere (v : VersionRow) : Type 0 where
      pub tenant : v.tenant ≡ t
      pub bucket : v.bucket ≡ b
      pub key : v.okey ≡ q

    here : AllByRecursion IsHere group
    here = all_both (λ v. bytes_eq v.okey q ≡ true) (λ v. (v.tenant ≡ t) × (v.bucket ≡ b)) IsHere (λ v k lies. record { tenant = lies.0; bucket = lies.1; key = (octets.decides v.okey q).0 k }) group (each_passes _ (in_bucket b mine.versions))
        (all-filter (λ v. (v.tenant ≡ t) × (v.bucket ≡ b)) _ (in_bucket b mine.versions) (all_both (λ v. bytes_eq v.bucket b ≡ true) (λ v. v.tenant ≡ t) (λ v. (v.tenant ≡ t) × (v.bucket ≡ b)) (λ v k own. (own, (octets.decides v.bucket b).0 k)) (in_bucket b mine.versions) (each_passes _ mine.versions)
        (all-filter (λ v. v.tenant ≡ t) _ mine.versions (all_weaker (λ v. bytes_eq v.tenant t ≡ true) (λ v. v.tenant ≡ t) (λ v k. (octets.decides v.tenant t).0 k) mine.versions (each_passes _ tables.versions)))))

    -- a later entry of its key is one of a greater seq among these
    outdone_is : (v : VersionRow) → IsHere v → list_any (is_later v) tables.versions ≡ outdone ordered v
    outdone_is v lies =
        let greater = λ (x : VersionRow). int_lt (pos v.seq) (pos x.seq) in
        (λ i. list_any (λ (x : VersionRow). bytes_eq x.tenant (lies.tenant i) && (bytes_eq x.bucket (lies.bucket i) && (bytes_eq x.okey (lies.key i) && greater x))) tables.versions)
        ∙ any_filtered (λ (x : VersionRow). bytes_eq x.tenant t) (λ x. bytes_eq x.bucket b && (bytes_eq x.okey q && greater x)) tables.versions
        ∙ any_filtered (λ (x : VersionRow). bytes_eq x.bucket b) (λ x. bytes_eq x.okey q && greater x) mine.versions
        ∙ any_filtered (λ (x : VersionRow). bytes_eq x.okey q) greater (in_bucket b mine.versions)
        ∙ sym (list_any-IsPermutation greater ordered group (IsPermutation-sort_by newer newer_total group))

    unique : HasUnique same_number (λ (v : VersionRow). v.seq) ordered
    unique n =
        let seqs = λ (v : VersionRow). v.seq in
        let one = unique_filtered numbers seqs (in_bucket b mine.versions) (λ v. bytes_eq v.okey q) (unique_filtered numbers seqs mine.versions (λ v. bytes_eq v.bucket b) all.versions.one_seq) in
        subst (λ m. m ≤ 1) (length_permutation _ _ (IsPermutation-sort_by newer newer_total (matching same_number seqs n group)) ∙ ap length (sort_by-filter newer newer_total (λ v. same_number v.seq n) group)) (one n)

    newest_counted : object_count (entries_of group) ≡ sum_by (λ v. one_if (no_marker v && not (list_any (is_later v) tables.versions))) group
    newest_counted =
        newest_alone ordered (up-sort_by newer newer_total group) unique
        ∙ sym (sum_by-IsPermutation (λ v. one_if (no_marker v && not (outdone ordered v))) ordered group (IsPermutation-sort_by newer newer_total group))
        ∙ sum_by_agree _ _ group (all_weaker IsHere _ (λ v lies. ap (λ c. one_if (no_marker v && not c)) (sym (outdone_is v lies))) group here)

  pub objects_counted : of_keys object_count s ≡ length (current_versions t tables.versions)
  objects_counted = of_keys_is object_count refl (λ v. one_if (no_marker v && not (list_any (is_later v) tables.versions))) newest_counted ∙ of_tenant (is_version_of t) (λ v. no_marker v && not (list_any (is_later v) tables.versions)) tables.versions

  pub version_bytes_summed : of_keys (sum_by entry_size) s ≡ sum_by (λ v. v.size) (filter (is_version_of t) tables.versions)
  version_bytes_summed =
      of_keys_is (sum_by entry_size) refl version_size (λ b q. entries_total entry_size (at_key q (in_bucket b mine.versions)))
      ∙ sum_by_agree version_size (λ v. v.size) mine.versions (all_weaker _ (λ v. version_size v ≡ v.size) (row_size (latest_of tables)) mine.versions all.versions.each)

  pub part_bytes_summed : of_uploads s ≡ sum_by (λ p. p.size) (filter (is_part_used t) tables.parts)
  part_bytes_summed =
      let both : used s ≡ of_keys (sum_by entry_size) s + of_uploads s = total_add (λ (B : Bucket). total (sum_by entry_size) B.objects) (λ (B : Bucket). total upload_used B.uploads) s.buckets in
      omega (arith, both, used_is tables t s sound is, version_bytes_summed)

  pub buckets_counted : len s.buckets ≡ length (filter (is_owned_bucket t) tables.buckets)
  buckets_counted =
      ap (λ (x : State). len x.buckets) (sym (own_row tables t s is).2) ∙ len_total (buckets_of mine)
      ∙ keyed_total octets (λ _. 1) (λ (r : BucketRow). r.bucket) (bucket_shown mine) (λ _. 1) (λ r. refl) mine.buckets all.buckets.one ∙ ones mine.buckets

  pub uploads_counted : total (λ b. len b.uploads) s.buckets ≡ length (filter (is_owned_upload t) tables.uploads)
  uploads_counted =
      ap (λ (x : State). total (λ (B : Bucket). len B.uploads) x.buckets) (sym (own_row tables t s is).2)
      ∙ total_is octets many (λ (u : UploadRow). u.bucket) (λ _. 1) (buckets_of mine) mine.uploads (λ q. ap (λ o. option_map_or many o 0) (get-buckets_of mine q) ∙ in_uploads q (first (named q mine.buckets)) refl)
      ∙ ones mine.uploads
    where
      many : Bucket → ℕ
      many B = len B.uploads

      in_uploads : (q : Octets) (o : Option BucketRow) → first (named q mine.buckets) ≡ o → option_map_or many (option_map (bucket_shown mine q) o) 0 ≡ sum_by (λ _. 1) (uploads_in q mine.uploads)
      in_uploads q None e = sym (ap (sum_by (λ _. 1)) (all.uploads.owned q e))
      in_uploads q (Some r) e =
          len_total (uploads_of mine.parts (uploads_in q mine.uploads))
          ∙ keyed_total numbers (λ _. 1) (λ (u : UploadRow). u.upload) (upload_shown mine.parts) (λ _. 1) (λ u. refl) (uploads_in q mine.uploads) (unique_filtered numbers (λ (u : UploadRow). u.upload) mine.uploads (λ u. bytes_eq u.bucket q) all.uploads.one)
