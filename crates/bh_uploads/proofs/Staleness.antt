-- The numbers that the rules of a tenant's buckets make stale are those of its stale uploads.
use Rattle.std.proofs.Common.{◌≡◌, ℕ, ◌≤◌, Bool, true, false, ◌&&◌, ◌||◌, List, [], ◌∷◌, ◌++◌, map, flat_map, filter, length, Option, Some, None, option_and_then, is_some, pos, int_lt, refl, sym, ap, ◌∙◌, arith, subst}
use Rattle.std.specs.Bool.{one_answer}
use Rattle.std.specs.List.{list_any}
use Rattle.sqlite_typed.specs.Tests.{bytes_eq, bytes_cmp}
use Rattle.sqlite_typed.proofs.TestLemmas.{turn_eq}
use Rattle.bh_model.specs.State.{Octets, is_stale, stale_before}
use Rattle.bh_model.proofs.PurgeLemmas.{stale_is_before}
use Rattle.bh_tables.specs.Typed.{BucketRow, UploadRow, Tables}
use Rattle.bh_tables.specs.Shown.{is_bucket, is_upload, is_begun_before, is_ruled, by_begun, by_bucket}
use Rattle.bh_view.specs.Grouped.{first, same_number}
use Rattle.bh_view.specs.Sound.{IsSound}
use Rattle.bh_view.specs.View.{rows_of, named, days_in, is_stale_in}
use Rattle.bh_view.proofs.FilterLemmas.{filter_both}
use Rattle.bh_view.proofs.FindLemmas.{first_find}
use Rattle.bh_view.proofs.Keys.{octets, numbers}
use Rattle.bh_view.proofs.PurgeLemmas.{any_filtered}
use Rattle.bh_schema.specs.Rows.{rule_in, listed_rules}
use Rattle.bh_uploads.specs.Purging.{stale_by, is_among}
use Rattle.bh_uploads.proofs.Gone.{any_mapped, any_sorted}

-- ---- lists

any_joined : {X : Type 0} (p : X → Bool) (xs ys : List X) → list_any p (xs ++ ys) ≡ (list_any p xs || list_any p ys)
any_joined p [] ys = refl
any_joined p (x ∷ xs) ys = ap (λ b. p x || b) (any_joined p xs ys) ∙ or_assoc (p x) (list_any p xs) (list_any p ys)
  where
    or_assoc : (a b c : Bool) → (a || (b || c)) ≡ ((a || b) || c)
    or_assoc true b c = refl
    or_assoc false b c = refl

any_flat : {X Y : Type 0} (p : Y → Bool) (f : X → List Y) (xs : List X) → list_any p (flat_map f xs) ≡ list_any (λ x. list_any p (f x)) xs
any_flat p f [] = refl
any_flat p f (x ∷ xs) = any_joined p (f x) (flat_map f xs) ∙ ap (λ b. list_any p (f x) || b) (any_flat p f xs)

any_never : {X : Type 0} (xs : List X) → list_any (λ x. false) xs ≡ false
any_never [] = refl
any_never (x ∷ xs) = any_never xs

any_so : {X : Type 0} (f g : X → Bool) → ((x : X) → f x ≡ g x) → (xs : List X) → list_any f xs ≡ list_any g xs
any_so f g same xs i = list_any (λ x. same x i) xs

any_and : {X : Type 0} (c : Bool) (f : X → Bool) (xs : List X) → list_any (λ x. c && f x) xs ≡ (c && list_any f xs)
any_and true f xs = refl
any_and false f xs = any_never xs

any_either : {X : Type 0} (f g : X → Bool) (xs : List X) → list_any (λ x. f x || g x) xs ≡ (list_any f xs || list_any g xs)
any_either f g [] = refl
any_either f g (x ∷ xs) = ap (λ b. (f x || g x) || b) (any_either f g xs) ∙ crossed (f x) (g x) (list_any f xs) (list_any g xs)
  where
    crossed : (a b c d : Bool) → ((a || b) || (c || d)) ≡ ((a || c) || (b || d))
    crossed true b c d = refl
    crossed false true true d = refl
    crossed false true false d = refl
    crossed false false c d = refl

any_swapped : {X Y : Type 0} (f : X → Y → Bool) (xs : List X) (ys : List Y) → list_any (λ x. list_any (f x) ys) xs ≡ list_any (λ y. list_any (λ x. f x y) xs) ys
any_swapped f [] ys = sym (any_never ys)
any_swapped f (x ∷ xs) ys = ap (λ b. list_any (f x) ys || b) (any_swapped f xs ys) ∙ sym (any_either (f x) (λ y. list_any (λ x. f x y) xs) ys)

or_none : (b : Bool) → (b || false) ≡ b
or_none true = refl
or_none false = refl

number_swap : (m n : ℕ) → same_number m n ≡ same_number n m
number_swap m n = one_answer _ _ (numbers.decides m n) (λ h. sym ((numbers.decides n m).0 h), λ e. (numbers.decides n m).1 (sym e))

-- ---- one upload under one rule

module _ (tables : Tables) (t : Octets) (at : ℕ) (m : ℕ) where
  -- whether the rule of a bucket makes an upload stale
  abbrev judged : BucketRow → UploadRow → Bool
  judged b u = is_bucket t u.bucket b && is_stale b.days u.begun at

  shuffled : (own here old same : Bool) → ((own && (here && old)) && same) ≡ ((own && same) && (here && old))
  shuffled true true true same = turned same
    where
      turned : (b : Bool) → b ≡ (b && true)
      turned true = refl
      turned false = refl
  shuffled true true false same = never same
    where
      never : (b : Bool) → false ≡ (b && false)
      never true = refl
      never false = refl
  shuffled true false old same = never same
    where
      never : (b : Bool) → false ≡ (b && false)
      never true = refl
      never false = refl
  shuffled false here old same = refl

  by_days : (days b : ℕ) (bucket : Octets) (u : UploadRow) → (is_begun_before t bucket (stale_before days at) u && same_number m u.upload) ≡ (is_upload t m u && (bytes_eq bucket u.bucket && is_stale (Some days) u.begun at))
  by_days days b bucket u =
      shuffled (bytes_eq u.tenant t) (bytes_eq u.bucket bucket) (int_lt (pos u.begun) (pos (stale_before days at))) (same_number m u.upload)
      ∙ (λ i. (bytes_eq u.tenant t && number_swap m u.upload i) && (turn_eq bytes_cmp octets.total u.bucket bucket i && sym (stale_is_before days u.begun at) i))

  -- the numbers of one rule
  one_rule : (b : BucketRow) → (is_ruled t b && is_among (stale_by t at tables.uploads (rule_in b)) m) ≡ list_any (λ u. is_upload t m u && judged b u) tables.uploads
  one_rule b = go b.days refl
    where
      nothing : (x y : Bool) → false ≡ (x && (y && false))
      nothing true true = refl
      nothing true false = refl
      nothing false y = refl

      never : (x : Bool) → ((x && false) && false) ≡ false
      never true = refl
      never false = refl

      owned : (x y z w : Bool) → (x && (y && (z && w))) ≡ (y && ((x && z) && w))
      owned true y z w = refl
      owned false true z w = refl
      owned false false z w = refl

      go : (d : Option ℕ) → b.days ≡ d → ((bytes_eq b.tenant t && is_some d) && is_among (stale_by t at tables.uploads (b.bucket, d)) m) ≡ list_any (λ u. is_upload t m u && (is_bucket t u.bucket b && is_stale d u.begun at)) tables.uploads
      go None e = never (bytes_eq b.tenant t) ∙ sym (any_never tables.uploads) ∙ any_so (λ u. false) _ (λ u. nothing (is_upload t m u) (is_bucket t u.bucket b)) tables.uploads
      go (Some days) e =
          ap (λ c. c && is_among (stale_by t at tables.uploads (b.bucket, Some days)) m) (kept (bytes_eq b.tenant t))
          ∙ ap (λ c. bytes_eq b.tenant t && c)
          (any_mapped (λ (u : UploadRow). u.upload) (same_number m) _ ∙ any_sorted by_begun (λ (u : UploadRow). same_number m u.upload) _ ∙ sym (any_filtered (is_begun_before t b.bucket (stale_before days at)) (λ (u : UploadRow). same_number m u.upload) tables.uploads)
          ∙ any_so _ _ (by_days days 0 b.bucket) tables.uploads)
          ∙ sym (any_and (bytes_eq b.tenant t) (λ u. is_upload t m u && (bytes_eq b.bucket u.bucket && is_stale (Some days) u.begun at)) tables.uploads)
          ∙ any_so _ _ (λ u. owned (bytes_eq b.tenant t) (is_upload t m u) (bytes_eq b.bucket u.bucket) (is_stale (Some days) u.begun at)) tables.uploads
        where
          kept : (x : Bool) → (x && true) ≡ x
          kept true = refl
          kept false = refl

  -- ---- all rules

  module _ (sound : IsSound tables) where
    -- a bucket has one row
    by_bucket_row : (u : UploadRow) → list_any (λ b. judged b u) tables.buckets ≡ is_stale (days_in t u.bucket tables.buckets) u.begun at
    by_bucket_row u =
        let rows = filter (is_bucket t u.bucket) tables.buckets in
        any_filtered (is_bucket t u.bucket) (λ b. is_stale b.days u.begun at) tables.buckets
        ∙ go rows (subst_length (sym_rows) ((sound.tenants t).buckets.one u.bucket))
        ∙ ap (λ o. is_stale (option_and_then (λ (r : BucketRow). r.days) o) u.begun at) (first_find (is_bucket t u.bucket) tables.buckets)
      where
        sym_rows : named u.bucket (rows_of t tables).buckets ≡ filter (is_bucket t u.bucket) tables.buckets
        sym_rows = filter_both (λ (b : BucketRow). bytes_eq b.tenant t) (λ b. bytes_eq b.bucket u.bucket) tables.buckets

        subst_length : {xs ys : List BucketRow} → xs ≡ ys → length xs ≤ 1 → length ys ≤ 1
        subst_length e low = subst (λ l. length l ≤ 1) e low

        go : (rows : List BucketRow) → length rows ≤ 1 → list_any (λ b. is_stale b.days u.begun at) rows ≡ is_stale (option_and_then (λ (r : BucketRow). r.days) (first rows)) u.begun at
        go [] low = refl
        go (r ∷ []) low = or_none (is_stale r.days u.begun at)
        go (r ∷ s ∷ rows) low = absurd (omega (arith, low))

    pub numbers_are : is_among (flat_map (stale_by t at tables.uploads) (map rule_in (listed_rules t tables))) m ≡ is_stale_in t at tables m
    numbers_are =
        any_flat (same_number m) (stale_by t at tables.uploads) (map rule_in (listed_rules t tables))
        ∙ any_mapped rule_in (λ x. is_among (stale_by t at tables.uploads x) m) (listed_rules t tables)
        ∙ any_sorted by_bucket (λ b. is_among (stale_by t at tables.uploads (rule_in b)) m) (filter (is_ruled t) tables.buckets)
        ∙ sym (any_filtered (is_ruled t) (λ b. is_among (stale_by t at tables.uploads (rule_in b)) m) tables.buckets)
        ∙ any_so _ _ one_rule tables.buckets
        ∙ any_swapped (λ b u. is_upload t m u && judged b u) tables.buckets tables.uploads
        ∙ any_so _ _ (λ u. any_and (is_upload t m u) (λ b. judged b u) tables.buckets ∙ ap (λ c. is_upload t m u && c) (by_bucket_row u)) tables.uploads
