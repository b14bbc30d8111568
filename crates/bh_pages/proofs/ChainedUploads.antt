-- Pages of uploads that are chained by their markers show each entry once and in order.
use Rattle.std.proofs.Common.{◌≡◌, ℕ, ◌≤◌, nat_lt, Bool, true, false, true≢false, cond, ◌&&◌, ◌||◌, List, [], ◌∷◌, map, filter, take, Option, None, refl, sym, ap, ◌∙◌, arith, Ordering, Less, Equal, Greater, nat_cmp}
use Rattle.std.specs.List.{AllByRecursion}
use Rattle.std.specs.FinMap.{entries, entries_sorted}
use Rattle.std.specs.Ordering.{is_eq, is_lt, is_gt, ordering_then, ordering_reverse}
use Rattle.std.proofs.lemmas.Bool.Decides.{nat_tests}
use Rattle.std.proofs.lemmas.Cmp.{nat_cmp_total}
use Rattle.bh_model.specs.State.{Octets, octets_cmp, Upload}
use Rattle.bh_model.specs.Pages.{Listed, Listed.Single, Listed.Common, is_before, same, paged, merged, entry_of, name_of, entries_after, UploadItem, UploadPlace, upload_order, put_upload, in_key_order, upload_item, all_uploads, passes_upload}
use Rattle.bh_pages.specs.Laws.{total, chained, upload_marked, UploadsChain}
use Rattle.bh_pages.specs.Uploads.{upload_key, upload_number}
use Rattle.bh_pages.proofs.Before.{less_not_equal}
use Rattle.bh_pages.proofs.Filters.{all_map, keep_all}
use Rattle.bh_pages.proofs.Pairs.{Pairs, Rises, sorted_pairs}
use Rattle.bh_pages.proofs.Placing.{spot_total, precedes_trans, precedes_key, not_back, not_itself}
use Rattle.bh_pages.proofs.Resuming.{chain_entries}
use Rattle.bh_pages.proofs.Coming.{under, leads, led_resumes}

abbrev is_ahead : UploadItem → UploadItem → Bool
is_ahead u v = is_lt (upload_order u v)

abbrev Ahead : UploadItem → UploadItem → Type 0
Ahead u v = is_ahead u v ≡ true

abbrev spot : UploadItem → Octets × ℕ
spot u = (upload_key u, upload_number u)

-- ---- uploads that are put in order

abbrev IsOther : UploadItem → UploadItem → Type 0
IsOther u v = is_eq (nat_cmp u.id.number v.id.number) ≡ false

all_put : (P : UploadItem → Type 0) (u : UploadItem) (l : List UploadItem) → P u → AllByRecursion P l → AllByRecursion P (put_upload u l)
all_put P u [] p all = (p, tt)
all_put P u (v ∷ l) p all = elim (is_gt (upload_order u v)) as (λ t. AllByRecursion P (cond t (v ∷ put_upload u l) (u ∷ v ∷ l))) [ true ↦ (all.0, all_put P u l p all.1) | false ↦ (p, all) ]

turned_ahead : (u v : UploadItem) → is_gt (upload_order u v) ≡ true → Ahead v u
turned_ahead u v h = ap is_lt ((spot_total nat_cmp nat_cmp_total upload_key upload_number).antisymm (spot v) (spot u)) ∙ go (upload_order u v) h
  where
    go : (o : Ordering) → is_gt o ≡ true → is_lt (ordering_reverse o) ≡ true
    go Less h = absurd (true≢false (sym h))
    go Equal h = absurd (true≢false (sym h))
    go Greater h = refl

ahead_of : (u v : UploadItem) → IsOther u v → is_gt (upload_order u v) ≡ false → Ahead u v
ahead_of u v other h = go (octets_cmp u.key v.key) (nat_cmp u.id.number v.id.number) other h
  where
    go : (o p : Ordering) → is_eq p ≡ false → is_gt (ordering_then o p) ≡ false → is_lt (ordering_then o p) ≡ true
    go Less p n h = refl
    go Equal Less n h = refl
    go Equal Equal n h = absurd (true≢false n)
    go Equal Greater n h = absurd (true≢false h)
    go Greater p n h = absurd (true≢false h)

put_ahead : (u : UploadItem) (l : List UploadItem) → Pairs Ahead l → AllByRecursion (IsOther u) l → Pairs Ahead (put_upload u l)
put_ahead u [] up others = (tt, tt)
put_ahead u (v ∷ l) up others = elim (is_gt (upload_order u v)) as (λ t. is_gt (upload_order u v) ≡ t → Pairs Ahead (cond t (v ∷ put_upload u l) (u ∷ v ∷ l))) [
  | true ↦ λ e. (all_put (Ahead v) u l (turned_ahead u v e) up.0, put_ahead u l up.1 others.1)
  | false ↦ λ e.
      let first = ahead_of u v others.0 e in
      ((first, all_map (λ z h. precedes_trans nat_cmp nat_cmp_total upload_key upload_number (spot u) (spot v) (spot z) first h) l up.0), up)
] refl

all_in_order : (P : UploadItem → Type 0) (l : List UploadItem) → AllByRecursion P l → AllByRecursion P (in_key_order l)
all_in_order P [] all = tt
all_in_order P (u ∷ l) all = all_put P u (in_key_order l) all.0 (all_in_order P l all.1)

in_order : (l : List UploadItem) → Pairs IsOther l → Pairs Ahead (in_key_order l)
in_order [] up = tt
in_order (u ∷ l) up = put_ahead u (in_key_order l) (in_order l up.1) (all_in_order (IsOther u) l up.0)

numbered_others : (l : List (ℕ × Upload)) → Pairs (Rises nat_cmp) l → Pairs IsOther (map upload_item l)
numbered_others [] up = tt
numbered_others (u ∷ l) up = (each l up.0, numbered_others l up.1)
  where
    each : (k : List (ℕ × Upload)) → AllByRecursion (Rises nat_cmp u) k → AllByRecursion (IsOther (upload_item u)) (map upload_item k)
    each [] all = tt
    each (v ∷ k) all = (less_not_equal (nat_cmp u.0 v.0) all.0, each k all.1)

-- ---- what passes the marker of an entry

abbrev past : Listed UploadItem → Listed UploadItem → Bool
past e = passes_upload (upload_marked e)

past_ahead : (u v : UploadItem) → past (Single u) (Single v) ≡ is_ahead u v
past_ahead u v = go (octets_cmp u.key v.key)
  where
    number : nat_lt u.id.number v.id.number ≡ is_lt (nat_cmp u.id.number v.id.number)
    number = grind (arith, nat_tests)

    go : (o : Ordering) → (is_lt o || (is_eq o && nat_lt u.id.number v.id.number)) ≡ is_lt (ordering_then o (nat_cmp u.id.number v.id.number))
    go Less = refl
    go Equal = number
    go Greater = refl

past_common : (n : Octets) (e : Listed UploadItem) → past (Common n) e ≡ is_before n (name_of upload_key e)
past_common n (Single u) = go (is_before n u.key) (same n u.key)
  where
    go : (a b : Bool) → (a || (b && false)) ≡ a
    go true b = refl
    go false true = refl
    go false false = refl
past_common n (Common m) = refl

-- ---- the pages

module _ (prefix delimiter : Octets) (items : List UploadItem) (up : Pairs Ahead items) where
  abbrev listing : Option UploadPlace → List (Listed UploadItem)
  listing marker = entries_after prefix delimiter upload_key (passes_upload marker) items

  chained_listing : (sizes : List ℕ) → AllByRecursion (λ m. 1 ≤ m) sizes → chained upload_marked (λ m marker. paged m (listing marker)) sizes None ≡ take (total sizes) (listing None)
  chained_listing =
      let rule = led_resumes prefix delimiter upload_key Ahead past past_common (λ u n. refl) (λ u. past_ahead u u ∙ not_itself nat_cmp nat_cmp_total upload_key upload_number (spot u)) (λ u v h. past_ahead u v ∙ h)
      (λ u v h. past_ahead v u ∙ not_back nat_cmp nat_cmp_total upload_key upload_number (spot u) (spot v) h) in
      chain_entries (entry_of prefix delimiter upload_key) (λ e l. filter (past e) (map (entry_of prefix delimiter upload_key) l)) upload_marked listing (under prefix delimiter upload_key items)
      (rule (under prefix delimiter upload_key items) (leads prefix delimiter upload_key Ahead (λ u v h. precedes_key nat_cmp nat_cmp_total upload_key upload_number (spot u) (spot v) h) items up))
      None (ap (merged None) (keep_all (map (entry_of prefix delimiter upload_key) (under prefix delimiter upload_key items)))) (λ e. refl)

pub uploads_chain : UploadsChain
uploads_chain prefix delimiter uploads =
    chained_listing prefix delimiter (all_uploads (entries uploads)) (in_order (map upload_item (entries uploads)) (numbered_others (entries uploads) (sorted_pairs nat_cmp (entries uploads) (entries_sorted uploads))))
