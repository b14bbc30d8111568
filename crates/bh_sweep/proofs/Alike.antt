-- Each tenant's state, once it is purged, is as it was before a sweep took stale uploads.
use Rattle.std.proofs.Common.{arith, ◌≤◌, length, ◌≡◌, ℕ, zero, suc, Bool, true, false, cond, ◌&&◌, ◌||◌, List, [], ◌∷◌, filter, take, refl, sym, ap, ap₂, ◌∙◌}
use Rattle.std.specs.List.{AllByRecursion, list_any}
use Rattle.std.specs.Cmp.Derive.{both_true}
use Rattle.std.proofs.lemmas.Bool.{and_parts}
use Rattle.sqlite_keyed.specs.Lists.{delete_where}
use Rattle.sqlite_keyed.proofs.ListLemmas.{all_weaker, all_both}
use Rattle.sqlite_typed.specs.Tests.{bytes_eq}
use Rattle.bh_model.specs.State.{Octets, is_stale}
use Rattle.bh_model.specs.Runs.{purged_tenant}
use Rattle.bh_tables.specs.Due.{by_owner}
use Rattle.bh_tables.specs.Shown.{is_upload}
use Rattle.bh_tables.specs.Typed.{UploadRow, Tables}
use Rattle.bh_view.specs.Grouped.{same_number}
use Rattle.bh_view.specs.Sound.{IsSound}
use Rattle.bh_view.specs.Sweep.{is_due, due_uploads, uploads_swept, without_each}
use Rattle.bh_view.specs.View.{view, goes, without_uploads, days_in, is_stale_in}
use Rattle.bh_view.proofs.FilterLemmas.{delete_other}
use Rattle.bh_view.proofs.Keys.{octets, numbers}
use Rattle.bh_view.proofs.PurgeLemmas.{any_filtered}
use Rattle.bh_view.proofs.SortLemmas.{all-sort_by}
use Rattle.bh_view.proofs.SweepLemmas.{taken_sound, purged_alike}
use Rattle.bh_sweep.proofs.Left.{Once, once_tail, once_due, others, same_upload, upload_itself, uploads_once}

or_true : (b : Bool) → (b || true) ≡ true
or_true true = refl
or_true false = refl

all_first : {T : Type 0} (P : T → Type 0) (n : ℕ) (xs : List T) → AllByRecursion P xs → AllByRecursion P (take n xs)
all_first P zero xs all = tt
all_first P (suc n) [] all = tt
all_first P (suc n) (x ∷ xs) all = (all.0, all_first P n xs all.1)

-- of the rows that pass each finds itself
each_found : {T : Type 0} (test : T → T → Bool) (p : T → Bool) → ((x : T) → p x ≡ true → test x x ≡ true) → (xs : List T) → AllByRecursion (λ u. list_any (test u) xs ≡ true) (filter p xs)
each_found test p itself [] = tt
each_found test p itself (x ∷ xs) =
    let more = all_weaker (λ u. list_any (test u) xs ≡ true) (λ u. (test u x || list_any (test u) xs) ≡ true) (λ u h. ap (λ b. test u x || b) h ∙ or_true (test u x)) (filter p xs) (each_found test p itself xs) in
    elim (p x) as (λ b. p x ≡ b → AllByRecursion (λ u. (test u x || list_any (test u) xs) ≡ true) (cond b (x ∷ filter p xs) (filter p xs))) [
      | true ↦ λ e. (ap (λ b. b || list_any (test x) xs) (itself x e), more)
      | false ↦ λ e. more
    ] refl

module _ (at : ℕ) where
  abbrev IsStale : Tables → UploadRow → Type 0
  IsStale x u = is_stale_in u.tenant at x u.upload ≡ true

  uploads_stale : (n : ℕ) (old : Tables) → AllByRecursion (IsStale old) (uploads_swept at n old)
  unfolding uploads_swept due_uploads
  uploads_stale n old = all_first (IsStale old) n _ (all-sort_by by_owner (IsStale old) _ (each_found (λ u x. is_upload u.tenant u.upload x && is_stale (days_in u.tenant x.bucket old.buckets) x.begun at) (is_due at old) (λ u due. both_true (upload_itself u) due) old.uploads))

  -- one is stale as before where another goes
  still : (u v : UploadRow) (x : Tables) → same_upload u v ≡ false → is_stale_in v.tenant at (without_uploads u.tenant (λ n. same_number n u.upload) x) v.upload ≡ is_stale_in v.tenant at x v.upload
  still u v x apart =
      let judge = λ (r : UploadRow). is_stale (days_in v.tenant r.bucket x.buckets) r.begun at in
      let gone : ℕ → Bool = λ n. same_number n u.upload in
      any_filtered (is_upload v.tenant v.upload) judge (delete_where (goes u.tenant gone) x.uploads)
      ∙ ap (list_any judge) (delete_other (is_upload v.tenant v.upload) (goes u.tenant gone) x.uploads (λ r here.
      let both = and_parts _ _ here in
      ap₂ (λ a b. bytes_eq a u.tenant && same_number b u.upload) ((octets.decides r.tenant v.tenant).0 both.0) ((numbers.decides r.upload v.upload).0 both.1) ∙ apart))
      ∙ sym (any_filtered (is_upload v.tenant v.upload) judge x.uploads)

  alike : (us : List UploadRow) (x : Tables) → IsSound x → AllByRecursion (IsStale x) us → Once same_upload upload_itself us → (w : Octets) → purged_tenant (view (without_each us x) w) at ≡ purged_tenant (view x w) at
  alike [] x sound stale once w = refl
  alike (u ∷ us) x sound stale once w =
      let gone : ℕ → Bool = λ n. same_number n u.upload in
      let y = without_uploads u.tenant gone x in
      alike us y (taken_sound x u.tenant gone sound)
      (all_both (IsStale x) (λ v. same_upload u v ≡ false) (IsStale y) (λ v was apart. still u v x apart ∙ was) us stale.1 (others same_upload upload_itself u us once))
      (once_tail same_upload upload_itself u us once) w
      ∙ purged_alike x u.tenant gone sound at (λ n is. ap (is_stale_in u.tenant at x) ((numbers.decides n u.upload).0 is) ∙ stale.0) w

  once_first : (n : ℕ) (us : List UploadRow) → Once same_upload upload_itself us → Once same_upload upload_itself (take n us)
  once_first zero us once g = omega arith
  once_first (suc n) [] once g = once g
  once_first (suc n) (u ∷ us) once g =
      let rest = once_first n us (once_tail same_upload upload_itself u us once) in
      let none = first_none (same_upload g) n us in
      elim (same_upload g u) as (λ b. length (cond b (u ∷ filter (same_upload g) us) (filter (same_upload g) us)) ≤ 1 → length (cond b (u ∷ filter (same_upload g) (take n us)) (filter (same_upload g) (take n us))) ≤ 1) [
        | true ↦ λ h. omega (arith, h, none)
        | false ↦ λ h. rest g
      ] (once g)
    where
      first_none : (q : UploadRow → Bool) (n : ℕ) (us : List UploadRow) → length (filter q (take n us)) ≤ length (filter q us)
      first_none q zero us = omega arith
      first_none q (suc n) [] = omega arith
      first_none q (suc n) (u ∷ us) = let less = first_none q n us in elim (q u) as (λ b. length (cond b (u ∷ filter q (take n us)) (filter q (take n us))) ≤ length (cond b (u ∷ filter q us) (filter q us))) [ true ↦ omega (arith, less) | false ↦ less ]

  pub swept_alike : (n : ℕ) (old : Tables) → IsSound old → (w : Octets) → purged_tenant (view (without_each (uploads_swept at n old) old) w) at ≡ purged_tenant (view old w) at
  unfolding uploads_swept due_uploads
  swept_alike n old sound = alike (uploads_swept at n old) old sound (uploads_stale n old) (once_first n (due_uploads at old) (once_due same_upload upload_itself (is_due at old) by_owner old.uploads (uploads_once old sound)))
