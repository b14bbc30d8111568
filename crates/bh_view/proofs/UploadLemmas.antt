-- What a change of the rows of uploads and parts does to the uploads of a tenant's buckets.
use Rattle.std.proofs.Common.{◌≡◌, ◌≢◌, ℕ, ◌≤◌, Bool, true, false, cond, List, [], ◌∷◌, length, Some, option_map, filter, refl, sym, ap, ◌∙◌, arith}
use Rattle.std.specs.FinMap.{FinMap, get, insert}
use Rattle.std.specs.Ordering.{nat_cmp}
use Rattle.sqlite_typed.specs.Tests.{bytes_eq}
use Rattle.bh_model.specs.FinMaps.{set_at}
use Rattle.bh_model.specs.State.{Octets, Upload, Bucket}
use Rattle.bh_tables.specs.Typed.{BucketRow, UploadRow, PartRow}
use Rattle.bh_view.specs.Grouped.{first, same_number, matching, HasUnique}
use Rattle.bh_view.specs.View.{TenantRows, named, uploads_in, of_upload, parts_of, upload_shown, uploads_of, bucket_shown, buckets_of}
use Rattle.bh_view.proofs.Keys.{octets, numbers}
use Rattle.bh_view.proofs.FilterLemmas.{none_some, first_passes, filter_swap}
use Rattle.bh_view.proofs.GroupedLemmas.{get-keyed, grouped_changed, set_at_same, is_other}
use Rattle.bh_view.proofs.BucketLemmas.{row_of, bucket_row}

-- the uploads of a number
abbrev pub at_number : ℕ → List UploadRow → List UploadRow
at_number = matching same_number (λ u. u.upload)

-- of a list that is not longer than one, a row that passes a test is all
pub all_of_one : {T : Type 0} (p : T → Bool) (xs : List T) → length xs ≤ 1 → (x : T) → first (filter p xs) ≡ Some x → xs ≡ x ∷ []
all_of_one p [] short x there = absurd (none_some there)
all_of_one p (y ∷ []) short x there = elim (p y) as (λ b. first (cond b (y ∷ []) []) ≡ Some x → y ∷ [] ≡ x ∷ []) [ true ↦ λ e. same e | false ↦ λ e. absurd (none_some e) ] there
  where
    same : Some y ≡ Some x → y ∷ [] ≡ x ∷ []
    same e = cc
all_of_one p (y ∷ z ∷ xs) short x there = absurd (omega arith)

-- ---- the upload of one number changes, or its parts

module _ (rows : TenantRows) (n : ℕ) (uploads : List UploadRow) (parts : List PartRow) (alike : (m : ℕ) → n ≢ m → at_number m uploads ≡ at_number m rows.uploads) (same : (m : ℕ) → n ≢ m → of_upload m parts ≡ of_upload m rows.parts) where
  abbrev before : Octets → FinMap nat_cmp Upload
  before q = uploads_of rows.parts (uploads_in q rows.uploads)

  abbrev pub uploads_with : TenantRows
  uploads_with = record rows { uploads = uploads; parts = parts }

  in_same : (q : Octets) (m : ℕ) → n ≢ m → at_number m (uploads_in q uploads) ≡ at_number m (uploads_in q rows.uploads)
  in_same q m apart =
      filter_swap (λ (u : UploadRow). same_number u.upload m) (λ u. bytes_eq u.bucket q) uploads ∙ ap (uploads_in q) (alike m apart)
      ∙ sym (filter_swap (λ (u : UploadRow). same_number u.upload m) (λ u. bytes_eq u.bucket q) rows.uploads)

  uploads_at : (q : Octets) → uploads_of parts (uploads_in q uploads) ≡ set_at (before q) n (option_map (upload_shown parts n) (first (at_number n (uploads_in q uploads))))
  uploads_at q = grouped_changed numbers (λ (u : UploadRow). u.upload) (λ (u : UploadRow). u.upload) (λ m l. option_map (upload_shown rows.parts m) (first l)) (λ m l. option_map (upload_shown parts m) (first l)) (λ _. refl) (λ _. refl) (uploads_in q rows.uploads) (uploads_in q uploads) n
      (λ m apart i. option_map (λ (u : UploadRow). record { key = u.okey; begun = u.begun; parts = parts_of (same m apart i) }) (first (in_same q m apart i)))

  -- in a bucket that it is not in
  uploads_away : (q : Octets) → at_number n (uploads_in q uploads) ≡ [] → at_number n (uploads_in q rows.uploads) ≡ [] → uploads_of parts (uploads_in q uploads) ≡ before q
  uploads_away q none was =
      uploads_at q ∙ ap (λ l. set_at (before q) n (option_map (upload_shown parts n) (first l))) none
      ∙ ap (set_at (before q) n) (sym (get-keyed numbers (λ (u : UploadRow). u.upload) (upload_shown rows.parts) (uploads_in q rows.uploads) n ∙ ap (λ l. option_map (upload_shown rows.parts n) (first l)) was))
      ∙ set_at_same numbers (before q) n

  pub uploads_changed : (b : Octets) (B : Bucket) → get (buckets_of rows) b ≡ Some B → ((q : Octets) → b ≢ q → (at_number n (uploads_in q uploads) ≡ []) × (at_number n (uploads_in q rows.uploads) ≡ []))
      → buckets_of uploads_with ≡ insert (buckets_of rows) b (record B { uploads = set_at B.uploads n (option_map (upload_shown parts n) (first (at_number n (uploads_in b uploads)))) })
  uploads_changed b B at away =
      let row = bucket_row rows b B at in
      let shown : before b ≡ B.uploads = ap (λ (x : Bucket). x.uploads) row.2 in
      grouped_changed octets (λ (r : BucketRow). r.bucket) (λ (r : BucketRow). r.bucket) (λ q l. option_map (bucket_shown rows q) (first l)) (λ q l. option_map (bucket_shown uploads_with q) (first l)) (λ _. refl) (λ _. refl) rows.buckets rows.buckets b
      (λ q apart i. option_map (λ r. record (bucket_shown rows q r) { uploads = uploads_away q (away q apart).0 (away q apart).1 i }) (first (named q rows.buckets)))
      ∙ ap (λ o. set_at (buckets_of rows) b (option_map (bucket_shown uploads_with b) o)) row.1
      ∙ ap (λ x. insert (buckets_of rows) b (record x { uploads = uploads_of parts (uploads_in b uploads) })) row.2
      ∙ ap (λ m. insert (buckets_of rows) b (record B { uploads = m })) (uploads_at b ∙ ap (λ m. set_at m n (option_map (upload_shown parts n) (first (at_number n (uploads_in b uploads))))) shown)

-- ---- the row of an upload of a bucket

module _ (rows : TenantRows) (b : Octets) (B : Bucket) (at : get (buckets_of rows) b ≡ Some B) where
  pub get-uploads : (n : ℕ) → get B.uploads n ≡ option_map (upload_shown rows.parts n) (first (at_number n (uploads_in b rows.uploads)))
  get-uploads n = ap (λ (x : Bucket). get x.uploads n) (sym (bucket_row rows b B at).2) ∙ get-keyed numbers (λ (u : UploadRow). u.upload) (upload_shown rows.parts) (uploads_in b rows.uploads) n

  module _ (n : ℕ) (U : Upload) (there : get B.uploads n ≡ Some U) where
    pub upload_row : (r : UploadRow) × (first (at_number n (uploads_in b rows.uploads)) ≡ Some r) × (upload_shown rows.parts n r ≡ U)
    upload_row = row_of (upload_shown rows.parts n) (first (at_number n (uploads_in b rows.uploads))) U (sym (get-uploads n) ∙ there)

    module _ (one : HasUnique same_number (λ (u : UploadRow). u.upload) rows.uploads) where
      swapped : first (uploads_in b (at_number n rows.uploads)) ≡ Some upload_row.0
      swapped = ap first (sym (filter_swap (λ (u : UploadRow). same_number u.upload n) (λ u. bytes_eq u.bucket b) rows.uploads)) ∙ upload_row.1

      -- it is the only one of its number
      pub upload_alone : at_number n rows.uploads ≡ upload_row.0 ∷ []
      upload_alone = all_of_one (λ (u : UploadRow). bytes_eq u.bucket b) (at_number n rows.uploads) (one n) upload_row.0 swapped

      pub upload_bucket : upload_row.0.bucket ≡ b
      upload_bucket = (octets.decides upload_row.0.bucket b).0 (first_passes (λ (u : UploadRow). bytes_eq u.bucket b) (at_number n rows.uploads) upload_row.0 swapped)

      -- so it is in no other bucket
      pub upload_elsewhere : (q : Octets) → b ≢ q → at_number n (uploads_in q rows.uploads) ≡ []
      upload_elsewhere q apart =
          filter_swap (λ (u : UploadRow). same_number u.upload n) (λ u. bytes_eq u.bucket q) rows.uploads ∙ ap (uploads_in q) upload_alone
          ∙ ap (λ c. cond c (upload_row.0 ∷ []) []) (ap (λ z. bytes_eq z q) upload_bucket ∙ is_other octets b q apart)
