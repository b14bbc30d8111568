-- What was gathered of a bucket's uploads is the page that the machine lists.
use Rattle.std.proofs.Common.{◌≡◌, suc, List, map, take, Option, Some, Ok, refl, sym, ap, ◌∙◌}
use Rattle.std.specs.FinMap.{entries, get}
use Rattle.bh_types.specs.Outcomes.{◌>>=◌}
use Rattle.bh_types.specs.declared.bucket_state.BucketState.{BucketState}
use Rattle.bh_types.specs.declared.id.UploadId.{UploadId}
use Rattle.bh_model.specs.State.{Octets, Bucket, State}
use Rattle.bh_model.specs.Pages as model
use Rattle.bh_model.specs.Pages.{Listed, UploadItem, UploadPlace, UploadsListed, paged, all_uploads, uploads_page, uploads_told}
use Rattle.bh_model.specs.Listings.{uploads_listed, list_uploads}
use Rattle.bh_model.specs.Operations.{Uploads}
use Rattle.bh_tables.specs.Typed.{Tables}
use Rattle.bh_view.specs.Sound.{IsSound}
use Rattle.bh_storage.specs.Calls.{GivesStep}
use Rattle.bh_view.specs.View.{view, latest_of, rows_of, buckets_of}
use Rattle.bh_view.proofs.BucketLemmas.{uploads_shown}
use Rattle.bh_view.proofs.SharedLemmas.{shared_none}
use Rattle.bh_view.proofs.ViewLemmas.{own_row}
use Rattle.bh_objects.specs.Found.{mode_in}
use Rattle.bh_objects.proofs.Putting.{has_bucket}
use Rattle.bh_pages.specs.declared.gathering.PageAsked.{PageAsked}
use Rattle.bh_pages.specs.declared.gathering.Listed as program
use Rattle.bh_pages.specs.declared.uploads.UploadLine.{UploadLine}
use Rattle.bh_pages.specs.Uploads.{seen_entry}
use Rattle.bh_pages.specs.Places.{Place}
use Rattle.bh_listing.specs.Told.{asked_view}
use Rattle.bh_listing.proofs.Answering.{paged_taken}
use Rattle.bh_upload_listing.specs.Places.{place_view, uploads_of_items, listed_from}
use Rattle.bh_listing.specs.Uploads.{own_items}
use Rattle.bh_upload_listing.proofs.Viewed.{own_is, one_number, uploads_are}

told_in : (b : Octets) (asked : model.PageAsked) (marker : Option UploadPlace) (v : Option State) (s : State) (B : Bucket) → v ≡ Some s → get s.buckets b ≡ Some B
    → uploads_listed b asked marker v ≡ Ok (uploads_told b asked (uploads_page asked marker (entries B.uploads)))
told_in b asked marker v s B is at = rw (is, at) refl

-- what was gathered from a place, where the tables stayed
pub gathered_from : (asked : PageAsked) (place start : Place) (upload : Option UploadId) (t b : Octets) (old middle : Tables) (shown : List (Listed UploadItem)) → middle ≡ old → place ≡ start
    → listed_from asked start (own_items t b old.uploads) ≡ uploads_of_items asked upload (own_items t b old.uploads)
    → shown ≡ take (suc asked.max) (listed_from asked place (own_items t b middle.uploads)) → shown ≡ take (suc asked.max) (uploads_of_items asked upload (own_items t b old.uploads))
gathered_from asked place start upload t b old middle shown same at begins gathered =
    gathered ∙ ap (take (suc asked.max)) ((λ i. listed_from asked (at i) (own_items t b ((same i).uploads))) ∙ begins)

module _ (tables : Tables) (t b : Octets) (sound : IsSound tables) where
  lists : (mode : BucketState) → mode_in b (view tables t) ≡ Ok mode → (asked : PageAsked) (upload : Option UploadId) (es : List (Listed UploadItem))
      → es ≡ take (suc asked.max) (uploads_of_items asked upload (own_items t b tables.uploads))
      → uploads_listed b (asked_view asked) (place_view asked upload) (view tables t) ≡ Ok (uploads_told b (asked_view asked) (paged asked.max es))
  lists mode found asked upload es are =
      let h = has_bucket b (view tables t) mode found in
      let here : get (buckets_of (rows_of t tables)) b ≡ Some h.bucket = ap (λ (x : State). get x.buckets b) (own_row tables t h.state h.added).2 ∙ h.there in
      let same : own_items t b tables.uploads ≡ all_uploads (entries h.bucket.uploads) =
      own_is tables t b sound ∙ sym (ap (λ m. all_uploads (entries m)) (sym (uploads_shown (rows_of t tables) b h.bucket here)) ∙ uploads_are (rows_of t tables).parts _ (one_number tables t b sound)) in
      told_in b (asked_view asked) (place_view asked upload) (view tables t) h.state h.bucket h.added h.there
      ∙ ap (λ p. Ok (uploads_told b (asked_view asked) p)) (ap (λ l. paged asked.max (uploads_of_items asked upload l)) (sym same) ∙ sym (paged_taken asked.max (uploads_of_items asked upload (own_items t b tables.uploads))) ∙ ap (paged asked.max) (sym are))

  -- the same of what a call has at hand
  pub list_is : (mode : BucketState) → mode_in b (view tables t) ≡ Ok mode → (asked : PageAsked) (upload : Option UploadId) (current : Tables) (tenant bucket name : Octets) → current ≡ tables → tenant ≡ t → bucket ≡ b → name ≡ b
      → (es slice : List (program.Listed UploadLine)) → slice ≡ es → map seen_entry es ≡ take (suc asked.max) (uploads_of_items asked upload (own_items tenant bucket current.uploads))
      → (page : UploadsListed) → page ≡ uploads_told name (asked_view asked) (paged asked.max (map seen_entry slice)) → uploads_listed b (asked_view asked) (place_view asked upload) (view tables t) ≡ Ok page
  list_is mode found asked upload current tenant bucket name is_now is_t is_b is_name es slice is_slice gathered page told =
      lists mode found asked upload (map seen_entry es) (gathered ∙ (λ i. take (suc asked.max) (uploads_of_items asked upload (own_items (is_t i) (is_b i) ((is_now i).uploads)))))
      ∙ ap (λ p. Ok p) (sym (told ∙ (λ i. uploads_told (is_name i) (asked_view asked) (paged asked.max (map seen_entry (is_slice i))))))

-- the machine's step, where no row changed
pub list_step : (old new : Tables) (t b : Octets) (asked : model.PageAsked) (marker : Option UploadPlace) (page : UploadsListed) → uploads_listed b asked marker (view old t) ≡ Ok page → new ≡ old
    → GivesStep t (list_uploads b asked marker) (Uploads page) old new
list_step old new t b asked marker page is same = record {
  gives = ap (λ r. r >>= (λ (p : UploadsListed). Ok (Uploads p, view old t))) is ∙ ap (λ (x : Tables). Ok (Uploads page, view x t)) (sym same);
  others = λ u apart. ap (λ (x : Tables). view x u) same;
  latest = ap latest_of same;
  shared = shared_none old new same;
}
