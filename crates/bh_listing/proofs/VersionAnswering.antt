-- What was gathered of a bucket's versions is the page that the machine lists.
use Rattle.std.proofs.Common.{◌≡◌, suc, List, map, take, Option, Some, None, option_map, Ok, refl, sym, ap, ◌∙◌}
use Rattle.std.specs.FinMap.{entries, get}
use Rattle.sqlite_keyed.specs.Lists.{sort_by}
use Rattle.sqlite_typed.specs.Tests.{bytes_eq}
use Rattle.bh_types.specs.Outcomes.{◌>>=◌}
use Rattle.bh_types.specs.declared.bucket_state.BucketState.{BucketState}
use Rattle.bh_types.specs.declared.wanted.Wanted.{Wanted}
use Rattle.bh_model.specs.State.{Octets, Bucket, State}
use Rattle.bh_model.specs.Pages as model
use Rattle.bh_model.specs.Pages.{Listed, VersionItem, VersionPlace, VersionsListed, paged, passes_version, key_of, all_versions, versions_after, entries_after, versions_page, versions_told}
use Rattle.bh_model.specs.Listings.{versions_listed, list_versions}
use Rattle.bh_model.specs.Operations.{Versions}
use Rattle.bh_tables.specs.Typed.{VersionRow, Tables}
use Rattle.bh_view.specs.Sound.{IsSound}
use Rattle.bh_storage.specs.Calls.{GivesStep}
use Rattle.bh_view.specs.View.{view, latest_of, rows_of, in_bucket, objects_of, buckets_of}
use Rattle.bh_view.proofs.BucketLemmas.{objects_shown}
use Rattle.bh_view.proofs.SharedLemmas.{shared_none}
use Rattle.bh_view.proofs.ViewLemmas.{own_row}
use Rattle.bh_objects.specs.Found.{mode_in}
use Rattle.bh_objects.proofs.Putting.{has_bucket}
use Rattle.bh_pages.specs.declared.gathering.PageAsked.{PageAsked}
use Rattle.bh_pages.specs.declared.gathering.Listed as program
use Rattle.bh_pages.specs.declared.versions.ShownVersion.{ShownVersion}
use Rattle.bh_pages.specs.Seen.{token_of}
use Rattle.bh_pages.specs.Versions.{items_next, seen_entry}
use Rattle.bh_pages.proofs.VersionRows.{filter_twice}
use Rattle.bh_listing.specs.Rows.{version_order}
use Rattle.bh_listing.specs.Told.{asked_view}
use Rattle.bh_listing.specs.Versions.{row_numbered, own_rows, place_view, versions_of_rows}
use Rattle.bh_listing.proofs.Answering.{paged_taken, sizes}
use Rattle.bh_listing.proofs.Small.{entries_apart}
use Rattle.bh_listing.proofs.VersionViewed.{versions_are}

told_in : (b : Octets) (asked : model.PageAsked) (marker : Option VersionPlace) (v : Option State) (s : State) (B : Bucket) → v ≡ Some s → get s.buckets b ≡ Some B
    → versions_listed b asked marker v ≡ Ok (versions_told b asked (versions_page asked marker (entries B.objects)))
told_in b asked marker v s B is at = rw (is, at) refl

key_placed : (token : Option Octets) (version : Wanted) → key_of (option_map (λ key. record { key = key; version = version }) token) ≡ token
key_placed None version = refl
key_placed (Some key) version = refl

module _ (tables : Tables) (t b : Octets) (sound : IsSound tables) where
  abbrev own : List VersionRow
  own = in_bucket b (rows_of t tables).versions

  -- the versions of the tables' rows are those of the bucket's map
  items_are : items_next None (own_rows t b tables.versions) ≡ all_versions (entries (objects_of own))
  items_are =
      ap (λ l. items_next None (map row_numbered (sort_by version_order l))) (filter_twice (λ (v : VersionRow). bytes_eq v.tenant t) (λ (v : VersionRow). bytes_eq v.bucket b) tables.versions)
      ∙ versions_are own (sizes tables t b sound) (entries_apart (objects_of own))

  pub lists : (mode : BucketState) → mode_in b (view tables t) ≡ Ok mode → (asked : PageAsked) (version : Wanted) (es : List (Listed VersionItem))
      → es ≡ take (suc asked.max) (versions_of_rows asked version (own_rows t b tables.versions))
      → versions_listed b (asked_view asked) (place_view asked version) (view tables t) ≡ Ok (versions_told b (asked_view asked) (paged asked.max es))
  lists mode found asked version es are =
      let h = has_bucket b (view tables t) mode found in
      let here : get (buckets_of (rows_of t tables)) b ≡ Some h.bucket = ap (λ (x : State). get x.buckets b) (own_row tables t h.state h.added).2 ∙ h.there in
      let marker : Option VersionPlace = place_view asked version in
      let listing : Option Octets → List VersionItem → List (Listed VersionItem) =
      λ token items. entries_after asked.prefix.now asked.delimiter.now (λ (v : VersionItem). v.key) (passes_version token) (versions_after marker items) in
      let same : versions_of_rows asked version (own_rows t b tables.versions) ≡ listing (key_of marker) (all_versions (entries h.bucket.objects)) =
      ap (listing (token_of asked)) (items_are ∙ ap (λ m. all_versions (entries m)) (objects_shown (rows_of t tables) b h.bucket here))
      ∙ ap (λ token. listing token (all_versions (entries h.bucket.objects))) (sym (key_placed (token_of asked) version)) in
      told_in b (asked_view asked) marker (view tables t) h.state h.bucket h.added h.there
      ∙ ap (λ p. Ok (versions_told b (asked_view asked) p)) (ap (paged asked.max) (sym same) ∙ sym (paged_taken asked.max (versions_of_rows asked version (own_rows t b tables.versions))) ∙ ap (paged asked.max) (sym are))

  -- the same of what a call has at hand
  pub list_is : (mode : BucketState) → mode_in b (view tables t) ≡ Ok mode → (asked : PageAsked) (version : Wanted) (current : Tables) (tenant bucket name : Octets) → current ≡ tables → tenant ≡ t → bucket ≡ b → name ≡ b
      → (es slice : List (program.Listed ShownVersion)) → slice ≡ es → map seen_entry es ≡ take (suc asked.max) (versions_of_rows asked version (own_rows tenant bucket current.versions))
      → (page : VersionsListed) → page ≡ versions_told name (asked_view asked) (paged asked.max (map seen_entry slice)) → versions_listed b (asked_view asked) (place_view asked version) (view tables t) ≡ Ok page
  list_is mode found asked version current tenant bucket name is_now is_t is_b is_name es slice is_slice gathered page told =
      lists mode found asked version (map seen_entry es) (gathered ∙ (λ i. take (suc asked.max) (versions_of_rows asked version (own_rows (is_t i) (is_b i) ((is_now i).versions)))))
      ∙ ap (λ p. Ok p) (sym (told ∙ (λ i. versions_told (is_name i) (asked_view asked) (paged asked.max (map seen_entry (is_slice i))))))

-- the machine's step, where no row changed
pub list_step : (old new : Tables) (t b : Octets) (asked : model.PageAsked) (marker : Option VersionPlace) (page : VersionsListed) → versions_listed b asked marker (view old t) ≡ Ok page → new ≡ old
    → GivesStep t (list_versions b asked marker) (Versions page) old new
list_step old new t b asked marker page is same = record {
  gives = ap (λ r. r >>= (λ (p : VersionsListed). Ok (Versions p, view old t))) is ∙ ap (λ (x : Tables). Ok (Versions page, view x t)) (sym same);
  others = λ u apart. ap (λ (x : Tables). view x u) same;
  latest = ap latest_of same;
  shared = shared_none old new same;
}
