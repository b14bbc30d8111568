-- What was gathered of a bucket's rows is the page that the machine lists.
use Rattle.std.proofs.Common.{◌≡◌, ℕ, zero, suc, ◌≤◌, nat_lt, Bool, true, false, cond, List, [], ◌∷◌, length, map, take, Option, Some, None, Ok, refl, sym, ap, ◌∙◌, arith}
use Rattle.std.proofs.lemmas.Bool.Decides.{nat_tests}
use Rattle.std.specs.List.{AllByRecursion}
use Rattle.std.specs.FinMap.{entries, get}
use Rattle.sqlite_keyed.specs.Lists.{sort_by}
use Rattle.sqlite_keyed.proofs.ListLemmas.{all-filter}
use Rattle.sqlite_typed.specs.Tests.{bytes_eq}
use Rattle.bh_types.specs.Outcomes.{◌>>=◌}
use Rattle.bh_types.specs.declared.bucket_state.BucketState.{BucketState}
use Rattle.bh_model.specs.State.{Octets, Bucket, State}
use Rattle.bh_model.specs.Pages as model
use Rattle.bh_model.specs.Pages.{objects_page, Listed, ObjectItem, ObjectsListed, last_of, paged, objects_told, objects_in, entries_after, after_name}
use Rattle.bh_model.specs.Listings.{objects_listed, list_objects}
use Rattle.bh_model.specs.Operations.{Objects}
use Rattle.bh_tables.specs.Typed.{VersionRow, Tables}
use Rattle.bh_view.specs.Sound.{IsSound}
use Rattle.bh_storage.specs.Calls.{GivesStep}
use Rattle.bh_view.specs.View.{view, latest_of, rows_of, in_bucket, objects_of, buckets_of}
use Rattle.bh_view.proofs.BucketLemmas.{objects_shown}
use Rattle.bh_view.proofs.SharedLemmas.{shared_none}
use Rattle.bh_view.proofs.SortLemmas.{all-sort_by}
use Rattle.bh_view.proofs.ViewLemmas.{own_row}
use Rattle.bh_objects.specs.Found.{mode_in}
use Rattle.bh_objects.proofs.Putting.{has_bucket}
use Rattle.bh_pages.specs.declared.gathering.PageAsked.{PageAsked}
use Rattle.bh_pages.specs.declared.gathering.Listed as program
use Rattle.bh_pages.specs.declared.gathering.ObjectLine.{ObjectLine}
use Rattle.bh_pages.specs.Seen.{seen_entry, token_of}
use Rattle.bh_pages.specs.Reading.{listing}
use Rattle.bh_pages.proofs.Taking.{all_to_come}
use Rattle.bh_listing.specs.Rows.{version_order, row_shown, bucket_rows}
use Rattle.bh_listing.specs.Told.{asked_view}
use Rattle.bh_listing.proofs.Small.{small_keys, all_turned, entries_apart}
use Rattle.bh_listing.proofs.Viewed.{entries_are}
use Rattle.bh_listing.proofs.Looping.{past_nat, upto_nat, shown_rows, are_rows}
use Rattle.bh_listing.proofs.Telling.{is_less}

-- ---- one entry more than a page takes is all that the page asks for

not_less : (a b : ℕ) → b ≤ a → nat_lt a b ≡ false
not_less a b h = grind (arith, nat_tests, h)

one_more : (a b : ℕ) → nat_lt (suc a) (suc b) ≡ nat_lt a b
one_more a b = go (nat_lt a b) refl
  where
    go : (t : Bool) → nat_lt a b ≡ t → nat_lt (suc a) (suc b) ≡ t
    go true e = let h = past_nat a b e in is_less (suc a) (suc b) (omega (arith, h))
    go false e = let h = upto_nat a b e in not_less (suc a) (suc b) (omega (arith, h))

module _ {E : Type 0} where
  take_less : (n : ℕ) (l : List E) → take n (take (suc n) l) ≡ take n l
  take_less zero l = refl
  take_less (suc n) [] = refl
  take_less (suc n) (x ∷ l) = ap (λ k. x ∷ k) (take_less n l)

  longer : (n : ℕ) (l : List E) → nat_lt n (length (take (suc n) l)) ≡ nat_lt n (length l)
  longer n [] = refl
  longer zero (x ∷ l) = sym (is_less 0 (suc (length l)) (omega arith))
  longer (suc n) (x ∷ l) = one_more n (length (take (suc n) l)) ∙ longer n l ∙ sym (one_more n (length l))

  pub paged_taken : (n : ℕ) (l : List E) → paged n (take (suc n) l) ≡ paged n l
  paged_taken n l = λ i. record { shown = take_less n l i; next = cond (longer n l i) (last_of (take_less n l i)) None }

-- ---- a bucket's page

told_in : (b : Octets) (asked : model.PageAsked) (token : Option Octets) (v : Option State) (s : State) (B : Bucket) → v ≡ Some s → get s.buckets b ≡ Some B
    → objects_listed b asked token v ≡ Ok (objects_told b asked (objects_page asked token (entries B.objects)))
told_in b asked token v s B is at = rw (is, at) refl

module _ (tables : Tables) (t b : Octets) (sound : IsSound tables) where
  abbrev own : List VersionRow
  own = in_bucket b (rows_of t tables).versions

  pub sizes : AllByRecursion (λ (v : VersionRow). v.size ≡ length v.bytes) (sort_by version_order own)
  sizes = all-sort_by version_order (λ (v : VersionRow). v.size ≡ length v.bytes) own
      (all-filter (λ (v : VersionRow). v.size ≡ length v.bytes) (λ (v : VersionRow). bytes_eq v.bucket b) (rows_of t tables).versions (all_turned (λ v good. good.size) (rows_of t tables).versions (sound.tenants t).versions.each))

  pub lists : (mode : BucketState) → mode_in b (view tables t) ≡ Ok mode → (asked : PageAsked) (es : List (Listed ObjectItem))
      → es ≡ take (suc asked.max) (listing asked (map row_shown (bucket_rows t b asked.prefix.now tables.versions)))
      → objects_listed b (asked_view asked) (token_of asked) (view tables t) ≡ Ok (objects_told b (asked_view asked) (paged asked.max es))
  lists mode found asked es are =
      let h = has_bucket b (view tables t) mode found in
      let here : get (buckets_of (rows_of t tables)) b ≡ Some h.bucket = ap (λ (x : State). get x.buckets b) (own_row tables t h.state h.added).2 ∙ h.there in
      let whole = listing asked (shown_rows asked t b tables.versions) in
      let same : whole ≡ entries_after asked.prefix.now asked.delimiter.now (λ (o : ObjectItem). o.key) (after_name (λ (o : ObjectItem). o.key) (token_of asked)) (objects_in (entries h.bucket.objects)) =
      sym (all_to_come asked (shown_rows asked t b tables.versions) (are_rows asked t b tables.versions (small_keys tables sound)))
      ∙ entries_are t b asked.prefix.now asked.delimiter.now (token_of asked) tables.versions (small_keys tables sound) sizes (entries_apart (objects_of own))
      ∙ ap (λ m. entries_after asked.prefix.now asked.delimiter.now (λ (o : ObjectItem). o.key) (after_name (λ (o : ObjectItem). o.key) (token_of asked)) (objects_in (entries m))) (objects_shown (rows_of t tables) b h.bucket here) in
      let told : objects_listed b (asked_view asked) (token_of asked) (view tables t) ≡ Ok (objects_told b (asked_view asked) (paged asked.max (entries_after asked.prefix.now asked.delimiter.now (λ (o : ObjectItem). o.key) (after_name (λ (o : ObjectItem). o.key) (token_of asked)) (objects_in (entries h.bucket.objects))))) =
      told_in b (asked_view asked) (token_of asked) (view tables t) h.state h.bucket h.added h.there in
      told ∙ ap (λ p. Ok (objects_told b (asked_view asked) p)) (ap (paged asked.max) (sym same) ∙ sym (paged_taken asked.max whole) ∙ ap (paged asked.max) (sym are))

  -- the same of what a call has at hand
  pub list_is : (mode : BucketState) → mode_in b (view tables t) ≡ Ok mode → (asked : PageAsked) (current : Tables) (tenant bucket name : Octets) → current ≡ tables → tenant ≡ t → bucket ≡ b → name ≡ b
      → (es slice : List (program.Listed ObjectLine)) → slice ≡ es → map seen_entry es ≡ take (suc asked.max) (listing asked (map row_shown (bucket_rows tenant bucket asked.prefix.now current.versions)))
      → (page : ObjectsListed) → page ≡ objects_told name (asked_view asked) (paged asked.max (map seen_entry slice)) → objects_listed b (asked_view asked) (token_of asked) (view tables t) ≡ Ok page
  list_is mode found asked current tenant bucket name is_now is_t is_b is_name es slice is_slice gathered page told =
      lists mode found asked (map seen_entry es) (gathered ∙ (λ i. take (suc asked.max) (listing asked (map row_shown (bucket_rows (is_t i) (is_b i) asked.prefix.now ((is_now i).versions))))))
      ∙ ap (λ p. Ok p) (sym (told ∙ (λ i. objects_told (is_name i) (asked_view asked) (paged asked.max (map seen_entry (is_slice i))))))

-- the machine's step, where no row changed
pub list_step : (old new : Tables) (t b : Octets) (asked : model.PageAsked) (token : Option Octets) (page : ObjectsListed) → objects_listed b asked token (view old t) ≡ Ok page → new ≡ old
    → GivesStep t (list_objects b asked token) (Objects page) old new
list_step old new t b asked token page is same = record {
  gives = ap (λ r. r >>= (λ (p : ObjectsListed). Ok (Objects p, view old t))) is ∙ ap (λ (x : Tables). Ok (Objects page, view x t)) (sym same);
  others = λ u apart. ap (λ (x : Tables). view x u) same;
  latest = ap latest_of same;
  shared = shared_none old new same;
}
