-- That no change before a version's date takes the version away or brings the date nearer.
use Rattle.std.proofs.Common.{◌≡◌, ℕ, ◌<◌, ◌≤◌, ◌==◌, ◌^◌, nat_le, Bool, true, false, true≢false, cond, not, ◌&&◌, List, [], ◌∷◌, Option, Some, None, option_and_then, is_none, is_some, unwrap_or, Result, Ok, Err, refl, sym, subst, ap, ◌∙◌, arith, leb-true, eqb-true}
use Rattle.std.specs.List.{find, AllByRecursion}
use Rattle.std.specs.Result.{IfOk}
use Rattle.std.specs.Ordering.{eq_by_cmp}
use Rattle.std.specs.Cmp.{Equal-is}
use Rattle.std.specs.FinMap.{FinMap, get, insert, remove, get-empty, get-insert, get-remove, empty_of_len}
use Rattle.std.proofs.lemmas.Bool.Decides.{nat_tests}
use Rattle.std.proofs.lemmas.Option.{none-some, same_Some}
use Rattle.bh_types.specs.Checksums.{checksum_text}
use Rattle.bh_types.specs.Names.{is_tenant_name, is_key_name, is_secret}
use Rattle.bh_types.specs.Outcomes.{◌>>=◌}
use Rattle.bh_types.specs.Rejections.{plainly, for_date}
use Rattle.bh_types.specs.declared.bucket_state.BucketState.{BucketState}
use Rattle.bh_types.specs.declared.bucket_state.BucketState.TheVariants.{Unversioned, Enabled, Suspended}
use Rattle.bh_types.specs.declared.id.UploadId.{UploadId}
use Rattle.bh_types.specs.declared.id.VersionId.{VersionId}
use Rattle.bh_types.specs.declared.id.VersionId.TheVariants.{Null, Numbered}
use Rattle.bh_types.specs.declared.refusal.Refusal.{Refusal}
use Rattle.bh_types.specs.declared.refusal.Refusal.TheVariants.{AccessDenied, InvalidName, InvalidQuota, TenantExists, KeyExists, NoSuchKeyName, BucketAlreadyOwnedByYou, BucketNotEmpty, InvalidBucketState, BadDigest, QuotaExceeded, CounterExhausted}
use Rattle.bh_types.specs.declared.wanted.Wanted.{Wanted}
use Rattle.bh_types.specs.declared.wanted.Wanted.TheVariants.{Current, Named, Unknown}
use Rattle.bh_model.specs.FinMaps.{is_empty}
use Rattle.bh_model.specs.State.{Octets, octets_cmp, version_cmp, Content, Content.Marker, Content.Body, Entry, Part, Dates, Bucket, State, new_tenant, new_bucket, purged_bucket}
use Rattle.bh_model.specs.Counting.{counts, can_give, after_entry, after_delete}
use Rattle.bh_model.specs.Entries.{same_id, has_id, is_version, without, new_id, kept, added, deleted_current, deleted}
use Rattle.bh_model.specs.Ids.{WasGiven, BucketIsNumbered, IsNumbered}
use Rattle.bh_model.specs.Parts.{Naming, is_checksum, completed}
use Rattle.bh_model.specs.Quotas.{keeps_quota}
use Rattle.bh_model.specs.Retained.{Retained, IsNotBefore, IsKeptIn, IsRetained}
use Rattle.bh_model.specs.Retention.{keeps_versions, can_retain, date_of, named_date, may_go, dated_if, with_date, undated_by, may_retain, first_date}
use Rattle.bh_model.specs.Runs.{purged_tenant}
use Rattle.bh_model.specs.Operations.{Answer.Done, Outcome, listed, with_deleted, with_bucket, with_entries, with_content, with_new_date, with_object, with_copy, found_version, source_version, add_tenant, set_quota, add_key, remove_key, create_bucket, put_object, copy_object, delete_object, put_retention}
use Rattle.bh_model.specs.Uploads.{with_upload, without_upload, with_stored, new_upload, create_upload, upload_part, complete_upload}
use Rattle.bh_model.proofs.Changes.{Always, Changes, Settings, found, of_bucket, of_plain_bucket, of_upload}
use Rattle.bh_model.proofs.DateLemmas.{version_total, version_same, find_has, is_numbered, lets}
use Rattle.bh_model.proofs.EntryLemmas.{find_left}
use Rattle.bh_model.proofs.IdLemmas.{listed_numbered}
use Rattle.bh_model.proofs.KeyLemmas.{tested, first}
use Rattle.bh_model.proofs.MapLemmas.{get-adjusted}
use Rattle.bh_model.proofs.QuotaLemmas.{whatever}
use Rattle.bh_model.proofs.UsedLemmas.{octets_total, octets_same}

-- ---- the version of a number among the entries of a key

module _ (n : ℕ) where
  abbrev numbered_one : List Entry → Option Entry
  numbered_one es = find (has_id (Numbered n)) es

  -- whether a delete names it
  abbrev is_named : Wanted → Bool
  is_named Current = false
  is_named (Named id) = same_id id (Numbered n)
  is_named Unknown = false

  stays_without : (other id : VersionId) → same_id other (Numbered n) ≡ false → same_id id (Numbered n) ≡ true → not (same_id id other) ≡ true
  stays_without other Null apart is = absurd (true≢false (sym is))
  stays_without Null (Numbered m) apart is = refl
  stays_without (Numbered k) (Numbered m) apart is = let different : (m == k) ≡ false = grind (arith, nat_tests, apart, is) in ap not different

  one_without : (other : VersionId) → same_id other (Numbered n) ≡ false → (es : List Entry) → numbered_one (without other es) ≡ numbered_one es
  one_without other apart es = find_left (has_id (Numbered n)) (λ e. not (has_id other e)) (λ e. stays_without other e.id apart) es

  no_null : (id : VersionId) (b : Bool) → same_id id (Numbered n) ≡ true → not (same_id id Null && b) ≡ true
  no_null Null b is = absurd (true≢false (sym is))
  no_null (Numbered m) b is = refl

  one_kept : (mode : BucketState) (es : List Entry) → numbered_one (kept mode es) ≡ numbered_one es
  one_kept Unversioned es = one_without Null refl es
  one_kept Enabled es = refl
  one_kept Suspended es = one_without Null refl es

  -- a new entry has another number
  module _ (next : ℕ) (given : n < next) where
    new_other : (mode : BucketState) → same_id (new_id mode next) (Numbered n) ≡ false
    new_other Unversioned = refl
    new_other Enabled = let different : (next == n) ≡ false = grind (arith, nat_tests, given) in different
    new_other Suspended = refl

    one_added : (mode : BucketState) (moment : ℕ) (content : Content) (es : List Entry) → numbered_one (added mode next moment content es) ≡ numbered_one es
    one_added mode moment content es =
        ap (λ b. cond b (Some (record { id = new_id mode next; moment = moment; content = content })) (numbered_one (kept mode es))) (new_other mode) ∙ one_kept mode es

    one_after_delete : (mode : BucketState) (moment : ℕ) (es : List Entry) → numbered_one (deleted_current mode next moment es) ≡ numbered_one es
    one_after_delete Unversioned moment es = find_left (has_id (Numbered n)) (λ e. not (has_id Null e && is_version e)) (λ e. no_null e.id (is_version e)) es
    one_after_delete Enabled moment es = one_added Enabled moment Marker es
    one_after_delete Suspended moment es = one_added Suspended moment Marker es

    one_deleted : (mode : BucketState) (wanted : Wanted) (moment : ℕ) (es : List Entry) → is_named wanted ≡ false → numbered_one (deleted mode wanted next moment es) ≡ numbered_one es
    one_deleted mode Current moment es apart = one_after_delete mode moment es
    one_deleted mode (Named id) moment es apart = one_without id apart es
    one_deleted mode Unknown moment es apart = refl

  -- and the number was given
  found_given : (next : ℕ) (es : List Entry) (version : Entry) → AllByRecursion (λ e. WasGiven next e.id) es → numbered_one es ≡ Some version → n < next
  found_given next es version all is = subst (WasGiven next) (is_numbered n version.id (find_has (has_id (Numbered n)) es version is)) (each es all is)
    where
      here : (e : Entry) (rest : List Entry) → WasGiven next e.id → (numbered_one rest ≡ Some version → WasGiven next version.id) → (b : Bool) → cond b (Some e) (numbered_one rest) ≡ Some version → WasGiven next version.id
      here e rest one later true is = subst (λ x. WasGiven next x.id) (same_Some e version is) one
      here e rest one later false is = later is

      each : (es : List Entry) → AllByRecursion (λ e. WasGiven next e.id) es → numbered_one es ≡ Some version → WasGiven next version.id
      each [] all is = absurd (none-some version is)
      each (e ∷ es) all is = here e es all.0 (each es all.1) (has_id (Numbered n) e) is

-- ---- the entries of a bucket's keys

picked : (b : Bool) (o p : Option (List Entry)) → unwrap_or (cond b o p) [] ≡ cond b (unwrap_or o []) (unwrap_or p [])
picked true o p = refl
picked false o p = refl

listed_set : (key other : Octets) (es : List Entry) (b : Bucket) → listed key (with_entries other es b) ≡ cond (eq_by_cmp octets_cmp key other) es (listed key b)
listed_set key other [] b = ap (λ o. unwrap_or o []) (get-remove octets_total b.objects other key) ∙ picked (eq_by_cmp octets_cmp key other) None (get b.objects key)
listed_set key other (e ∷ es) b = ap (λ o. unwrap_or o []) (get-insert octets_total b.objects other (e ∷ es) key) ∙ picked (eq_by_cmp octets_cmp key other) (Some (e ∷ es)) (get b.objects key)

one_in : (n : ℕ) (key other : Octets) (es : List Entry) (b : Bucket) → (key ≡ other → numbered_one n es ≡ numbered_one n (listed other b))
    → numbered_one n (listed key (with_entries other es b)) ≡ numbered_one n (listed key b)
one_in n key other es b h = ap (numbered_one n) (listed_set key other es b) ∙ go (eq_by_cmp octets_cmp key other) refl
  where
    go : (t : Bool) → eq_by_cmp octets_cmp key other ≡ t → numbered_one n (cond t es (listed key b)) ≡ numbered_one n (listed key b)
    go true is = (let same = octets_same key other ((Equal-is _).0 is) in h same ∙ ap (λ k. numbered_one n (listed k b)) (sym same))
    go false is = refl

-- ---- dates

at_least : (until : ℕ) (date : Option ℕ) → IsNotBefore until date → until ≤ unwrap_or date 0
at_least until None h = absurd h
at_least until (Some date) h = h

module _ (key : Octets) (n until : ℕ) where
  abbrev IsDated : Dates → Type 0
  IsDated dates = IsNotBefore until (get dates (key, n))

  same_version : (other : Octets) (m : ℕ) → eq_by_cmp version_cmp (key, n) (other, m) ≡ true → (key ≡ other) × (n ≡ m)
  same_version other m is = let both = version_same (key, n) (other, m) ((Equal-is _).0 is) in (ap (λ v. v.0) both, ap (λ v. v.1) both)

  dated_on : (other : Octets) (id : VersionId) (date : Option ℕ) (dates : Dates) → IsDated dates → (key ≡ other → Numbered n ≡ id → IsNotBefore until date) → IsDated (dated_if other id date dates)
  dated_on other id None dates was on = was
  dated_on other Null (Some date) dates was on = was
  dated_on other (Numbered m) (Some date) dates was on =
      subst (IsNotBefore until) (sym (get-insert version_total dates (other, m) date (key, n))) (go (eq_by_cmp version_cmp (key, n) (other, m)) refl)
    where
      go : (t : Bool) → eq_by_cmp version_cmp (key, n) (other, m) ≡ t → IsNotBefore until (cond t (Some date) (get dates (key, n)))
      go true is = (let same = same_version other m is in on same.0 (ap Numbered same.1))
      go false is = was

  dated_still : (other : Octets) (wanted : Wanted) (dates : Dates) → IsDated dates → (key ≡ other → is_named n wanted ≡ false) → IsDated (undated_by other wanted dates)
  dated_still other Current dates was apart = was
  dated_still other (Named Null) dates was apart = was
  dated_still other (Named (Numbered m)) dates was apart =
      subst (IsNotBefore until) (sym (get-remove version_total dates (other, m) (key, n))) (go (eq_by_cmp version_cmp (key, n) (other, m)) refl)
    where
      go : (t : Bool) → eq_by_cmp version_cmp (key, n) (other, m) ≡ t → IsNotBefore until (cond t None (get dates (key, n)))
      go true is = (let same = same_version other m is in let different = apart same.0 in let equal = same.1 in absurd (grind (arith, nat_tests, different, equal)))
      go false is = was
  dated_still other Unknown dates was apart = was

-- ---- buckets

module _ (r : Retained) where
  abbrev Number : VersionId
  Number = Numbered r.number

  -- a bucket with a new version
  kept_beside : (next moment : ℕ) (other : Octets) (content : Content) (date : Option ℕ) (b : Bucket) → r.number < next → IsKeptIn r b → IsKeptIn r (with_new_date other next date (with_content moment other next content b))
  kept_beside next moment other content date b given was = record {
    stands = one_in r.number r.key other (added b.mode next moment content (listed other b)) b (λ _. one_added r.number next given b.mode moment content (listed other b)) ∙ was.stands;
    dated = dated_on r.key r.number r.until other (new_id b.mode next) date b.dates was.dated (λ _ new. absurd (true≢false (
        sym (numbers_itself r.number) ∙ ap (λ id. same_id id Number) new ∙ new_other r.number next given b.mode)));
  }
    where
      numbers_itself : (n : ℕ) → same_id (Numbered n) (Numbered n) ≡ true
      numbers_itself n = let same : (n == n) ≡ true = grind (arith, nat_tests) in same

  -- one whose version that a delete names may go
  kept_after : (next moment : ℕ) (other : Octets) (wanted : Wanted) (b : Bucket) → r.number < next → moment < r.until → may_go (named_date other wanted b) moment ≡ true → IsKeptIn r b → IsKeptIn r (with_deleted moment other wanted next b)
  kept_after next moment other wanted b given early goes was = record {
    stands = one_in r.number r.key other (deleted b.mode wanted next moment (listed other b)) b (λ same. one_deleted r.number next given b.mode wanted moment (listed other b) (apart wanted goes same)) ∙ was.stands;
    dated = dated_still r.key r.number r.until other wanted b.dates was.dated (apart wanted goes);
  }
    where
      too_early : (date : Option ℕ) → IsNotBefore r.until date → may_go date moment ≡ true → ⊥
      too_early date dated goes = let low = at_least r.until date dated in let high = leb-true _ _ goes in omega (arith, low, high, early)

      unnamed : (id : VersionId) → may_go (date_of other id b) moment ≡ true → r.key ≡ other → (t : Bool) → same_id id Number ≡ t → t ≡ false
      unnamed id goes same false is = refl
      unnamed id goes same true is = absurd (too_early (date_of other id b) (
          subst (λ k. IsNotBefore r.until (date_of k id b)) same (subst (λ id. IsNotBefore r.until (date_of r.key id b)) (sym (is_numbered r.number id is)) was.dated)) goes)

      apart : (wanted : Wanted) → may_go (named_date other wanted b) moment ≡ true → r.key ≡ other → is_named r.number wanted ≡ false
      apart Current goes same = refl
      apart (Named id) goes same = unnamed id goes same (same_id id Number) refl
      apart Unknown goes same = refl

  -- one where a version's date moves on
  kept_longer : (other : Octets) (id : VersionId) (date : ℕ) (b : Bucket) → unwrap_or (date_of other id b) 0 ≤ date → IsKeptIn r b → IsKeptIn r (with_date other id (Some date) b)
  kept_longer other id date b on was = record {
    stands = was.stands;
    dated = dated_on r.key r.number r.until other id (Some date) b.dates was.dated (λ same this.
        let low = at_least r.until (date_of other id b) (subst (λ k. IsNotBefore r.until (date_of k id b)) same (subst (λ id. IsNotBefore r.until (date_of r.key id b)) this was.dated)) in
        omega (arith, low, on));
  }

  kept_alike : (b c : Bucket) → c.objects ≡ b.objects → c.dates ≡ b.dates → IsKeptIn r b → IsKeptIn r c
  kept_alike b c objects dates was = record {
    stands = ap (λ m. numbered_one r.number (unwrap_or (get m r.key) [])) objects ∙ was.stands;
    dated = subst (λ m. IsNotBefore r.until (get m (r.key, r.number))) (sym dates) was.dated;
  }

  -- a bucket without entries keeps none
  none_kept : (b : Bucket) → is_empty b.objects ≡ true → IsKeptIn r b → ⊥
  none_kept b empty was = none-some r.version (
      sym (ap (λ m. numbered_one r.number (unwrap_or (get m r.key) [])) (empty_of_len b.objects (eqb-true _ _ empty)) ∙ ap (λ o. numbered_one r.number (unwrap_or o [])) (get-empty octets_cmp r.key))
      ∙ was.stands)

  given_in : (next : ℕ) (b : Bucket) → BucketIsNumbered next b → IsKeptIn r b → r.number < next
  given_in next b all was = found_given r.number next (listed r.key b) r.version (listed_numbered next r.key b all).given was.stands

  -- ---- tenants

  abbrev KeptAmong : FinMap octets_cmp Bucket → Type 0
  KeptAmong buckets = (b : Bucket) × (get buckets r.bucket ≡ Some b) × IsKeptIn r b

  this_one : (buckets : FinMap octets_cmp Bucket) (name : Octets) (b c : Bucket) → eq_by_cmp octets_cmp r.bucket name ≡ true → get buckets r.bucket ≡ Some b → get buckets name ≡ Some c → b ≡ c
  this_one buckets name b c is at there = same_Some b c (sym at ∙ ap (get buckets) (octets_same r.bucket name ((Equal-is _).0 is)) ∙ there)

  -- with another bucket in the place of one
  kept_among : (buckets : FinMap octets_cmp Bucket) (name : Octets) (b c : Bucket) → get buckets name ≡ Some b → (IsKeptIn r b → IsKeptIn r c) → KeptAmong buckets → KeptAmong (insert buckets name c)
  kept_among buckets name b c there h (d, at, was) = go (eq_by_cmp octets_cmp r.bucket name) refl
    where
      go : (t : Bool) → eq_by_cmp octets_cmp r.bucket name ≡ t → KeptAmong (insert buckets name c)
      go true is = (c, get-insert octets_total buckets name c r.bucket ∙ ap (λ t. cond t (Some c) (get buckets r.bucket)) is, h (subst (IsKeptIn r) (this_one buckets name d b is at there) was))
      go false is = (d, get-insert octets_total buckets name c r.bucket ∙ ap (λ t. cond t (Some c) (get buckets r.bucket)) is ∙ at, was)

  kept_with_new : (buckets : FinMap octets_cmp Bucket) (name : Octets) (c : Bucket) → is_none (get buckets name) ≡ true → KeptAmong buckets → KeptAmong (insert buckets name c)
  kept_with_new buckets name c none (d, at, was) = go (eq_by_cmp octets_cmp r.bucket name) refl
    where
      go : (t : Bool) → eq_by_cmp octets_cmp r.bucket name ≡ t → KeptAmong (insert buckets name c)
      go true is = absurd (true≢false (sym (ap is_none (sym at ∙ ap (get buckets) (octets_same r.bucket name ((Equal-is _).0 is))) ∙ none)))
      go false is = (d, get-insert octets_total buckets name c r.bucket ∙ ap (λ t. cond t (Some c) (get buckets r.bucket)) is ∙ at, was)

  kept_without : (buckets : FinMap octets_cmp Bucket) (name : Octets) (b : Bucket) → get buckets name ≡ Some b → is_empty b.objects ≡ true → KeptAmong buckets → KeptAmong (remove buckets name)
  kept_without buckets name b there empty (d, at, was) = go (eq_by_cmp octets_cmp r.bucket name) refl
    where
      go : (t : Bool) → eq_by_cmp octets_cmp r.bucket name ≡ t → KeptAmong (remove buckets name)
      go true is = absurd (none_kept b empty (subst (IsKeptIn r) (this_one buckets name d b is at there) was))
      go false is = (d, get-remove octets_total buckets name r.bucket ∙ ap (λ t. cond t None (get buckets r.bucket)) is ∙ at, was)

  -- ---- changes

  abbrev pub KeepsRetained : Option State → Option State → Type 0
  KeepsRetained s t = IsNumbered s → IsRetained r s → IsRetained r t

  same_entries : (name : Octets) (t : State) (b c : Bucket) → get t.buckets name ≡ Some b → c.objects ≡ b.objects → c.dates ≡ b.dates → IsNumbered (Some t) → KeptAmong t.buckets → KeptAmong (insert t.buckets name c)
  same_entries name t b c there objects dates all was = kept_among t.buckets name b c there (kept_alike b c objects dates) was

  with_version : (moment : ℕ) (name key : Octets) (content : Content) (date : Option ℕ) (t : State) (b c : Bucket) → get t.buckets name ≡ Some b → c.objects ≡ b.objects → c.dates ≡ b.dates → c.mode ≡ b.mode
      → IsNumbered (Some t) → KeptAmong t.buckets → KeptAmong (insert t.buckets name (with_new_date key t.next_version date (with_content moment key t.next_version content c)))
  with_version moment name key content date t b c there objects dates mode all was =
      kept_among t.buckets name b (with_new_date key t.next_version date (with_content moment key t.next_version content c)) there
      (λ kept. kept_beside t.next_version moment key content date c (given_in t.next_version b (all name b there) kept) (kept_alike b c objects dates kept)) was

  module _ (moment : ℕ) (early : moment < r.until) where
    pub changes_keep_retained : Changes KeepsRetained moment
    changes_keep_retained = record {
      stays = λ s all was. was;
      key_added = key_added;
      key_removed = key_removed;
      bucket_created = bucket_created;
      bucket_deleted = λ name s. of_bucket KeepsRetained name s _ (λ t b there.
          tested (is_empty b.objects && is_empty b.uploads) tt BucketNotEmpty _ _ (λ empty all was. kept_without t.buckets name b there (first _ _ empty) was));
      versioning_put = λ name mode s. of_bucket KeepsRetained name s _ (λ t b there.
          tested (keeps_versions b.locked mode) tt InvalidBucketState _ _ (λ _. same_entries name t b (record b { mode = mode }) there refl refl));
      lifecycle_put = λ name days s. of_bucket KeepsRetained name s _ (λ t b there. same_entries name t b (record b { days = Some days }) there refl refl);
      lifecycle_deleted = λ name s. of_bucket KeepsRetained name s _ (λ t b there. same_entries name t b (record b { days = None }) there refl refl);
      object_put = object_put;
      object_copied = object_copied;
      object_deleted = object_deleted;
      retention_put = retention_put;
      upload_created = upload_created;
      part_uploaded = part_uploaded;
      upload_completed = upload_completed;
      upload_aborted = λ name key upload s. of_upload KeepsRetained name key upload s _ (λ t b number u there here. same_entries name t b (without_upload number b) there refl refl);
    }
      where
        key_added : (tenant name secret : Octets) → Always KeepsRetained (add_key tenant name secret)
        key_added tenant name secret None = tested (is_tenant_name tenant && is_key_name name && is_secret secret) tt InvalidName _ _ (λ _. tt)
        key_added tenant name secret (Some t) =
            tested (is_tenant_name tenant && is_key_name name && is_secret secret) tt InvalidName _ _ (λ _. tested (is_none (get t.keys name)) tt KeyExists _ _ (λ _ all was. was))

        key_removed : (tenant name : Octets) → Always KeepsRetained (remove_key tenant name)
        key_removed tenant name None = tested (is_tenant_name tenant && is_key_name name) tt InvalidName _ _ (λ _. tt)
        key_removed tenant name (Some t) =
            tested (is_tenant_name tenant && is_key_name name) tt InvalidName _ _ (λ _. tested (is_some (get t.keys name)) tt NoSuchKeyName _ _ (λ _ all was. was))

        bucket_created : (name : Octets) (locked : Bool) → Always KeepsRetained (create_bucket moment name locked)
        bucket_created name locked None = tt
        bucket_created name locked (Some t) = tested (is_none (get t.buckets name)) tt BucketAlreadyOwnedByYou _ _ (λ none all was. kept_with_new t.buckets name (new_bucket moment locked) none was)

        object_put : (name key bytes : Octets) (given : Option Octets) (date : Option (Option ℕ)) → Always KeepsRetained (put_object moment name key bytes given date)
        object_put name key bytes given date s = of_bucket KeepsRetained name s _ (λ t b there.
            tested (is_checksum given bytes) tt BadDigest _ _ (λ _.
            whatever (first_date b.locked date moment) _ _ (λ until.
            tested (keeps_quota t (with_bucket name (with_object moment key t.next_version bytes b) t)) tt QuotaExceeded _ _ (λ _.
            whatever (after_entry b.mode (counts t)) _ _ (λ c. with_version moment name key (Body bytes (checksum_text bytes)) until t b b there refl refl refl)))))

        object_copied : (name key source_name source_key : Octets) (wanted : Wanted) (date : Option (Option ℕ)) → Always KeepsRetained (copy_object moment name key source_name source_key wanted date)
        object_copied name key source_name source_key wanted date s = of_bucket KeepsRetained name s _ (λ t b there.
            whatever (source_version source_name source_key wanted s) _ _ (λ v.
            whatever (first_date b.locked date moment) _ _ (λ until.
            tested (keeps_quota t (with_bucket name (with_copy moment key t.next_version v b) t)) tt QuotaExceeded _ _ (λ _.
            whatever (after_entry b.mode (counts t)) _ _ (λ c. with_version moment name key (Body v.bytes v.checksum) until t b b there refl refl refl)))))

        object_deleted : (name key : Octets) (wanted : Wanted) → Always KeepsRetained (delete_object moment name key wanted)
        object_deleted name key wanted s = of_bucket KeepsRetained name s _ (λ t b there.
            tested (may_go (named_date key wanted b) moment) tt AccessDenied _ _ (λ goes.
            whatever (after_delete b.mode wanted (counts t)) _ _ (λ c all was.
            kept_among t.buckets name b (with_deleted moment key wanted t.next_version b) there
            (λ kept. kept_after t.next_version moment key wanted b (given_in t.next_version b (all name b there) kept) early goes kept) was)))

        retention_put : (name key : Octets) (wanted : Wanted) (date : ℕ) → Always KeepsRetained (put_retention moment name key wanted date)
        retention_put name key wanted date s = of_plain_bucket KeepsRetained name s _ (λ t b there.
            whatever (for_date (found_version key wanted b)) _ _ (λ v. puts t b there v.id))
          where
            puts : (t : State) (b : Bucket) → get t.buckets name ≡ Some b → (id : VersionId)
                → IfOk {T = Outcome} (plainly (may_retain (can_retain b.locked id) (date_of key id b) (Some date) moment) >>= (λ _. Ok (Done, Some (with_bucket name (with_date key id (Some date) b) t)))) (λ o. KeepsRetained (Some t) o.1)
            puts t b there id = go (may_retain (can_retain b.locked id) (date_of key id b) (Some date) moment) refl
              where
                go : (result : Result (Unit {0}) Refusal) → may_retain (can_retain b.locked id) (date_of key id b) (Some date) moment ≡ result
                    → IfOk {T = Outcome} (plainly result >>= (λ _. Ok (Done, Some (with_bucket name (with_date key id (Some date) b) t)))) (λ o. KeepsRetained (Some t) o.1)
                go (Err e) is = tt
                go (Ok _) is = λ all was. kept_among t.buckets name b (with_date key id (Some date) b) there
                    (kept_longer key id date b (lets (can_retain b.locked id) (date_of key id b) date moment is).1) was

        upload_created : (name key : Octets) → Always KeepsRetained (create_upload moment name key)
        upload_created name key s = of_bucket KeepsRetained name s _ (λ t b there.
            tested (can_give t.next_upload) _ CounterExhausted _ _ (λ _. same_entries name t b (with_upload t.next_upload (new_upload key moment) b) there refl refl))

        part_uploaded : (number : ℕ) (name key bytes : Octets) (upload : Option UploadId) (given : Option Octets) → Always KeepsRetained (upload_part moment name key upload number bytes given)
        part_uploaded number name key bytes upload given s =
            let p : Part = record { bytes = bytes; moment = moment } in
            of_upload KeepsRetained name key upload s _ (λ t b place u there here.
            tested (is_checksum given bytes) tt BadDigest _ _ (λ _.
            tested (keeps_quota t (with_bucket name (with_stored (found t b place u) number p) t)) tt QuotaExceeded _ _ (λ _.
            tested (can_give t.next_entry) _ CounterExhausted _ _ (λ _. same_entries name t b (with_stored (found t b place u) number p) there refl refl))))

        upload_completed : (least : ℕ) (name key : Octets) (upload : Option UploadId) (names : List Naming) → Always KeepsRetained (complete_upload moment least name key upload names)
        upload_completed least name key upload names s = of_upload KeepsRetained name key upload s _ (λ t b number u there here.
            whatever (completed least u.parts names) _ _ (λ content.
            whatever (after_entry b.mode (counts t)) _ _ (λ c. with_version moment name key content None t b (without_upload number b) there refl refl refl)))

  pub settings_keep_retained : Settings KeepsRetained
  settings_keep_retained = record { tenant_added = tenant_added; quota_set = quota_set }
    where
      -- none was there that kept anything
      unkept : (s : Option State) (t : State) → is_none s ≡ true → KeepsRetained s (Some t)
      unkept None t none = λ all was. absurd was
      unkept (Some u) t none = absurd (true≢false (sym none))

      tenant_added : (name : Octets) (quota : ℕ) → Always KeepsRetained (add_tenant name quota)
      tenant_added name quota s =
          tested (is_tenant_name name) tt InvalidName _ _ (λ _.
          tested (nat_le quota (2 ^ 60)) tt InvalidQuota _ _ (λ _.
          tested (is_none s) tt TenantExists _ _ (unkept s (new_tenant quota))))

      quota_set : (name : Octets) (quota : ℕ) → Always KeepsRetained (set_quota name quota)
      quota_set name quota None = tested (is_tenant_name name) tt InvalidName _ _ (λ _. tested (nat_le quota (2 ^ 60)) tt InvalidQuota _ _ (λ _. tt))
      quota_set name quota (Some t) = tested (is_tenant_name name) tt InvalidName _ _ (λ _. tested (nat_le quota (2 ^ 60)) tt InvalidQuota _ _ (λ _ all was. was))

  -- a purge drops uploads alone
  pub purge_keeps_retained : (now : ℕ) (s : Option State) → IsRetained r s → IsRetained r (purged_tenant s now)
  purge_keeps_retained now None was = was
  purge_keeps_retained now (Some t) (b, at, was) =
      (purged_bucket now b, get-adjusted octets_total octets_same (λ c. Some (purged_bucket now c)) t.buckets r.bucket ∙ ap (option_and_then (λ c. Some (purged_bucket now c))) at, kept_alike b (purged_bucket now b) refl refl was)
