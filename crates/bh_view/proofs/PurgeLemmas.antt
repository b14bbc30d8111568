-- A tenant's uploads go with their parts: the tables stay sound, and where it is the stale ones that go, what is left
-- shows the tenant's purged state.
use Rattle.std.proofs.Common.{◌≡◌, ℕ, Bool, true, false, not, ◌&&◌, ◌||◌, cond, List, [], ◌∷◌, Option, Some, None, option_map, option_and_then, filter, refl, sym, ap, ◌∙◌, subst, ◌≢◌}
use Rattle.std.specs.List.{list_any}
use Rattle.std.specs.FinMap.{same_map}
use Rattle.std.proofs.lemmas.Bool.{and_parts}
use Rattle.sqlite_keyed.specs.Lists.{delete_where}
use Rattle.sqlite_typed.specs.Tests.{bytes_eq}
use Rattle.bh_model.specs.FinMaps.{adjusted}
use Rattle.bh_model.specs.State.{Octets, Upload, State, is_stale, fresh, purged_bucket, purged}
use Rattle.bh_model.specs.Runs.{purged_tenant}
use Rattle.bh_model.proofs.MapLemmas.{get-adjusted}
use Rattle.bh_tables.specs.Shown.{is_bucket, is_upload}
use Rattle.bh_tables.specs.Typed.{TenantRow, BucketRow, UploadRow, PartRow, Tables}
use Rattle.bh_view.specs.Grouped.{first, same_number}
use Rattle.bh_view.specs.View.{TenantRows, rows_of, uploads_in, of_upload, parts_of, upload_shown, uploads_of, bucket_shown, buckets_of, state_of, state_shown, view, latest_of, named, goes, part_goes, days_in, is_stale_in, rows_purged}
use Rattle.bh_view.specs.Sound.{AreSound, IsSound}
use Rattle.bh_view.specs.Becomes.{Becomes}
use Rattle.bh_view.proofs.Keys.{octets, numbers}
use Rattle.bh_view.proofs.BucketLemmas.{get-buckets_of}
use Rattle.bh_view.proofs.FilterLemmas.{delete_other, filter_swap, filter_both, first_passes}
use Rattle.bh_view.proofs.FindLemmas.{first_find}
use Rattle.bh_view.proofs.GroupedLemmas.{get-keyed}
use Rattle.bh_view.proofs.OwnLemmas.{others_deleted, mine_deleted, within_own}
use Rattle.bh_view.proofs.PartLemmas.{parts_left}
use Rattle.bh_view.proofs.UploadChanges.{uploads_left}
use Rattle.bh_view.proofs.UploadLemmas.{at_number, all_of_one}
use Rattle.bh_view.proofs.ViewLemmas.{view_is, becomes, same_view, same_latest}

-- ---- lists

-- where all that pass are deleted, none passes
delete_these : {T : Type 0} (p test : T → Bool) → ((x : T) → p x ≡ true → test x ≡ true) → (xs : List T) → filter p (delete_where test xs) ≡ []
delete_these p test all [] = refl
delete_these p test all (x ∷ xs) = elim (test x) as (λ b. test x ≡ b → filter p (cond (not b) (x ∷ delete_where test xs) (delete_where test xs)) ≡ []) [
  | true ↦ λ e. delete_these p test all xs
  | false ↦ λ e. elim (p x) as (λ b. p x ≡ b → cond b (x ∷ filter p (delete_where test xs)) (filter p (delete_where test xs)) ≡ []) [
    | true ↦ λ h. absurd (let both = sym (all x h) ∙ e in cc)
    | false ↦ λ h. delete_these p test all xs
  ] refl
] refl

pub any_filtered : {T : Type 0} (p test : T → Bool) (xs : List T) → list_any (λ x. p x && test x) xs ≡ list_any test (filter p xs)
any_filtered p test [] = refl
any_filtered p test (x ∷ xs) = elim (p x) as (λ b. ((b && test x) || list_any (λ x. p x && test x) xs) ≡ list_any test (cond b (x ∷ filter p xs) (filter p xs))) [ true ↦ ap (λ c. test x || c) (any_filtered p test xs) | false ↦ any_filtered p test xs ]

or_false : (b : Bool) → (b || false) ≡ b
or_false true = refl
or_false false = refl

-- ---- whichever go

module _ (old : Tables) (t : Octets) (gone : ℕ → Bool) where
  abbrev mine : TenantRows
  mine = rows_of t old

  abbrev left : TenantRows
  left = record mine { uploads = delete_where (λ (u : UploadRow). gone u.upload) mine.uploads; parts = delete_where (λ (p : PartRow). gone p.upload) mine.parts }

  module _ (n : ℕ) where
    -- of a number that stays, nothing goes; of one that goes, all goes
    uploads_stay : gone n ≡ false → at_number n left.uploads ≡ at_number n mine.uploads
    uploads_stay stays = delete_other (λ (u : UploadRow). same_number u.upload n) (λ u. gone u.upload) mine.uploads (λ u here. ap gone ((numbers.decides u.upload n).0 here) ∙ stays)

    uploads_go : gone n ≡ true → at_number n left.uploads ≡ []
    uploads_go it = delete_these (λ (u : UploadRow). same_number u.upload n) (λ u. gone u.upload) (λ u here. ap gone ((numbers.decides u.upload n).0 here) ∙ it) mine.uploads

    parts_stay : gone n ≡ false → of_upload n left.parts ≡ of_upload n mine.parts
    parts_stay stays = delete_other (λ (p : PartRow). same_number p.upload n) (λ p. gone p.upload) mine.parts (λ p here. ap gone ((numbers.decides p.upload n).0 here) ∙ stays)

    parts_go : gone n ≡ true → of_upload n left.parts ≡ []
    parts_go it = delete_these (λ (p : PartRow). same_number p.upload n) (λ p. gone p.upload) (λ p here. ap gone ((numbers.decides p.upload n).0 here) ∙ it) mine.parts

    owned_still : (first (at_number n mine.uploads) ≡ None → of_upload n mine.parts ≡ []) → first (at_number n left.uploads) ≡ None → of_upload n left.parts ≡ []
    owned_still was none = elim (gone n) as (λ b. gone n ≡ b → of_upload n left.parts ≡ []) [ true ↦ λ e. parts_go e | false ↦ λ e. parts_stay e ∙ was (ap first (sym (uploads_stay e)) ∙ none) ] refl

  module _ (sound : IsSound old) where
    left_sound : AreSound (latest_of old) left
    left_sound =
        let all = sound.tenants t in
        let fit = parts_left (latest_of old) mine.tenants mine.versions mine.uploads mine.parts all.parts (λ p. gone p.upload) in
        record {
          tenants = all.tenants;
          keys = all.keys;
          buckets = all.buckets;
          versions = all.versions;
          uploads = uploads_left (latest_of old) mine.tenants mine.buckets mine.uploads all.uploads (λ u. gone u.upload);
          parts = record { each = fit.each; one = fit.one; one_body = fit.one_body; apart = fit.apart; owned = λ n. owned_still n (all.parts.owned n); given = fit.given };
          locks = all.locks;
          retains = all.retains;
        }

    -- all else stays
    pub uploads_gone : (new : Tables) (state : Option State) → state_shown left ≡ state → new ≡ record old { uploads = delete_where (goes t gone) old.uploads; parts = delete_where (part_goes t gone) old.parts } → Becomes t state old new
    uploads_gone new state shows e =
        let after : Tables = record old { uploads = delete_where (goes t gone) old.uploads; parts = delete_where (part_goes t gone) old.parts } in
        let here : rows_of t after ≡ left = λ i. record mine { uploads = mine_deleted (λ (u : UploadRow). u.tenant) t (λ u. gone u.upload) old.uploads i; parts = mine_deleted (λ (p : PartRow). p.tenant) t (λ p. gone p.upload) old.parts i } in
        subst (Becomes t state old) (sym e)
        (becomes t state old after sound refl refl refl
        (λ w apart i. record (rows_of w old) {
          uploads = others_deleted (λ (u : UploadRow). u.tenant) t (goes t gone) (λ u h. within_own (λ (x : UploadRow). x.tenant) t u (and_parts _ _ h).0) old.uploads w apart i;
          parts = others_deleted (λ (p : PartRow). p.tenant) t (part_goes t gone) (λ p h. within_own (λ (x : PartRow). x.tenant) t p (and_parts _ _ h).0) old.parts w apart i;
        })
        (ap state_shown here ∙ shows) (subst (AreSound (latest_of old)) (sym here) left_sound))

-- ---- the stale ones go

module _ (old : Tables) (t : Octets) (at : ℕ) (sound : IsSound old) where
  abbrev rows : TenantRows
  rows = rows_of t old

  abbrev stale : ℕ → Bool
  stale = is_stale_in t at old

  abbrev after : TenantRows
  after = left old t stale

  -- the row of a bucket says what its rule is
  days_are : (b : Octets) (r : BucketRow) → first (named b rows.buckets) ≡ Some r → days_in t b old.buckets ≡ r.days
  days_are b r there = ap (option_and_then (λ (x : BucketRow). x.days)) (sym (first_find (is_bucket t b) old.buckets) ∙ ap first (sym (filter_both (λ (x : BucketRow). bytes_eq x.tenant t) (λ x. bytes_eq x.bucket b) old.buckets)) ∙ there)

  module _ (b : Octets) (r : BucketRow) (bucket : first (named b rows.buckets) ≡ Some r) (n : ℕ) where
    -- the number of an upload of the bucket is stale where the upload is
    stale_is : (u : UploadRow) → first (at_number n (uploads_in b rows.uploads)) ≡ Some u → stale n ≡ is_stale r.days u.begun at
    stale_is u there =
        let judge = λ (x : UploadRow). is_stale (days_in t x.bucket old.buckets) x.begun at in
        let swapped = ap first (sym (filter_swap (λ (x : UploadRow). same_number x.upload n) (λ x. bytes_eq x.bucket b) rows.uploads)) ∙ there in
        let alone : at_number n rows.uploads ≡ u ∷ [] = all_of_one (λ (x : UploadRow). bytes_eq x.bucket b) (at_number n rows.uploads) ((sound.tenants t).uploads.one n) u swapped in
        let its : u.bucket ≡ b = (octets.decides u.bucket b).0 (first_passes (λ (x : UploadRow). bytes_eq x.bucket b) (at_number n rows.uploads) u swapped) in
        any_filtered (is_upload t n) judge old.uploads ∙ ap (list_any judge) (sym (filter_both (λ (x : UploadRow). bytes_eq x.tenant t) (λ x. same_number x.upload n) old.uploads) ∙ alone)
        ∙ or_false (judge u) ∙ ap (λ z. is_stale (days_in t z old.buckets) u.begun at) its ∙ ap (λ d. is_stale d u.begun at) (days_are b r bucket)

    in_left : stale n ≡ false → at_number n (uploads_in b after.uploads) ≡ at_number n (uploads_in b rows.uploads)
    in_left stays =
        filter_swap (λ (u : UploadRow). same_number u.upload n) (λ u. bytes_eq u.bucket b) after.uploads ∙ ap (uploads_in b) (uploads_stay old t stale n stays)
        ∙ sym (filter_swap (λ (u : UploadRow). same_number u.upload n) (λ u. bytes_eq u.bucket b) rows.uploads)

    none_left : stale n ≡ true → at_number n (uploads_in b after.uploads) ≡ []
    none_left it = filter_swap (λ (u : UploadRow). same_number u.upload n) (λ u. bytes_eq u.bucket b) after.uploads ∙ ap (uploads_in b) (uploads_go old t stale n it)

    abbrev shown : Option UploadRow → Option Upload
    shown = option_map (upload_shown rows.parts n)

    shown_left : option_map (upload_shown after.parts n) (first (at_number n (uploads_in b after.uploads))) ≡ option_and_then (fresh r.days at) (shown (first (at_number n (uploads_in b rows.uploads))))
    shown_left = go (first (at_number n (uploads_in b rows.uploads))) refl
      where
        go : (o : Option UploadRow) → first (at_number n (uploads_in b rows.uploads)) ≡ o → option_map (upload_shown after.parts n) (first (at_number n (uploads_in b after.uploads))) ≡ option_and_then (fresh r.days at) (shown o)
        go None there = elim (stale n) as (λ c. stale n ≡ c → option_map (upload_shown after.parts n) (first (at_number n (uploads_in b after.uploads))) ≡ None) [
          | true ↦ λ e. ap (λ l. option_map (upload_shown after.parts n) (first l)) (none_left e)
          | false ↦ λ e. ap (option_map (upload_shown after.parts n)) (ap first (in_left e) ∙ there)
        ] refl
        go (Some u) there =
            elim (stale n) as (λ c. stale n ≡ c → option_map (upload_shown after.parts n) (first (at_number n (uploads_in b after.uploads))) ≡ cond c None (Some (upload_shown rows.parts n u))) [
              | true ↦ λ e. ap (λ l. option_map (upload_shown after.parts n) (first l)) (none_left e)
              | false ↦ λ e. ap (option_map (upload_shown after.parts n)) (ap first (in_left e) ∙ there) ∙ (λ i. Some (record (upload_shown rows.parts n u) { parts = parts_of (parts_stay old t stale n e i) }))
            ] refl
            ∙ ap (λ c. cond c None (Some (upload_shown rows.parts n u))) (stale_is u there)

  bucket_left : (b : Octets) (r : BucketRow) → first (named b rows.buckets) ≡ Some r → bucket_shown after b r ≡ purged_bucket at (bucket_shown rows b r)
  bucket_left b r there = ap (λ m. record (bucket_shown rows b r) { uploads = m }) (same_map numbers.total numbers.same (uploads_of after.parts (uploads_in b after.uploads)) (adjusted (fresh r.days at) (uploads_of rows.parts (uploads_in b rows.uploads))) (λ n.
      get-keyed numbers (λ (u : UploadRow). u.upload) (upload_shown after.parts) (uploads_in b after.uploads) n ∙ shown_left b r there n
      ∙ sym (get-adjusted numbers.total numbers.same (fresh r.days at) (uploads_of rows.parts (uploads_in b rows.uploads)) n ∙ ap (option_and_then (fresh r.days at)) (get-keyed numbers (λ (u : UploadRow). u.upload) (upload_shown rows.parts) (uploads_in b rows.uploads) n))))

  buckets_left : buckets_of after ≡ adjusted (λ b. Some (purged_bucket at b)) (buckets_of rows)
  buckets_left = same_map octets.total octets.same _ _ (λ q. get-buckets_of after q ∙ go q (first (named q rows.buckets)) refl
      ∙ sym (get-adjusted octets.total octets.same (λ b. Some (purged_bucket at b)) (buckets_of rows) q ∙ ap (option_and_then (λ b. Some (purged_bucket at b))) (get-buckets_of rows q)))
    where
      go : (q : Octets) (o : Option BucketRow) → first (named q rows.buckets) ≡ o → option_map (bucket_shown after q) o ≡ option_and_then (λ b. Some (purged_bucket at b)) (option_map (bucket_shown rows q) o)
      go q None there = refl
      go q (Some r) there = ap Some (bucket_left q r there)

  purged_shown : state_shown after ≡ purged_tenant (view old t) at
  purged_shown = go (first rows.tenants) ∙ sym (ap (option_map (λ s. purged s at)) (view_is old t))
    where
      go : (o : Option TenantRow) → option_map (state_of after) o ≡ option_map (λ s. purged s at) (option_map (state_of rows) o)
      go None = refl
      go (Some r) = ap (λ m. Some (record (state_of rows r) { buckets = m })) buckets_left

  pub stale_gone : (new : Tables) → new ≡ record old { uploads = delete_where (goes t stale) old.uploads; parts = delete_where (part_goes t stale) old.parts } → Becomes t (purged_tenant (view old t) at) old new
  stale_gone new = uploads_gone old t stale sound new (purged_tenant (view old t) at) purged_shown

pub record IsShownPurged (t : Octets) (at : ℕ) (old new : Tables) : Type 0 where
  pub shown : view new t ≡ purged_tenant (view old t) at
  pub others : (u : Octets) → u ≢ t → view new u ≡ view old u
  pub latest : latest_of new ≡ latest_of old

-- the references of their parts are gone too, and no tenant sees them
pub rows_gone : (old new : Tables) (t : Octets) (at : ℕ) → IsSound old → new ≡ rows_purged t at old → IsShownPurged t at old new
unfolding rows_purged
rows_gone old new t at sound is =
    let target : Tables = record old { uploads = delete_where (goes t (is_stale_in t at old)) old.uploads; parts = delete_where (part_goes t (is_stale_in t at old)) old.parts } in
    let change = stale_gone old t at sound target refl in
    record {
      shown = same_view t target new (ap (rows_of t) is) ∙ change.shown;
      others = λ u apart. same_view u target new (ap (rows_of u) is) ∙ change.others u apart;
      latest = same_latest target new (ap (λ (x : Tables). x.host) is) ∙ change.latest;
    }
