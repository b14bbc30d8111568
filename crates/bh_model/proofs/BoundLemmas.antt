-- That no operation takes a tenant above its quota, or above the greatest quota.
use Rattle.std.proofs.Common.{◌≡◌, ◌∙◌, ℕ, Bool, ◌+◌, ◌^◌, ◌≤◌, max, nat_le, true, ◌&&◌, List, Option, Some, None, is_none, is_some, sum_by, Result, refl, sym, ap, subst, arith, nat_cmp, leb-true}
use Rattle.std.specs.Option.{option_map_or}
use Rattle.std.specs.Cmp.{nat_cmp_total}
use Rattle.std.specs.FinMap.{nat_cmp-IsAntisymmetric, get, remove}
use Rattle.std.proofs.Math.Nat.{max-le, le_trans}
use Rattle.bh_types.specs.Names.{is_tenant_name, is_key_name, is_secret}
use Rattle.bh_types.specs.declared.id.UploadId.{UploadId}
use Rattle.bh_types.specs.declared.id.VersionId.{VersionId}
use Rattle.bh_types.specs.declared.refusal.Refusal.TheVariants.{AccessDenied, InvalidName, InvalidQuota, TenantExists, KeyExists, NoSuchKeyName, BucketAlreadyOwnedByYou, BucketNotEmpty, InvalidBucketState, BadDigest, QuotaExceeded}
use Rattle.bh_types.specs.Rejections.{plainly, for_date}
use Rattle.bh_types.specs.declared.wanted.Wanted.{Wanted}
use Rattle.bh_model.specs.FinMaps.{is_empty, total}
use Rattle.bh_model.specs.State.{Octets, octets_cmp, Content, Part, Upload, Bucket, State, new_tenant, new_bucket, content_size, entry_size, part_size, upload_used, bucket_used, used}
use Rattle.bh_model.specs.Counting.{counts, after_entry, after_delete}
use Rattle.bh_model.specs.Entries.{deleted, new_id}
use Rattle.bh_model.specs.Parts.{Naming, is_checksum, completed}
use Rattle.bh_model.specs.Runs.{purged_tenant}
use Rattle.bh_model.specs.Quotas.{keeps_quota}
use Rattle.bh_model.specs.Retention.{keeps_versions, can_retain, date_of, named_date, may_go, with_date, may_retain, first_date}
use Rattle.bh_model.specs.Operations.{add_key, remove_key, create_bucket, put_object, copy_object, delete_object, listed, with_bucket, with_object, with_copy, with_deleted, found_version, source_version, add_tenant, set_quota}
use Rattle.bh_model.specs.Uploads.{with_upload, without_upload, with_stored, with_completed, new_upload, after_begin, after_part, create_upload, upload_part, complete_upload}
use Rattle.bh_model.specs.QuotaLaws.{FitsQuota, UsesNoMore, IsBounded, StaysBounded}
use Rattle.bh_model.proofs.Changes.{Always, Changes, Settings, found, of_bucket, of_plain_bucket, of_upload}
use Rattle.bh_model.proofs.KeyLemmas.{tested}
use Rattle.bh_model.proofs.UsedLemmas.{octets_total, octets_same, total_inserted, total_removed, used_with_bucket, used_with_entries, used_with_content}
use Rattle.bh_model.proofs.QuotaLemmas.{at_most_before, at_most_quota, implied, and_then, anyway, whatever, total_empty, purged_size, deleted_size, completed_size}

-- ---- what the tenant uses with a bucket in place of another

-- no more, where the bucket has no more
smaller : (name : Octets) (b c : Bucket) (t : State) → get t.buckets name ≡ Some b → bucket_used c ≤ bucket_used b → used (with_bucket name c t) ≤ max (used t) t.quota
smaller name b c t there less = at_most_before _ _ _ (let change = used_with_bucket name b c t there in omega (arith, change, less))

-- where the bucket was no smaller, or the quota is kept
fitting : (name : Octets) (c : Bucket) (t : State) → keeps_quota t (with_bucket name c t) ≡ true → used (with_bucket name c t) ≤ max (used t) t.quota
fitting name c t keeps = at_most_quota (used t) (used (with_bucket name c t)) t.quota keeps

new_bucket_size : (moment : ℕ) (locked : Bool) → bucket_used (new_bucket moment locked) ≡ 0
new_bucket_size moment locked = omega (arith, total_empty octets_cmp (sum_by entry_size), total_empty nat_cmp upload_used)

with_new_bucket : (moment : ℕ) (name : Octets) (locked : Bool) (t : State) → used (with_bucket name (new_bucket moment locked) t) ≤ used t
with_new_bucket moment name locked t = omega (arith, total_inserted octets_total octets_same bucket_used t.buckets name (new_bucket moment locked), new_bucket_size moment locked)

without_bucket : (name : Octets) (t : State) → total bucket_used (remove t.buckets name) ≤ used t
without_bucket name t = omega (arith, total_removed octets_total octets_same bucket_used t.buckets name)

-- a date takes nothing
redated : (name : Octets) (c : Bucket) (id : VersionId) (key : Octets) (date : Option ℕ) (t : State) → used (with_bucket name c t) ≤ max (used t) t.quota
    → used (with_bucket name (with_date key id date c) t) ≤ max (used t) t.quota
redated name c id key date t fits =
    let change = total_inserted octets_total octets_same bucket_used t.buckets name c in
    let dated = total_inserted octets_total octets_same bucket_used t.buckets name (with_date key id date c) in
    omega (arith, fits, change, dated)

-- ---- what a bucket has afterwards

after_delete_size : (moment : ℕ) (key : Octets) (wanted : Wanted) (next : ℕ) (b : Bucket) → bucket_used (with_deleted moment key wanted next b) ≤ bucket_used b
after_delete_size moment key wanted next b =
    omega (arith, used_with_entries key (deleted b.mode wanted next moment (listed key b)) b, deleted_size b.mode wanted next moment (listed key b))

with_new_upload : (number : ℕ) (key : Octets) (moment : ℕ) (b : Bucket) → bucket_used (with_upload number (new_upload key moment) b) ≤ bucket_used b
with_new_upload number key moment b =
    omega (arith, total_inserted nat_cmp_total nat_cmp-IsAntisymmetric upload_used b.uploads number (new_upload key moment), total_empty nat_cmp part_size)

upload_taken : (number : ℕ) (u : Upload) (b : Bucket) → get b.uploads number ≡ Some u → bucket_used (without_upload number b) + upload_used u ≡ bucket_used b
upload_taken number u b there =
    let here : option_map_or upload_used (get b.uploads number) 0 ≡ upload_used u = ap (λ o. option_map_or upload_used o 0) there in
    omega (arith, here, total_removed nat_cmp_total nat_cmp-IsAntisymmetric upload_used b.uploads number)

upload_joined : (moment : ℕ) (key : Octets) (t : State) (number : ℕ) (u : Upload) (b : Bucket) (content : Content) → get b.uploads number ≡ Some u → content_size content ≤ upload_used u
    → bucket_used (with_completed moment key (found t b number u) content) ≤ bucket_used b
upload_joined moment key t number u b content there small =
    omega (arith, small, upload_taken number u b there, used_with_content moment key t.next_version content (without_upload number b))

-- ---- against the quota

fits_itself : (s : Option State) → FitsQuota s s
fits_itself None = tt
fits_itself (Some t) = (refl, at_most_before (used t) (used t) t.quota (omega arith))

-- what sets no quota keeps to it
pub changes_fit : (moment : ℕ) → Changes FitsQuota moment
changes_fit moment = record {
  stays = fits_itself;
  key_added = add_key_fits;
  key_removed = remove_key_fits;
  bucket_created = create_bucket_fits;
  bucket_deleted = λ name s. of_bucket FitsQuota name s _ (λ t b there. tested (is_empty b.objects && is_empty b.uploads) tt BucketNotEmpty _ _ (λ _. (refl, at_most_before _ _ _ (without_bucket name t))));
  versioning_put = λ name mode s. of_bucket FitsQuota name s _ (λ t b there. tested (keeps_versions b.locked mode) tt InvalidBucketState _ _ (λ _. (refl, smaller name b (record b { mode = mode }) t there (omega arith))));
  lifecycle_put = λ name days s. of_bucket FitsQuota name s _ (λ t b there. (refl, smaller name b (record b { days = Some days }) t there (omega arith)));
  lifecycle_deleted = λ name s. of_bucket FitsQuota name s _ (λ t b there. (refl, smaller name b (record b { days = None }) t there (omega arith)));
  object_put = put_object_fits;
  object_copied = copy_object_fits;
  object_deleted = delete_object_fits;
  retention_put = λ name key wanted date s. of_plain_bucket FitsQuota name s _ (λ t b there.
      whatever (for_date (found_version key wanted b)) _ _ (λ v. whatever (plainly (may_retain (can_retain b.locked v.id) (date_of key v.id b) (Some date) moment)) _ _ (λ _.
      (refl, smaller name b (with_date key v.id (Some date) b) t there (omega arith)))));
  upload_created = create_upload_fits;
  part_uploaded = upload_part_fits;
  upload_completed = complete_upload_fits;
  upload_aborted = λ name key upload s. of_upload FitsQuota name key upload s _ (λ t b number u there here. (refl, smaller name b (without_upload number b) t there (let gone = upload_taken number u b here in omega (arith, gone))));
}
  where
    add_key_fits : (tenant name secret : Octets) → Always FitsQuota (add_key tenant name secret)
    add_key_fits tenant name secret None = tested (is_tenant_name tenant && is_key_name name && is_secret secret) tt InvalidName _ _ (λ _. tt)
    add_key_fits tenant name secret (Some t) =
        tested (is_tenant_name tenant && is_key_name name && is_secret secret) tt InvalidName _ _ (λ _.
        tested (is_none (get t.keys name)) tt KeyExists _ _ (λ _. (refl, at_most_before (used t) (used t) _ (omega arith))))

    remove_key_fits : (tenant name : Octets) → Always FitsQuota (remove_key tenant name)
    remove_key_fits tenant name None = tested (is_tenant_name tenant && is_key_name name) tt InvalidName _ _ (λ _. tt)
    remove_key_fits tenant name (Some t) =
        tested (is_tenant_name tenant && is_key_name name) tt InvalidName _ _ (λ _.
        tested (is_some (get t.keys name)) tt NoSuchKeyName _ _ (λ _. (refl, at_most_before (used t) (used t) _ (omega arith))))

    create_bucket_fits : (name : Octets) (locked : Bool) → Always FitsQuota (create_bucket moment name locked)
    create_bucket_fits name locked None = tt
    create_bucket_fits name locked (Some t) = tested (is_none (get t.buckets name)) tt BucketAlreadyOwnedByYou _ _ (λ _. (refl, at_most_before _ _ _ (with_new_bucket moment name locked t)))

    put_object_fits : (name key bytes : Octets) (given : Option Octets) (date : Option (Option ℕ)) → Always FitsQuota (put_object moment name key bytes given date)
    put_object_fits name key bytes given date s = of_bucket FitsQuota name s _ (λ t b there.
        tested (is_checksum given bytes) tt BadDigest _ _ (λ _.
        whatever (first_date b.locked date moment) _ _ (λ until.
        tested (keeps_quota t (with_bucket name (with_object moment key t.next_version bytes b) t)) tt QuotaExceeded _ _ (λ keeps.
        whatever (after_entry b.mode (counts t)) _ _ (λ c. (refl, redated name (with_object moment key t.next_version bytes b) (new_id b.mode t.next_version) key until t (fitting name (with_object moment key t.next_version bytes b) t keeps)))))))

    copy_object_fits : (name key source_name source_key : Octets) (wanted : Wanted) (date : Option (Option ℕ)) → Always FitsQuota (copy_object moment name key source_name source_key wanted date)
    copy_object_fits name key source_name source_key wanted date s = of_bucket FitsQuota name s _ (λ t b there.
        whatever (source_version source_name source_key wanted s) _ _ (λ v.
        whatever (first_date b.locked date moment) _ _ (λ until.
        tested (keeps_quota t (with_bucket name (with_copy moment key t.next_version v b) t)) tt QuotaExceeded _ _ (λ keeps.
        whatever (after_entry b.mode (counts t)) _ _ (λ c. (refl, redated name (with_copy moment key t.next_version v b) (new_id b.mode t.next_version) key until t (fitting name (with_copy moment key t.next_version v b) t keeps)))))))

    delete_object_fits : (name key : Octets) (wanted : Wanted) → Always FitsQuota (delete_object moment name key wanted)
    delete_object_fits name key wanted s = of_bucket FitsQuota name s _ (λ t b there.
        tested (may_go (named_date key wanted b) moment) tt AccessDenied _ _ (λ _.
        whatever (after_delete b.mode wanted (counts t)) _ _ (λ c.
        (refl, smaller name b (with_deleted moment key wanted t.next_version b) t there (after_delete_size moment key wanted t.next_version b)))))

    create_upload_fits : (name key : Octets) → Always FitsQuota (create_upload moment name key)
    create_upload_fits name key s = of_bucket FitsQuota name s _ (λ t b there.
        and_then (after_begin (counts t)) _ _ _ (anyway (after_begin (counts t))) (λ c _.
        (refl, smaller name b (with_upload t.next_upload (new_upload key moment) b) t there (with_new_upload t.next_upload key moment b))))

    upload_part_fits : (number : ℕ) (name key bytes : Octets) (upload : Option UploadId) (given : Option Octets) → Always FitsQuota (upload_part moment name key upload number bytes given)
    upload_part_fits number name key bytes upload given s =
        let p : Part = record { bytes = bytes; moment = moment } in
        of_upload FitsQuota name key upload s _ (λ t b place u there here.
        tested (is_checksum given bytes) tt BadDigest _ _ (λ _.
        tested (keeps_quota t (with_bucket name (with_stored (found t b place u) number p) t)) tt QuotaExceeded _ _ (λ keeps.
        and_then (after_part (counts t)) _ _ _ (anyway (after_part (counts t))) (λ c _. (refl, fitting name (with_stored (found t b place u) number p) t keeps)))))

    complete_upload_fits : (least : ℕ) (name key : Octets) (upload : Option UploadId) (names : List Naming) → Always FitsQuota (complete_upload moment least name key upload names)
    complete_upload_fits least name key upload names s =
        of_upload FitsQuota name key upload s _ (λ t b number u there here.
        and_then (completed least u.parts names) _ (λ content. content_size content ≤ upload_used u) _ (completed_size least u.parts names) (λ content small.
        and_then (after_entry b.mode (counts t)) _ _ _ (anyway (after_entry b.mode (counts t))) (λ c _.
        (refl, smaller name b (with_completed moment key (found t b number u) content) t there (upload_joined moment key t number u b content here small)))))

pub purged_fits : (now : ℕ) (s : Option State) → FitsQuota s (purged_tenant s now)
purged_fits now None = tt
purged_fits now (Some t) = (refl, at_most_before _ _ _ (purged_size now t))

-- what fits the quota of a bounded tenant is bounded
fits_bounded : (s u : Option State) → IsBounded s → FitsQuota s u → IsBounded u
fits_bounded None None b fits = tt
fits_bounded None (Some t) b fits = absurd fits
fits_bounded (Some s) None b fits = absurd fits
fits_bounded (Some s) (Some t) b fits = (subst (λ q. q ≤ 2 ^ 60) (sym fits.0) b.0, le_trans fits.1 (max-le b.1 b.0))

nothing_used : (quota : ℕ) → used (new_tenant quota) ≤ 2 ^ 60
nothing_used quota = subst (λ n. n ≤ 2 ^ 60) (sym (total_empty octets_cmp bucket_used)) (omega arith)

bounded_by : {X E : Type 0} (change : Option State → Result (X × Option State) E) → Always FitsQuota change → StaysBounded change
bounded_by change fits s bound = implied (change s) (λ o. FitsQuota s o.1) (λ o. IsBounded o.1) (λ o. fits_bounded s o.1 bound) (fits s)

-- ---- against the greatest quota

abbrev pub KeepsBound : Option State → Option State → Type 0
KeepsBound s t = IsBounded s → IsBounded t

kept_bound : {X E : Type 0} (change : Option State → Result (X × Option State) E) → Always FitsQuota change → Always KeepsBound change
kept_bound change fits s = implied (change s) (λ o. FitsQuota s o.1) (λ o. KeepsBound s o.1) (λ o fit bound. fits_bounded s o.1 bound fit) (fits s)

pub changes_keep_bound : (moment : ℕ) → Changes KeepsBound moment
changes_keep_bound moment = let all = changes_fit moment in record {
  stays = λ s bound. bound;
  key_added = λ tenant name secret. kept_bound _ (all.key_added tenant name secret);
  key_removed = λ tenant name. kept_bound _ (all.key_removed tenant name);
  bucket_created = λ name locked. kept_bound _ (all.bucket_created name locked);
  bucket_deleted = λ name. kept_bound _ (all.bucket_deleted name);
  versioning_put = λ name mode. kept_bound _ (all.versioning_put name mode);
  lifecycle_put = λ name days. kept_bound _ (all.lifecycle_put name days);
  lifecycle_deleted = λ name. kept_bound _ (all.lifecycle_deleted name);
  object_put = λ name key bytes given date. kept_bound _ (all.object_put name key bytes given date);
  object_copied = λ name key source_name source_key wanted date. kept_bound _ (all.object_copied name key source_name source_key wanted date);
  object_deleted = λ name key wanted. kept_bound _ (all.object_deleted name key wanted);
  retention_put = λ name key wanted date. kept_bound _ (all.retention_put name key wanted date);
  upload_created = λ name key. kept_bound _ (all.upload_created name key);
  part_uploaded = λ number name key bytes upload given. kept_bound _ (all.part_uploaded number name key bytes upload given);
  upload_completed = λ least name key upload names. kept_bound _ (all.upload_completed least name key upload names);
  upload_aborted = λ name key upload. kept_bound _ (all.upload_aborted name key upload);
}

pub settings_keep_bound : Settings KeepsBound
settings_keep_bound = record { tenant_added = tenant_added; quota_set = quota_set }
  where
    tenant_added : (name : Octets) (quota : ℕ) → Always KeepsBound (add_tenant name quota)
    tenant_added name quota s =
        tested (is_tenant_name name) tt InvalidName _ _ (λ _.
        tested (nat_le quota (2 ^ 60)) tt InvalidQuota _ _ (λ small.
        tested (is_none s) tt TenantExists _ _ (λ _ bound. (leb-true _ _ small, nothing_used quota))))

    quota_set : (name : Octets) (quota : ℕ) → Always KeepsBound (set_quota name quota)
    quota_set name quota None = tested (is_tenant_name name) tt InvalidName _ _ (λ _. tested (nat_le quota (2 ^ 60)) tt InvalidQuota _ _ (λ _. tt))
    quota_set name quota (Some t) =
        tested (is_tenant_name name) tt InvalidName _ _ (λ _. tested (nat_le quota (2 ^ 60)) tt InvalidQuota _ _ (λ small bound. (leb-true _ _ small, bound.1)))

stays_bounded : {X E : Type 0} (change : Option State → Result (X × Option State) E) → Always KeepsBound change → StaysBounded change
stays_bounded change keeps s bound = implied (change s) (λ o. KeepsBound s o.1) (λ o. IsBounded o.1) (λ o kept. kept bound) (keeps s)

-- what the operator's commands and a purge leave
pub record UsedStaysBounded : Type 0 where
  pub add_tenant_bounded : (name : Octets) (quota : ℕ) → StaysBounded (add_tenant name quota)
  pub set_quota_bounded : (name : Octets) (quota : ℕ) → StaysBounded (set_quota name quota)
  pub add_key_bounded : (tenant name secret : Octets) → StaysBounded (add_key tenant name secret)
  pub remove_key_bounded : (tenant name : Octets) → StaysBounded (remove_key tenant name)
  pub purged_bounded : (now : ℕ) (s : Option State) → IsBounded s → IsBounded (purged_tenant s now)

pub used_stays_bounded : UsedStaysBounded
used_stays_bounded = record {
  add_tenant_bounded = λ name quota. stays_bounded _ (settings_keep_bound.tenant_added name quota);
  set_quota_bounded = λ name quota. stays_bounded _ (settings_keep_bound.quota_set name quota);
  add_key_bounded = λ tenant name secret. stays_bounded _ ((changes_keep_bound 0).key_added tenant name secret);
  remove_key_bounded = λ tenant name. stays_bounded _ ((changes_keep_bound 0).key_removed tenant name);
  purged_bounded = λ now s bound. fits_bounded s (purged_tenant s now) bound (purged_fits now s);
}

-- ---- what is used, where a quota is set

pub settings_use_no_more : Settings UsesNoMore
settings_use_no_more = record { tenant_added = tenant_added; quota_set = quota_set }
  where
    tenant_added : (name : Octets) (quota : ℕ) → Always UsesNoMore (add_tenant name quota)
    tenant_added name quota s =
        tested (is_tenant_name name) tt InvalidName _ _ (λ _.
        tested (nat_le quota (2 ^ 60)) tt InvalidQuota _ _ (λ _.
        tested (is_none s) tt TenantExists _ _ (λ _. (let none = total_empty octets_cmp bucket_used in omega (arith, none)))))

    quota_set : (name : Octets) (quota : ℕ) → Always UsesNoMore (set_quota name quota)
    quota_set name quota None = tested (is_tenant_name name) tt InvalidName _ _ (λ _. tested (nat_le quota (2 ^ 60)) tt InvalidQuota _ _ (λ _. tt))
    quota_set name quota (Some t) =
        tested (is_tenant_name name) tt InvalidName _ _ (λ _. tested (nat_le quota (2 ^ 60)) tt InvalidQuota _ _ (λ _. omega arith))

pub fits_later : (s t u : Option State) → FitsQuota s t → FitsQuota t u → FitsQuota s u
fits_later None None u first then = then
fits_later None (Some t) u first then = absurd first
fits_later (Some s) None u first then = absurd first
fits_later (Some s) (Some t) None first then = absurd then
fits_later (Some s) (Some t) (Some u) first then =
    (then.0 ∙ first.0, (let less = first.1 in let more = then.1 in let same = first.0 in omega (arith, less, more, same)))

pub purge_uses_no_more : (now : ℕ) (s : Option State) → UsesNoMore s (purged_tenant s now)
purge_uses_no_more now None = omega arith
purge_uses_no_more now (Some t) = purged_size now t
