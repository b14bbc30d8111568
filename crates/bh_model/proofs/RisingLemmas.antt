-- That no change makes a counter go down.
use Rattle.std.proofs.Common.{◌≡◌, ℕ, Bool, List, ◌^◌, nat_le, true, false, true≢false, sym, cond, ◌&&◌, Option, Some, None, is_none, is_some, Ok, Err, arith}
use Rattle.std.specs.Result.{IfOk}
use Rattle.std.specs.FinMap.{get}
use Rattle.bh_types.specs.Counts.{Counts}
use Rattle.bh_types.specs.Names.{is_tenant_name, is_key_name, is_secret}
use Rattle.bh_types.specs.declared.bucket_state.BucketState.{BucketState}
use Rattle.bh_types.specs.declared.bucket_state.BucketState.TheVariants.{Unversioned, Enabled, Suspended}
use Rattle.bh_types.specs.declared.id.UploadId.{UploadId}
use Rattle.bh_types.specs.Rejections.{plainly, for_date}
use Rattle.bh_types.specs.declared.refusal.Refusal.TheVariants.{AccessDenied, InvalidName, InvalidQuota, TenantExists, KeyExists, NoSuchKeyName, BucketAlreadyOwnedByYou, BucketNotEmpty, InvalidBucketState, BadDigest, QuotaExceeded, CounterExhausted}
use Rattle.bh_types.specs.declared.wanted.Wanted.{Wanted}
use Rattle.bh_types.specs.declared.wanted.Wanted.TheVariants.{Current, Named, Unknown}
use Rattle.bh_model.specs.FinMaps.{is_empty}
use Rattle.bh_model.specs.State.{Octets, Part, State, new_tenant}
use Rattle.bh_model.specs.Counting.{AtMost, counts, can_give, can_number, numbered, after_delete}
use Rattle.bh_model.specs.Laws.{Rises}
use Rattle.bh_model.specs.Parts.{Naming, is_checksum, completed}
use Rattle.bh_model.specs.Quotas.{keeps_quota}
use Rattle.bh_model.specs.Retention.{keeps_versions, can_retain, date_of, named_date, may_go, may_retain, first_date}
use Rattle.bh_model.specs.Runs.{purged_tenant}
use Rattle.bh_model.specs.Operations.{with_bucket, with_object, with_copy, found_version, source_version, add_tenant, set_quota, add_key, remove_key, create_bucket, put_object, copy_object}
use Rattle.bh_model.specs.Uploads.{with_stored, upload_part, complete_upload}
use Rattle.bh_model.proofs.Changes.{Always, Changes, Settings, found, of_bucket, of_plain_bucket, of_upload}
use Rattle.bh_model.proofs.KeyLemmas.{tested}
use Rattle.bh_model.proofs.QuotaLemmas.{and_then, anyway, whatever}

at_most_itself : (c : Counts) → AtMost c c
at_most_itself c = (omega arith, omega arith, omega arith)

numbered_at_most : (mode : BucketState) (c : Counts) → AtMost c (numbered mode c)
numbered_at_most Unversioned c = (omega arith, omega arith, omega arith)
numbered_at_most Enabled c = (omega arith, omega arith, omega arith)
numbered_at_most Suspended c = (omega arith, omega arith, omega arith)

deleted_at_most : (mode : BucketState) (wanted : Wanted) (c : Counts) → IfOk (after_delete mode wanted c) (AtMost c)
deleted_at_most Unversioned Current c = at_most_itself c
deleted_at_most Enabled Current c = elim (can_number Enabled c) as (λ b. IfOk (cond b (Ok (numbered Enabled c)) (Err CounterExhausted)) (AtMost c)) [ true ↦ numbered_at_most Enabled c | false ↦ tt ]
deleted_at_most Suspended Current c = elim (can_number Suspended c) as (λ b. IfOk (cond b (Ok (numbered Suspended c)) (Err CounterExhausted)) (AtMost c)) [ true ↦ numbered_at_most Suspended c | false ↦ tt ]
deleted_at_most mode (Named id) c = at_most_itself c
deleted_at_most mode Unknown c = at_most_itself c

rises_itself : (s : Option State) → Rises s s
rises_itself None = tt
rises_itself (Some t) = at_most_itself (counts t)

pub rises_later : (s t u : Option State) → Rises s t → Rises t u → Rises s u
rises_later None t u first then = tt
rises_later (Some s) None u first then = absurd first
rises_later (Some s) (Some t) None first then = absurd then
rises_later (Some s) (Some t) (Some u) (a, b, c) (x, y, z) = (omega (arith, a, x), omega (arith, b, y), omega (arith, c, z))

pub purge_rises : (now : ℕ) (s : Option State) → Rises s (purged_tenant s now)
purge_rises now None = tt
purge_rises now (Some t) = at_most_itself (counts t)

pub changes_rise : (moment : ℕ) → Changes Rises moment
changes_rise moment = record {
  stays = rises_itself;
  key_added = key_added;
  key_removed = key_removed;
  bucket_created = bucket_created;
  bucket_deleted = λ name s. of_bucket Rises name s _ (λ t b there. tested (is_empty b.objects && is_empty b.uploads) tt BucketNotEmpty _ _ (λ _. at_most_itself (counts t)));
  versioning_put = λ name mode s. of_bucket Rises name s _ (λ t b there. tested (keeps_versions b.locked mode) tt InvalidBucketState _ _ (λ _. at_most_itself (counts t)));
  lifecycle_put = λ name days s. of_bucket Rises name s _ (λ t b there. at_most_itself (counts t));
  lifecycle_deleted = λ name s. of_bucket Rises name s _ (λ t b there. at_most_itself (counts t));
  object_put = object_put;
  object_copied = object_copied;
  object_deleted = λ name key wanted s. of_bucket Rises name s _ (λ t b there.
      tested (may_go (named_date key wanted b) moment) tt AccessDenied _ _ (λ _.
      and_then (after_delete b.mode wanted (counts t)) _ (AtMost (counts t)) _ (deleted_at_most b.mode wanted (counts t)) (λ d up. up)));
  retention_put = λ name key wanted date s. of_plain_bucket Rises name s _ (λ t b there.
      whatever (for_date (found_version key wanted b)) _ _ (λ v. whatever (plainly (may_retain (can_retain b.locked v.id) (date_of key v.id b) (Some date) moment)) _ _ (λ _. at_most_itself (counts t))));
  upload_created = λ name key s. of_bucket Rises name s _ (λ t b there.
      tested (can_give t.next_upload) _ CounterExhausted _ _ (λ _. (omega arith, omega arith, omega arith)));
  part_uploaded = part_uploaded;
  upload_completed = upload_completed;
  upload_aborted = λ name key upload s. of_upload Rises name key upload s _ (λ t b number u there here. at_most_itself (counts t));
}
  where
    key_added : (tenant name secret : Octets) → Always Rises (add_key tenant name secret)
    key_added tenant name secret None = tested (is_tenant_name tenant && is_key_name name && is_secret secret) tt InvalidName _ _ (λ _. tt)
    key_added tenant name secret (Some t) =
        tested (is_tenant_name tenant && is_key_name name && is_secret secret) tt InvalidName _ _ (λ _. tested (is_none (get t.keys name)) tt KeyExists _ _ (λ _. at_most_itself (counts t)))

    key_removed : (tenant name : Octets) → Always Rises (remove_key tenant name)
    key_removed tenant name None = tested (is_tenant_name tenant && is_key_name name) tt InvalidName _ _ (λ _. tt)
    key_removed tenant name (Some t) =
        tested (is_tenant_name tenant && is_key_name name) tt InvalidName _ _ (λ _. tested (is_some (get t.keys name)) tt NoSuchKeyName _ _ (λ _. at_most_itself (counts t)))

    bucket_created : (name : Octets) (locked : Bool) → Always Rises (create_bucket moment name locked)
    bucket_created name locked None = tt
    bucket_created name locked (Some t) = tested (is_none (get t.buckets name)) tt BucketAlreadyOwnedByYou _ _ (λ _. at_most_itself (counts t))

    object_put : (name key bytes : Octets) (given : Option Octets) (date : Option (Option ℕ)) → Always Rises (put_object moment name key bytes given date)
    object_put name key bytes given date s = of_bucket Rises name s _ (λ t b there.
        tested (is_checksum given bytes) tt BadDigest _ _ (λ _.
        whatever (first_date b.locked date moment) _ _ (λ until.
        tested (keeps_quota t (with_bucket name (with_object moment key t.next_version bytes b) t)) tt QuotaExceeded _ _ (λ _.
        tested (can_number b.mode (counts t)) (numbered b.mode (counts t)) CounterExhausted _ _ (λ _. numbered_at_most b.mode (counts t))))))

    object_copied : (name key source_name source_key : Octets) (wanted : Wanted) (date : Option (Option ℕ)) → Always Rises (copy_object moment name key source_name source_key wanted date)
    object_copied name key source_name source_key wanted date s = of_bucket Rises name s _ (λ t b there.
        whatever (source_version source_name source_key wanted s) _ _ (λ v.
        whatever (first_date b.locked date moment) _ _ (λ until.
        tested (keeps_quota t (with_bucket name (with_copy moment key t.next_version v b) t)) tt QuotaExceeded _ _ (λ _.
        tested (can_number b.mode (counts t)) (numbered b.mode (counts t)) CounterExhausted _ _ (λ _. numbered_at_most b.mode (counts t))))))

    part_uploaded : (number : ℕ) (name key bytes : Octets) (upload : Option UploadId) (given : Option Octets) → Always Rises (upload_part moment name key upload number bytes given)
    part_uploaded number name key bytes upload given s =
        let p : Part = record { bytes = bytes; moment = moment } in
        of_upload Rises name key upload s _ (λ t b place u there here.
        tested (is_checksum given bytes) tt BadDigest _ _ (λ _.
        tested (keeps_quota t (with_bucket name (with_stored (found t b place u) number p) t)) tt QuotaExceeded _ _ (λ _.
        tested (can_give t.next_entry) _ CounterExhausted _ _ (λ _. (omega arith, omega arith, omega arith)))))

    upload_completed : (least : ℕ) (name key : Octets) (upload : Option UploadId) (names : List Naming) → Always Rises (complete_upload moment least name key upload names)
    upload_completed least name key upload names s = of_upload Rises name key upload s _ (λ t b number u there here.
        and_then (completed least u.parts names) _ (λ _. Unit {0}) _ (anyway (completed least u.parts names)) (λ content _.
        tested (can_number b.mode (counts t)) (numbered b.mode (counts t)) CounterExhausted _ _ (λ _. numbered_at_most b.mode (counts t))))

pub settings_rise : Settings Rises
settings_rise = record { tenant_added = tenant_added; quota_set = quota_set }
  where
    -- none was there
    added : (quota : ℕ) (s : Option State) → is_none s ≡ true → Rises s (Some (new_tenant quota))
    added quota None none = tt
    added quota (Some t) none = absurd (true≢false (sym none))

    tenant_added : (name : Octets) (quota : ℕ) → Always Rises (add_tenant name quota)
    tenant_added name quota s =
        tested (is_tenant_name name) tt InvalidName _ _ (λ _.
        tested (nat_le quota (2 ^ 60)) tt InvalidQuota _ _ (λ _.
        tested (is_none s) tt TenantExists _ _ (added quota s)))

    quota_set : (name : Octets) (quota : ℕ) → Always Rises (set_quota name quota)
    quota_set name quota None = tested (is_tenant_name name) tt InvalidName _ _ (λ _. tested (nat_le quota (2 ^ 60)) tt InvalidQuota _ _ (λ _. tt))
    quota_set name quota (Some t) =
        tested (is_tenant_name name) tt InvalidName _ _ (λ _. tested (nat_le quota (2 ^ 60)) tt InvalidQuota _ _ (λ _. at_most_itself (counts t)))
