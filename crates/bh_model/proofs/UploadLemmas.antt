-- What becomes of an upload whose parts are put, and that is completed or aborted.
use Rattle.std.proofs.Common.{◌≡◌, ℕ, Bool, true, false, cond, List, [], ◌∷◌, length, bytes_eq, Option, Some, None, option_map, Result, Ok, Err, refl, sym, ap, subst, ◌∙◌, ok_or, is_eq, nat_cmp}
use Rattle.std.specs.Prelude.{option_and_then}
use Rattle.std.specs.Result.{IfOk}
use Rattle.std.specs.Cmp.{nat_cmp_total}
use Rattle.std.specs.FinMap.{FinMap, get, insert, remove, get-insert, get-remove}
use Rattle.std.proofs.lemmas.Cmp.{tied_itself}
use Rattle.sha2.specs.Sha256.{sha256}
use Rattle.std.proofs.lemmas.List.{append-nil}
use Rattle.bh_types.specs.Checksums.{checksum_text, joined_text}
use Rattle.bh_types.specs.declared.id.VersionId.{VersionId}
use Rattle.bh_types.specs.declared.wanted.Wanted.TheVariants.{Current}
use Rattle.bh_types.specs.declared.range.RangePlan.TheVariants.{Whole}
use Rattle.bh_types.specs.Outcomes.{◌>>=◌, require}
use Rattle.bh_types.specs.declared.id.UploadId.{UploadId}
use Rattle.bh_types.specs.declared.refusal.Refusal.{Refusal}
use Rattle.bh_types.specs.declared.refusal.Refusal.TheVariants.{NoSuchBucket, NoSuchUpload, BadDigest, CounterExhausted}
use Rattle.bh_model.specs.State.{Octets, Content.Body, Part, Upload, Bucket, State}
use Rattle.bh_model.specs.Counting.{counts, with_counts, can_number, numbered, after_entry}
use Rattle.bh_model.specs.Entries.{new_id}
use Rattle.bh_model.specs.Parts.{Naming, is_checksum, completed}
use Rattle.bh_model.specs.Operations.{Answer.Object, Answer.Begun, Answer.Removed, Answer.Completed, Answer.PartStored, Outcome, id_told, with_bucket, require_quota, get_object}
use Rattle.bh_model.specs.Uploads.{new_upload, after_begin, FoundUpload, of_key, found_upload, find_upload, with_upload, without_upload, with_part, with_stored, after_part, completion, with_completed, complete_upload}
use Rattle.bh_types.specs.Moments.{abort_moment}
use Rattle.std.proofs.lemmas.Slice.Eq.{bytes_eq-Decides}
use Rattle.bh_model.specs.UploadLaws.{BegunIsFound, UnlessExhausted, PartIsRead, IsGone, AbortedIsGone, CompletedIsGone}
use Rattle.bh_model.proofs.KeyLemmas.{get-inserted}
use Rattle.bh_model.proofs.ObjectLemmas.{read}

-- at the number that was inserted, and at the one that was removed
get-put : {X : Type 0} (m : FinMap nat_cmp X) (k : ℕ) (v : X) → get (insert m k v) k ≡ Some v
get-put m k v = get-insert nat_cmp_total m k v k ∙ ap (λ o. cond (is_eq o) (Some v) (get m k)) (tied_itself nat_cmp_total k)

get-taken : {X : Type 0} (m : FinMap nat_cmp X) (k : ℕ) → get (remove m k) k ≡ None
get-taken m k = get-remove nat_cmp_total m k k ∙ ap (λ o. cond (is_eq o) None (get m k)) (tied_itself nat_cmp_total k)

abbrev found : State → Bucket → UploadId → Upload → FoundUpload
found t b id u = record { tenant = t; bucket = b; number = id.number; upload = u }

abbrev bucket_in : State → Option Bucket → Result (State × Bucket) Refusal
bucket_in t o = ok_or (option_map (λ b. (t, b)) o) NoSuchBucket

abbrev upload_in : Octets → Option UploadId → Result (State × Bucket) Refusal → Result FoundUpload Refusal
upload_in key upload r = do
  f ← r
  ok_or (found_upload key upload f.0 f.1) NoSuchUpload

-- what is found where an operation goes on
module _ {X : Type 0} (name key : Octets) (F : FoundUpload → Result X Refusal) (P : X → Type 0) where
  module _ (t : State) (b : Bucket) (id : UploadId) where
    abbrev go_on : Option Upload → Result X Refusal
    go_on o = ok_or (option_map (λ u. found t b id u) o) NoSuchUpload >>= F

    of_this_key : (u : Upload) (same : Bool) → bytes_eq u.key key ≡ same → (bytes_eq u.key key ≡ true → IfOk (F (found t b id u)) P) → IfOk (go_on (cond same (Some u) None)) P
    of_this_key u true e h = h e
    of_this_key u false e h = tt

    of_this_id : (o : Option Upload) → ((u : Upload) → bytes_eq u.key key ≡ true → IfOk (F (found t b id u)) P) → IfOk (go_on (option_and_then (of_key key) o)) P
    of_this_id None h = tt
    of_this_id (Some u) h = of_this_key u (bytes_eq u.key key) refl (h u)

  in_bucket : (upload : Option UploadId) (t : State) (o : Option Bucket)
      → ((b : Bucket) (id : UploadId) (u : Upload) → upload ≡ Some id → bytes_eq u.key key ≡ true → IfOk (F (found t b id u)) P)
      → IfOk (upload_in key upload (bucket_in t o) >>= F) P
  in_bucket upload t None h = tt
  in_bucket None t (Some b) h = tt
  in_bucket (Some id) t (Some b) h = of_this_id t b id (get b.uploads id.number) (λ u. h b id u refl)

  in_state : (upload : Option UploadId) (s : Option State)
      → ((t : State) (b : Bucket) (id : UploadId) (u : Upload) → upload ≡ Some id → bytes_eq u.key key ≡ true → IfOk (F (found t b id u)) P)
      → IfOk (find_upload name key upload s >>= F) P
  in_state upload None h = tt
  in_state upload (Some t) h = in_bucket upload t (get t.buckets name) (h t)

-- a bucket that was put in is where an upload is looked for
in_put : (name key : Octets) (upload : Option UploadId) (t : State) (b : Bucket)
    → find_upload name key upload (Some (with_bucket name b t)) ≡ ok_or (found_upload key upload (with_bucket name b t) b) NoSuchUpload
in_put name key upload t b =
    ap (λ o. upload_in key upload (bucket_in (with_bucket name b t) o)) (get-inserted t.buckets name b)

is_gone : (name key : Octets) (upload : Option UploadId) (s : Option State) → find_upload name key upload s ≡ Err NoSuchUpload → IsGone name key upload s
is_gone name key upload s h = record {
  not_found = h;
  no_part = λ moment number bytes given. rw (h) refl;
  no_completion = λ moment least names. rw (h) refl;
  no_abort = rw (h) refl;
}

-- an upload that was taken out of its bucket
taken_out : (name key : Octets) (upload : Option UploadId) (id : UploadId) (t : State) (b : Bucket) → upload ≡ Some id → get b.uploads id.number ≡ None
    → IsGone name key upload (Some (with_bucket name b t))
taken_out name key upload id t b e none =
    is_gone name key upload (Some (with_bucket name b t))
    (in_put name key upload t b ∙ ap (λ upload. ok_or (found_upload key upload (with_bucket name b t) b) NoSuchUpload) e
    ∙ ap (λ o. ok_or (option_map (λ u. found (with_bucket name b t) b id u) (option_and_then (of_key key) o)) NoSuchUpload) none)

pub aborted_is_gone : AbortedIsGone
aborted_is_gone name key upload s =
    in_state name key (λ f. Ok (Removed None false, Some (with_bucket name (without_upload f.number f.bucket) f.tenant))) (λ gone. IsGone name key upload gone.1) upload s
    (λ t b id u e same. taken_out name key upload id t (without_upload id.number b) e (get-taken b.uploads id.number))

-- what holds of an object, whatever its parts are
of_object : {X Y : Type 0} (r : Result X Refusal) (F : X → Result Y Refusal) (P : Y → Type 0) → ((x : X) → IfOk (F x) P) → IfOk (r >>= F) P
of_object (Ok x) F P h = h x
of_object (Err e) F P h = tt

pub completed_is_gone : CompletedIsGone
completed_is_gone moment least name key upload names s =
    in_state name key
    (λ f. completed least f.upload.parts names >>= (λ content. after_entry f.bucket.mode (counts f.tenant) >>= (λ c. Ok (completion name key f content, Some (with_bucket name (with_completed moment key f content) (with_counts c f.tenant))))))
    (λ done. IsGone name key upload done.1) upload s
    (λ t b id u e same. of_object (completed least u.parts names) _ _ (λ content. of_object (after_entry b.mode (counts t)) _ _ (λ c.
    taken_out name key upload id (with_counts c t) (with_completed moment key (found t b id u) content) e (get-taken b.uploads id.number))))

-- an upload that was put into its bucket
put_in : (name key : Octets) (upload : Option UploadId) (id : UploadId) (t : State) (b : Bucket) (u : Upload) → upload ≡ Some id → bytes_eq u.key key ≡ true → get b.uploads id.number ≡ Some u
    → find_upload name key upload (Some (with_bucket name b t)) ≡ Ok (found (with_bucket name b t) b id u)
put_in name key upload id t b u e same there =
    in_put name key upload t b ∙ ap (λ upload. ok_or (found_upload key upload (with_bucket name b t) b) NoSuchUpload) e
    ∙ ap (λ o. ok_or (option_map (λ u. found (with_bucket name b t) b id u) (option_and_then (of_key key) o)) NoSuchUpload) there
    ∙ ap (λ k. ok_or (option_map (λ u. found (with_bucket name b t) b id u) (cond k (Some u) None)) NoSuchUpload) same

unless : {C X : Type 0} (can : Bool) (c : C) (F : C → X) (P : X → Type 0) → P (F c) → UnlessExhausted (cond can (Ok c) (Err CounterExhausted) >>= (λ c. Ok (F c))) P
unless true c F P h = (h, tt)
unless false c F P h = (tt, refl)

module _ (later least number : ℕ) (name key : Octets) (p : Part) where
  abbrev sum : Octets
  sum = joined_text (sha256 p.bytes ∷ [])

  abbrev names : List Naming
  names = record { number = number; checksum = None } ∷ []

  -- a part alone is the object
  alone : (parts : FinMap nat_cmp Part) → get parts number ≡ Some p → completed least parts names ≡ Ok (Body p.bytes sum)
  alone parts there = rw (there) (ap (λ bytes. Ok (Body bytes sum)) (append-nil p.bytes))

  abbrev IsRead : Outcome → Type 0
  IsRead done =
      (id : Option VersionId) × (done.0 ≡ Completed name key id sum)
      × (get_object name key Current None done.1 ≡ Ok (Object id (length p.bytes) Whole p.bytes sum, done.1))

  abbrev finished : FoundUpload → Result Outcome Refusal
  finished f = do
    content ← completed least f.upload.parts names
    c ← after_entry f.bucket.mode (counts f.tenant)
    Ok (completion name key f content, Some (with_bucket name (with_completed later key f content) (with_counts c f.tenant)))

  -- where the part is there, and its upload was found
  completes : (t : State) (b : Bucket) (id : UploadId) (u : Upload) → get u.parts number ≡ Some p → UnlessExhausted (finished (found t b id u)) IsRead
  completes t b id u there =
      subst (λ r. UnlessExhausted (r >>= (λ content. after_entry b.mode (counts t) >>= (λ c. Ok (completion name key (found t b id u) content, Some (with_bucket name (with_completed later key (found t b id u) content) (with_counts c t)))))) IsRead)
      (sym (alone u.parts there))
      (unless (can_number b.mode (counts t)) (numbered b.mode (counts t)) (λ c. (completion name key (found t b id u) (Body p.bytes sum), Some (with_bucket name (with_completed later key (found t b id u) (Body p.bytes sum)) (with_counts c t)))) IsRead
      (id_told b.mode (new_id b.mode t.next_version), refl, read later name key p.bytes sum None t (without_upload id.number b)))

pub part_is_read : PartIsRead
part_is_read moment later least number name key bytes upload given s =
    let p : Part = record { bytes = bytes; moment = moment } in
    in_state name key
    (λ f. require (is_checksum given bytes) BadDigest >>= (λ _. require_quota name (with_stored f number p) f.tenant >>= (λ _. after_part (counts f.tenant) >>= (λ c. Ok (PartStored (checksum_text bytes), Some (with_bucket name (with_stored f number p) (with_counts c f.tenant)))))))
    (λ put. UnlessExhausted (complete_upload later least name key upload (names later least number name key p) put.1) (IsRead later least number name key p)) upload s
    (λ t b id u e same. of_object (require (is_checksum given bytes) BadDigest) _ _ (λ _. of_object (require_quota name (with_stored (found t b id u) number p) t) _ _ (λ _. of_object (after_part (counts t)) _ _ (λ c.
    let after : State = with_counts c t in
    let put : Upload = with_part number p u in
    let bucket : Bucket = with_upload id.number put b in
    subst (λ r. UnlessExhausted (r >>= finished later least number name key p) (IsRead later least number name key p))
    (sym (put_in name key upload id after bucket put e same (get-put b.uploads id.number put)))
    (completes later least number name key p (with_bucket name bucket after) bucket id put (get-put u.parts number p))))))

begun_in : (moment : ℕ) (name key : Octets) (t : State) (o : Option Bucket)
    → IfOk (bucket_in t o >>= (λ f. after_begin (counts f.0) >>= (λ c. Ok (Begun name key (record { number = f.0.next_upload }) (option_map (abort_moment moment) f.1.days), Some (with_bucket name (with_upload f.0.next_upload (new_upload key moment) f.1) (with_counts c f.0))))))
    (λ (begun : Outcome). (id : UploadId) × (abort : Option ℕ) × (f : FoundUpload) × (begun.0 ≡ Begun name key id abort) × (find_upload name key (Some id) begun.1 ≡ Ok f) × (f.upload ≡ new_upload key moment))
begun_in moment name key t None = tt
begun_in moment name key t (Some b) = of_object (after_begin (counts t)) _ _ (λ c.
    let id : UploadId = record { number = t.next_upload } in
    let u : Upload = new_upload key moment in
    let bucket : Bucket = with_upload t.next_upload u b in (
      id,
      option_map (abort_moment moment) b.days,
      found (with_bucket name bucket (with_counts c t)) bucket id u,
      refl,
      put_in name key (Some id) id (with_counts c t) bucket u refl ((bytes_eq-Decides key key).1 refl) (get-put b.uploads t.next_upload u),
      refl,
    ))

pub begun_is_found : BegunIsFound
begun_is_found moment name key None = tt
begun_is_found moment name key (Some t) = begun_in moment name key t (get t.buckets name)
