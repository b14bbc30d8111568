-- CompleteMultipartUpload and AbortMultipartUpload: what was read, and the rows that were written, are the machine's step.
use Rattle.std.proofs.Common.{◌≡◌, ℕ, ◌≤◌, false, is_ok, true≢false, List, map, filter, find, length, Option, Some, None, Result, Ok, Err, refl, sym, ap, ◌∙◌, subst}
use Rattle.std.specs.Option.{option_map_or}
use Rattle.std.specs.Result.{result_map_both}
use Rattle.sqlite_keyed.specs.Lists.{sort_by}
use Rattle.bh_types.specs.Counts.{Counts}
use Rattle.bh_types.specs.Outcomes.{◌>>=◌}
use Rattle.bh_types.specs.declared.bucket_state.BucketState.{BucketState}
use Rattle.bh_types.specs.declared.bucket_state.BucketState.TheVariants.{Unversioned, Enabled, Suspended}
use Rattle.bh_types.specs.declared.id.UploadId.{UploadId}
use Rattle.bh_types.specs.declared.id.VersionId.TheVariants.{Null}
use Rattle.bh_types.specs.declared.refusal.Refusal.{Refusal}
use Rattle.bh_model.specs.Counting.{counts, with_counts, after_entry}
use Rattle.bh_model.specs.Entries.{Version, new_id}
use Rattle.bh_model.specs.Operations.{Answer, Outcome, Completed, Removed, id_told, with_bucket, with_copy}
use Rattle.bh_model.specs.Parts.{Naming, completed}
use Rattle.bh_model.specs.State.{Octets, Content, Content.Body, State}
use Rattle.bh_model.specs.Uploads.{FoundUpload, find_upload, without_upload, completion, with_completed, complete_upload, abort_upload}
use Rattle.bh_tables.specs.Bodies.{Name, whole}
use Rattle.bh_tables.specs.Typed.{VersionRow, PartRow, Tables}
use Rattle.bh_tables.specs.Shown.{is_version, is_part_of, by_part}
use Rattle.bh_view.specs.Blocks.{AreDigests}
use Rattle.bh_view.specs.Bodies.{HasBodies, IsResolved, AddsBody, bodies_joined}
use Rattle.bh_view.specs.Sound.{IsSound}
use Rattle.bh_view.specs.View.{view, latest_of, limits_in}
use Rattle.bh_view.proofs.BodyChanges.{bodies_join}
use Rattle.bh_view.proofs.BodyNames.{next_unnamed}
use Rattle.bh_view.proofs.GroupedLemmas.{get_here}
use Rattle.bh_view.proofs.Keys.{octets}
use Rattle.bh_view.proofs.PutLemmas.{copy_put, bucket_again}
use Rattle.bh_view.proofs.SharedLemmas.{shared_same, shares_same}
use Rattle.bh_view.proofs.ViewLemmas.{becomes_then}
use Rattle.bh_view.proofs.WriteLemmas.{same_resolved, same_unnamed}
use Rattle.bh_storage.specs.Calls.{GivesStep}
use Rattle.bh_blocks.proofs.BodySteps.{flat_named}
use Rattle.bh_objects.specs.Found.{numbers_in, IsKeyText, with_entry}
use Rattle.bh_objects.specs.Writes.{with_counters, with_room, with_version, without_entry}
use Rattle.bh_objects.proofs.Putting.{has_numbers}
use Rattle.bh_objects.proofs.Written.{becomes_so, IsHostOf, is_added}
use Rattle.bh_uploads.specs.Found.{upload_in, completion_in, joined_bytes}
use Rattle.bh_uploads.specs.Rows.{listed_parts}
use Rattle.bh_uploads.specs.Writes.{version_written, upload_closed}
use Rattle.bh_uploads.proofs.Closing.{closes}
use Rattle.bh_uploads.proofs.Uploads.{HasUpload, has_upload}

-- ---- what was read

module _ (least : ℕ) (name key : Octets) (id : Option UploadId) (names : List Naming) (mode : BucketState) (n : ℕ) (content : Content) where
  abbrev Three : Type 0
  Three = BucketState × ℕ × Content

  abbrev three : Result Three Refusal → Three
  three (Ok x) = x
  three (Err x) = (mode, n, content)

  abbrev two : Three → Result (BucketState × ℕ) Refusal
  two x = Ok (x.0, x.1)

  abbrev with_it : FoundUpload → Result Content Refusal → Result Three Refusal
  with_it f r = ◌>>=◌ {B = Three} r (λ c. Ok (f.bucket.mode, f.number, c))

  -- an upload that may be completed is there
  pub completion_found : (v : Option State) → completion_in least name key id names v ≡ Ok (mode, n, content) → upload_in name key id v ≡ Ok (mode, n)
  completion_found v e = go (find_upload name key id v) e
    where
      go : (r : Result FoundUpload Refusal) → ◌>>=◌ {B = Three} r (λ f. with_it f (completed least f.upload.parts names)) ≡ Ok (mode, n, content) → result_map_both {U = BucketState × ℕ} (λ (f : FoundUpload). (f.bucket.mode, f.number)) (λ refusal. refusal) r ≡ Ok (mode, n)
      go (Err x) e = absurd (true≢false (sym (ap is_ok e)))
      go (Ok f) e = made (completed least f.upload.parts names) e
        where
          made : (c : Result Content Refusal) → with_it f c ≡ Ok (mode, n, content) → two (f.bucket.mode, f.number, content) ≡ two (mode, n, content)
          made (Err x) e = absurd (true≢false (sym (ap is_ok e)))
          made (Ok c) e = ap (λ r. two (three r)) e

  -- and its parts make the object
  pub completion_made : (v : Option State) (h : HasUpload name key id v mode n) → completion_in least name key id names v ≡ Ok (mode, n, content) → completed least h.upload.parts names ≡ Ok content
  completion_made v h e = go (completed least h.upload.parts names)
      (sym (ap (λ (r : Result FoundUpload Refusal). ◌>>=◌ {B = Three} r (λ f. with_it f (completed least f.upload.parts names))) h.found) ∙ e)
    where
      go : (c : Result Content Refusal) → with_it (record { tenant = h.state; bucket = h.bucket; number = n; upload = h.upload }) c ≡ Ok (mode, n, content) → c ≡ Ok content
      go (Err x) e = absurd (true≢false (sym (ap is_ok e)))
      go (Ok c) e = ap (λ r. Ok (three r).2) e

-- ---- the upload is completed

-- what is given, and what stays of the tables
pub record Completes (t : Octets) (operation : Option State → Result Outcome Refusal) (answer : Answer) (old new : Tables) : Type 0 where
  pub step : GivesStep t operation answer old new
  pub sound : IsSound new
  pub limits : limits_in new ≡ limits_in old
  pub bodies : HasBodies new
  pub digests : (digest : Octets → Octets) → AreDigests digest old.blocks → AreDigests digest new.blocks

module _ (old middle new : Tables) (host : IsHostOf old) (resolved : IsResolved middle) (t name key : Octets) (id : Option UploadId) (names : List Naming) (least at : ℕ) (early : at ≤ latest_of old) (good : IsKeyText key)
    (n size : ℕ) (checksum : Octets) (chosen all : List ℕ) (sized : size ≡ length (joined_bytes t old chosen)) (all_are : all ≡ map (λ (p : PartRow). p.body) (listed_parts t n old)) (after : Counts) (closed : new ≡ upload_closed t n all middle) where
  abbrev bytes : Octets
  bytes = joined_bytes t old chosen

  abbrev content : Content
  content = Body bytes checksum

  abbrev last_step : FoundUpload → Content → Result Counts Refusal → Result Outcome Refusal
  last_step f c r = r >>= (λ counts. Ok (completion name key f c, Some (with_bucket name (with_completed at key f c) (with_counts counts f.tenant))))

  abbrev content_step : FoundUpload → Result Content Refusal → Result Outcome Refusal
  content_step f r = r >>= (λ c. last_step f c (after_entry f.bucket.mode (counts f.tenant)))

  abbrev found_step : Result FoundUpload Refusal → Result Outcome Refusal
  found_step r = r >>= (λ f. content_step f (completed least f.upload.parts names))

  abbrev Made : BucketState → Counts → Type 0
  Made mode c = Completes t (complete_upload at least name key id names) (Completed name key (id_told mode (new_id mode c.version)) checksum) old new

  abbrev Goes : BucketState → Counts → Type 0
  Goes mode c = after_entry mode c ≡ Ok after → middle ≡ version_written mode c after t name key at size checksum chosen old → Made mode c

  goes : (mode : BucketState) (h : HasUpload name key id (view old t) mode n) → completed least h.upload.parts names ≡ Ok content → Goes h.bucket.mode (counts h.state)
  goes mode h made room e =
      let s = h.state in
      let B = h.bucket in
      let c = counts s in
      let its : Name = (t, c.entry) in
      let free = next_unnamed old t s host.sound h.added in
      let counted = with_counters B.mode after t old in
      let sources = map (λ (body : ℕ). (t, body)) chosen in
      let joined = bodies_joined sources its counted in
      let adds : (digest : Octets → Octets) → AddsBody digest its bytes counted joined = λ digest. subst (λ b. AddsBody digest its b counted joined) (flat_named (whole old.refs old.blocks) (λ (body : ℕ). (t, body)) chosen)
      (bodies_join counted its (same_resolved old counted refl refl refl refl host.resolved) host.sound.stored host.bodies (same_unnamed old counted refl refl refl refl its free) digest sources) in
      let is = e ∙ ap (λ m. with_version B.mode c t name key at m checksum (with_room B.mode t name key joined)) sized in
      let it = λ (digest : Octets → Octets). is_added old host B.mode c after t name key at free digest bytes checksum joined middle (adds digest) (shares_same its old joined refl) is in
      let target = with_entry B.mode c after t name key at content old in
      let version : Version = record { id = Null; moment = at; bytes = bytes; checksum = checksum } in
      let B1 = with_copy at key s.next_version version B in
      let s1 = with_counts after s in
      let rows = (it (λ x. x)).0.rows in
      let first = becomes_so t _ old target middle (copy_put old target t s host.sound h.added name key B h.there at early good.key good.valid version after room refl) rows in
      let same_parts : middle.parts ≡ old.parts = ap (λ (x : Tables). x.parts) rows.is in
      let second = closes middle new (record { sound = first.sound; bodies = (it (λ x. x)).0.bodies; resolved = resolved }) t (with_bucket name B1 s1) first.shown name B1 (get_here octets s.buckets name (Some B1)) n h.upload h.begun
      all (all_are ∙ ap (λ (l : List PartRow). map (λ (p : PartRow). p.body) (sort_by by_part (filter (is_part_of t n) l))) (sym same_parts)) closed in
      let change = becomes_then t _ _ old middle new first second.change in
      let shown : view new t ≡ Some (with_bucket name (without_upload n B1) s1) = change.shown ∙ ap Some (bucket_again name B1 (without_upload n B1) s1) in
      let f : FoundUpload = record { tenant = s; bucket = B; number = n; upload = h.upload } in
      record {
        step = record { gives = ap found_step h.found ∙ ap (content_step f) made ∙ ap (last_step f content) room ∙ ap (λ v. Ok (completion name key f content, v)) (sym shown); others = change.others; latest = change.latest; shared = shared_same old new (second.blocks ∙ (it (λ x. x)).3) };
        sound = change.sound;
        limits = change.limits;
        bodies = second.bodies;
        digests = λ digest d. subst (AreDigests digest) (sym second.blocks) ((it digest).1 d);
      }

  pub completes : (mode : BucketState) (c : Counts) → completion_in least name key id names (view old t) ≡ Ok (mode, n, content) → numbers_in mode (view old t) ≡ Ok (c, after) → middle ≡ version_written mode c after t name key at size checksum chosen old → Made mode c
  completes mode c found read e =
      let h = has_upload name key mode n id (view old t) (completion_found least name key id names mode n content (view old t) found) in
      let made = completion_made least name key id names mode n content (view old t) h found in
      let numbers = has_numbers (view old t) h.state mode c after h.added read in
      subst (λ m. Goes m c) h.its (subst (Goes h.bucket.mode) numbers.0 (goes mode h made)) (subst (λ x. after_entry mode x ≡ Ok after) numbers.0 numbers.1) e

-- ---- the upload is aborted

pub aborts : (old new : Tables) → IsHostOf old → (t name key : Octets) (id : Option UploadId) (mode : BucketState) (n : ℕ) → upload_in name key id (view old t) ≡ Ok (mode, n) → (bodies : List ℕ) → bodies ≡ map (λ (p : PartRow). p.body) (listed_parts t n old)
    → new ≡ upload_closed t n bodies old → Completes t (abort_upload name key id) (Removed None false) old new
aborts old new host t name key id mode n found bodies are e =
    let h = has_upload name key mode n id (view old t) found in
    let it = closes old new host t h.state h.added name h.bucket h.there n h.upload h.begun bodies are e in
    record {
      step = record {
        gives = ap (λ (r : Result FoundUpload Refusal). r >>= (λ f. Ok (Removed None false, Some (with_bucket name (without_upload f.number f.bucket) f.tenant)))) h.found ∙ ap (λ v. Ok (Removed None false, v)) (sym it.change.shown);
        others = it.change.others;
        latest = it.change.latest;
        shared = shared_same old new it.blocks;
      };
      sound = it.change.sound;
      limits = it.change.limits;
      bodies = it.bodies;
      digests = λ digest d. subst (AreDigests digest) (sym it.blocks) d;
    }

-- the counters go on before what is replaced goes, or after
room_counted : (mode : BucketState) (after : Counts) (t b k : Octets) (x : Tables) → with_counters mode after t (with_room mode t b k x) ≡ with_room mode t b k (with_counters mode after t x)
room_counted Unversioned after t b k x = go (find (is_version t b k 0) x.versions)
  where
    go : (o : Option VersionRow) → with_counters Unversioned after t (option_map_or (λ v. without_entry t b k 0 v.seq x) o x) ≡ option_map_or (λ v. without_entry t b k 0 v.seq (with_counters Unversioned after t x)) o (with_counters Unversioned after t x)
    go None = refl
    go (Some v) = refl
room_counted Enabled after t b k x = refl
room_counted Suspended after t b k x = go (find (is_version t b k 0) x.versions)
  where
    go : (o : Option VersionRow) → with_counters Suspended after t (option_map_or (λ v. without_entry t b k 0 v.seq x) o x) ≡ option_map_or (λ v. without_entry t b k 0 v.seq (with_counters Suspended after t x)) o (with_counters Suspended after t x)
    go None = refl
    go (Some v) = refl

-- the writes of a version, one after another
pub version_chain : (mode : BucketState) (before after : Counts) (t b k : Octets) (at size : ℕ) (checksum : Octets) (bodies : List ℕ) (old two three new : Tables)
    → two ≡ bodies_joined (map (λ (body : ℕ). (t, body)) bodies) (t, before.entry) old → three ≡ with_room mode t b k two → new ≡ with_version mode before t b k at size checksum (with_counters mode after t three)
    → new ≡ version_written mode before after t b k at size checksum bodies old
version_chain mode before after t b k at size checksum bodies old two three new x y z =
    z ∙ ap (λ (w : Tables). with_version mode before t b k at size checksum (with_counters mode after t w)) (y ∙ ap (with_room mode t b k) x)
    ∙ ap (with_version mode before t b k at size checksum) (room_counted mode after t b k (bodies_joined (map (λ (body : ℕ). (t, body)) bodies) (t, before.entry) old))
