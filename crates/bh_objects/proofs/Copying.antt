-- CopyObject of a version without a date: the version that was read is the machine's source, and the rows that were written are its step.
use Rattle.std.proofs.Common.{◌≡◌, ℕ, ◌≤◌, true≢false, is_ok, length, Option, Some, None, option_map, ok_or, ◌++◌, [], ◌∷◌, Result, Ok, Err, refl, sym, ap, ◌∙◌, subst}
use Rattle.std.specs.FinMap.{get}
use Rattle.std.specs.Result.{result_map_both}
use Rattle.bh_types.specs.Counts.{Counts}
use Rattle.bh_types.specs.Outcomes.{◌>>=◌}
use Rattle.bh_types.specs.Rejections.{plainly}
use Rattle.bh_types.specs.declared.bucket_state.BucketState.{BucketState}
use Rattle.bh_types.specs.declared.refusal.Refusal.{Refusal}
use Rattle.bh_types.specs.declared.refusal.Refusal.TheVariants.{NoSuchBucket}
use Rattle.bh_types.specs.declared.rejection.Rejection.{Rejection}
use Rattle.bh_types.specs.declared.wanted.Wanted.{Wanted}
use Rattle.bh_model.specs.State.{Octets, Content, Content.Body, State, Bucket}
use Rattle.bh_model.specs.Counting.{counts, with_counts, after_entry}
use Rattle.bh_model.specs.Entries.{Version, new_id, lookup}
use Rattle.bh_model.specs.Operations.{Answer, Outcome, Copied, id_told, listed, not_found, with_bucket, with_copy, with_new_date, copied, tenant_bucket, source_refusal, source_version, copy_object, require_quota}
use Rattle.bh_model.specs.Retention.{first_date}
use Rattle.bh_tables.specs.Bodies.{resolved}
use Rattle.bh_tables.specs.Typed.{Tables}
use Rattle.bh_view.specs.Blocks.{whole, AreDigests}
use Rattle.bh_view.specs.Bodies.{IsResolved, HasBodies, AddsBody, body_copied}
use Rattle.bh_view.specs.Put.{row_number}
use Rattle.bh_view.specs.View.{view, latest_of, limits_in, id_of}
use Rattle.bh_view.specs.Sound.{IsSound}
use Rattle.bh_view.specs.Becomes.{KeepsShared}
use Rattle.bh_view.proofs.SharedLemmas.{shares_same}
use Rattle.bh_view.specs.Wanted.{wanted_row}
use Rattle.bh_view.proofs.PutLemmas.{copy_put}
use Rattle.bh_view.proofs.BodyChanges.{body_copies}
use Rattle.bh_view.proofs.WriteLemmas.{same_resolved, same_unnamed}
use Rattle.bh_storage.specs.Calls.{GivesStep, Carries, Decides}
use Rattle.bh_storage.specs.declared.error.StepError.{StepError}
use Rattle.bh_storage.specs.declared.error.StepError.TheVariants.{Refused, Failed}
use Rattle.bh_schema.specs.Rows.{SeenHead, seen_head}
use Rattle.bh_objects.specs.Answers.{head_looked}
use Rattle.bh_objects.specs.Copies.{version_read, copy_written}
use Rattle.bh_objects.specs.Found.{mode_in, IsKeyText, replaced_in, with_entry, entry_numbers_in}
use Rattle.bh_objects.specs.declared.quotas.Replaced.{Replaced}
use Rattle.bh_objects.specs.Writes.{with_counters, with_room, without_replaced, with_version, with_columns}
use Rattle.bh_objects.proofs.Dropping.{room_found}
use Rattle.bh_objects.proofs.Keeping.{entry_asked}
use Rattle.bh_objects.proofs.Getting.{its, sized, row_bytes, found_version, refused_version}
use Rattle.bh_objects.proofs.Putting.{HasBucket, has_bucket, has_numbers, next_unnamed, numbers_read}
use Rattle.bh_objects.proofs.Written.{HasRowsOf, becomes_so, IsHostOf, is_added, counters_last}

-- ---- the source

abbrev source_of : Result (Bucket × Version) Rejection → Result Version Refusal
source_of r = result_map_both (λ (f : Bucket × Version). f.1) (λ (rejection : Rejection). source_refusal rejection.refusal) r

abbrev refusal_or : Result BucketState Refusal → Refusal → Refusal
refusal_or (Ok mode) other = other
refusal_or (Err x) other = x

abbrev fault_or : Result (Counts × Counts) Refusal → Refusal → Refusal
fault_or (Ok pair) other = other
fault_or (Err x) other = x

-- its bucket is not there
pub source_away : (b k : Octets) (wanted : Wanted) (v : Option State) (x : Refusal) → mode_in b v ≡ Err x → source_version b k wanted v ≡ Err x
source_away b k wanted None x e = ap (λ r. Err (refusal_or r x)) e
source_away b k wanted (Some s) x e = go (get s.buckets b) e
  where
    go : (o : Option Bucket) → result_map_both (λ (f : State × Bucket). f.1.mode) (λ refusal. refusal) (ok_or (option_map (λ b. (s, b)) o) NoSuchBucket) ≡ Err x
        → source_of (plainly (ok_or (option_map (λ b. (s, b)) o) NoSuchBucket) >>= (λ (f : State × Bucket). result_map_both (λ v. v) not_found (lookup wanted (listed k f.1)) >>= (λ v. Ok (f.1, v)))) ≡ Err x
    go None e = ap (λ r. Err (refusal_or r x)) e
    go (Some B) e = absurd (true≢false (ap is_ok e))

module _ (tables : Tables) (t b k : Octets) (sound : IsSound tables) (mode : BucketState) (found : mode_in b (view tables t) ≡ Ok mode) (wanted : Wanted) where
  pub source_is_refused : (x : Rejection) → head_looked wanted (option_map seen_head (wanted_row t b k wanted tables.versions)) ≡ Err x → source_version b k wanted (view tables t) ≡ Err (source_refusal x.refusal)
  source_is_refused x e = ap source_of (refused_version tables t b k sound mode found wanted x e).2

  module _ (head : SeenHead) (e : head_looked wanted (option_map seen_head (wanted_row t b k wanted tables.versions)) ≡ Ok head) (resolved : IsResolved tables) where
    pub source_is : source_version b k wanted (view tables t) ≡ Ok (version_read t tables head)
    source_is =
        let row = its tables t b k sound mode found wanted head e in
        let bytes = row_bytes tables t b k sound mode found wanted head e resolved in
        ap source_of (found_version tables t b k sound mode found wanted head e).2
        ∙ (λ i. Ok (record { id = id_of row.row.id; moment = row.row.stamp; bytes = bytes i; checksum = row.row.checksum }))
        ∙ ap (λ (x : SeenHead). Ok (record { id = id_of x.id; moment = x.stamp; bytes = whole tables.refs tables.blocks (t, head.seq); checksum = x.checksum })) row.seen

    pub source_sized : head.size ≡ length (whole tables.refs tables.blocks (t, head.seq))
    source_sized = sized tables t b k sound mode found wanted head e ∙ ap length (row_bytes tables t b k sound mode found wanted head e resolved)

-- ---- the copy

-- its row is that of an object with the source's bytes
copied_row : (mode : BucketState) (before : Counts) (t b k : Octets) (moment : ℕ) (head : SeenHead) (bytes : Octets) (tables : Tables) → head.size ≡ length bytes
    → with_version mode before t b k moment head.size head.checksum tables ≡ with_columns mode before t b k moment (Body bytes head.checksum) tables
copied_row mode before t b k moment head bytes tables size = ap (λ n. record tables {
  versions = tables.versions ++ resolved tables.refs tables.blocks (record {
    tenant = t;
    seq = before.entry;
    bucket = b;
    okey = k;
    id = row_number mode before.version;
    marker = 0;
    stamp = moment;
    size = n;
    checksum = head.checksum;
  }) ∷ [];
}) size

-- a copy whose date is decided asks for the numbers of its entry, and then stores it
abbrev pub copy_then : ℕ → Octets → Octets → Version → Option ℕ → State → Bucket → Counts × Counts → Result Outcome Refusal
copy_then at b k version until s B n = Ok (copied at version s.next_version B, Some (with_bucket b (with_new_date k s.next_version until (with_copy at k s.next_version version B)) (with_counts n.1 s)))

abbrev copy_from : ℕ → Octets → Octets → Option (Option ℕ) → Result (State × Bucket) Refusal → Result Version Refusal → Result Outcome Refusal
copy_from at b k date r from = do
  f ← r
  v ← from
  until ← first_date f.1.locked date at
  _ ← require_quota b (with_copy at k f.0.next_version v f.1) f.0
  c ← after_entry f.1.mode (counts f.0)
  Ok (copied at v f.0.next_version f.1, Some (with_bucket b (with_new_date k f.0.next_version until (with_copy at k f.0.next_version v f.1)) (with_counts c f.0)))

module _ (at : ℕ) (b k sb sk : Octets) (wanted : Wanted) (date : Option (Option ℕ)) (v : Option State) (mode : BucketState) (h : HasBucket b v mode) (version : Version) (source : source_version sb sk wanted v ≡ Ok version) where
  pub copy_shape : (until : Option ℕ) → first_date h.bucket.locked date at ≡ Ok until
      → copy_object at b k sb sk wanted date v ≡ ◌>>=◌ {B = Outcome} (entry_numbers_in mode b k (length version.bytes) v) (copy_then at b k version until h.state h.bucket)
  copy_shape until dated =
      let s = h.state in
      let B = h.bucket in
      let then : Counts → Result Outcome Refusal = λ c. copy_then at b k version until s B (c, c) in
      let asks : copy_from at b k date (tenant_bucket b v) (Ok version) ≡ ◌>>=◌ {B = Outcome} (require_quota b (with_copy at k s.next_version version B) s) (λ _. ◌>>=◌ {B = Outcome} (after_entry B.mode (counts s)) then) = rw (h.added, h.there, dated) refl in
      ap (copy_from at b k date (tenant_bucket b v)) source ∙ asks ∙ entry_asked s b k B h.there at s.next_version (Body version.bytes version.checksum) then
      ∙ (λ i. ◌>>=◌ {B = Outcome} (entry_numbers_in (h.its i) b k (length version.bytes) (sym h.added i)) (λ n. then n.1))

  -- its date is refused
  pub copy_undated : (x : Refusal) → first_date h.bucket.locked date at ≡ Err x → copy_object at b k sb sk wanted date v ≡ Err x
  copy_undated x refused =
      let last : copy_from at b k date (tenant_bucket b v) (Ok version) ≡ Err x = rw (h.added, h.there, refused) refl in
      ap (copy_from at b k date (tenant_bucket b v)) source ∙ last

-- what a copy gives, and what stays of the tables
abbrev pub Copies : Tables → Tables → Octets → Octets → Octets → Octets → Octets → Wanted → ℕ → SeenHead → BucketState → Counts → Type 0
Copies old new t b k sb sk wanted at head mode c =
    GivesStep t (copy_object at b k sb sk wanted None) (Copied (id_told mode (new_id mode c.version)) at head.checksum) old new × IsSound new × (limits_in new ≡ limits_in old)

module _ (old new : Tables) (t b k sb sk : Octets) (wanted : Wanted) (at : ℕ) (head : SeenHead) (after : Counts) (host : IsHostOf old) (early : at ≤ latest_of old) (key : IsKeyText k)
    (source : source_version sb sk wanted (view old t) ≡ Ok (version_read t old head)) (size : head.size ≡ length (whole old.refs old.blocks (t, head.seq))) where
  abbrev its_version : Version
  its_version = version_read t old head

  abbrev content : Content
  content = Body its_version.bytes its_version.checksum

  abbrev Made : BucketState → Counts → Type 0
  Made = Copies old new t b k sb sk wanted at head

  abbrev Goes : BucketState → Counts → Type 0
  Goes mode c = entry_numbers_in mode b k head.size (view old t) ≡ Ok (c, after) → after_entry mode c ≡ Ok after → HasRowsOf (with_entry mode c after t b k at content old) new → KeepsShared old new → Made mode c

  goes : (mode : BucketState) (h : HasBucket b (view old t) mode) → Goes h.bucket.mode (counts h.state)
  goes mode h read room has shared =
      let target = with_entry h.bucket.mode (counts h.state) after t b k at content old in
      let change = becomes_so t _ old target new (copy_put old target t h.state host.sound h.added b k h.bucket h.there at early key.key key.valid its_version after room refl) has in
      let own : HasBucket b (view old t) h.bucket.mode = record { state = h.state; bucket = h.bucket; added = h.added; there = h.there; its = refl } in
      let made = copy_shape at b k sb sk wanted None (view old t) h.bucket.mode own its_version source None refl ∙ ap (λ n. ◌>>=◌ {B = Outcome} (entry_numbers_in h.bucket.mode b k n (view old t)) (copy_then at b k its_version None h.state h.bucket)) (sym size)
      ∙ ap (λ r. ◌>>=◌ {B = Outcome} r (copy_then at b k its_version None h.state h.bucket)) read in
      (record { gives = made ∙ ap (λ (v : Option State). Ok (copied at its_version h.state.next_version h.bucket, v)) (sym change.shown); others = change.others; latest = change.latest; shared = shared }, change.sound, change.limits)

  copies : (mode : BucketState) (c : Counts) → mode_in b (view old t) ≡ Ok mode → entry_numbers_in mode b k head.size (view old t) ≡ Ok (c, after) → HasRowsOf (with_entry mode c after t b k at content old) new → KeepsShared old new → Made mode c
  copies mode c found read =
      let h = has_bucket b (view old t) mode found in
      let numbers = has_numbers (view old t) h.state mode c after h.added (numbers_read (view old t) b k mode h head.size (c, after) read) in
      subst (λ m. Goes m c) h.its (subst (Goes h.bucket.mode) numbers.0 (goes mode h)) read (subst (λ x. after_entry mode x ≡ Ok after) numbers.0 numbers.1)

  -- a copy whose body has the source's blocks
  pub copies_body : (mode : BucketState) (c : Counts) → mode_in b (view old t) ≡ Ok mode → entry_numbers_in mode b k head.size (view old t) ≡ Ok (c, after) → new ≡ copy_written mode c after (replaced_in mode t b k old) t b k at head old
      → Made mode c × HasBodies new × ((digest : Octets → Octets) → AreDigests digest old.blocks → AreDigests digest new.blocks) × HasRowsOf (with_entry mode c after t b k at content old) new
  copies_body mode c found read e =
      let h = has_bucket b (view old t) mode found in
      let free = next_unnamed old t h.state host.sound h.added c (has_numbers (view old t) h.state mode c after h.added (numbers_read (view old t) b k mode h head.size (c, after) read)).0 in
      let counted = with_counters mode after t old in
      let middle = body_copied (t, head.seq) (t, c.entry) counted in
      let adds : (digest : Octets → Octets) → AddsBody digest (t, c.entry) its_version.bytes counted middle = λ digest. body_copies counted (t, c.entry) (same_resolved old counted refl refl refl refl host.resolved) host.sound.stored host.bodies (same_unnamed old counted refl refl refl refl (t, c.entry) free) digest (t, head.seq) in
      let room = room_found mode t b k old middle (ap (λ (x : Tables). x.versions) (adds (λ bytes. bytes)).is) in
      let is = e ∙ ap (with_version mode c t b k at head.size head.checksum) room ∙ copied_row mode c t b k at head its_version.bytes (with_room mode t b k middle) size in
      let it = λ (digest : Octets → Octets). is_added old host mode c after t b k at free digest its_version.bytes head.checksum middle new (adds digest) (shares_same (t, c.entry) old middle refl) is in
      (copies mode c found read (it (λ x. x)).0.rows (it (λ x. x)).2, (it (λ x. x)).0.bodies, λ digest. (it digest).1, (it (λ x. x)).0.rows)

-- ---- refusals

module _ (at : ℕ) (b k sb sk : Octets) (wanted : Wanted) where
  module _ (date : Option (Option ℕ)) where
    -- its bucket is not there
    pub bucket_refuses : (v : Option State) (x : Refusal) → mode_in b v ≡ Err x → copy_object at b k sb sk wanted date v ≡ Err x
    bucket_refuses None x e = ap (λ r. Err (refusal_or r x)) e
    bucket_refuses (Some s) x e = go (get s.buckets b) e
      where
        go : (o : Option Bucket) → result_map_both (λ (f : State × Bucket). f.1.mode) (λ refusal. refusal) (ok_or (option_map (λ b. (s, b)) o) NoSuchBucket) ≡ Err x
            → copy_from at b k date (ok_or (option_map (λ b. (s, b)) o) NoSuchBucket) (source_version sb sk wanted (Some s)) ≡ Err x
        go None e = ap (λ r. Err (refusal_or r x)) e
        go (Some B) e = absurd (true≢false (ap is_ok e))

    pub source_refuses : (v : Option State) (mode : BucketState) → mode_in b v ≡ Ok mode → (x : Refusal) → source_version sb sk wanted v ≡ Err x → copy_object at b k sb sk wanted date v ≡ Err x
    source_refuses v mode found x e =
        let h = has_bucket b v mode found in
        let last : copy_from at b k date (tenant_bucket b v) (Err x) ≡ Err x = rw (h.added, h.there) refl in
        ap (copy_from at b k date (tenant_bucket b v)) e ∙ last

  -- there is no room, or no number is left
  pub numbers_refuse : (v : Option State) (mode : BucketState) → mode_in b v ≡ Ok mode → (version : Version) → source_version sb sk wanted v ≡ Ok version → (x : Refusal) → entry_numbers_in mode b k (length version.bytes) v ≡ Err x
      → copy_object at b k sb sk wanted None v ≡ Err x
  numbers_refuse v mode found version source x e =
      let h = has_bucket b v mode found in
      copy_shape at b k sb sk wanted None v mode h version source None refl ∙ ap (λ r. ◌>>=◌ {B = Outcome} r (copy_then at b k version None h.state h.bucket)) e

-- ---- what was answered of the calls, where one of them fails

module _ {X Y : Type 0} (shows : X → BucketState) (told : Y → Version) (t b k : Octets) (wanted : Wanted) (old new : Tables) where
  pub source_bucket_failed : (error : StepError Refusal) → Decides shows (mode_in b (view old t)) old new (Err error) → Decides told (source_version b k wanted (view old t)) old new (Err error)
  source_bucket_failed (Refused x) d = (source_away b k wanted (view old t) x d.0, d.1)
  source_bucket_failed (Failed trouble) d = tt

module _ {Y : Type 0} (told : Y → Answer) (at : ℕ) (t b k sb sk : Octets) (wanted : Wanted) (old new : Tables) where
  module _ (date : Option (Option ℕ)) where
    pub bucket_failed : {X : Type 0} (shows : X → BucketState) (error : StepError Refusal) → Decides shows (mode_in b (view old t)) old new (Err error) → Carries told t (copy_object at b k sb sk wanted date) old new (Err error)
    bucket_failed shows (Refused x) d = (bucket_refuses at b k sb sk wanted date (view old t) x d.0, d.1)
    bucket_failed shows (Failed trouble) d = tt

    pub source_failed : (mode : BucketState) → mode_in b (view old t) ≡ Ok mode → (middle : Tables) → middle ≡ old → {X : Type 0} (shows : X → Version) (error : StepError Refusal)
        → Decides shows (source_version sb sk wanted (view middle t)) middle new (Err error) → Carries told t (copy_object at b k sb sk wanted date) old new (Err error)
    source_failed mode found middle one shows (Refused x) d = (source_refuses at b k sb sk wanted date (view old t) mode found x (ap (λ (y : Tables). source_version sb sk wanted (view y t)) (sym one) ∙ d.0), d.1 ∙ one)
    source_failed mode found middle one shows (Failed trouble) d = tt

  pub numbers_failed : (mode : BucketState) → mode_in b (view old t) ≡ Ok mode → {X : Type 0} (shows : X → Counts × Counts) (version : Version) → source_version sb sk wanted (view old t) ≡ Ok version → (n : ℕ) → n ≡ length version.bytes → (error : StepError Refusal)
      → Decides shows (entry_numbers_in mode b k n (view old t)) old new (Err error) → Carries told t (copy_object at b k sb sk wanted None) old new (Err error)
  numbers_failed mode found shows version source n same_size (Refused x) d =
      (numbers_refuse at b k sb sk wanted (view old t) mode found version source x (ap (λ m. entry_numbers_in mode b k m (view old t)) (sym same_size) ∙ d.0), d.1)
  numbers_failed mode found shows version source n same_size (Failed trouble) d = tt

-- the writes of a copy, one after another
pub copy_chain : (mode : BucketState) (before after : Counts) (replaced : Option Replaced) (t b k : Octets) (at : ℕ) (head : SeenHead) (old two three new : Tables)
    → two ≡ body_copied (t, head.seq) (t, before.entry) old → three ≡ without_replaced t b k replaced two → new ≡ with_version mode before t b k at head.size head.checksum (with_counters mode after t three)
    → new ≡ copy_written mode before after replaced t b k at head old
copy_chain mode before after replaced t b k at head old two three new is1 is2 is3 =
    is3 ∙ ap (λ (x : Tables). with_version mode before t b k at head.size head.checksum (with_counters mode after t x)) (is2 ∙ ap (without_replaced t b k replaced) is1)
    ∙ ap (with_version mode before t b k at head.size head.checksum) (counters_last mode after replaced t b k (body_copied (t, head.seq) (t, before.entry) old))
