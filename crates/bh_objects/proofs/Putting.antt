-- PutObject of a version without a date: what was read, and the rows that were written, are the machine's step.
use Rattle.std.proofs.Common.{◌≡◌, ℕ, ◌≤◌, length, Bool, true, false, is_ok, true≢false, Option, Some, None, option_map, ok_or, Result, Ok, Err, refl, sym, ap, ◌∙◌, subst}
use Rattle.std.specs.FinMap.{get}
use Rattle.std.specs.Result.{result_map_both}
use Rattle.bh_types.specs.Counts.{Counts}
use Rattle.bh_types.specs.Outcomes.{◌>>=◌, require}
use Rattle.bh_types.specs.declared.bucket_state.BucketState.{BucketState}
use Rattle.bh_types.specs.declared.refusal.Refusal.{Refusal}
use Rattle.bh_types.specs.declared.refusal.Refusal.TheVariants.{NoSuchBucket, BadDigest}
use Rattle.bh_model.specs.State.{Octets, Content.Body, State, Bucket}
use Rattle.bh_types.specs.Checksums.{checksum_text}
use Rattle.bh_model.specs.Counting.{counts, with_counts, after_entry}
use Rattle.bh_model.specs.Entries.{new_id}
use Rattle.bh_model.specs.Operations.{Outcome, Stored, id_told, put_object, require_quota, stored, with_bucket, with_object, with_new_date, listed}
use Rattle.bh_model.specs.Parts.{is_checksum}
use Rattle.bh_model.specs.Retention.{first_date}
use Rattle.bh_tables.specs.Typed.{Tables}
use Rattle.bh_view.specs.View.{view, latest_of, limits_in}
use Rattle.bh_view.specs.Sound.{IsSound}
use Rattle.bh_view.specs.Becomes.{KeepsShared}
use Rattle.bh_view.proofs.PutLemmas.{object_put}
use Rattle.bh_model.specs.Quotas.{replaced_size}
use Rattle.bh_storage.specs.Calls.{GivesStep}
use Rattle.bh_view.specs.Blocks.{AreDigests}
use Rattle.bh_view.specs.Bodies.{HasBodies, IsUnnamed, StoresPieces}
use Rattle.bh_view.proofs.BodyNames.{next_unnamed as unnamed}
use Rattle.bh_objects.specs.Found.{mode_in, numbers_in, replaced_in, room_in, entry_numbers_in, sum_given, IsKeyText, with_entry}
use Rattle.bh_objects.specs.Writes.{object_written}
use Rattle.bh_objects.proofs.Keeping.{entry_asked}
use Rattle.bh_objects.proofs.Written.{HasRowsOf, becomes_so, IsHostOf, object_is_written}

-- the tenant's bucket of a name, whose state was read
pub record HasBucket (name : Octets) (v : Option State) (mode : BucketState) : Type 0 where
  pub state : State
  pub bucket : Bucket
  pub added : v ≡ Some state
  pub there : get state.buckets name ≡ Some bucket
  pub its : bucket.mode ≡ mode

abbrev ok_value : {X : Type 0} → Result X Refusal → X → X
ok_value (Ok x) other = x
ok_value (Err e) other = other

pub has_bucket : (name : Octets) (v : Option State) (mode : BucketState) → mode_in name v ≡ Ok mode → HasBucket name v mode
has_bucket name None mode e = absurd (true≢false (sym (ap is_ok e)))
has_bucket name (Some s) mode e = go (get s.buckets name) refl e
  where
    go : (o : Option Bucket) → get s.buckets name ≡ o → result_map_both (λ (f : State × Bucket). f.1.mode) (λ refusal. refusal) (ok_or (option_map (λ b. (s, b)) o) NoSuchBucket) ≡ Ok mode → HasBucket name (Some s) mode
    go None is e = absurd (true≢false (sym (ap is_ok e)))
    go (Some b) is e = record { state = s; bucket = b; added = refl; there = is; its = ap (λ r. ok_value r mode) e }

-- the numbers that were read of the tenant's counters
pub has_numbers : (v : Option State) (s : State) (mode : BucketState) (before after : Counts) → v ≡ Some s → numbers_in mode v ≡ Ok (before, after) → (counts s ≡ before) × (after_entry mode (counts s) ≡ Ok after)
has_numbers v s mode before after is e = go (after_entry mode (counts s)) refl (ap (numbers_in mode) (sym is) ∙ e)
  where
    go : (x : Result Counts Refusal) → after_entry mode (counts s) ≡ x → ◌>>=◌ {B = Counts × Counts} x (λ a. Ok (counts s, a)) ≡ Ok (before, after) → (counts s ≡ before) × (after_entry mode (counts s) ≡ Ok after)
    go (Ok a) given e = (ap (λ r. (ok_value {X = Counts × Counts} r (before, after)).0) e, given ∙ ap (λ r. Ok ((ok_value {X = Counts × Counts} r (before, after)).1)) e)
    go (Err q) given e = absurd (true≢false (sym (ap is_ok e)))

-- they are read where the quota has room
pub numbers_read : (v : Option State) (b k : Octets) (mode : BucketState) (h : HasBucket b v mode) (added : ℕ) (x : Counts × Counts) → entry_numbers_in mode b k added v ≡ Ok x → numbers_in mode v ≡ Ok x
numbers_read v b k mode h added x e = go (room_in (replaced_size mode (listed k h.bucket)) added (Some h.state)) (sym shape ∙ e)
  where
    shape : entry_numbers_in mode b k added v ≡ ◌>>=◌ {B = Counts × Counts} (room_in (replaced_size mode (listed k h.bucket)) added (Some h.state)) (λ _. numbers_in mode v)
    shape = rw (h.added, h.there) refl

    go : (r : Result (Unit {0}) Refusal) → ◌>>=◌ {B = Counts × Counts} r (λ _. numbers_in mode v) ≡ Ok x → numbers_in mode v ≡ Ok x
    go (Ok u) e = e
    go (Err q) e = absurd (true≢false (sym (ap is_ok e)))

-- a put whose date is decided asks for the numbers of its entry, and then stores it
abbrev pub put_then : ℕ → Octets → Octets → Octets → Option ℕ → State → Bucket → Counts × Counts → Result Outcome Refusal
put_then at b k bytes until s B n = Ok (stored bytes s.next_version B, Some (with_bucket b (with_new_date k s.next_version until (with_object at k s.next_version bytes B)) (with_counts n.1 s)))

pub put_shape : (at : ℕ) (b k bytes : Octets) (given : Option Octets) (date : Option (Option ℕ)) (until : Option ℕ) (v : Option State) (mode : BucketState) (h : HasBucket b v mode) → is_checksum given bytes ≡ true → first_date h.bucket.locked date at ≡ Ok until
    → put_object at b k bytes given date v ≡ ◌>>=◌ {B = Outcome} (entry_numbers_in mode b k (length bytes) v) (put_then at b k bytes until h.state h.bucket)
put_shape at b k bytes given date until v mode h right dated =
    let s = h.state in
    let B = h.bucket in
    let then : Counts → Result Outcome Refusal = λ c. put_then at b k bytes until s B (c, c) in
    let asks : put_object at b k bytes given date v ≡ ◌>>=◌ {B = Outcome} (require_quota b (with_object at k s.next_version bytes B) s) (λ _. ◌>>=◌ {B = Outcome} (after_entry B.mode (counts s)) then) = rw (h.added, h.there, right, dated) refl in
    asks ∙ entry_asked s b k B h.there at s.next_version (Body bytes (checksum_text bytes)) then
    ∙ (λ i. ◌>>=◌ {B = Outcome} (entry_numbers_in (h.its i) b k (length bytes) (sym h.added i)) (λ n. then n.1))

-- it is refused where they are
pub put_refused : (at : ℕ) (b k bytes : Octets) (old : Option State) (mode : BucketState) → mode_in b old ≡ Ok mode
    → (x : Refusal) → entry_numbers_in mode b k (length bytes) old ≡ Err x → put_object at b k bytes None None old ≡ Err x
put_refused at b k bytes old mode found x e =
    let h = has_bucket b old mode found in
    put_shape at b k bytes None None None old mode h refl refl ∙ ap (λ r. ◌>>=◌ {B = Outcome} r (put_then at b k bytes None h.state h.bucket)) e

-- it is refused where the checksum that is given is another
pub put_bad : (at : ℕ) (b k bytes : Octets) (given : Option Octets) (date : Option (Option ℕ)) (v : Option State) (mode : BucketState) → mode_in b v ≡ Ok mode → is_checksum given bytes ≡ false → put_object at b k bytes given date v ≡ Err BadDigest
put_bad at b k bytes given date v mode found wrong = let h = has_bucket b v mode found in rw (h.added, h.there, wrong) refl

-- the sum that was given, if one was, is right
pub sum_right : (given : Option Octets) (bytes text : Octets) → sum_given given bytes ≡ Ok text → is_checksum given bytes ≡ true
sum_right given bytes text e = go (is_checksum given bytes) e
  where
    go : (right : Bool) → (require right BadDigest >>= (λ _. Ok (checksum_text bytes))) ≡ Ok text → right ≡ true
    go true e = refl
    go false e = absurd (true≢false (sym (ap is_ok e)))

-- the tenant's next entry number, as it was read, is that of no version and no part
pub next_unnamed : (old : Tables) (t : Octets) (s : State) (sound : IsSound old) (is : view old t ≡ Some s) (before : Counts) → counts s ≡ before → IsUnnamed (t, before.entry) old
next_unnamed old t s sound is before same = subst (λ (x : Counts). IsUnnamed (t, x.entry) old) same (unnamed old t s sound is)

-- what a put gives, and what stays of the tables
abbrev pub Puts : Octets → Octets → Octets → ℕ → Octets → BucketState → Counts → Tables → Tables → Type 0
Puts t b k at bytes mode c old new = GivesStep t (put_object at b k bytes None None) (Stored (id_told mode (new_id mode c.version)) (checksum_text bytes)) old new × IsSound new × (limits_in new ≡ limits_in old)

module _ (old new : Tables) (t b k : Octets) (at : ℕ) (bytes : Octets) (after : Counts) (host : IsHostOf old) (early : at ≤ latest_of old) (key : IsKeyText k) where
  abbrev Goes : BucketState → Counts → Type 0
  Goes mode c = entry_numbers_in mode b k (length bytes) (view old t) ≡ Ok (c, after) → after_entry mode c ≡ Ok after → HasRowsOf (with_entry mode c after t b k at (Body bytes (checksum_text bytes)) old) new → KeepsShared old new → Puts t b k at bytes mode c old new

  goes : (mode : BucketState) (h : HasBucket b (view old t) mode) → Goes h.bucket.mode (counts h.state)
  goes mode h read room has shared =
      let target = with_entry h.bucket.mode (counts h.state) after t b k at (Body bytes (checksum_text bytes)) old in
      let change = becomes_so t _ old target new (object_put old target t h.state host.sound h.added b k h.bucket h.there at early key.key key.valid bytes after room refl) has in
      let own : HasBucket b (view old t) h.bucket.mode = record { state = h.state; bucket = h.bucket; added = h.added; there = h.there; its = refl } in (
        record {
          gives = put_shape at b k bytes None None None (view old t) h.bucket.mode own refl refl ∙ ap (λ r. ◌>>=◌ {B = Outcome} r (put_then at b k bytes None h.state h.bucket)) read
              ∙ ap (λ (v : Option State). Ok (stored bytes h.state.next_version h.bucket, v)) (sym change.shown);
          others = change.others;
          latest = change.latest;
          shared = shared;
        },
        change.sound,
        change.limits,
      )

  pub puts : (mode : BucketState) (c : Counts) → mode_in b (view old t) ≡ Ok mode → entry_numbers_in mode b k (length bytes) (view old t) ≡ Ok (c, after) → HasRowsOf (with_entry mode c after t b k at (Body bytes (checksum_text bytes)) old) new
      → KeepsShared old new → Puts t b k at bytes mode c old new
  puts mode c found read =
      let h = has_bucket b (view old t) mode found in
      let numbers = has_numbers (view old t) h.state mode c after h.added (numbers_read (view old t) b k mode h (length bytes) (c, after) read) in
      subst (λ m. Goes m c) h.its (subst (Goes h.bucket.mode) numbers.0 (goes mode h)) read (subst (λ x. after_entry mode x ≡ Ok after) numbers.0 numbers.1)

  -- an object whose body is stored in pieces
  pub puts_pieces : (digest : Octets → Octets) (size : ℕ) → 1 ≤ size → AreDigests digest old.blocks → (mode : BucketState) (c : Counts) → mode_in b (view old t) ≡ Ok mode → entry_numbers_in mode b k (length bytes) (view old t) ≡ Ok (c, after)
      → new ≡ object_written digest size mode c after (replaced_in mode t b k old) t b k at bytes old
      → Puts t b k at bytes mode c old new × HasBodies new × AreDigests digest new.blocks × StoresPieces digest size bytes old new × HasRowsOf (with_entry mode c after t b k at (Body bytes (checksum_text bytes)) old) new
  puts_pieces digest size low digests mode c found read e =
      let h = has_bucket b (view old t) mode found in
      let free = next_unnamed old t h.state host.sound h.added c (has_numbers (view old t) h.state mode c after h.added (numbers_read (view old t) b k mode h (length bytes) (c, after) read)).0 in
      let it = object_is_written old host mode c after t b k at free digest size bytes new low digests e in
      (puts mode c found read it.0.rows it.2, it.0.bodies, it.1, it.3, it.0.rows)
