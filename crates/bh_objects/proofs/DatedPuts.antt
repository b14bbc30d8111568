-- PutObject and CopyObject with a date: the version without one was stored, and its date then, are the machine's step.
use Rattle.std.proofs.Common.{◌≡◌, ℕ, ◌≤◌, length, true, is_ok, true≢false, Option, Some, None, Result, Ok, Err, refl, sym, ap, ◌∙◌, subst}
use Rattle.bh_types.specs.Checksums.{checksum_text}
use Rattle.bh_types.specs.Counts.{Counts}
use Rattle.bh_types.specs.Outcomes.{◌>>=◌}
use Rattle.bh_types.specs.declared.bucket_state.BucketState.{BucketState}
use Rattle.bh_types.specs.declared.refusal.Refusal.{Refusal}
use Rattle.bh_types.specs.declared.wanted.Wanted.{Wanted}
use Rattle.bh_model.specs.Counting.{counts, with_counts}
use Rattle.bh_model.specs.Entries.{Version, new_id}
use Rattle.bh_model.specs.Operations.{Answer, Outcome, Stored, Copied, id_told, put_object, copy_object, source_version, with_bucket, with_new_date, with_object, with_copy}
use Rattle.bh_model.specs.Parts.{is_checksum}
use Rattle.bh_model.specs.Retention.{first_date}
use Rattle.bh_model.specs.State.{Octets, State, Bucket}
use Rattle.bh_tables.specs.Typed.{Tables}
use Rattle.bh_view.specs.Put.{row_number}
use Rattle.bh_view.specs.Sound.{IsSound}
use Rattle.bh_view.specs.View.{view, limits_in}
use Rattle.bh_view.proofs.PutLemmas.{counters_good}
use Rattle.bh_storage.specs.Calls.{GivesStep, Decides, Carries}
use Rattle.bh_storage.specs.declared.error.StepError.{StepError}
use Rattle.bh_storage.specs.declared.error.StepError.TheVariants.{Refused, Failed}
use Rattle.bh_objects.specs.Dates.{new_date_in, IsPlaced, with_date}
use Rattle.bh_objects.specs.Found.{mode_in, counts_in, entry_numbers_in}
use Rattle.bh_objects.proofs.Copying.{copy_shape, copy_undated}
use Rattle.bh_objects.proofs.Dating.{MayHave, new_date_of, dated_locked, dates_alone, same_shared, first_dated}
use Rattle.bh_objects.proofs.Putting.{HasBucket, has_bucket, put_shape}

-- ---- a step that asks for numbers, and then stores a version with a date

abbrev counts_or : Result Counts Refusal → Counts → Counts
counts_or (Ok c) other = c
counts_or (Err x) other = other

-- the tenant's counters, as they were read
pub its_counts : (v : Option State) (s : State) (c : Counts) → v ≡ Some s → counts_in v ≡ Ok c → counts s ≡ c
its_counts v s c is e = ap (λ r. counts_or r c) (sym (ap counts_in is) ∙ e)

abbrev outcome_or : Result Outcome Refusal → Outcome → Outcome
outcome_or (Ok o) other = o
outcome_or (Err x) other = other

abbrev refusal_or : Result Outcome Refusal → Refusal → Refusal
refusal_or (Ok o) other = other
refusal_or (Err x) other = x

abbrev then_stored : Answer → Octets → Octets → Option ℕ → State → Bucket → Counts × Counts → Result Outcome Refusal
then_stored answer b k until s B n = Ok (answer, Some (with_bucket b (with_new_date k s.next_version until B) (with_counts n.1 s)))

-- what such a step gives with a date, where it gives this without one
pub record Gives (answer told : Answer) (b k : Octets) (until : Option ℕ) (s : State) (B : Bucket) (r : Result (Counts × Counts) Refusal) (left : Option State) : Type 0 where
  pub after : Counts
  pub same : answer ≡ told
  pub shown : left ≡ Some (with_bucket b B (with_counts after s))
  pub gives : ◌>>=◌ {B = Outcome} r (then_stored answer b k until s B) ≡ Ok (answer, Some (with_bucket b (with_new_date k s.next_version until B) (with_counts after s)))

module _ (answer : Answer) (b k : Octets) (until : Option ℕ) (s : State) (B : Bucket) where
  given_so : (r : Result (Counts × Counts) Refusal) (told : Answer) (left : Option State) → ◌>>=◌ {B = Outcome} r (then_stored answer b k None s B) ≡ Ok (told, left) → Gives answer told b k until s B r left
  given_so (Ok n) told left e =
      let same = ap (λ r. outcome_or r (told, left)) e in
      record { after = n.1; same = ap (λ (o : Outcome). o.0) same; shown = sym (ap (λ (o : Outcome). o.1) same); gives = refl }
  given_so (Err x) told left e = absurd (true≢false (sym (ap is_ok e)))

  -- and it is refused where that is
  refused_so : (r : Result (Counts × Counts) Refusal) (x : Refusal) → ◌>>=◌ {B = Outcome} r (then_stored answer b k None s B) ≡ Err x → ◌>>=◌ {B = Outcome} r (then_stored answer b k until s B) ≡ Err x
  refused_so (Ok n) x e = absurd (true≢false (ap is_ok e))
  refused_so (Err y) x e = ap (λ r. Err (refusal_or r x)) e

-- what a step with a date gives, and what stays of the tables
abbrev pub GivesDated : Octets → (Option State → Result Outcome Refusal) → Answer → Tables → Tables → Tables → Type 0
GivesDated t step answer old middle new = GivesStep t step answer old new × IsSound new × (limits_in new ≡ limits_in middle)

module _ (old middle new : Tables) (t b k : Octets) (mode : BucketState) (c : Counts) (sound : IsSound old) (found : mode_in b (view old t) ≡ Ok mode) (read : counts_in (view old t) ≡ Ok c) (until : Option ℕ)
    (good : IsSound middle) (place : IsPlaced t b k (row_number mode c.version) c.entry middle) (e : new ≡ with_date t c.entry None until middle) where
  abbrev h : HasBucket b (view old t) mode
  h = has_bucket b (view old t) mode found

  -- by the state of the step without a date
  date_given : (told : Answer) (plain step : Option State → Result Outcome Refusal) (B : Bucket) → B.mode ≡ h.bucket.mode → MayHave B until → GivesStep t plain told old middle
      → (after : Counts) → view middle t ≡ Some (with_bucket b B (with_counts after h.state)) → step (view old t) ≡ Ok (told, Some (with_bucket b (with_new_date k h.state.next_version until B) (with_counts after h.state)))
      → GivesDated t step told old middle new
  date_given told plain step B kept may was after shown gives =
      let same : c.version ≡ h.state.next_version = ap (λ (x : Counts). x.version) (sym (its_counts (view old t) h.state c h.added read)) in
      let low = (counters_good old t h.state sound h.added).0.0 in
      let change = first_dated middle new t b k (with_counts after h.state) B good shown h.state.next_version c.entry low mode (kept ∙ h.its)
      (subst (λ n. IsPlaced t b k (row_number mode n) c.entry middle) same place) until may e in
      (record { gives = gives ∙ ap (λ v. Ok (told, v)) (sym change.shown); others = λ u apart. change.others u apart ∙ was.others u apart; latest = change.latest ∙ was.latest; shared = same_shared middle new (dates_alone t c.entry until middle new e) old was.shared }, change.sound, change.limits)

  module _ (date : Option (Option ℕ)) (at : ℕ) (dated : new_date_in b date at (view old t) ≡ Ok until) (near : (n : ℕ) → until ≡ Some n → n ≤ 251_000_000_000) where
    decided : first_date h.bucket.locked date at ≡ Ok until
    decided = sym (new_date_of b date at (view old t) mode h) ∙ dated

    may_have : MayHave h.bucket until
    may_have n is = (near n is, dated_locked h.bucket.locked date at n (decided ∙ ap (λ u. Ok u) is))

    pub puts_dated : (bytes : Octets) (given : Option Octets) (told : Answer) → is_checksum given bytes ≡ true → GivesStep t (put_object at b k bytes None None) told old middle → GivesDated t (put_object at b k bytes given date) told old middle new
    puts_dated bytes given told right was =
        let s = h.state in
        let B = with_object at k s.next_version bytes h.bucket in
        let answer = Stored (id_told h.bucket.mode (new_id h.bucket.mode s.next_version)) (checksum_text bytes) in
        let it = given_so answer b k until s B (entry_numbers_in mode b k (length bytes) (view old t)) told (view middle t) (sym (put_shape at b k bytes None None None (view old t) mode h refl refl) ∙ was.gives) in
        date_given told (put_object at b k bytes None None) (put_object at b k bytes given date) B refl may_have was it.after it.shown
        (put_shape at b k bytes given date until (view old t) mode h right decided ∙ it.gives ∙ ap (λ a. Ok (a, Some (with_bucket b (with_new_date k s.next_version until B) (with_counts it.after s)))) it.same)

    pub copies_dated : (sb sk : Octets) (wanted : Wanted) (version : Version) (told : Answer) → source_version sb sk wanted (view old t) ≡ Ok version → GivesStep t (copy_object at b k sb sk wanted None) told old middle
        → GivesDated t (copy_object at b k sb sk wanted date) told old middle new
    copies_dated sb sk wanted version told source was =
        let s = h.state in
        let B = with_copy at k s.next_version version h.bucket in
        let answer = Copied (id_told h.bucket.mode (new_id h.bucket.mode s.next_version)) at version.checksum in
        let it = given_so answer b k until s B (entry_numbers_in mode b k (length version.bytes) (view old t)) told (view middle t) (sym (copy_shape at b k sb sk wanted None (view old t) mode h version source None refl) ∙ was.gives) in
        date_given told (copy_object at b k sb sk wanted None) (copy_object at b k sb sk wanted date) B refl may_have was it.after it.shown
        (copy_shape at b k sb sk wanted date (view old t) mode h version source until decided ∙ it.gives ∙ ap (λ a. Ok (a, Some (with_bucket b (with_new_date k s.next_version until B) (with_counts it.after s)))) it.same)

-- ---- refusals

module _ (at : ℕ) (b k : Octets) (v : Option State) (mode : BucketState) (found : mode_in b v ≡ Ok mode) (date : Option (Option ℕ)) where
  abbrev its : HasBucket b v mode
  its = has_bucket b v mode found

  -- of the date
  pub put_date_refuses : (bytes : Octets) (given : Option Octets) → is_checksum given bytes ≡ true → (x : Refusal) → new_date_in b date at v ≡ Err x → put_object at b k bytes given date v ≡ Err x
  put_date_refuses bytes given right x e =
      let refused : first_date its.bucket.locked date at ≡ Err x = sym (new_date_of b date at v mode its) ∙ e in
      rw (its.added, its.there, right, refused) refl

  pub copy_date_refuses : (sb sk : Octets) (wanted : Wanted) (version : Version) → source_version sb sk wanted v ≡ Ok version → (x : Refusal) → new_date_in b date at v ≡ Err x → copy_object at b k sb sk wanted date v ≡ Err x
  copy_date_refuses sb sk wanted version source x e = copy_undated at b k sb sk wanted date v mode its version source x (sym (new_date_of b date at v mode its) ∙ e)

  module _ (until : Option ℕ) (dated : new_date_in b date at v ≡ Ok until) where
    first_decided : first_date its.bucket.locked date at ≡ Ok until
    first_decided = sym (new_date_of b date at v mode its) ∙ dated

    -- of the version without one
    pub put_refuses : (bytes : Octets) (given : Option Octets) → is_checksum given bytes ≡ true → (x : Refusal) → put_object at b k bytes None None v ≡ Err x → put_object at b k bytes given date v ≡ Err x
    put_refuses bytes given right x e =
        let s = its.state in
        let B = with_object at k s.next_version bytes its.bucket in
        let answer = Stored (id_told its.bucket.mode (new_id its.bucket.mode s.next_version)) (checksum_text bytes) in
        put_shape at b k bytes given date until v mode its right first_decided
        ∙ refused_so answer b k until s B (entry_numbers_in mode b k (length bytes) v) x (sym (put_shape at b k bytes None None None v mode its refl refl) ∙ e)

    pub copy_refuses : (sb sk : Octets) (wanted : Wanted) (version : Version) → source_version sb sk wanted v ≡ Ok version → (x : Refusal) → copy_object at b k sb sk wanted None v ≡ Err x → copy_object at b k sb sk wanted date v ≡ Err x
    copy_refuses sb sk wanted version source x e =
        let s = its.state in
        let B = with_copy at k s.next_version version its.bucket in
        let answer = Copied (id_told its.bucket.mode (new_id its.bucket.mode s.next_version)) at version.checksum in
        copy_shape at b k sb sk wanted date v mode its version source until first_decided
        ∙ refused_so answer b k until s B (entry_numbers_in mode b k (length version.bytes) v) x (sym (copy_shape at b k sb sk wanted None v mode its version source None refl) ∙ e)

-- ---- what was answered of the calls, where one of them fails

module _ {Y : Type 0} (told : Y → Answer) (at : ℕ) (t b k : Octets) (old middle new : Tables) (mode : BucketState) (found : mode_in b (view old t) ≡ Ok mode) (date : Option (Option ℕ)) (same : middle ≡ old) where
  module _ (bytes : Octets) (given : Option Octets) (right : is_checksum given bytes ≡ true) where
    pub put_date_failed : {X : Type 0} (shows : X → Option ℕ) (error : StepError Refusal) → Decides shows (new_date_in b date at (view middle t)) middle new (Err error) → Carries told t (put_object at b k bytes given date) old new (Err error)
    put_date_failed shows (Refused x) d = (put_date_refuses at b k (view old t) mode found date bytes given right x (ap (λ (y : Tables). new_date_in b date at (view y t)) (sym same) ∙ d.0), d.1 ∙ same)
    put_date_failed shows (Failed trouble) d = tt

    pub put_store_failed : {X : Type 0} (shows : X → Answer) (until : Option ℕ) → new_date_in b date at (view old t) ≡ Ok until → (error : StepError Refusal)
        → Carries shows t (put_object at b k bytes None None) middle new (Err error) → Carries told t (put_object at b k bytes given date) old new (Err error)
    put_store_failed shows until dated (Refused x) d = (put_refuses at b k (view old t) mode found date until dated bytes given right x (ap (λ (y : Tables). put_object at b k bytes None None (view y t)) (sym same) ∙ d.0), d.1 ∙ same)
    put_store_failed shows until dated (Failed trouble) d = tt

  module _ (sb sk : Octets) (wanted : Wanted) (version : Version) (source : source_version sb sk wanted (view old t) ≡ Ok version) where
    pub copy_date_failed : {X : Type 0} (shows : X → Option ℕ) (error : StepError Refusal) → Decides shows (new_date_in b date at (view middle t)) middle new (Err error) → Carries told t (copy_object at b k sb sk wanted date) old new (Err error)
    copy_date_failed shows (Refused x) d = (copy_date_refuses at b k (view old t) mode found date sb sk wanted version source x (ap (λ (y : Tables). new_date_in b date at (view y t)) (sym same) ∙ d.0), d.1 ∙ same)
    copy_date_failed shows (Failed trouble) d = tt

    pub copy_store_failed : {X : Type 0} (shows : X → Answer) (until : Option ℕ) → new_date_in b date at (view old t) ≡ Ok until → (error : StepError Refusal)
        → Carries shows t (copy_object at b k sb sk wanted None) middle new (Err error) → Carries told t (copy_object at b k sb sk wanted date) old new (Err error)
    copy_store_failed shows until dated (Refused x) d = (copy_refuses at b k (view old t) mode found date until dated sb sk wanted version source x (ap (λ (y : Tables). copy_object at b k sb sk wanted None (view y t)) (sym same) ∙ d.0), d.1 ∙ same)
    copy_store_failed shows until dated (Failed trouble) d = tt
