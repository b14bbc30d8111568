-- An operation whose body comes in pieces, by how it ends; and a put whose body was stored as it came.
use Rattle.std.proofs.Common.{◌≡◌, ◌≤◌, ℕ, length, true, false, true≢false, is_ok, Bool, Option, Some, None, Result, Ok, Err, refl, sym, ap, ◌∙◌, arith, subst}
use Rattle.std.specs.Prelude.{if◌then◌else◌}
use Rattle.std.specs.Result.{result_map_both}
use Rattle.std.specs.String.{string_bytes}
use Rattle.std.specs.declared.alloc.Global.{Global}
use Rattle.std.specs.declared.string.String.{String}
use Rattle.bh_types.specs.Checksums.{checksum_text}
use Rattle.bh_types.specs.Counts.{Counts}
use Rattle.bh_types.specs.Outcomes.{◌>>=◌}
use Rattle.bh_types.specs.declared.bucket_state.BucketState.{BucketState}
use Rattle.bh_types.specs.declared.refusal.Refusal.{Refusal}
use Rattle.bh_types.specs.declared.refusal.Refusal.TheVariants.{BadDigest}
use Rattle.bh_http.specs.Bodies.{Coming, Gives, IsWhole, MayBreak}
use Rattle.bh_model.specs.Entries.{new_id}
use Rattle.bh_model.specs.Operations.{Stored, id_told, put_object, tenant_bucket}
use Rattle.bh_model.specs.Parts.{is_checksum}
use Rattle.bh_model.specs.State.{Octets, State, Bucket}
use Rattle.bh_storage.specs.Calls.{GivesStep, Decides, OperatesBy, Receives, IfDone, Unless, UnlessSpoilt}
use Rattle.bh_storage.specs.declared.error.Outcome.{Outcome}
use Rattle.bh_storage.specs.declared.error.Outcome.TheVariants.{Done, Spoilt}
use Rattle.bh_storage.specs.declared.error.StepError.{StepError}
use Rattle.bh_storage.specs.declared.error.StepError.TheVariants.{Refused, Failed}
use Rattle.bh_storage.specs.declared.error.Trouble.{Trouble}
use Rattle.bh_tables.specs.Typed.{Tables}
use Rattle.bh_view.specs.Blocks.{AreDigests}
use Rattle.bh_view.specs.Bodies.{HasBodies, StoresPieces, pieces, body_stored}
use Rattle.bh_view.specs.Sound.{IsSound}
use Rattle.bh_view.specs.View.{view, latest_of, limits_in}
use Rattle.bh_objects.specs.Admitting.{admitted_in}
use Rattle.bh_objects.specs.Dates.{new_date_at, new_date_in, with_date}
use Rattle.bh_objects.specs.Found.{mode_in, entry_numbers_in, replaced_in, IsKeyText}
use Rattle.bh_objects.specs.Refusing.{RefusedBy, IsReceived}
use Rattle.bh_objects.specs.Writes.{with_counters, with_version, without_replaced, object_written}
use Rattle.bh_objects.specs.declared.quotas.Replaced.{Replaced}
use Rattle.bh_objects.proofs.Dating.{stored_counts, stored_placed}
use Rattle.bh_objects.proofs.DatedPuts.{GivesDated, puts_dated, put_date_refuses, put_refuses}
use Rattle.bh_objects.proofs.Putting.{puts_pieces, put_bad, put_refused}
use Rattle.bh_objects.proofs.Written.{IsHostOf, object_chain}

-- as many bytes came as were due
pub counted_whole : (before after : Coming) (given : Octets) → Gives before after given → IsWhole after → before.due ≡ length given
counted_whole before after given gives whole = let c = gives.counted in let d = whole.due in omega (arith, c, d)

-- ---- how it ends

module _ {X Y E : Type 0} (shown : X → Y) (t : Octets) (step : Octets → Option State → Result (Y × Option State) E) (Says : Octets → Type 0) (clean : Type 0) (before after : Coming) (old new : Tables)
    (given : Octets) (gives : Gives before after given) where
  pub operates_failed : (trouble : Trouble) → MayBreak after → OperatesBy shown t step Says clean before after old new (Err (Failed trouble))
  operates_failed trouble may = record { given = given; gives = gives; decided = may; carries = λ _. tt; says = tt }

  pub operates_refused : (r : E) → IsWhole after → (clean → (step given (view old t) ≡ Err r) × (new ≡ old)) → OperatesBy shown t step Says clean before after old new (Err (Refused r))
  operates_refused r whole is = record { given = given; gives = gives; decided = whole; carries = is; says = tt }

  pub operates_spoilt : (r : E) → IsWhole after → (clean → step given (view old t) ≡ Err r) → OperatesBy shown t step Says clean before after old new (Ok (Spoilt r))
  operates_spoilt r whole is = record { given = given; gives = gives; decided = whole; carries = is; says = tt }

  pub operates_done : (x : X) → IsWhole after → (clean → GivesStep t (step given) (shown x) old new) → (clean → Says given) → OperatesBy shown t step Says clean before after old new (Ok (Done x))
  operates_done x whole is says = record { given = given; gives = gives; decided = whole; carries = is; says = says }

pub unless_spoilt : {X E : Type 0} (result : Result (Outcome X E) (StepError E)) (P : Type 0) → P → UnlessSpoilt result P
unless_spoilt (Ok (Done x)) P p = p
unless_spoilt (Ok (Spoilt r)) P p = tt
unless_spoilt (Err (Refused r)) P p = p
unless_spoilt (Err (Failed trouble)) P p = tt

-- trouble while a body came or was stored
pub received_err : (result : Result (Outcome (String Global) Refusal) Trouble) (before after : Coming) (asked : Option Octets) (Did : Octets → Type 0) (trouble : Trouble) → result ≡ Err trouble → (bytes : Octets) → Gives before after bytes → MayBreak after
    → IsReceived result before after asked Did
received_err result before after asked Did trouble is bytes gives may = subst (λ r. IsReceived r before after asked Did) (sym is) (record { bytes = bytes; gives = gives; received = may })

-- by what became of the body
module _ {Y : Type 0} (shown : String Global → Y) (t : Octets) (step : Octets → Option State → Result (Y × Option State) Refusal) (Says : Octets → Type 0) (clean : Type 0) (before after : Coming) (old new : Tables)
    (asked : Option Octets) (Did : Octets → Type 0) where
  pub operates_outcome : (outcome : Outcome (String Global) Refusal)
      → ((bytes : Octets) (text : String Global) → before.due ≡ length bytes → is_checksum asked bytes ≡ true → string_bytes text ≡ checksum_text bytes → Did bytes → clean → GivesStep t (step bytes) (shown text) old new × Says bytes)
      → ((bytes : Octets) → is_checksum asked bytes ≡ false → clean → step bytes (view old t) ≡ Err BadDigest)
      → IsReceived (Ok outcome) before after asked Did → OperatesBy shown t step Says clean before after old new (Ok outcome)
  operates_outcome (Done text) done bad it =
      let (whole, right, told, did) = it.received in
      let all = done it.bytes text (counted_whole before after it.bytes it.gives whole) right told did in
      operates_done shown t step Says clean before after old new it.bytes it.gives text whole (λ c. (all c).0) (λ c. (all c).1)
  operates_outcome (Spoilt r) done bad it =
      let (whole, wrong, is) = it.received in
      operates_spoilt shown t step Says clean before after old new it.bytes it.gives r whole (λ c. bad it.bytes wrong c ∙ ap (λ (x : Refusal). Err x) (sym is))

pub unless_outcome : (before after : Coming) (asked : Option Octets) (Did : Octets → Type 0) (outcome : Outcome (String Global) Refusal) (P : Type 0) → ((bytes : Octets) → before.due ≡ length bytes → is_checksum asked bytes ≡ true → Did bytes → P)
    → IsReceived (Ok outcome) before after asked Did → UnlessSpoilt {E = Refusal} (Ok outcome) P
unless_outcome before after asked Did (Done text) P done it =
    let (whole, right, told, did) = it.received in
    done it.bytes (counted_whole before after it.bytes it.gives whole) right did
unless_outcome before after asked Did (Spoilt r) P done it = tt

-- the tables were only asked before
module _ {X Y E : Type 0} (shown : X → Y) (t : Octets) (step : Octets → Option State → Result (Y × Option State) E) (Says : Tables → Octets → Type 0) (clean : Type 0) (before after : Coming) (old mid new : Tables) (same : clean → mid ≡ old) where
  pub operates_asked : (result : Result (Outcome X E) (StepError E)) → OperatesBy shown t step (Says mid) clean before after mid new result → OperatesBy shown t step (Says old) clean before after old new result
  operates_asked result o = record {
    given = o.given;
    gives = o.gives;
    decided = o.decided;
    carries = λ c. subst (λ (x : Tables). Receives shown t (step o.given) x new result) (same c) (o.carries c);
    says = says result o.given o.says;
  }
    where
      says : (r : Result (Outcome X E) (StepError E)) (given : Octets) → IfDone r (clean → Says mid given) → IfDone r (clean → Says old given)
      says (Ok (Done x)) given h = λ c. subst (λ (y : Tables). Says y given) (same c) (h c)
      says (Ok (Spoilt r)) given h = tt
      says (Err e) given h = tt

pub spoilt_kept : {X E : Type 0} (result : Result (Outcome X E) (StepError E)) (P Q : Type 0) → (P → Q) → UnlessSpoilt result P → UnlessSpoilt result Q
spoilt_kept (Ok (Done x)) P Q f p = f p
spoilt_kept (Ok (Spoilt r)) P Q f p = tt
spoilt_kept (Err (Refused r)) P Q f p = f p
spoilt_kept (Err (Failed trouble)) P Q f p = tt

-- a refusal that is told once the body came
module _ {X Y : Type 0} (shown : X → Y) (t : Octets) (step : Octets → Option State → Result (Y × Option State) Refusal) (Says : Octets → Type 0) (clean : Type 0) (before after : Coming) (old new : Tables)
    (given : Octets) (gives : Gives before after given) (P : Refusal → Type 0) where
  pub operates_refusing : (e : StepError Refusal) → RefusedBy P e after → ((r : Refusal) → before.due ≡ length given → P r → clean → (step given (view old t) ≡ Err r) × (new ≡ old)) → OperatesBy shown t step Says clean before after old new (Err e)
  operates_refusing (Refused r) (p, whole) is = operates_refused shown t step Says clean before after old new given gives r whole (is r (counted_whole before after given gives whole) p)
  operates_refusing (Failed trouble) may is = operates_failed shown t step Says clean before after old new given gives trouble may

-- what was so where an error was a refusal is so where that is told
pub refusing_unless : (X Y : Type 0) (error told : StepError Refusal) (P : Refusal → Type 0) (after : Coming) (Q R : Type 0) → ((r : Refusal) → P r → (x : Refusal) × (error ≡ Refused x)) → RefusedBy P told after → (Q → R)
    → Unless {X = X} {E = Refusal} (Err error) Q → UnlessSpoilt {X = Y} {E = Refusal} (Err told) R
refusing_unless X Y error (Refused r) P after Q R from by f q = let (x, is) = from r by.0 in f (subst (λ e. Unless {X = X} {E = Refusal} (Err e) Q) is q)
refusing_unless X Y error (Failed trouble) P after Q R from by f q = tt

-- ---- what a put gets before its body comes

-- its date and its numbers were decided
pub admitted_parts : (mode : BucketState) (b k : Octets) (date : Option (Option ℕ)) (at size : ℕ) (v : Option State) (until : Option ℕ) (c after : Counts) → admitted_in mode b k date at size v ≡ Ok (until, (c, after))
    → (new_date_in b date at v ≡ Ok until) × (entry_numbers_in mode b k size v ≡ Ok (c, after))
admitted_parts mode b k date at size v until c after e = go (new_date_in b date at v) (entry_numbers_in mode b k size v) refl refl e
  where
    both : Result (Option ℕ) Refusal → Result (Counts × Counts) Refusal → Result (Option ℕ × (Counts × Counts)) Refusal
    both d n = ◌>>=◌ {B = Option ℕ × (Counts × Counts)} d (λ u. ◌>>=◌ {B = Option ℕ × (Counts × Counts)} n (λ x. Ok (u, x)))

    value_or : Result (Option ℕ × (Counts × Counts)) Refusal → Option ℕ × (Counts × Counts) → Option ℕ × (Counts × Counts)
    value_or (Ok x) other = x
    value_or (Err r) other = other

    go : (d : Result (Option ℕ) Refusal) (n : Result (Counts × Counts) Refusal) → new_date_in b date at v ≡ d → entry_numbers_in mode b k size v ≡ n → both d n ≡ Ok (until, (c, after))
        → (new_date_in b date at v ≡ Ok until) × (entry_numbers_in mode b k size v ≡ Ok (c, after))
    go (Ok u) (Ok n) dated read is =
        let same = ap (λ r. value_or r (until, (c, after))) is in
        (dated ∙ ap (λ (x : Option ℕ × (Counts × Counts)). Ok x.0) same, read ∙ ap (λ (x : Option ℕ × (Counts × Counts)). Ok x.1) same)
    go (Ok u) (Err r) dated read is = absurd (true≢false (sym (ap is_ok is)))
    go (Err r) n dated read is = absurd (true≢false (sym (ap is_ok is)))

-- what is asked one after another is what is admitted
pub admitted : (mode : BucketState) (b k : Octets) (date : Option (Option ℕ)) (at size : ℕ) (v : Option State) (until : Option ℕ) (numbers : Counts × Counts) → new_date_in b date at v ≡ Ok until → entry_numbers_in mode b k size v ≡ Ok numbers
    → admitted_in mode b k date at size v ≡ Ok (until, numbers)
admitted mode b k date at size v until numbers dated read = rw (dated, read) refl

pub unadmitted_date : (mode : BucketState) (b k : Octets) (date : Option (Option ℕ)) (at size : ℕ) (v : Option State) (x : Refusal) → new_date_in b date at v ≡ Err x → admitted_in mode b k date at size v ≡ Err x
unadmitted_date mode b k date at size v x dated = rw dated refl

pub unadmitted_by : {X Y : Type 0} (shows : X → Option ℕ) (told : Y → Option ℕ × (Counts × Counts)) (mode : BucketState) (t b k : Octets) (date : Option (Option ℕ)) (at size : ℕ) (old new : Tables) → new_date_in b date at (view old t) ≡ new_date_at t b date at old
    → (error : StepError Refusal) → Decides shows (new_date_at t b date at old) old new (Err error) → Decides told (admitted_in mode b k date at size (view old t)) old new (Err error)
unadmitted_by shows told mode t b k date at size old new read (Refused x) d = (unadmitted_date mode b k date at size (view old t) x (read ∙ d.0), d.1)
unadmitted_by shows told mode t b k date at size old new read (Failed trouble) d = tt

pub unadmitted_numbers : (mode : BucketState) (b k : Octets) (date : Option (Option ℕ)) (at size : ℕ) (v : Option State) (until : Option ℕ) (x : Refusal) → new_date_in b date at v ≡ Ok until → entry_numbers_in mode b k size v ≡ Err x → admitted_in mode b k date at size v ≡ Err x
unadmitted_numbers mode b k date at size v until x dated read = rw (dated, read) refl

pub unadmitted_entry : {X Y : Type 0} (shows : X → Counts × Counts) (told : Y → Option ℕ × (Counts × Counts)) (mode : BucketState) (t b k : Octets) (date : Option (Option ℕ)) (at size : ℕ) (old mid new : Tables) (until : Option ℕ) → new_date_in b date at (view old t) ≡ Ok until → mid ≡ old
    → (error : StepError Refusal) → Decides shows (entry_numbers_in mode b k size (view mid t)) mid new (Err error) → Decides told (admitted_in mode b k date at size (view old t)) old new (Err error)
unadmitted_entry shows told mode t b k date at size old mid new until dated same (Refused x) d =
    (unadmitted_numbers mode b k date at size (view old t) until x dated (ap (λ (m : Tables). entry_numbers_in mode b k size (view m t)) (sym same) ∙ d.0), d.1 ∙ same)
unadmitted_entry shows told mode t b k date at size old mid new until dated same (Failed trouble) d = tt

-- where it is refused, that comes after the checksum
pub put_unfit : (at : ℕ) (b k bytes : Octets) (given : Option Octets) (date : Option (Option ℕ)) (v : Option State) (mode : BucketState) → mode_in b v ≡ Ok mode → (x : Refusal) → admitted_in mode b k date at (length bytes) v ≡ Err x
    → (r : Refusal) → r ≡ (if is_checksum given bytes then x else BadDigest) → put_object at b k bytes given date v ≡ Err r
put_unfit at b k bytes given date v mode found x e r is = go (is_checksum given bytes) refl is
  where
    refusal_or : {X : Type 0} → Result X Refusal → Refusal → Refusal
    refusal_or (Ok y) other = other
    refusal_or (Err y) other = y

    refused : (right : is_checksum given bytes ≡ true) (d : Result (Option ℕ) Refusal) → new_date_in b date at v ≡ d → ◌>>=◌ {B = Option ℕ × (Counts × Counts)} d (λ u. ◌>>=◌ {B = Option ℕ × (Counts × Counts)} (entry_numbers_in mode b k (length bytes) v) (λ n. Ok (u, n))) ≡ Err x
        → put_object at b k bytes given date v ≡ Err x
    refused right (Err y) dated is = put_date_refuses at b k v mode found date bytes given right x (dated ∙ ap (λ (q : Result (Option ℕ × (Counts × Counts)) Refusal). Err (refusal_or q x)) is)
    refused right (Ok u) dated is = numbers (entry_numbers_in mode b k (length bytes) v) refl is
      where
        numbers : (n : Result (Counts × Counts) Refusal) → entry_numbers_in mode b k (length bytes) v ≡ n → ◌>>=◌ {B = Option ℕ × (Counts × Counts)} n (λ m. Ok (u, m)) ≡ Err x → put_object at b k bytes given date v ≡ Err x
        numbers (Ok m) read is = absurd (true≢false (ap is_ok is))
        numbers (Err y) read is =
            put_refuses at b k v mode found date u dated bytes given right x (put_refused at b k bytes v mode found x (read ∙ ap (λ (q : Result (Option ℕ × (Counts × Counts)) Refusal). Err (refusal_or q x)) is))

    go : (right : Bool) → is_checksum given bytes ≡ right → r ≡ (if right then x else BadDigest) → put_object at b k bytes given date v ≡ Err r
    go true h is = refused h (new_date_in b date at v) refl e ∙ ap (λ (y : Refusal). Err y) (sym is)
    go false h is = put_bad at b k bytes given date v mode found h ∙ ap (λ (y : Refusal). Err y) (sym is)

-- where there is no bucket
pub put_nowhere : (at : ℕ) (b k bytes : Octets) (given : Option Octets) (date : Option (Option ℕ)) (v : Option State) (x : Refusal) → mode_in b v ≡ Err x → put_object at b k bytes given date v ≡ Err x
put_nowhere at b k bytes given date v x e = go (tenant_bucket b v) refl e
  where
    refusal_or : {X : Type 0} → Result X Refusal → Refusal → Refusal
    refusal_or (Ok y) other = other
    refusal_or (Err y) other = y

    go : (o : Result (State × Bucket) Refusal) → tenant_bucket b v ≡ o → result_map_both (λ f. f.1.mode) (λ refusal. refusal) o ≡ Err x → put_object at b k bytes given date v ≡ Err x
    go (Ok f) is e = absurd (true≢false (ap is_ok e))
    go (Err y) is e = rw is (ap (λ (r : Result BucketState Refusal). Err (refusal_or r x)) e)

-- ---- the writes of a put: its body, and then what it replaces goes, and its row comes with the counters
pub received_chain : (digest : Octets → Octets) (size : ℕ) (mode : BucketState) (before after : Counts) (replaced : Option Replaced) (t b k : Octets) (at : ℕ) (bytes : Octets) (count : ℕ) (text : Octets) (old two new : Tables)
    → two ≡ body_stored digest (t, before.entry) 0 (pieces size bytes) old → count ≡ length bytes → text ≡ checksum_text bytes
    → new ≡ with_version mode before t b k at count text (with_counters mode after t (without_replaced t b k replaced two)) → new ≡ object_written digest size mode before after replaced t b k at bytes old
received_chain digest size mode before after replaced t b k at bytes count text old two new stored counted told is =
    object_chain digest size mode before after replaced t b k at bytes old two (without_replaced t b k replaced two) new stored refl
    (is ∙ (λ i. with_version mode before t b k at (counted i) (told i) (with_counters mode after t (without_replaced t b k replaced two))))

-- an object whose body came and was stored, and then its date
pub record PutDone (digest : Octets → Octets) (size : ℕ) (mode : BucketState) (t b k : Octets) (at : ℕ) (bytes : Octets) (given : Option Octets) (date : Option (Option ℕ)) (c : Counts) (old middle new : Tables) : Type 0 where
  pub dated : GivesDated t (put_object at b k bytes given date) (Stored (id_told mode (new_id mode c.version)) (checksum_text bytes)) old middle new
  pub sound : IsSound middle
  pub limits : limits_in middle ≡ limits_in old
  pub bodies : HasBodies middle
  pub digests : AreDigests digest middle.blocks
  pub stores : StoresPieces digest size bytes old middle

pub put_done : (digest : Octets → Octets) (size : ℕ) → 1 ≤ size → (t b k : Octets) (at : ℕ) (bytes : Octets) (given : Option Octets) (date : Option (Option ℕ)) (until : Option ℕ) (mode : BucketState) (c after : Counts) (old middle new : Tables)
    → IsHostOf old → at ≤ latest_of old → IsKeyText k → AreDigests digest old.blocks → mode_in b (view old t) ≡ Ok mode → admitted_in mode b k date at (length bytes) (view old t) ≡ Ok (until, (c, after))
    → middle ≡ object_written digest size mode c after (replaced_in mode t b k old) t b k at bytes old → new ≡ with_date t c.entry None until middle → ((n : ℕ) → until ≡ Some n → n ≤ 251_000_000_000) → is_checksum given bytes ≡ true
    → PutDone digest size mode t b k at bytes given date c old middle new
put_done digest size low t b k at bytes given date until mode c after old middle new host early key digests found admitted written e near right =
    let parts = admitted_parts mode b k date at (length bytes) (view old t) until c after admitted in
    let it = puts_pieces old middle t b k at bytes after host early key digest size low digests mode c found parts.1 written in
    let place = stored_placed old middle t b k mode c after (length bytes) host.sound found parts.1 at bytes (checksum_text bytes) it.0.1 it.4 in
    let counted = stored_counts old middle t b k mode c after (length bytes) host.sound found parts.1 in
    record {
      dated = puts_dated old middle new t b k mode c host.sound found counted until it.0.1 place e date at parts.0 near bytes given (Stored (id_told mode (new_id mode c.version)) (checksum_text bytes)) right it.0.0;
      sound = it.0.1;
      limits = it.0.2;
      bodies = it.1;
      digests = it.2;
      stores = it.3;
    }
