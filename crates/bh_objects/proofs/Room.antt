-- What was read of a tenant's rows, as the quota in the machine's words.
use Rattle.std.proofs.Common.{◌≡◌, ℕ, Option, Some, None, option_map, find, Result, Ok, Err, refl, sym, ap, ◌∙◌}
use Rattle.std.specs.Option.{option_map_or}
use Rattle.bh_types.specs.Counts.{Counts}
use Rattle.bh_types.specs.Outcomes.{◌>>=◌}
use Rattle.bh_types.specs.declared.bucket_state.BucketState.{BucketState}
use Rattle.bh_types.specs.declared.bucket_state.BucketState.TheVariants.{Unversioned, Enabled, Suspended}
use Rattle.bh_types.specs.declared.refusal.Refusal.{Refusal}
use Rattle.bh_model.specs.Counting.{counts, after_entry}
use Rattle.bh_model.specs.Operations.{listed}
use Rattle.bh_model.specs.Quotas.{replaced_size}
use Rattle.bh_model.specs.State.{Octets, State}
use Rattle.bh_storage.specs.Calls.{Decides}
use Rattle.bh_storage.specs.declared.error.StepError.{StepError}
use Rattle.bh_storage.specs.declared.error.StepError.TheVariants.{Refused, Failed}
use Rattle.bh_tables.specs.Typed.{Tables, VersionRow}
use Rattle.bh_tables.specs.Shown.{is_version}
use Rattle.bh_view.specs.Sound.{IsSound}
use Rattle.bh_view.specs.View.{view}
use Rattle.bh_view.proofs.QuotaLemmas.{null_row_size}
use Rattle.bh_view.proofs.UsedLemmas.{used_is}
use Rattle.bh_objects.specs.Found.{Answers, mode_in, account_in, numbers_in, bytes_in, null_in, replaced_in, replaced_bytes, room_under, room_in, entry_numbers_in}
use Rattle.bh_objects.proofs.Found.{account_counts}
use Rattle.bh_objects.proofs.Putting.{HasBucket, has_bucket}

-- ---- the tenant's account

-- its quota and its bytes decide
pub room_of_account : (tables : Tables) (t : Octets) → IsSound tables → (a : ℕ × Counts) → account_in (view tables t) ≡ Ok a → (replaced added : ℕ) → room_in replaced added (view tables t) ≡ room_under a.0 (bytes_in t tables) replaced added
room_of_account tables t sound a is replaced added = go (view tables t) refl is
  where
    go : (v : Option State) → view tables t ≡ v → account_in v ≡ Ok a → room_in replaced added v ≡ room_under a.0 (bytes_in t tables) replaced added
    go None there e = cc
    go (Some s) there e =
        let same : (s.quota, counts s) ≡ a = cc in
        ap (λ u. room_under s.quota u replaced added) (used_is tables t s sound there) ∙ ap (λ (x : ℕ × Counts). room_under x.0 (bytes_in t tables) replaced added) same

-- ---- a new entry

-- the numbers that counters give
abbrev pub numbers_from : BucketState → Counts → Result (Counts × Counts) Refusal
numbers_from mode before = do
  after ← after_entry mode before
  Ok (before, after)

module _ (tables : Tables) (t b k : Octets) (sound : IsSound tables) (mode : BucketState) (there : mode_in b (view tables t) ≡ Ok mode) where
  its : HasBucket b (view tables t) mode
  its = has_bucket b (view tables t) mode there

  null_size : replaced_bytes (null_in t b k tables) ≡ option_map_or (λ (v : VersionRow). v.size) (find (is_version t b k 0) tables.versions) 0
  null_size = go (find (is_version t b k 0) tables.versions)
    where
      go : (o : Option VersionRow) → replaced_bytes (option_map (λ (v : VersionRow). record { seq = v.seq; size = v.size }) o) ≡ option_map_or (λ (v : VersionRow). v.size) o 0
      go None = refl
      go (Some v) = refl

  replaced_is : (m : BucketState) → replaced_bytes (replaced_in m t b k tables) ≡ replaced_size m (listed k its.bucket)
  replaced_is Unversioned = null_size ∙ sym (null_row_size tables t sound b k its.state its.added its.bucket its.there)
  replaced_is Enabled = refl
  replaced_is Suspended = null_size ∙ sym (null_row_size tables t sound b k its.state its.added its.bucket its.there)

  -- the room first, and then the numbers
  entry_shape : (replaced added : ℕ) → replaced ≡ replaced_bytes (replaced_in mode t b k tables)
      → entry_numbers_in mode b k added (view tables t) ≡ ◌>>=◌ {B = Counts × Counts} (room_in replaced added (view tables t)) (λ _. numbers_in mode (view tables t))
  entry_shape replaced added is =
      let same : replaced_size mode (listed k its.bucket) ≡ replaced = sym (is ∙ replaced_is mode) in
      rw (its.added, its.there, same) refl

  -- the account first, then the room, and then the numbers
  pub entry_decides : (replaced added : ℕ) → replaced ≡ replaced_bytes (replaced_in mode t b k tables) → (a : ℕ × Counts) → account_in (view tables t) ≡ Ok a
      → entry_numbers_in mode b k added (view tables t) ≡ ◌>>=◌ {B = Counts × Counts} (room_under a.0 (bytes_in t tables) replaced added) (λ _. numbers_from mode a.1)
  entry_decides replaced added is a account =
      entry_shape replaced added is
      ∙ ap (λ r. ◌>>=◌ {B = Counts × Counts} r (λ _. numbers_in mode (view tables t))) (room_of_account tables t sound a account replaced added)
      ∙ ap (λ r. ◌>>=◌ {B = Counts × Counts} (room_under a.0 (bytes_in t tables) replaced added) (λ _. ◌>>=◌ {B = Counts × Counts} r (numbers_from mode))) (account_counts (view tables t) a account)

-- the room is refused
pub room_refuses : {B : Type 0} (r : Result (Unit {0}) Refusal) (next : Unit {0} → Result B Refusal) (x : Refusal) → r ≡ Err x → ◌>>=◌ {B = B} r next ≡ Err x
room_refuses r next x e = ap (λ z. ◌>>=◌ z next) e

pub room_lets : {B : Type 0} (r : Result (Unit {0}) Refusal) (next : Unit {0} → Result B Refusal) → r ≡ Ok tt → ◌>>=◌ {B = B} r next ≡ next tt
room_lets r next e = ap (λ z. ◌>>=◌ z next) e

-- a question that comes after others, which changed nothing
pub decides_on : {X Y : Type 0} (shown : X → Y) (whole : Tables → Result Y Refusal) (last : Result Y Refusal) (old middle new : Tables) (result : Result X (StepError Refusal))
    → middle ≡ old → whole old ≡ last → Decides shown last middle new result → Decides shown (whole old) old new result
decides_on shown whole last old middle new (Ok x) same is d = (is ∙ d.0, d.1 ∙ same)
decides_on shown whole last old middle new (Err (Refused r)) same is d = (is ∙ d.0, d.1 ∙ same)
decides_on shown whole last old middle new (Err (Failed trouble)) same is d = tt

-- the room is not there
pub room_failed : {X Y : Type 0} (shown : X → Y) (whole : Tables → Result Y Refusal) (room : Result (Unit {0}) Refusal) (next : Unit {0} → Result Y Refusal) (old new : Tables) (error : StepError Refusal)
    → new ≡ old → whole old ≡ ◌>>=◌ {B = Y} room next → Answers {X = Unit {0}} {Y = Unit {0}} (λ _. tt) room (Err error) → Decides shown (whole old) old new (Err error)
room_failed shown whole room next old new (Refused x) same is d = (is ∙ room_refuses room next x d, same)
room_failed shown whole room next old new (Failed trouble) same is d = tt
