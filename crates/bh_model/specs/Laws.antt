-- Evidence that the definitions are the intended ones.
use Rattle.std.specs.Prelude.{◌≡◌, ◌≢◌, ◌++◌, ◌∷◌, Err, ℕ, ◌≤◌, Bool, false, ◌&&◌, List, length, drop, Option, Some, None, Result, Ok, IfOk}
use Rattle.std.specs.List.{list_any}
use Rattle.bh_types.specs.declared.id.VersionId.{VersionId}
use Rattle.bh_types.specs.declared.id.VersionId.TheVariants.{Null, Numbered}
use Rattle.bh_types.specs.declared.bucket_state.BucketState.{BucketState}
use Rattle.bh_types.specs.declared.bucket_state.BucketState.TheVariants.{Enabled, Suspended}
use Rattle.bh_types.specs.declared.wanted.Wanted.{Wanted}
use Rattle.bh_types.specs.declared.wanted.Wanted.TheVariants.{Current, Named}
use Rattle.bh_types.specs.declared.range.RangePlan.TheVariants.{Whole}
use Rattle.bh_types.specs.declared.refusal.Refusal.TheVariants.{NoSuchVersion, AccessDenied, InvalidAccessKeyId}
use Rattle.bh_model.specs.State.{Octets, Content.Body, Entry, State, absent, purged}
use Rattle.bh_model.specs.Counting.{counts, AtMost}
use Rattle.bh_model.specs.Entries.{Version, has_id, is_version, without, new_id, added, deleted, lookup, not_found}
use Rattle.bh_types.specs.Checksums.{checksum_text}
use Rattle.bh_types.specs.AccessKeys.{access_key}
use Rattle.bh_types.specs.declared.access_key.AccessKeyId.{AccessKeyId}
use Rattle.bh_model.specs.Credentials.{authenticate}
use Rattle.bh_model.specs.Operations.{Answer.Stored, Answer.Copied, Answer.Object, add_key, remove_key}
use Rattle.bh_model.specs.Operations.{remove_tenant, put_object, source_version}
use Rattle.bh_model.specs.Operations.{copy_object, get_object}
use Rattle.bh_model.specs.Runs.{solo, solo_state, step, Follows}

-- purging, and then again at a later moment, is purging at the later one
abbrev pub PurgedLater : Type 0
PurgedLater = (s : State) (m n : ℕ) → m ≤ n → purged (purged s m) n ≡ purged s n

-- purging twice at one moment is purging once
abbrev pub PurgedTwice : Type 0
PurgedTwice = (s : State) (now : ℕ) → purged (purged s now) now ≡ purged s now

-- what was put is the current version, and its id finds it
abbrev pub put_version : BucketState → ℕ → ℕ → Octets → Octets → Version
put_version mode next moment bytes checksum = record { id = new_id mode next; moment = moment; bytes = bytes; checksum = checksum }

abbrev pub PutIsFound : Type 0
PutIsFound = (mode : BucketState) (next moment : ℕ) (bytes checksum : Octets) (entries : List Entry)
    → (lookup Current (added mode next moment (Body bytes checksum) entries) ≡ Ok (put_version mode next moment bytes checksum))
    × (lookup (Named (new_id mode next)) (added mode next moment (Body bytes checksum) entries)
    ≡ Ok (put_version mode next moment bytes checksum))

-- a delete without id in an Enabled bucket leaves every older entry, in its place and under its id
abbrev pub EnabledDeleteKeeps : Type 0
EnabledDeleteKeeps = (next moment : ℕ) (entries : List Entry)
    → (drop 1 (deleted Enabled Current next moment entries) ≡ entries)
    × ((id : VersionId) → id ≢ Numbered next → lookup (Named id) (deleted Enabled Current next moment entries) ≡ lookup (Named id) entries)

-- a delete without id in a Suspended bucket leaves no version `null`, nor is there one once its marker is gone
abbrev pub SuspendedDeleteClears : Type 0
SuspendedDeleteClears = (next moment : ℕ) (entries : List Entry)
    → (list_any (λ e. has_id Null e && is_version e) (deleted Suspended Current next moment entries) ≡ false)
    × (lookup (Named Null) (without Null (deleted Suspended Current next moment entries)) ≡ not_found NoSuchVersion)

-- what was put is what a get without id reads, under the id that the put returned, whatever the
-- bucket's state is
abbrev pub PutIsRead : Type 0
PutIsRead = (moment : ℕ) (name key bytes : Octets) (given : Option Octets) (date : Option (Option ℕ)) (s : Option State)
    → IfOk (put_object moment name key bytes given date s) (λ put.
    (id : Option VersionId) × (put.0 ≡ Stored id (checksum_text bytes))
    × (get_object name key Current None put.1 ≡ Ok (Object id (length bytes) Whole bytes (checksum_text bytes), put.1)))

-- what was copied is what a get without id reads, whatever the states of both buckets are, and even
-- if a version is copied to its own key
abbrev pub CopyIsRead : Type 0
CopyIsRead = (moment : ℕ) (name key source_name source_key : Octets) (wanted : Wanted) (date : Option (Option ℕ)) (s : Option State)
    → IfOk (copy_object moment name key source_name source_key wanted date s) (λ copy.
    (v : Version) × (id : Option VersionId) × (source_version source_name source_key wanted s ≡ Ok v)
    × (copy.0 ≡ Copied id moment v.checksum)
    × (get_object name key Current None copy.1 ≡ Ok (Object id (length v.bytes) Whole v.bytes v.checksum, copy.1)))

-- 36 is '$'
abbrev pub key_id : Octets → Octets → Octets
key_id tenant name = tenant ++ 36 ∷ name

abbrev pub key_named : Octets → Octets → AccessKeyId
key_named tenant name = record { tenant = tenant; name = Some name }

-- the id of a key that was added is parsed as that key, and it opens with its secret and no other
abbrev pub AddedKeyOpens : Type 0
AddedKeyOpens = (tenant name secret : Octets) (s : Option State)
    → IfOk (add_key tenant name secret s) (λ added.
    (access_key (key_id tenant name) ≡ Some (key_named tenant name))
    × (authenticate (key_named tenant name) secret added.1 ≡ Ok tt)
    × ((other : Octets) → other ≢ secret → authenticate (key_named tenant name) other added.1 ≡ Err AccessDenied))

-- a key that was removed is unknown
abbrev pub RemovedKeyIsUnknown : Type 0
RemovedKeyIsUnknown = (tenant name secret : Octets) (s : Option State)
    → IfOk (remove_key tenant name s) (λ removed. authenticate (key_named tenant name) secret removed.1 ≡ Err InvalidAccessKeyId)

-- a tenant that was removed has no state, and each of its keys is unknown
abbrev pub RemovedTenantIsUnknown : Type 0
RemovedTenantIsUnknown = (moment : ℕ) (tenant : Octets) (with_objects : Bool) (s : Option State)
    → IfOk (remove_tenant moment tenant with_objects s) (λ removed. (removed.1 ≡ absent)
    × ((name secret : Octets) → authenticate (key_named tenant name) secret removed.1 ≡ Err InvalidAccessKeyId))

-- the tenant stays, and no counter goes down
abbrev pub Rises : Option State → Option State → Type 0
Rises None s = Unit {0}
Rises (Some s) None = ⊥
Rises (Some s) (Some t) = AtMost (counts s) (counts t)

-- the tenant goes, or else it stays and no counter goes down
abbrev pub GoesOrRises : Option State → Option State → Type 0
GoesOrRises s None = Unit {0}
GoesOrRises s (Some t) = Rises s (Some t)

-- states that are equal once purged take the same step at any later moment
abbrev pub FollowersStepAlike : Type 0 → Type 0 → Type 0 → Type 0
FollowersStepAlike A X E = (change : ℕ → A → Option State → Result (X × Option State) E) (s seen : Option State) (last now : ℕ) (act : A)
    → Follows s seen last → last ≤ now → step change now act s ≡ step change now act seen

-- a run over two joined lists is the run over the second from the state after the first
abbrev pub RunsJoin : Type 0 → Type 0 → Type 0
RunsJoin A R = (step : ℕ → A → Option State → R × Option State) (s : Option State) (acts more : List (ℕ × A))
    → (solo step s (acts ++ more) ≡ solo step s acts ++ solo step (solo_state step s acts) more)
    × (solo_state step s (acts ++ more) ≡ solo_state step (solo_state step s acts) more)
