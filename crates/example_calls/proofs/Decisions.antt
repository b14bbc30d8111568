-- What the Amazon S3 User Guide has of versioning ("Adding objects to versioning-enabled buckets", "Deleting object versions",
-- "Working with delete markers"): what a put and a delete make of the entries of a key, newest first, and of the next numbers,
-- and which version a lookup finds.
use Rattle.std.proofs.Common.{ℕ, Bool, true, false, List, [], ◌∷◌, codes, Result, Ok, Err, refl}
use Rattle.example_calls.proofs.Rows.{Holds}
use Rattle.bh_types.specs.Counts.{Counts}
use Rattle.bh_types.specs.declared.id.VersionId.{VersionId}
use Rattle.bh_types.specs.declared.id.VersionId.TheVariants.{Null, Numbered}
use Rattle.bh_types.specs.declared.bucket_state.BucketState.{BucketState}
use Rattle.bh_types.specs.declared.bucket_state.BucketState.TheVariants.{Unversioned, Enabled, Suspended}
use Rattle.bh_types.specs.declared.wanted.Wanted.{Wanted}
use Rattle.bh_types.specs.declared.wanted.Wanted.TheVariants.{Current, Named, Unknown}
use Rattle.bh_types.specs.declared.refusal.Refusal.{Refusal}
use Rattle.bh_types.specs.declared.refusal.Refusal.TheVariants.{NoSuchKey, NoSuchVersion, MethodNotAllowed, CounterExhausted}
use Rattle.bh_model.specs.State.{Content, Content.Marker, Content.Body, Entry}
use Rattle.bh_model.specs.Entries.{Version, LookupFault, added, deleted, lookup}
use Rattle.bh_model.specs.Counting.{after_entry, after_delete}

-- an object, whose checksum plays no part
abbrev object : Content
object = Body (codes "v") []

-- versions and markers of one moment
abbrev version : VersionId → Entry
version id = record { id = id; moment = 0; content = object }

abbrev marker : VersionId → Entry
marker id = record { id = id; moment = 0; content = Marker }

-- what a put and a delete leave, where 5 is the next number of a version
abbrev put : BucketState → List Entry → List Entry
put state entries = added state 5 0 object entries

abbrev delete : BucketState → Wanted → List Entry → List Entry
delete state wanted entries = deleted state wanted 5 0 entries

puts : Holds (
    (put Unversioned [], version Null ∷ [])
    ∷ (put Unversioned (version Null ∷ []), version Null ∷ [])
    ∷ (put Enabled [], version (Numbered 5) ∷ [])
    ∷ (put Enabled (version Null ∷ []), version (Numbered 5) ∷ version Null ∷ [])
    ∷ (put Enabled (marker (Numbered 4) ∷ []), version (Numbered 5) ∷ marker (Numbered 4) ∷ [])
    ∷ (put Suspended (version (Numbered 4) ∷ []), version Null ∷ version (Numbered 4) ∷ [])
    ∷ (put Suspended (version (Numbered 4) ∷ version Null ∷ []), version Null ∷ version (Numbered 4) ∷ [])
    ∷ (put Suspended (marker Null ∷ version (Numbered 4) ∷ []), version Null ∷ version (Numbered 4) ∷ [])
    ∷ [])
puts = refl

deletes : Holds (
    (delete Unversioned Current (version Null ∷ []), [])
    ∷ (delete Unversioned Current [], [])
    ∷ (delete Unversioned Current (marker Null ∷ []), marker Null ∷ [])
    ∷ (delete Enabled Current [], marker (Numbered 5) ∷ [])
    ∷ (delete Enabled Current (version Null ∷ []), marker (Numbered 5) ∷ version Null ∷ [])
    ∷ (delete Suspended Current (version (Numbered 4) ∷ []), marker Null ∷ version (Numbered 4) ∷ [])
    ∷ (delete Suspended Current (version (Numbered 4) ∷ version Null ∷ []), marker Null ∷ version (Numbered 4) ∷ [])
    ∷ (delete Enabled (Named (Numbered 3)) (version (Numbered 4) ∷ version (Numbered 3) ∷ []), version (Numbered 4) ∷ [])
    ∷ (delete Enabled (Named (Numbered 3)) (version Null ∷ []), version Null ∷ [])
    ∷ (delete Enabled (Named Null) (version (Numbered 4) ∷ version Null ∷ []), version (Numbered 4) ∷ [])
    ∷ (delete Suspended (Named Null) (version (Numbered 4) ∷ []), version (Numbered 4) ∷ [])
    ∷ (delete Suspended (Named (Numbered 3)) (marker Null ∷ version (Numbered 3) ∷ []), marker Null ∷ [])
    ∷ (delete Enabled Unknown (version Null ∷ []), version Null ∷ [])
    ∷ (delete Unversioned Unknown (version Null ∷ []), version Null ∷ [])
    ∷ [])
deletes = refl

-- the next numbers of versions, of uploads and of entries, of which one may be at its end, 2^62
abbrev counts : ℕ → ℕ → ℕ → Counts
counts version upload entry = record { version = version; upload = upload; entry = entry }

numbers_after_puts : Holds (
    (after_entry Unversioned (counts 5 2 9), Ok (counts 5 2 10))
    ∷ (after_entry Enabled (counts 5 2 9), Ok (counts 6 2 10))
    ∷ (after_entry Suspended (counts 5 2 9), Ok (counts 5 2 10))
    ∷ (after_entry Enabled (counts 4611686018427387903 1 4611686018427387903), Ok (counts 4611686018427387904 1 4611686018427387904))
    ∷ (after_entry Enabled (counts 4611686018427387904 1 1), Err CounterExhausted)
    ∷ (after_entry Enabled (counts 1 1 4611686018427387904), Err CounterExhausted)
    ∷ (after_entry Suspended (counts 4611686018427387904 1 1), Ok (counts 4611686018427387904 1 2))
    ∷ (after_entry Unversioned (counts 1 1 4611686018427387904), Err CounterExhausted)
    ∷ [])
numbers_after_puts = refl

numbers_after_deletes : Holds (
    (after_delete Unversioned Current (counts 5 2 9), Ok (counts 5 2 9))
    ∷ (after_delete Unversioned Current (counts 5 2 4611686018427387904), Ok (counts 5 2 4611686018427387904))
    ∷ (after_delete Enabled Current (counts 5 2 9), Ok (counts 6 2 10))
    ∷ (after_delete Suspended Current (counts 5 2 9), Ok (counts 5 2 10))
    ∷ (after_delete Enabled Current (counts 4611686018427387904 1 1), Err CounterExhausted)
    ∷ (after_delete Suspended Current (counts 1 1 4611686018427387904), Err CounterExhausted)
    ∷ (after_delete Enabled (Named (Numbered 3)) (counts 5 2 9), Ok (counts 5 2 9))
    ∷ (after_delete Suspended (Named Null) (counts 4611686018427387904 1 4611686018427387904), Ok (counts 4611686018427387904 1 4611686018427387904))
    ∷ (after_delete Unversioned Unknown (counts 4611686018427387904 1 4611686018427387904), Ok (counts 4611686018427387904 1 4611686018427387904))
    ∷ [])
numbers_after_deletes = refl

-- the version of an id
abbrev found : VersionId → Result Version LookupFault
found id = Ok (record { id = id; moment = 0; bytes = codes "v"; checksum = [] })

-- a refusal, and whether a delete marker was met
abbrev fault : Refusal → Bool → Result Version LookupFault
fault refusal met = Err (record { refusal = refusal; marker = met })

lookups : Holds (
    (lookup Current [], fault NoSuchKey false)
    ∷ (lookup Current (version (Numbered 2) ∷ version (Numbered 1) ∷ []), found (Numbered 2))
    ∷ (lookup Current (marker (Numbered 2) ∷ version (Numbered 1) ∷ []), fault NoSuchKey true)
    ∷ (lookup (Named (Numbered 1)) (marker (Numbered 2) ∷ version (Numbered 1) ∷ []), found (Numbered 1))
    ∷ (lookup (Named (Numbered 2)) (marker (Numbered 2) ∷ version (Numbered 1) ∷ []), fault MethodNotAllowed true)
    ∷ (lookup (Named (Numbered 3)) (marker (Numbered 2) ∷ version (Numbered 1) ∷ []), fault NoSuchVersion false)
    ∷ (lookup (Named Null) (version (Numbered 2) ∷ version Null ∷ version (Numbered 1) ∷ []), found Null)
    ∷ (lookup (Named Null) (version (Numbered 2) ∷ marker Null ∷ version (Numbered 1) ∷ []), fault MethodNotAllowed true)
    ∷ (lookup (Named Null) (version (Numbered 2) ∷ version (Numbered 1) ∷ []), fault NoSuchVersion false)
    ∷ (lookup (Named (Numbered 1)) (version (Numbered 3) ∷ version (Numbered 2) ∷ version (Numbered 1) ∷ []), found (Numbered 1))
    ∷ (lookup Unknown (version (Numbered 2) ∷ version (Numbered 1) ∷ []), fault NoSuchVersion false)
    ∷ (lookup (Named (Numbered 1)) [], fault NoSuchVersion false)
    ∷ [])
lookups = refl
