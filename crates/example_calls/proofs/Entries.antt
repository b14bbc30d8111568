-- The entries of one key, newest first, through puts and deletes, and what lookups show: the bytes, or the refusal and whether a
-- delete marker was met; numbers and refusals.
use Rattle.std.proofs.Common.{◌≡◌, ℕ, Bool, true, false, List, [], ◌∷◌, length, codes, Result, Ok, Err, refl, nat_eq, arith}
use Rattle.example_calls.proofs.Rows.{Holds}
use Rattle.bh_types.specs.Counts.{AreCounters}
use Rattle.bh_types.specs.BucketStates.{state_number}
use Rattle.bh_types.specs.Refusals.{row, row_of}
use Rattle.bh_types.specs.declared.id.VersionId.TheVariants.{Null, Numbered}
use Rattle.bh_types.specs.declared.bucket_state.BucketState.TheVariants.{Unversioned, Enabled, Suspended}
use Rattle.bh_types.specs.declared.wanted.Wanted.TheVariants.{Current, Named, Unknown}
use Rattle.bh_types.specs.declared.refusal.Refusal.{Refusal}
use Rattle.bh_types.specs.declared.refusal.Refusal.TheVariants.{BadRequest, InvalidUri, KeyTooLong, MethodNotAllowed, ServiceUnavailable, NoSuchTenant, NoSuchKey, NoSuchVersion}
use Rattle.bh_types.specs.declared.bucket_state.BucketState.{BucketState}
use Rattle.bh_model.specs.State.{Content, Content.Body, Entry}
use Rattle.bh_model.specs.Entries.{Version, LookupFault, added, deleted, lookup}

abbrev shown : Result Version LookupFault → Result (List ℕ) LookupFault
shown (Ok version) = Ok version.bytes
shown (Err fault) = Err fault

abbrev fault : Refusal → Bool → Result (List ℕ) LookupFault
fault refusal met = Err (record { refusal = refusal; marker = met })

-- an object, whose checksum plays no part
abbrev object : List ℕ → Content
object bytes = Body bytes []

-- `v1` is put under Enabled, `n` under Suspended; then the key is deleted, and its marker deleted
abbrev put_twice : List Entry
put_twice = added Suspended 2 20 (object (codes "n")) (added Enabled 1 10 (object (codes "v1")) [])

abbrev then_deleted : List Entry
then_deleted = deleted Suspended Current 2 30 put_twice

abbrev without_marker : List Entry
without_marker = deleted Suspended (Named Null) 2 40 then_deleted

history : Holds (
    (shown (lookup Current put_twice), Ok (codes "n"))
    ∷ (shown (lookup (Named Null) put_twice), Ok (codes "n"))
    ∷ (shown (lookup (Named (Numbered 1)) put_twice), Ok (codes "v1"))
    ∷ (shown (lookup Current then_deleted), fault NoSuchKey true)
    ∷ (shown (lookup (Named (Numbered 1)) then_deleted), Ok (codes "v1"))
    ∷ (shown (lookup (Named Null) then_deleted), fault MethodNotAllowed true)
    ∷ (shown (lookup Current without_marker), Ok (codes "v1"))
    ∷ (shown (lookup (Named Null) without_marker), fault NoSuchVersion false)
    ∷ [])
history = refl

-- a key that was never put, and an id that is none
abbrev marked : List Entry
marked = deleted Enabled Current 1 10 []

never_put : Holds (
    (shown (lookup Current []), fault NoSuchKey false)
    ∷ (shown (lookup Current marked), fault NoSuchKey true)
    ∷ (shown (lookup (Named (Numbered 1)) marked), fault MethodNotAllowed true)
    ∷ (shown (lookup Unknown marked), fault NoSuchVersion false)
    ∷ [])
never_put = refl

-- where versions are not kept, a put replaces the object, and a delete leaves nothing
abbrev replaced : List Entry
replaced = added Unversioned 1 20 (object (codes "b")) (added Unversioned 1 10 (object (codes "a")) [])

unversioned : shown (lookup Current replaced) ≡ Ok (codes "b")
unversioned = refl

-- how many entries there are in these
counts_of_entries : Holds (
    (length then_deleted, 2)
    ∷ (length (deleted Enabled Unknown 2 20 marked), 1)
    ∷ (length (deleted Enabled (Named (Numbered 1)) 2 30 marked), 0)
    ∷ (length replaced, 1)
    ∷ (length (deleted Unversioned Current 1 30 replaced), 0)
    ∷ [])
counts_of_entries = refl

-- A refusal's number, the status of its response, and its code.
refusals : Holds (
    (row_of BadRequest, row 1 400 (codes "BadRequest"))
    ∷ (row_of InvalidUri, row 7 400 (codes "InvalidURI"))
    ∷ (row_of KeyTooLong, row 9 400 (codes "KeyTooLongError"))
    ∷ (row_of MethodNotAllowed, row 16 405 (codes "MethodNotAllowed"))
    ∷ (row_of ServiceUnavailable, row 31 503 (codes "ServiceUnavailable"))
    ∷ (row_of NoSuchTenant, row 42 404 (codes "NoSuchTenant"))
    ∷ [])
refusals = refl

-- The state of a bucket by its number: 3 is that of none.
suspended : state_number Suspended ≡ 2
suspended = refl

no_state : (state : BucketState) → nat_eq (state_number state) 3 ≡ false
no_state Unversioned = refl
no_state Enabled = refl
no_state Suspended = refl

-- A tenant's counters: 1 to 2^62.
are_counters : AreCounters 1 4611686018427387904 7
are_counters = ((omega arith, omega arith), (omega arith, omega arith), (omega arith, omega arith))

none_is_zero : AreCounters 0 1 1 → ⊥
none_is_zero h = omega (arith, h.0.0)

none_is_greater : AreCounters 1 1 4611686018427387905 → ⊥
none_is_greater h = omega (arith, h.2.1)
