-- The entries of one key, newest first: the effect of a put and a delete, and the result of a
-- lookup.
use Rattle.std.specs.Prelude.{ℕ, Bool, true, false, not, ◌&&◌, ◌==◌, List, [], ◌∷◌, Option, Some, None, Result, Ok, Err}
use Rattle.std.specs.List.{filter, find}
use Rattle.bh_types.specs.declared.id.VersionId.{VersionId}
use Rattle.bh_types.specs.declared.id.VersionId.TheVariants.{Null, Numbered}
use Rattle.bh_types.specs.declared.bucket_state.BucketState.{BucketState}
use Rattle.bh_types.specs.declared.bucket_state.BucketState.TheVariants.{Unversioned, Enabled, Suspended}
use Rattle.bh_types.specs.declared.wanted.Wanted.{Wanted}
use Rattle.bh_types.specs.declared.wanted.Wanted.TheVariants.{Current, Named, Unknown}
use Rattle.bh_types.specs.declared.refusal.Refusal.{Refusal}
use Rattle.bh_types.specs.declared.refusal.Refusal.TheVariants.{NoSuchKey, NoSuchVersion, MethodNotAllowed}
use Rattle.bh_model.specs.State.{Octets, Content, Content.Marker, Content.Body, Entry}

abbrev pub same_id : VersionId → VersionId → Bool
same_id Null Null = true
same_id Null (Numbered n) = false
same_id (Numbered m) Null = false
same_id (Numbered m) (Numbered n) = m == n

abbrev pub has_id : VersionId → Entry → Bool
has_id id e = same_id e.id id

abbrev pub is_body : Content → Bool
is_body Marker = false
is_body (Body bytes checksum) = true

-- an entry that is not a delete marker
abbrev pub is_version : Entry → Bool
is_version e = is_body e.content

abbrev pub without : VersionId → List Entry → List Entry
without id entries = filter (λ e. not (has_id id e)) entries

abbrev pub without_null_version : List Entry → List Entry
without_null_version entries = filter (λ e. not (has_id Null e && is_version e)) entries

-- the id of a new entry: the next version number if versions are numbered, otherwise `null`
abbrev pub new_id : BucketState → ℕ → VersionId
new_id Unversioned next = Null
new_id Enabled next = Numbered next
new_id Suspended next = Null

-- the entries that a new one leaves: if it is `null`, it replaces the one that is `null`
abbrev pub kept : BucketState → List Entry → List Entry
kept Unversioned entries = without Null entries
kept Enabled entries = entries
kept Suspended entries = without Null entries

-- the entries with a new one in front
-- Amazon S3 User Guide, "Adding objects to versioning-enabled buckets" and "to versioning-suspended buckets"
abbrev pub added : BucketState → ℕ → ℕ → Content → List Entry → List Entry
added mode next moment content entries = record { id = new_id mode next; moment = moment; content = content } ∷ kept mode entries

-- a delete without id: if versions are or were numbered, a delete marker is put in front
-- Amazon S3 User Guide, "Deleting object versions from a versioning-enabled bucket" and "from versioning-suspended buckets"
abbrev pub deleted_current : BucketState → ℕ → ℕ → List Entry → List Entry
deleted_current Unversioned next moment entries = without_null_version entries
deleted_current Enabled next moment entries = added Enabled next moment Marker entries
deleted_current Suspended next moment entries = added Suspended next moment Marker entries

-- a delete with an id deletes that entry; an id that no entry has changes nothing
-- Amazon S3 API Reference, DeleteObject: versionId
abbrev pub deleted : BucketState → Wanted → ℕ → ℕ → List Entry → List Entry
deleted mode Current next moment entries = deleted_current mode next moment entries
deleted mode (Named id) next moment entries = without id entries
deleted mode Unknown next moment entries = entries

-- an object's version that was found
pub record Version : Type 0 where
  pub id : VersionId
  pub moment : ℕ
  pub bytes : Octets
  pub checksum : Octets

-- why a lookup finds no version, and whether it found a delete marker
pub record LookupFault : Type 0 where
  pub refusal : Refusal
  pub marker : Bool

-- nothing was found
abbrev pub not_found : Refusal → Result Version LookupFault
not_found refusal = Err (record { refusal = refusal; marker = false })

-- an entry that was found: a delete marker is refused, and the answer shows that there is one
abbrev pub opened : Refusal → Entry → Content → Result Version LookupFault
opened refusal e Marker = Err (record { refusal = refusal; marker = true })
opened refusal e (Body bytes checksum) = Ok (record { id = e.id; moment = e.moment; bytes = bytes; checksum = checksum })

abbrev pub found_current : List Entry → Result Version LookupFault
found_current [] = not_found NoSuchKey
found_current (e ∷ older) = opened NoSuchKey e e.content

abbrev pub found_named : Option Entry → Result Version LookupFault
found_named None = not_found NoSuchVersion
found_named (Some e) = opened MethodNotAllowed e e.content

-- the version in the request
-- Amazon S3 API Reference, GetObject: versionId; Amazon S3 User Guide, "Working with delete markers"
abbrev pub lookup : Wanted → List Entry → Result Version LookupFault
lookup Current entries = found_current entries
lookup (Named id) entries = found_named (find (has_id id) entries)
lookup Unknown entries = not_found NoSuchVersion
