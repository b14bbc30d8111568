-- What a locked bucket retains: a version that has a date.
use Rattle.std.specs.Prelude.{◌≡◌, ℕ, ◌≤◌, Option, Some, None}
use Rattle.std.specs.List.{find}
use Rattle.std.specs.FinMap.{get}
use Rattle.bh_types.specs.declared.id.VersionId.TheVariants.{Numbered}
use Rattle.bh_model.specs.State.{Octets, Entry, Bucket, State}
use Rattle.bh_model.specs.Entries.{has_id}
use Rattle.bh_model.specs.Operations.{listed}
use Rattle.bh_model.specs.Retention.{date_of}

-- a version, its place, and the moment until which it is retained
pub record Retained : Type 0 where
  pub bucket : Octets
  pub key : Octets
  pub number : ℕ
  pub until : ℕ
  pub version : Entry

-- a date that exists and is not before a moment
abbrev pub IsNotBefore : ℕ → Option ℕ → Type 0
IsNotBefore until None = ⊥
IsNotBefore until (Some date) = until ≤ date

-- the version with this number is that one, with its moment and its content, and its date is not
-- before the moment
pub record IsKeptIn (r : Retained) (b : Bucket) : Type 0 where
  pub stands : find (has_id (Numbered r.number)) (listed r.key b) ≡ Some r.version
  pub dated : IsNotBefore r.until (date_of r.key (Numbered r.number) b)

-- in the tenant's bucket of that name
abbrev pub IsRetained : Retained → Option State → Type 0
IsRetained r None = ⊥
IsRetained r (Some t) = (b : Bucket) × (get t.buckets r.bucket ≡ Some b) × IsKeptIn r b
