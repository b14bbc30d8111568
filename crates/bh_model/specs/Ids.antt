-- No two entries of a key have the same id.
use Rattle.std.specs.Prelude.{◌≡◌, ℕ, ◌≤◌, ◌<◌, List, length, Option, Some, None}
use Rattle.std.specs.List.{filter, AllByRecursion}
use Rattle.std.specs.FinMap.{get}
use Rattle.bh_types.specs.declared.id.VersionId.{VersionId}
use Rattle.bh_types.specs.declared.id.VersionId.TheVariants.{Null, Numbered}
use Rattle.bh_model.specs.State.{Octets, Entry, Bucket, State}
use Rattle.bh_model.specs.Entries.{has_id}

-- no two entries have the same id
abbrev pub HaveOwnIds : List Entry → Type 0
HaveOwnIds versions = (id : VersionId) → length (filter (has_id id) versions) ≤ 1

-- a number that was given before the next one
abbrev pub WasGiven : ℕ → VersionId → Type 0
WasGiven next Null = Unit {0}
WasGiven next (Numbered n) = n < next

-- so no entry has the next number
pub record AreNumbered (next : ℕ) (versions : List Entry) : Type 0 where
  pub own : HaveOwnIds versions
  pub given : AllByRecursion (λ e. WasGiven next e.id) versions

-- for each key of a bucket
abbrev pub BucketIsNumbered : ℕ → Bucket → Type 0
BucketIsNumbered next b = (key : Octets) (versions : List Entry) → get b.objects key ≡ Some versions → AreNumbered next versions

-- and for each bucket of a tenant
abbrev pub IsNumbered : Option State → Type 0
IsNumbered None = Unit {0}
IsNumbered (Some t) = (name : Octets) (b : Bucket) → get t.buckets name ≡ Some b → BucketIsNumbered t.next_version b
