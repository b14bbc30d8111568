-- The uploads of all tenants that are older than their buckets' rules allow.
use Rattle.std.specs.Prelude.{ℕ, ◌+◌, ◌*◌, nat_lt, Bool, false, ◌&&◌, pos, List, [], ◌∷◌, filter, take, Option, Some, None}
use Rattle.std.specs.List.{list_any}
use Rattle.std.specs.Ordering.{int_cmp, ordering_then}
use Rattle.std.specs.declared.cmp.Ordering.{Ordering}
use Rattle.sqlite.specs.Order.{Row}
use Rattle.sqlite.specs.declared.types.Value.TheVariants.{Text}
use Rattle.sqlite_keyed.specs.Lists.{sort_by}
use Rattle.sqlite_typed.specs.Tests.{bytes_eq, bytes_cmp}
use Rattle.bh_tables.specs.Typed.{BucketRow, UploadRow, number}

-- begun at least the rule's number of days before a moment, if there is a rule; a day has 86,400
-- seconds
abbrev pub is_past : ℕ → ℕ → Option ℕ → Bool
is_past moment begun None = false
is_past moment begun (Some days) = nat_lt (begun + 86400 * days) moment

-- so it is by the rule of the upload's bucket
abbrev pub is_past_in : ℕ → List BucketRow → UploadRow → Bool
is_past_in moment buckets u =
    list_any (λ (b : BucketRow). bytes_eq b.tenant u.tenant && (bytes_eq b.bucket u.bucket && is_past moment u.begun b.days)) buckets

-- by tenant and number, the order of the primary key
abbrev pub by_owner : UploadRow → UploadRow → Ordering
by_owner a b = ordering_then (bytes_cmp a.tenant b.tenant) (int_cmp (pos a.upload) (pos b.upload))

-- the first of them by tenant and number, up to a limit
abbrev pub past_uploads : ℕ → ℕ → List BucketRow → List UploadRow → List UploadRow
past_uploads limit moment buckets uploads = take limit (sort_by by_owner (filter (is_past_in moment buckets) uploads))

-- its tenant and its number
abbrev pub shown_owner : UploadRow → Row
shown_owner u = Text u.tenant ∷ number u.upload ∷ []
