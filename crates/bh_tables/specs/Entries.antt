-- The counted versions and markers of a tenant.
use Rattle.std.specs.Prelude.{ℕ, Bool, ◌&&◌, not, pos, List, filter, int_lt, Option, Some, None, if◌then◌else◌}
use Rattle.std.specs.List.{list_any}
use Rattle.std.specs.Ordering.{int_eq}
use Rattle.sqlite_typed.specs.Tests.{bytes_eq}
use Rattle.bh_tables.specs.Schema.{Octets}
use Rattle.bh_tables.specs.Rows.{VersionRow}

-- those whose column `marker` is this
abbrev pub has_marker : Octets → ℕ → VersionRow → Bool
has_marker tenant marker v = bytes_eq v.tenant tenant && int_eq (pos v.marker) (pos marker)

-- an entry of the same key that is newer
abbrev pub is_later : VersionRow → VersionRow → Bool
is_later v later = bytes_eq later.tenant v.tenant
    && (bytes_eq later.bucket v.bucket && (bytes_eq later.okey v.okey && int_lt (pos v.seq) (pos later.seq)))

-- whether a version is the newest entry of its key
abbrev pub is_current : Octets → List VersionRow → VersionRow → Bool
is_current tenant versions v = bytes_eq v.tenant tenant && (int_eq (pos v.marker) (pos 0) && not (list_any (is_later v) versions))

-- the versions that are the newest
abbrev pub current_versions : Octets → List VersionRow → List VersionRow
current_versions tenant versions = filter (is_current tenant versions) versions

-- 1 if there is an entry whose column `marker` is this, else 0
abbrev pub marked : ℕ → Option VersionRow → ℕ
marked marker None = 0
marked marker (Some v) = if int_eq (pos v.marker) (pos marker) then 1 else 0
