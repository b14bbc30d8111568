-- A tenant leaves the tables: its rows, and the references of its bodies. Its blocks stay until a
-- sweep.
use Rattle.std.specs.Prelude.{ℕ, Bool, List, ◌++◌, map, filter}
use Rattle.sqlite_keyed.specs.Lists.{delete_where}
use Rattle.sqlite_typed.specs.Tests.{bytes_eq}
use Rattle.bh_model.specs.State.{Octets}
use Rattle.bh_tables.specs.Typed.{VersionRow, PartRow, RefRow, Tables}
use Rattle.bh_tables.specs.Shown.{is_version_of, is_part_used}
use Rattle.bh_tables.specs.Removal.{without_rows}

-- a reference of one of its bodies
abbrev pub is_ref_of : Octets → RefRow → Bool
is_ref_of t r = bytes_eq r.tenant t

-- the numbers of the bodies of its versions and markers, and then of its parts
abbrev pub body_numbers : Octets → Tables → List ℕ
body_numbers t tables = map (λ (v : VersionRow). v.seq) (filter (is_version_of t) tables.versions)
    ++ map (λ (p : PartRow). p.body) (filter (is_part_used t) tables.parts)

abbrev pub without_tenant : Octets → Tables → Tables
without_tenant t tables = record (without_rows t tables) { refs = delete_where (is_ref_of t) tables.refs }
