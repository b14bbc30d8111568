-- A host's database beside packs at rest.
use Rattle.std.specs.Prelude.{Bool, true, ◌||◌, if◌then◌else◌}
use Rattle.sqlite.specs.Effect.{Database}
use Rattle.sqlite.specs.State.{State}
use Rattle.bh_types.specs.Limits.{HostLimits}
use Rattle.bh_shelf.specs.Contents.{Contents}
use Rattle.bh_shelf.specs.declared.closed.Listed.{Listed}
use Rattle.bh_tables.specs.Hosts.{is_first_host, is_second_host, is_third_host, is_fourth_host, tables_shown, tables_opened}
use Rattle.bh_tables.specs.Rows.{PackRow}
use Rattle.bh_tables.specs.Typed.{Tables}
use Rattle.bh_base.specs.Placed.{filled}
use Rattle.bh_base.specs.Shown.{Backing, shown}
use Rattle.bh_storage.specs.Calls.{Seen}
use Rattle.bh_schema.specs.Storage.{seen_in}

-- a host's database of an earlier version
abbrev pub is_earlier_host : Database → Bool
is_earlier_host db = is_first_host db || (is_second_host db || (is_third_host db || is_fourth_host db))

-- the tables that a database of any version has once it is opened with these packs; one of an earlier version has none
unfoldable pub tables_beside : Contents → Database → Tables
tables_beside packs db = if is_earlier_host db then tables_opened db else tables_shown (filled packs db)

-- packs at rest that have this
abbrev pub resting : Contents → Backing
resting packs = record { seen = packs; stood = packs; kept = packs; is_clean = true }

-- what the state of a database shows with these packs at rest
abbrev pub seen_beside : Contents → HostLimits → State → Seen
seen_beside packs limits s = seen_in limits (shown (resting packs) s)

-- what a row lists
abbrev pub listed_of : PackRow → Listed
listed_of p = record { pack = p.pack; length = p.length }
