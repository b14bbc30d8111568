-- A database that a stop of an earlier backup or export may have left.
use Rattle.std.specs.Prelude.{◌≡◌, ◌⊎◌}
use Rattle.sqlite.specs.Schema.{Schema}
use Rattle.bh_tables.specs.Schema.{no_schema}
use Rattle.bh_open.specs.Versions.{IsHostsSchema}

-- it is empty or has a host's tables: no backup or export makes another one
abbrev pub IsMadeHere : Schema → Type 0
IsMadeHere schema = (schema ≡ no_schema) ⊎ IsHostsSchema schema
