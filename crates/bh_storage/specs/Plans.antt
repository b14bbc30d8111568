-- The remaining bytes of an object, by the tables from which they are read.
use Rattle.std.specs.Prelude.{◌≡◌, flat_map, take, drop, length}
use Rattle.bh_tables.specs.Bodies.{ref_name, block_at, placed}
use Rattle.bh_tables.specs.Schema.{Octets}
use Rattle.bh_tables.specs.Typed.{RefRow, Tables}
use Rattle.bh_storage.specs.declared.answer.FoundVersion.{FoundVersion}
use Rattle.bh_storage.specs.declared.plan.Plan.{Plan}

-- the bytes of the body's blocks from the plan's place on, without the skipped ones, up to the
-- plan's maximum
abbrev pub to_come : Plan → Tables → Octets
to_come plan tables =
    take plan.left (drop plan.skip (flat_map (λ (r : RefRow). block_at tables.blocks (ref_name r))
    (drop plan.place (placed tables.refs (plan.tenant, plan.body)))))

-- the plan's number of bytes is returned
abbrev pub IsMeasured : Tables → FoundVersion → Type 0
IsMeasured tables found = found.plan.left ≡ length (to_come found.plan tables)
