use Rattle.std.proofs.Common.{◌≡◌, List, map, take}
use Rattle.bh_tables.specs.Rows.{PackRow}
use Rattle.bh_migration.specs.Listing.{shown_listed, listed_by}
use Rattle.bh_migration.proofs.listing.read_all.Given as goal

-- as many as were read
abbrev pub invariant-loop-row : goal.invariant-loop-row
invariant-loop-row l = (packs : List PackRow) → l.rows ≡ map shown_listed packs → l.all.items ≡ map listed_by (take l.row-index packs)
