-- Packs that were opened by the rows of a host's table of packs.
use Rattle.std.proofs.Common.{◌≡◌, ◌+◌, List, map, sym, ◌∙◌}
use Rattle.sqlite.specs.Effect.{Database}
use Rattle.bh_shelf.specs.Contents.{Contents}
use Rattle.bh_shelf.specs.Listed.{HasListed}
use Rattle.bh_tables.specs.Hosts.{tables_opened}
use Rattle.bh_tables.specs.Rows.{PlaceRow, PackRow}
use Rattle.bh_tables.specs.Schema.{host_schema}
use Rattle.bh_tables.proofs.HostTests.{others_open, other_schema, unlike_second, unlike_third, unlike_fourth}
use Rattle.bh_base.specs.Placed.{filled}
use Rattle.bh_open.specs.Packed.{tables_beside, listed_of}
use Rattle.bh_open.proofs.Beside.{beside_present, reached_listed}
use Rattle.bh_check.specs.Awaits.{HasReached}

-- they have what the rows reach
pub listed_reached : (rows : List PackRow) (places : List PlaceRow) (files packs : Contents) → HasListed (map listed_of rows) files packs → HasReached packs rows places
listed_reached rows places files packs has p there some reached = has.whole p.pack p.offset p.size some (reached_listed rows p.pack (p.offset + p.size) ∙ reached)

-- a host of the present version shows what it has with their bytes
pub opened_beside : (packs : Contents) (db : Database) → db.schema ≡ host_schema → tables_opened (filled packs db) ≡ tables_beside packs db
opened_beside packs db is =
    let its = filled packs db in
    others_open its (other_schema its is) (unlike_second its is) (unlike_third its is) (unlike_fourth its is) ∙ sym (beside_present packs db is)
