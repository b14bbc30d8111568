use Rattle.bh_base.specs.Connections.{state}
use Rattle.bh_base.specs.Connections.{IsClean}
use Rattle.bh_schema.specs.Working.{tables_at}
use Rattle.bh_pages.specs.Reading.{IsCount}
use Rattle.bh_pages.specs.Uploads.{IsUnderway}
use Rattle.bh_pages.specs.Versions.{seen_place}
use Rattle.bh_listing.proofs.Looping.{SoFar}
use Rattle.bh_listing.specs.Uploads.{own_items}
use Rattle.bh_upload_listing.specs.Places.{listed_from}
use Rattle.bh_upload_listing.proofs.Looping.{under_items}
use Rattle.bh_upload_listing.proofs.uploads.gather_uploads.Given as goal

-- nothing changed, and the page is underway
abbrev pub invariant-reading : goal.invariant-reading
invariant-reading g l = record {
  far : SoFar (state g.S.Store g.P.Shelf l.fn.connection) (state g.S.Store g.P.Shelf l.connection);
  count : IsCount l.reading.count;
  read : IsClean g.S.Store g.P.Shelf l.connection → IsUnderway l.asked (under_items l.asked l.tenant l.bucket (tables_at (state g.S.Store g.P.Shelf l.fn.connection)).uploads) (listed_from l.asked (seen_place l.fn.place) (own_items l.tenant l.bucket (tables_at (state g.S.Store g.P.Shelf l.fn.connection)).uploads)) l.reading;
}
