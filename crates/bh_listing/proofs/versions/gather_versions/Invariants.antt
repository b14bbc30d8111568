use Rattle.bh_base.specs.Connections.{state}
use Rattle.bh_base.specs.Connections.{IsClean}
use Rattle.bh_schema.specs.Working.{tables_at}
use Rattle.bh_pages.specs.Reading.{IsCount}
use Rattle.bh_pages.specs.Versions.{IsUnderway}
use Rattle.bh_listing.specs.Versions.{seen_start, own_rows, listed_from}
use Rattle.bh_listing.proofs.Looping.{SoFar}
use Rattle.bh_listing.proofs.VersionLooping.{under_rows}
use Rattle.bh_listing.proofs.versions.gather_versions.Given as goal

-- nothing changed, and the page is underway
abbrev pub invariant-reading : goal.invariant-reading
invariant-reading g l = record {
  far : SoFar (state g.S.Store g.P.Shelf l.fn.connection) (state g.S.Store g.P.Shelf l.connection);
  count : IsCount l.reading.count;
  read : IsClean g.S.Store g.P.Shelf l.connection → IsUnderway l.asked (under_rows l.asked l.tenant l.bucket (tables_at (state g.S.Store g.P.Shelf l.fn.connection)).versions) (listed_from l.asked (seen_start l.fn.start) (own_rows l.tenant l.bucket (tables_at (state g.S.Store g.P.Shelf l.fn.connection)).versions)) l.reading;
}
