use Rattle.std.proofs.Common.{◌≡◌}
use Rattle.bh_base.specs.Connections.{state}
use Rattle.bh_base.specs.Connections.{IsClean}
use Rattle.bh_schema.specs.Working.{tables_at}
use Rattle.bh_pages.specs.Gathered.{past_name}
use Rattle.bh_pages.specs.Reading.{IsCount, IsUnderway}
use Rattle.bh_listing.proofs.Looping.{SoFar, shown_rows}
use Rattle.bh_listing.proofs.objects.gather_objects.Given as goal

-- nothing changed, and the page is underway
abbrev pub invariant-reading : goal.invariant-reading
invariant-reading g l = record {
  far : SoFar (state g.S.Store g.P.Shelf l.fn.connection) (state g.S.Store g.P.Shelf l.connection);
  upto : l.upto.items ≡ past_name l.asked.prefix.now;
  count : IsCount l.reading.count;
  read : IsClean g.S.Store g.P.Shelf l.connection → IsUnderway l.asked (shown_rows l.asked l.tenant l.bucket (tables_at (state g.S.Store g.P.Shelf l.fn.connection)).versions) l.reading;
}
