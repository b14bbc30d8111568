use Rattle.std.proofs.Common.{◌≡◌, map, take, flat_map}
use Rattle.bh_model.specs.Pages.{common_in}
use Rattle.bh_pages.specs.Seen.{entry_by}
use Rattle.bh_docs.specs.Pages.{prefix_view}
use Rattle.bh_listing.proofs.tell.rolled_names.Given as goal

abbrev pub invariant-loop-entry : goal.invariant-loop-entry
invariant-loop-entry g l = map prefix_view l.prefixes.items ≡ flat_map common_in (map (entry_by g.T.Told.see) (take l.entry-index l.entries))
