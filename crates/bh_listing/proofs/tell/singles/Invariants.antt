use Rattle.std.proofs.Common.{◌≡◌, map, take, flat_map}
use Rattle.bh_model.specs.Pages.{single_in}
use Rattle.bh_pages.specs.Seen.{entry_by}
use Rattle.bh_listing.proofs.tell.singles.Given as goal

abbrev pub invariant-loop-entry : goal.invariant-loop-entry
invariant-loop-entry g l = map g.T.Told.view l.told.items ≡ flat_map single_in (map (entry_by g.T.Told.see) (take l.entry-index l.entries))
