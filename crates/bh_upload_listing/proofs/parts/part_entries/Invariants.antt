use Rattle.std.proofs.Common.{◌≡◌, map, take}
use Rattle.bh_docs.specs.Pages.{part_view}
use Rattle.bh_upload_listing.specs.Parts.{seen_part}
use Rattle.bh_upload_listing.proofs.parts.part_entries.Given as goal

abbrev pub invariant-loop-line : goal.invariant-loop-line
invariant-loop-line l = map part_view l.parts.items ≡ map seen_part (take l.line-index l.lines)
