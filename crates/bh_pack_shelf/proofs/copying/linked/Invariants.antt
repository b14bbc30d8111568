use Rattle.std.proofs.Common.{unwrap_or, []}
use Rattle.bh_shelf.specs.Marks.{kept_of}
use Rattle.bh_shelf.specs.Ranges.{contents_of}
use Rattle.bh_pack_shelf.proofs.copying.linked.Given as goal

-- all that the shelf keeps of the pack
abbrev pub ghost-link_pack : goal.ghost-link_pack
ghost-link_pack g a = unwrap_or (contents_of g.D.Disk a._keeper.now.packs (kept_of a._keeper.now.marks) a.pack 0 a.kept) []
