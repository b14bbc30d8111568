use Rattle.bh_pack_shelf.specs.Opened.{AreFilesTo}
use Rattle.bh_pack_shelf.proofs.opening.files_in.Given as goal

abbrev pub invariant-loop-index : goal.invariant-loop-index
invariant-loop-index g l = AreFilesTo l.index l.files.items l.listed
