use Rattle.std.proofs.Common.{length}
use Rattle.bh_stored.proofs.cells.+are_suited.Given as goal

abbrev pub decreases-are_suited : goal.decreases-are_suited
decreases-are_suited l = length l.kinds.now
