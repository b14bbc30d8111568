use Rattle.std.proofs.Common.{length}
use Rattle.bh_core.proofs.parts.«+are_ordered».Given as goal

abbrev pub decreases-are_ordered : goal.decreases-are_ordered
decreases-are_ordered l = length l.parts.now
