use Rattle.std.proofs.Common.{length}
use Rattle.bh_model.proofs.parts.«+ascends».Given as goal

abbrev pub decreases-ascends : goal.decreases-ascends
decreases-ascends l = length l.named.now
