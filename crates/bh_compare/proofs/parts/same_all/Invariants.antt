use Rattle.std.proofs.Common.{◌≡◌, take}
use Rattle.bh_compare.proofs.parts.same_all.Given as goal

abbrev pub invariant-loop-at : goal.invariant-loop-at
invariant-loop-at g l = take l.at l.left ≡ take l.at l.right
