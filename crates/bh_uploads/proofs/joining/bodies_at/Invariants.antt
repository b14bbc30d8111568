use Rattle.std.proofs.Common.{◌≡◌, take}
use Rattle.bh_uploads.specs.Joining.{taken}
use Rattle.bh_uploads.proofs.joining.bodies_at.Given as goal

abbrev pub invariant-loop-at : goal.invariant-loop-at
invariant-loop-at l = l.chosen.items ≡ taken l.bodies (take l.at-index l.places)
