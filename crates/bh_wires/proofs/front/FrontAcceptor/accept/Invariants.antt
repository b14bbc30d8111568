use Rattle.std.proofs.Common.{◌≡◌}
use Rattle.bh_wires.proofs.front.FrontAcceptor.accept.Given as goal

abbrev pub invariant-loop-tried : goal.invariant-loop-tried
invariant-loop-tried g l = l.self.has_operators ≡ l.fn.self.has_operators
