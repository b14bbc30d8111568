-- Sending changes nothing of what was told.
use Rattle.std.proofs.Common.{◌≡◌}
use Rattle.bh_stage.proofs.outbox.Outbox.send_ready.Given as goal

abbrev pub invariant-loop-tried : goal.invariant-loop-tried
invariant-loop-tried g l = l.self.told ≡ l.fn.self.told
