use Rattle.bh_storage.specs.Calls.{Clean, IsAtRest}
use Rattle.examples.proofs.retried.answers.Given as goal

abbrev pub invariant-loop-event : goal.invariant-loop-event
invariant-loop-event g l = Clean g.H.Storage.IsIntact g.H.Storage.IsOpen l.host → IsAtRest g.H.Storage.IsSoundStore (g.H.Storage.seen l.host)
