use Rattle.bh_connection.specs.Connections.{IsTakenBack}
use Rattle.bh_commands.specs.Commands.{StaysReady}
use Rattle.bh_commands.proofs.commands.free_packs.Given as goal

-- so far no table shows anything
abbrev pub invariant-steps : goal.invariant-steps
invariant-steps g l = record {
  stays : StaysReady g.H.Storage.IsIntact g.H.Storage.IsOpen g.H.Storage.IsSoundStore g.H.Storage.seen l.fn.host l.host;
  back : IsTakenBack g.H.Storage.IsIntact g.H.Storage.IsOpen g.H.Storage.seen g.H.Storage.left l.fn.host l.host;
}
