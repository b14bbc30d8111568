use Rattle.std.proofs.Common.{subst}
use Rattle.bh_connection.specs.Listening.{WasVisited}
use Rattle.bh_connection.specs.Visits.{RanFor}
use Rattle.bh_commands.proofs.commands.serve.Goals as goal

pub returns-clause-done : goal.returns-clause-done
returns-clause-done g c =
    let served = c.in_ok-serve_many.ensures in
    record {
      ran = λ intact. subst (λ b. RanFor b g.H.Storage.IsOpen g.H.Storage.seen g.H.Storage.left c.args.host.now c.serve_many.new.host) c.ports.ensures.operator (served.ran intact);
      visited = subst (λ s. WasVisited g.H.Storage.IsIntact g.H.Storage.IsOpen g.H.Storage.seen g.H.Storage.left s c.args.host.now c.serve_many.new.host) c.ports.ensures.secret served.visited;
      printed_is = c.nothing.ensures;
    }
