use Rattle.std.proofs.Common.{refl}
use Rattle.bh_connection.proofs.ListeningLemmas.{one_is_served}
use Rattle.bh_connection.proofs.group.serve_one.Goals as goal

pub returns-clause-serves : goal.returns-clause-serves
returns-clause-serves g c = λ begun p.
    one_is_served g.H.Storage.IsIntact g.H.Storage.IsOpen g.H.Storage.seen g.H.Storage.left g.H.BackUp.shows _ _ begun _ _ c.args.caller _ _ c.serve_visit-visited.result _ _ _ c.requires.admitted p c.close.ensures.calls c.serve_visit-visited.ensures.visited refl refl refl c.is_shut.ensures
