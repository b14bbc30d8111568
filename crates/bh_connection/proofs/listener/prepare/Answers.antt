use Rattle.std.proofs.Common.{None}
use Rattle.bh_host.proofs.Resting.{stays_then}
use Rattle.bh_connection.proofs.ListeningLemmas.{back_then}
use Rattle.bh_connection.proofs.listener.prepare.Goals as goal

pub returns-clause-rest : goal.returns-clause-rest
returns-clause-rest g c = stays_then c.drop_after.ensures.rest c.tell_count.ensures.rest

pub returns-clause-stays : goal.returns-clause-stays
returns-clause-stays g c =
    back_then g.H.Storage.IsIntact g.H.Storage.IsOpen g.H.Storage.seen g.H.Storage.left g.H.BackUp.shows None c.args.host.now c.drop_after.new.host c.tell_count.new.host c.tell_count.ensures.rest.intact c.drop_after.ensures.stays c.tell_count.ensures.stays
