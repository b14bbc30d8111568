use Rattle.std.proofs.Common.{sym}
use Rattle.bh_create.proofs.Memory.{clean_with}
use Rattle.bh_script.proofs.Answering.{new_with}
use Rattle.bh_script.proofs.script.new_host.Goals as goal

pub returns-in-Ok-clause-limits : goal.returns-in-Ok-clause-limits
returns-in-Ok-clause-limits g c = rw c.new.ensures.host c.in-Ok.ensures.given.0

pub returns-in-Ok-clause-cache : goal.returns-in-Ok-clause-cache
returns-in-Ok-clause-cache g c = rw c.new.ensures.host c.in-Ok.ensures.given.1

pub returns-in-Ok-clause-made : goal.returns-in-Ok-clause-made
returns-in-Ok-clause-made g c =
    let connection = c.in-Ok.host.connection in
    rw c.new.ensures.host (new_with (sym c.in-Ok.ensures.given.0) (c.in-Ok.ensures.made (clean_with g.P.Shelf connection (c.requires.honest connection.packs))))
