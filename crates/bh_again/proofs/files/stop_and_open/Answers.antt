use Rattle.sqlite.specs.Files.{file_state}
use Rattle.bh_again.proofs.Restart.{was_intact, came_back, is_kept}
use Rattle.bh_again.proofs.files.stop_and_open.Goals as goal

pub returns-in-Ok-clause-intact : goal.returns-in-Ok-clause-intact
returns-in-Ok-clause-intact g c clean =
    was_intact c.args.connection c.in-Ok.again c.into_store.result c.close-files.result c.stop.new.files c.close-files.ensures
    c.into_store.ensures.quiet c.into_store.ensures.numbered c.into_store.ensures.sound c.stop.ensures.left c.stop.ensures.clean (c.in-Ok.ensures.found clean)

pub returns-in-Ok-clause-left : goal.returns-in-Ok-clause-left
returns-in-Ok-clause-left g c clean =
    came_back c.args.connection c.in-Ok.again c.into_store.result c.close-files.result c.stop.new.files c.close-files.ensures
    c.into_store.ensures.quiet c.into_store.ensures.numbered c.into_store.ensures.sound c.stop.ensures.left c.stop.ensures.clean (c.in-Ok.ensures.found clean)

pub returns-in-Ok-clause-found : goal.returns-in-Ok-clause-found
returns-in-Ok-clause-found g c clean kept sound only =
    is_kept (file_state c.args.connection) (file_state c.in-Ok.again) kept (returns-in-Ok-clause-left g c clean) sound only (c.in-Ok.ensures.opened clean)
