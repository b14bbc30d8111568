use Rattle.sqlite.specs.Files.{file_state}
use Rattle.sqlite.specs.State.{HasCleanDisk}
use Rattle.bh_backup.specs.Copies.{IsFileOf}
use Rattle.bh_kept.proofs.Held.{if_some}
use Rattle.bh_kept.proofs.Again.{open_again}
use Rattle.bh_kept.proofs.copying.copy_and_open.Goals as goal

pub returns-in-Ok-clause-again : goal.returns-in-Ok-clause-again
returns-in-Ok-clause-again g c clean =
    let found = c.in-Ok.ensures.found clean in
    open_again c.args.connection c.in-Ok.again c.in-Some.closed.files g.met.D.Disk.seen_may_stay c.look.ensures (c.in-Some.ensures.held found.honest) (c.in-Ok.ensures.opened clean) found

pub returns-in-Ok-clause-copied : goal.returns-in-Ok-clause-copied
returns-in-Ok-clause-copied g c =
    if_some {Q = λ copy. HasCleanDisk (file_state c.in-Ok.again) → IsFileOf _ (file_state c.args.connection).committed copy.file} c.in-Some.closed.copy
    (λ copy made clean. made (c.in-Ok.ensures.found clean).honest) c.in-Some.ensures.copied
