use Rattle.bh_commands.proofs.Found.{ready_opened}
use Rattle.bh_commands.proofs.files.in_files.Goals as goal

pub on_files-requires : goal.on_files-requires
on_files-requires g c = ready_opened _ _ _ _ c.requires c.in_ok-connection.ensures

pub returns : goal.returns
returns g c = record { old = _; opened = c.in_ok-connection.ensures; ended = c.in_ok-printed.ensures }
