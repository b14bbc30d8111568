-- What is asked of files that were opened.
use Rattle.sqlite_wal.specs.Recovery.{Image}
use Rattle.sqlite.specs.State.{State}
use Rattle.bh_shelf.specs.Contents.{Contents}
use Rattle.bh_file.specs.Opened.{IsOpenedOn}
use Rattle.bh_maintenance.proofs.Found.{sound_opened}
use Rattle.bh_commands.specs.Files.{HoldsFor}
use Rattle.bh_commands.specs.Subcommands.{IsReadyFor}
use Rattle.bh_commands.specs.declared.asked.FileTask.{FileTask}
use Rattle.bh_commands.specs.declared.asked.FileTask.TheVariants.{Init, Host}

pub ready_opened : (packs : Contents) (asked : FileTask) (image : Image) (s : State) → HoldsFor packs asked image → IsOpenedOn image s → IsReadyFor packs asked s
ready_opened packs (Init limits digest) image s holds start = tt
ready_opened packs (Host tuning clock work) image s holds start = sound_opened packs image s holds start
