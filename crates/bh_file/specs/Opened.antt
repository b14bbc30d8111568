-- A connection to opened files.
use Rattle.sqlite_wal.specs.Recovery.{Image}
use Rattle.sqlite.specs.Start.{FindsIn}
use Rattle.sqlite.specs.State.{State, HasCleanDisk, IsLive, Opens}

-- it has their database, if they returned what was written to them
pub record IsOpenedOn (image : Image) (s : State) : Type 0 where
  pub opened : HasCleanDisk s → Opens s × IsLive s
  pub found : HasCleanDisk s → FindsIn image s
