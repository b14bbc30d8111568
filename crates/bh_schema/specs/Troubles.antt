-- A store's error as the host's failure.
use Rattle.sqlite.specs.declared.error.Error.{Error}
use Rattle.sqlite.specs.declared.error.Error.TheVariants.{SqliteFailure}
use Rattle.sqlite.specs.declared.error.ErrorCode.TheVariants.{OutOfMemory}
use Rattle.bh_storage.specs.declared.error.Trouble.{Trouble}
use Rattle.bh_storage.specs.declared.error.Trouble.TheVariants.{Memory, Store, StoreRefused}

abbrev pub trouble_of : Error → Trouble
trouble_of (SqliteFailure OutOfMemory) = Memory
trouble_of (SqliteFailure code) = StoreRefused code
trouble_of _ = Store
