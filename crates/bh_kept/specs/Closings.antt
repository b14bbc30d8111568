-- The contents of files whose connection was closed, and a connection that is opened on them again.
use Rattle.std.specs.Prelude.{◌≡◌, IsTrue}
use Rattle.sqlite_disk.specs.declared.Disk.{Ghosts}
use Rattle.sqlite_disk.specs.declared.Files.{Files}
use Rattle.sqlite_store.specs.declared.store.FileStore.{FileStore}
use Rattle.sqlite_trees.specs.Tree.{Trees}
use Rattle.sqlite.specs.Files.{HoldsDatabase, file_state, image_of}
use Rattle.sqlite.specs.Held.{Held}
use Rattle.sqlite.specs.State.{HasCleanDisk, IsLive, Opens}

module _ {D : Type 0} {g : Ghosts D} where
  -- no fault had shut the connection, and the two files have what it had committed
  pub record IsHeldIn (c : Held (FileStore D g)) (files : Files D) : Type 0 where
    pub was_clean : HasCleanDisk (file_state c)
    pub was_open : IsTrue (file_state c).is_open
    pub held : ∥ HoldsDatabase (image_of g files) (file_state c).committed.trees ∥₁

  -- it has what was committed, and a crash leaves nothing else than before
  pub record IsOpenAgain (old new : Held (FileStore D g)) : Type 0 where
    pub was_clean : HasCleanDisk (file_state old)
    pub was_open : IsTrue (file_state old).is_open
    pub opens : Opens (file_state new)
    pub live : IsLive (file_state new)
    pub same : (file_state new).committed ≡ (file_state old).committed
    pub leaves : (db : Trees) → (file_state new).may_leave db → (file_state old).may_leave db
