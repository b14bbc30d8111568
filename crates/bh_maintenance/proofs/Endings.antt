-- What files hold once a connection was left.
use Rattle.std.proofs.Common.{◌≡◌, subst}
use Rattle.sqlite_disk.specs.declared.Disk as disk
use Rattle.sqlite_disk.specs.declared.Files.{Files}
use Rattle.sqlite_store.specs.declared.store.FileStore.{FileStore}
use Rattle.sqlite.specs.Held.{Held}
use Rattle.sqlite.specs.Files.{over_files}
use Rattle.bh_maintenance.specs.Endings.{IsBared, IsLeft, AreClosed}
use Rattle.bh_maintenance.specs.declared.ending.Left.{Left}
use Rattle.bh_maintenance.specs.declared.ending.Left.TheVariants.{Whole, Bare}

module _ {D : Type 0} {g : disk.Ghosts D} where
  pub closed_whole : {left : Left (FileStore D g)} {c it : Held (FileStore D g)} {files : Files D} → left ≡ Whole it → IsLeft over_files c left → AreClosed it files → AreClosed c files
  closed_whole {left} {c} {it} {files} is left_of shut =
      let P : Left (FileStore D g) → Type 0 = λ l. IsLeft over_files c l in
      let Q : Held (FileStore D g) → Type 0 = λ x. AreClosed x files in
      subst Q (subst P is left_of) shut

  pub closed_bare : {left : Left (FileStore D g)} {c : Held (FileStore D g)} {last : FileStore D g} → left ≡ Bare last → IsLeft over_files c left → IsBared over_files c last
  closed_bare {left} {c} is left_of = let P : Left (FileStore D g) → Type 0 = λ l. IsLeft over_files c l in subst P is left_of
