-- A host that was opened in files, or none.
use Rattle.std.proofs.Common.{◌≡◌, Option, Some, None, Result, Ok, Err, MatchOption, subst}
use Rattle.std.specs.Prelude.{MatchResult}
use Rattle.sqlite_disk.specs.declared.Disk as disk
use Rattle.sqlite_disk.specs.declared.Files.{Files}
use Rattle.sqlite_wal.specs.Recovery.{Image}
use Rattle.sqlite_store.specs.declared.store.FileStore.{FileStore}
use Rattle.sqlite.specs.Files.{file_state, over_files}
use Rattle.sqlite.specs.Held.{Held}
use Rattle.bh_shelf.specs.Contents.{Contents}
use Rattle.bh_shelf.specs.declared.shelf.Shelf.{Ghosts as Shelves}
use Rattle.bh_types.specs.declared.refusal.Refusal.TheVariants.{NotAHostFile}
use Rattle.bh_file.specs.Opened.{IsOpenedOn}
use Rattle.bh_maintenance.specs.Endings.{IsLeftOut}
use Rattle.bh_maintenance.specs.Found.{IsJoinedIn}
use Rattle.bh_maintenance.specs.Opened.{IsHostAt, HasNoHost}
use Rattle.bh_maintenance.specs.Printing.{IsRefusal}
use Rattle.bh_maintenance.specs.declared.ending.Ended.{Ended}
use Rattle.bh_maintenance.specs.declared.joined.Joined.{Joined}
use Rattle.bh_maintenance.specs.declared.printed.Printed.{Printed}

-- what is known of a result, once it is told which it is
pub when_ok : {A B : Type 0} (P : A → Type 0) (Q : B → Type 0) {r : Result A B} {x : A} → r ≡ Ok x → MatchResult r P Q → P x
when_ok P Q is it = subst (λ r. MatchResult r P Q) is it

pub when_err : {A B : Type 0} (P : A → Type 0) (Q : B → Type 0) {r : Result A B} {x : B} → r ≡ Err x → MatchResult r P Q → Q x
when_err P Q is it = subst (λ r. MatchResult r P Q) is it

module _ {D : Type 0} (g : disk.Ghosts D) (image : Image) where
  pub none_there : (printed : Printed) (files : Option (Files D)) → files ≡ None → IsRefusal NotAHostFile printed → HasNoHost g image printed files
  none_there printed None none refusal = refusal
  none_there printed (Some f) none refusal = absurd (cc)

  pub none_as : {a b : Ended D} → a ≡ b → HasNoHost g image a.printed a.files → HasNoHost g image b.printed b.files
  none_as is none = subst (λ (x : Ended D). HasNoHost g image x.printed x.files) is none

  none_found : (old : Held (FileStore D g)) → IsOpenedOn image (file_state old) → (printed : Printed) (files : Option (Files D)) → MatchOption files ⊥ (IsLeftOut old printed)
      → HasNoHost g image printed files
  none_found old opened printed None left = absurd left
  none_found old opened printed (Some f) left = record { old = old; opened = opened; left = left }

  pub host_at : {P : Type 0} (p : Shelves P) (packs : Contents) (old : Held (FileStore D g)) → IsOpenedOn image (file_state old) → (found : Result (Joined (FileStore D g) P) (Ended D))
      → MatchResult found (IsJoinedIn over_files p packs old) (λ ended. MatchOption ended.files ⊥ (IsLeftOut old ended.printed))
      → MatchResult found (IsHostAt g p packs image) (λ ended. HasNoHost g image ended.printed ended.files)
  host_at p packs old opened (Ok host) it = record { old = old; opened = opened; found = it }
  host_at p packs old opened (Err ended) it = none_found old opened ended.printed ended.files it
