-- A connection that was opened again beside its packs, and the copy of both.
use Rattle.std.proofs.Common.{◌≡◌, IsTrue, Option, Some, None, IfSome, subst}
use Rattle.sqlite_disk.specs.declared.Disk.{Ghosts}
use Rattle.sqlite_store.specs.declared.store.FileStore.{FileStore}
use Rattle.sqlite.specs.Files.{file_state, over_files}
use Rattle.sqlite.specs.Held.{Held}
use Rattle.sqlite.specs.State.{HasCleanDisk}
use Rattle.bh_shelf.specs.declared.shelf.Shelf.{Ghosts as Shelves}
use Rattle.bh_base.specs.Connections.{backing, state}
use Rattle.bh_base.specs.Layer.{IsIntact}
use Rattle.bh_base.specs.declared.connection.Connection.{Connection}
use Rattle.bh_base.proofs.Lifting.{shown_intact}
use Rattle.bh_backup.specs.Copies.{IsFileOf}
use Rattle.bh_backup.specs.Packs.{HaveAll, StayAs}
use Rattle.bh_backup.specs.declared.saving.HostCopy.{HostCopy}
use Rattle.bh_kept.specs.Closings.{IsOpenAgain}
use Rattle.bh_kept.specs.Copies.{IsReopened, IsCopyOf}

pub if_both : {A : Type 0} {P Q R : A → Type 0} (o : Option A) → ((x : A) → P x → Q x → R x) → IfSome o P → IfSome o Q → IfSome o R
if_both None f a b = tt
if_both (Some x) f a b = f x a b

module _ {D P : Type 0} {g : Ghosts D} (p : Shelves P) (old new : Connection (FileStore D g) P) (opened : Option (Held (FileStore D g))) (is : opened ≡ Some new.database) where
  both_intact : IsIntact (state over_files p new) → HasCleanDisk (file_state new.database) × IsTrue (p.is_clean new.packs)
  unfolding IsIntact
  both_intact intact = shown_intact (backing p new.packs) (file_state new.database) intact

  pub reopened : IfSome opened (λ again. HasCleanDisk (file_state again) → IsOpenAgain old.database again) → (IsTrue (p.is_clean new.packs) → StayAs p old.packs new.packs)
      → IsIntact (state over_files p new) → IsReopened p old new
  reopened found stay intact =
      let both = both_intact intact in
      let still = stay both.1 in
      record {
        database = subst (λ o. IfSome o (λ again. HasCleanDisk (file_state again) → IsOpenAgain old.database again)) is found both.0;
        packs = record { was_clean = still.was_clean; kept = still.kept; stood = still.stood };
      }

  pub copied : {E C : Type 0} (e : Ghosts E) (c : Shelves C) (made : Option (HostCopy E C)) → IfSome made (λ it. IfSome opened (λ again. HasCleanDisk (file_state again) → IsFileOf e (file_state old.database).committed it.file))
      → IfSome made (λ it. IsTrue (p.is_clean new.packs) → HaveAll p c old.packs it.packs) → IfSome made (λ it. IsIntact (state over_files p new) → IsCopyOf p e c old it.file it.packs)
  copied e c made files all = if_both made
      (λ it one has intact.
      let both = both_intact intact in
      record { database = subst (λ o. IfSome o (λ again. HasCleanDisk (file_state again) → IsFileOf e (file_state old.database).committed it.file)) is one both.0; has_all = has both.1 })
      files all
