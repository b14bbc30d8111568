-- A backup of a host that was found is one of the database in which it was found, and of its packs.
use Rattle.std.proofs.Common.{◌≡◌, IsTrue, map, Option, Some, None, Result, Ok, Err, MatchOption, codes, sym, ap, ◌∙◌, subst}
use Rattle.std.specs.Prelude.{MatchResult}
use Rattle.sqlite_disk.specs.declared.Disk as disk
use Rattle.sqlite_disk.specs.declared.Files.{Files}
use Rattle.sqlite_wal.specs.Reads.{AreClean}
use Rattle.sqlite_wal.specs.Recovery.{Image}
use Rattle.sqlite_store.specs.declared.store.FileStore.{FileStore}
use Rattle.sqlite_trees.specs.Tree.{Trees}
use Rattle.sqlite.specs.Closing.{HoldsAlone, IsCopied}
use Rattle.sqlite.specs.Effect.{Database}
use Rattle.sqlite.specs.Files.{file_state, image_of, over_files}
use Rattle.sqlite.specs.Held.{Held}
use Rattle.bh_rows.specs.Form.{AreRows}
use Rattle.bh_shelf.specs.Contents.{Contents, Within}
use Rattle.bh_shelf.specs.Listed.{HasListed}
use Rattle.bh_shelf.specs.declared.shelf.Shelf.{Ghosts as Shelves}
use Rattle.bh_tables.specs.Packs.{packs_in}
use Rattle.bh_tables.specs.Rows.{pack_form}
use Rattle.bh_tables.specs.Schema.{host_schema}
use Rattle.bh_tables.specs.Typed.{IsHost}
use Rattle.bh_base.specs.Layer.{Standing, standing, IsIntact, IsOpen, IsStateClean}
use Rattle.bh_base.specs.Placed.{filled}
use Rattle.bh_base.proofs.Placing.{within_then, same_filled}
use Rattle.bh_file.specs.Opened.{IsOpenedOn}
use Rattle.bh_open.specs.Packed.{listed_of}
use Rattle.bh_open.specs.declared.open.Opened.{Opened}
use Rattle.bh_open.proofs.Beside.{filled_listed, packs_typed}
use Rattle.bh_backup.specs.Copies.{IsFileOf}
use Rattle.bh_backup.specs.Packs.{HaveAll, StayAs}
use Rattle.bh_maintenance.proofs.Found.{is_clean}
use Rattle.bh_maintenance.specs.Backups.{IsAlikeWith, IsBacked, IsCopiedTo, IsSaved, HasSaved, IsSavedOrNot, IsBackedUp}
use Rattle.bh_maintenance.specs.Endings.{AreClosed}
use Rattle.bh_maintenance.specs.Found.{HasListedOf, IsFoundIn, IsOpenedAs, IsNotFound}
use Rattle.bh_maintenance.specs.Printing.{IsLine}
use Rattle.bh_maintenance.specs.declared.backups.HostCopy.{HostCopy}
use Rattle.bh_maintenance.specs.declared.ending.Done.{Done}
use Rattle.bh_maintenance.specs.declared.printed.Printed.{Printed}

-- ---- the packs

-- a host's database is the same with copied packs, in which all stands that its own have kept
alike : {C : Type 0} (c : Shelves C) (packs kept : Contents) (db : Database) (copy : C) → HasListedOf packs kept db → Within kept (c.stood copy) → IsAlikeWith c packs db copy
alike c packs kept db copy listed has left host stands =
    let same : filled kept db ≡ filled packs db = filled_listed db packs kept (listed (packs_typed packs db host)) in
    let whole : IsHost (filled kept db) = subst IsHost (sym same) host in
    sym (same_filled kept left (within_then kept (c.stood copy) left has stands) db whole.held.blocks) ∙ same

module _ {D : Type 0} {g : disk.Ghosts D} where
  clean_when_copied : (it : Held (FileStore D g)) (files : Files D) → IsCopied it files → IsStateClean (file_state it)
  unfolding IsIntact IsOpen
  clean_when_copied it files copied = is_clean (copied.was_clean, copied.was_open)

  -- packs that were opened by the rows of a host have what these list
  pub backed : {P : Type 0} (p : Shelves P) (packs : Contents) (old : Held (FileStore D g)) (opened : Opened (FileStore D g)) (shelf : P) → IsFoundIn over_files old opened
      → (IsTrue (p.is_clean shelf) → HasListed opened.listed.items packs (p.kept shelf)) → IsBacked p packs opened.connection shelf
  unfolding standing
  backed p packs old opened shelf found has clean pure typed =
      let same : (file_state opened.connection).committed ≡ (file_state opened.connection).now = found.committed clean in
      let now : AreRows pack_form ((file_state opened.connection).now.trees 32) = subst (λ (db : Database). AreRows pack_form (db.trees 32)) same typed in
      subst (λ (db : Database). HasListed (map listed_of (packs_in db.trees)) packs (p.kept shelf)) (sym same)
      (subst (λ rows. HasListed rows packs (p.kept shelf)) (found.listed clean now) (has pure))

  module _ {P E C : Type 0} (p : Shelves P) (e : disk.Ghosts E) (c : Shelves C) (packs : Contents) (it : Held (FileStore D g)) where
    pub copied_to : (printed : Printed) (files : Files D) (copy : HostCopy P E C) (shelf : P) → IsLine (codes "backup") printed → (AreClean g files.log files.db → IsCopied it files)
        → (AreClean g files.log files.db → IsFileOf e (file_state it).committed copy.file) → (IsTrue (p.is_clean copy.from) → StayAs p shelf copy.from) → (IsTrue (p.is_clean copy.from) → HaveAll p c shelf copy.packs) → IsBacked p packs it shelf → IsCopiedTo p e c packs it printed files copy
    copied_to printed files copy shelf line kept copied stay stands is = record {
      kept = kept;
      copied = copied;
      alike = λ clean pure copy_pure. alike c packs (p.kept shelf) (file_state it).committed copy.packs (is (clean_when_copied it files (kept clean)) (stay pure).was_clean) (stands pure copy_pure);
      line = line;
    }

-- ---- the database

-- of the present version, it stands as it stood
module _ {D P E C : Type 0} {g : disk.Ghosts D} (p : Shelves P) (e : disk.Ghosts E) (c : Shelves C) (packs : Contents) (old new : Held (FileStore D g)) (found : IsOpenedAs packs (file_state old) (file_state new)) where
  module _ (present : (standing (file_state old)).now.schema ≡ host_schema) (files : Files D) where
    same_committed : IsCopied new files → (file_state new).committed ≡ (file_state old).committed
    unfolding standing
    same_committed copied = ap (λ (x : Standing). x.kept) (found.same (clean_when_copied new files copied) present)

    copied_before : IsCopied new files → IsCopied old files
    unfolding IsIntact IsOpen
    copied_before copied =
        let was = found.follows.clean (clean_when_copied new files copied) in
        let same : (file_state new).committed.trees ≡ (file_state old).committed.trees = ap (λ (db : Database). db.trees) (same_committed copied) in
        record {
          was_clean = was.intact;
          was_open = was.is_open;
          seen = subst (λ (t : Trees). HoldsAlone (image_of g files) t) same copied.seen;
          left = λ image may. subst (λ (t : Trees). HoldsAlone image t) same (copied.left image may);
        }

    saved_before : (printed : Printed) (copy : HostCopy P E C) → IsCopiedTo p e c packs new printed files copy → IsCopiedTo p e c packs old printed files copy
    saved_before printed copy saved = record {
      kept = λ clean. copied_before (saved.kept clean);
      copied = λ clean. subst (λ (db : Database). IsFileOf e db copy.file) (same_committed (saved.kept clean)) (saved.copied clean);
      alike = λ clean pure copy_pure. subst (λ (db : Database). IsAlikeWith c packs db copy.packs) (same_committed (saved.kept clean)) (saved.alike clean pure copy_pure);
      line = saved.line;
    }

  found_saved : (printed : Printed) (files : Files D) (copy : HostCopy P E C) → IsCopiedTo p e c packs new printed files copy → IsSaved p e c packs old printed files copy
  found_saved printed files copy saved = record { new = new; opened = found; saved = saved; same = λ present. saved_before present files printed copy saved }

  pub one_saved : (printed : Printed) (files : Option (Files D)) (copy : Option (HostCopy P E C)) → HasSaved p e c packs new printed files copy → IsSavedOrNot p e c packs old printed files copy
  one_saved printed None copy has = has
  one_saved printed (Some f) None has = absurd has
  one_saved printed (Some f) (Some one) has = found_saved printed f one has

-- what was found, and what wasn't
module _ {D : Type 0} {g : disk.Ghosts D} (old : Held (FileStore D g)) (found : Result (Opened (FileStore D g)) (Done (FileStore D g))) where
  abbrev IsFoundOrNot : Result (Opened (FileStore D g)) (Done (FileStore D g)) → Type 0
  IsFoundOrNot r = MatchResult r (IsFoundIn over_files old) (λ done. IsNotFound (file_state old) (file_state done.connection) done.printed)

  pub found_at : (opened : Opened (FileStore D g)) → found ≡ Ok opened → IsFoundOrNot found → IsFoundIn over_files old opened
  found_at opened is either = subst IsFoundOrNot is either

  pub left_at : (done : Done (FileStore D g)) (printed : Printed) → found ≡ Err done → printed ≡ done.printed → IsFoundOrNot found → IsNotFound (file_state old) (file_state done.connection) printed
  left_at done printed is same either =
      let left : IsNotFound (file_state old) (file_state done.connection) done.printed = subst IsFoundOrNot is either in
      subst (λ (p : Printed). IsNotFound (file_state old) (file_state done.connection) p) (sym same) left

module _ {D P E C : Type 0} {g : disk.Ghosts D} (p : Shelves P) (e : disk.Ghosts E) (c : Shelves C) (packs : Contents) (old : Held (FileStore D g)) (printed : Printed) where
  pub one_left_out : (new : Held (FileStore D g)) → IsNotFound (file_state old) (file_state new) printed → (files : Option (Files D)) (copy : Option (HostCopy P E C)) → copy ≡ None → MatchOption files ⊥ (AreClosed new) → IsSavedOrNot p e c packs old printed files copy
  one_left_out new not_found None copy none closed = closed
  one_left_out new not_found (Some f) copy none closed = rw none (record { new = new; not_found = not_found; closed = closed })

  pub backed_up : (image : Image) → IsOpenedOn image (file_state old) → (files : Option (Files D)) (copy : Option (HostCopy P E C)) → IsSavedOrNot p e c packs old printed files copy → IsBackedUp g p e c packs image printed files copy
  backed_up image opened None copy came = absurd came
  backed_up image opened (Some f) copy came = record { old = old; opened = opened; came = came }
