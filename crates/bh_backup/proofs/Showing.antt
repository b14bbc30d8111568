-- What is opened on a database file whose log was copied into it.
use Rattle.std.proofs.Common.{◌≡◌, ℕ, List, sym, ap, subst, ◌∙◌}
use Rattle.std.proofs.Math.Logic.{∥∥₁_elim}
use Rattle.sqlite_disk.specs.declared.Disk.{Ghosts}
use Rattle.sqlite_disk.specs.declared.Files.{Files}
use Rattle.sqlite_disk.specs.Disk.{Only}
use Rattle.sqlite_wal.specs.Recovery.{Image}
use Rattle.sqlite_wal.specs.Reads.{OnlyReads}
use Rattle.sqlite_trees.specs.Tree.{Trees}
use Rattle.sqlite_trees.specs.Props.{Trees-set}
use Rattle.sqlite_trees.specs.Objects.{catalog_tree}
use Rattle.sqlite_catalog.specs.Listing.{Lists}
use Rattle.sqlite_catalog.proofs.ReadLemmas.{lists_once}
use Rattle.sqlite_store.specs.declared.store.FileStore.{FileStore}
use Rattle.sqlite.specs.Closing.{HoldsAlone, IsCopied}
use Rattle.sqlite.specs.Effect.{Database, IsDatabase}
use Rattle.sqlite.specs.Files.{image_of, file_state}
use Rattle.sqlite.specs.Held.{Held}
use Rattle.sqlite.specs.State.{IsLive}
use Rattle.bh_backup.specs.Copies.{alone, AreOf, HasAlone, IsFileOf, OpensAlike}

-- a database's trees list its schema, so that they are no other's
same_database : (a b : Database) → IsDatabase a → IsDatabase b → a.trees ≡ b.trees → a ≡ b
same_database a b one two same =
    let lists : Lists (a.trees catalog_tree) b.schema = subst (λ (t : Trees). Lists (t catalog_tree) b.schema) (sym same) two.lists in
    let schema : a.schema ≡ b.schema = lists_once (a.trees catalog_tree) a.schema b.schema one.lists lists in
    λ i. record { schema = schema i; trees = same i }

pub opens_alike : {D : Type 0} {g : Ghosts D} → OpensAlike g
opens_alike image db c holds opened clean =
    let found = opened.found clean in
    let (opens, live) = opened.opened clean in
    let trees : (file_state c).committed.trees ≡ db.trees = ∥∥₁_elim holds.held (Trees-set _ _) (found.holds db.trees) in
    opens.clean ∙ same_database (file_state c).committed db (live opens.is_open).1 holds.database trees

module _ {D : Type 0} {g : Ghosts D} (c : Held (FileStore D g)) where
  -- the database file alone holds what was committed, once the log was copied into it, and so does a copy of it
  pub copy_holds : {E : Type 0} {e : Ghosts E} (files : Files D) (to : E) → IsLive (file_state c) → IsCopied c files → HasAlone e (g.seen files.db) to → IsFileOf e (file_state c).committed to
  copy_holds {E} {e} files to live copied has =
      let db = (file_state c).committed in
      let here : AreOf db (alone (g.seen files.db)) = record { database = (live copied.was_open).1; held = copied.seen.alone } in
      let same : g.seen files.db ≡ e.seen to = sym has.seen in
      record {
        holds = subst (λ (bytes : List ℕ). AreOf db (alone bytes)) same here;
        synced = subst (λ (bytes : List ℕ). Only bytes (e.may_leave to)) same has.synced;
      }

  -- and so it stays while it is read
  pub still_copied : (log old new : D) → IsCopied c (record { log = log; db = old }) → OnlyReads g old new → IsCopied c (record { log = log; db = new })
  still_copied log old new copied reads =
      let images : image_of g (record { log = log; db = old }) ≡ image_of g (record { log = log; db = new }) = ap (λ bytes. record { log = g.seen log; db = bytes }) (sym reads.seen) in
      record {
        was_clean = copied.was_clean;
        was_open = copied.was_open;
        seen = subst (λ (image : Image). HoldsAlone image (file_state c).committed.trees) images copied.seen;
        left = λ image may. copied.left image (may.0, reads.crash image.db may.1);
      }
