-- Files that were read, and a connection that is opened on them again.
use Rattle.std.proofs.Common.{◌≡◌, IsTrue, sym, subst, ◌∙◌}
use Rattle.std.proofs.Math.Logic.{∥∥₁_elim}
use Rattle.std.proofs.lemmas.Bool.{and_parts, and_from}
use Rattle.sqlite_disk.specs.declared.Disk.{Ghosts}
use Rattle.sqlite_disk.specs.declared.Files.{Files}
use Rattle.sqlite_wal.specs.Reads.{AreClean, OnlyReads}
use Rattle.sqlite_wal.specs.Recovery.{Image}
use Rattle.sqlite_wal.proofs.LogLemmas.{SeenMayStay}
use Rattle.sqlite_trees.specs.Props.{Trees-set}
use Rattle.sqlite_store.specs.declared.store.FileStore.{FileStore}
use Rattle.sqlite_store.specs.FileStore.{recovers}
use Rattle.sqlite_store.specs.Laws.{settled_at, stays_at}
use Rattle.sqlite.specs.Closing.{IsCopied}
use Rattle.sqlite.specs.Files.{Finds, HoldsDatabase, IsOpened, file_state, image_of}
use Rattle.sqlite.specs.Held.{Held}
use Rattle.sqlite.specs.State.{IsLive}
use Rattle.bh_schema.proofs.Committing.{same_database}
use Rattle.bh_kept.specs.Closings.{IsHeldIn, IsOpenAgain}

module _ {D : Type 0} {g : Ghosts D} (c : Held (FileStore D g)) where
  -- files are read, and nothing else
  pub were_clean : (old new : Files D) → new.log ≡ old.log → OnlyReads g old.db new.db → AreClean g new.log new.db → AreClean g old.log old.db
  were_clean old new log read clean =
      let both = and_parts (g.is_clean new.log) (g.is_clean new.db) clean in
      and_from (g.is_clean old.log) (g.is_clean old.db) (subst (λ l. IsTrue (g.is_clean l)) log both.0) (read.clean both.1)

  pub held_still : (old new : Files D) → new.log ≡ old.log → OnlyReads g old.db new.db → IsCopied c old → IsHeldIn c new
  held_still old new log read copied =
      let images : image_of g old ≡ image_of g new = λ i. record { log = g.seen (sym log i); db = sym read.seen i } in
      record {
        was_clean = copied.was_clean;
        was_open = copied.was_open;
        held = subst (λ (image : Image). ∥ HoldsDatabase image (file_state c).committed.trees ∥₁) images copied.seen.both;
      }

  -- and opened again
  pub open_again : (again : Held (FileStore D g)) (files : Files D) → SeenMayStay g → IsLive (file_state c) → IsHeldIn c files → IsOpened again → Finds files again → IsOpenAgain c again
  open_again again files stays live held opened found =
      let trees : (file_state again).committed.trees ≡ (file_state c).committed.trees = ∥∥₁_elim held.held (Trees-set _ _) (found.holds (file_state c).committed.trees) in
      let up = opened.0.is_open in
      record {
        was_clean = held.was_clean;
        was_open = held.was_open;
        opens = opened.0;
        live = opened.1;
        same = same_database (file_state again).committed (file_state c).committed (opened.1 up).1.lists (live held.was_open).1.lists trees;
        leaves = λ db may. subst (recovers c.store) (sym (settled_at again.store stays db up may ∙ trees)) (stays_at c.store stays held.was_open);
      }
