-- What the files of a store hold once it is closed.
use Rattle.std.proofs.Common.{◌≡◌, false, IsTrue, Option, Some, None, sym, ap, subst, ◌∙◌, arith}
use Rattle.std.specs.Prelude.{IfSome}
use Rattle.std.proofs.Math.Logic.{∥∥₁_map}
use Rattle.sqlite_disk.specs.declared.Disk.{Ghosts}
use Rattle.sqlite_disk.specs.declared.Files.{Files}
use Rattle.sqlite_wal.specs.Files.{outcomes}
use Rattle.sqlite_wal.specs.Reads.{AreClean}
use Rattle.sqlite_wal.proofs.LogLemmas.{SeenMayStay}
use Rattle.sqlite_wal.proofs.StateLemmas.{open_from}
use Rattle.sqlite_pool.proofs.StateLemmas.{open_usable, clean_is, may_leave_is}
use Rattle.sqlite_trees.proofs.Doubt.{clean_of as sure, no_doubt}
use Rattle.sqlite_trees.specs.View.{View, IsClean, IsQuiet, IsRolledBack}
use Rattle.sqlite_store.specs.declared.store.FileStore.{FileStore}
use Rattle.sqlite_store.specs.FileStore.{state, view, faults, recovers, is_shielded, files as store_files, seems_broken}
use Rattle.sqlite_store.specs.Laws.{not_broken, settled_at}
use Rattle.sqlite.specs.Held.{Held, AreDatabases}
use Rattle.sqlite.specs.Files.{HoldsDatabase, image_of}
use Rattle.sqlite.proofs.Theorems.{opens_again}
use Rattle.bh_kept.specs.Closings.{IsHeldIn}

pub if_some : {A : Type 0} {P Q : A → Type 0} (o : Option A) → ((x : A) → P x → Q x) → IfSome o P → IfSome o Q
if_some None f h = tt
if_some (Some x) f h = f x h

module _ {D : Type 0} {g : Ghosts D} (stays : SeenMayStay g) (c : Held (FileStore D g)) (back before last : FileStore D g) (files : Files D) (whole : (files.log, files.db) ≡ store_files last)
    (unbroken : seems_broken last ≡ false) where
  ready : IsTrue (state last).is_ready
  ready = (not_broken _ _ unbroken).1

  pub usable : IsTrue (g.is_usable files.log) × IsTrue (g.is_usable files.db)
  usable = subst (λ p. IsTrue (g.is_usable p.0) × IsTrue (g.is_usable p.1)) (sym whole) (open_usable last.pool ready)

  -- the log wasn't copied, and no fault shut the store
  pub still_held : (numbered : IsClean (view back) → IsTrue (view back).is_numbered) → (sound : IsClean (view back) → AreDatabases (recovers back))
      → IsRolledBack (view c.store) (view back) → IsQuiet view faults recovers is_shielded c.store back
      → IsRolledBack (view back) (view before) → IsQuiet view faults recovers is_shielded back before
      → (IsTrue (view last).is_open → view last ≡ view before) → IsQuiet view faults recovers is_shielded before last
      → AreClean g files.log files.db → IsHeldIn c files
  still_held numbered sound undone first rolled second stayed q honest =
      let sure_now = subst (λ p. AreClean g p.0 p.1) whole honest in
      let none : IsClean (view last) = no_doubt _ (clean_is last.pool ∙ sure_now) in
      let clean : IsClean (view before) = omega (arith, q.clean) in
      let early : IsClean (view back) = omega (arith, second.clean) in
      let on : IsTrue (view last).is_open = open_from (state last) ready (sure (view last).is_clean none) in
      let same = stayed on in
      let h : IsTrue (view before).is_open = subst (λ (v : View). IsTrue v.is_open) same on in
      let then = rolled.kept clean in
      let was = undone.kept early in
      let numbered_now : IsTrue (view last).is_numbered = ap (λ (v : View). v.is_numbered) same ∙ then.numbered ∙ numbered early in
      let committed : (view last).committed ≡ (view c.store).committed = ap (λ (v : View). v.committed) same ∙ then.committed h ∙ was.committed (then.was_open h) in
      let image = image_of g files in
      let may = may_leave_is last.pool image sure_now (subst (λ p. outcomes g p.0 p.1 image) whole (stays _, stays _)) in
      record {
        was_clean = omega (arith, first.clean);
        was_open = was.was_open (then.was_open h);
        held = ∥∥₁_map (opens_again last numbered_now (λ db found. sound early db (second.outcomes db (q.outcomes db found))) image may)
            (λ it. subst (λ t. HoldsDatabase image t) (settled_at last stays it.0 on it.1 ∙ committed) it.2);
      }
