-- What is opened after a stop is what the connection might have left.
use Rattle.std.proofs.Common.{◌≡◌, ℕ, ◌≤◌, IsTrue, true, refl, subst, ◌∙◌}
use Rattle.std.proofs.Math.Arith.{le-zero}
use Rattle.std.proofs.Math.Logic.{∥∥₁_elim, ∥∥₁_map}
use Rattle.sqlite_disk.specs.declared.Disk.{Ghosts}
use Rattle.sqlite_disk.specs.declared.Files.{Files}
use Rattle.sqlite_wal.specs.Recovery.{Image}
use Rattle.sqlite_wal.specs.Reads.{AreClean}
use Rattle.sqlite_wal.specs.Files.{outcomes}
use Rattle.sqlite_pool.specs.declared.pool.Pool.{Pool}
use Rattle.sqlite_pool.specs.Pool as pool
use Rattle.sqlite_trees.specs.Tree.{Trees}
use Rattle.sqlite_trees.specs.Props.{Trees-set}
use Rattle.sqlite_trees.specs.View.{doubt, IsClean, IsQuiet}
use Rattle.sqlite_store.specs.declared.store.FileStore.{FileStore}
use Rattle.sqlite_store.specs.FileStore.{view, faults, recovers, is_shielded, files as store_files}
use Rattle.sqlite.specs.Effect.{Database, IsDatabase}
use Rattle.sqlite.specs.Held.{Held, AreDatabases}
use Rattle.sqlite.specs.State.{State, HasCleanDisk, Opens, IsLive}
use Rattle.sqlite.specs.Files.{file_state, image_of, Finds}
use Rattle.sqlite.proofs.Theorems.{next_run}
use Rattle.bh_schema.proofs.Committing.{same_database}

no_doubt : (b : _) → b ≡ true → doubt b ≡ 0
unfolding doubt
no_doubt b is = rw is refl

module _ {D : Type 0} {g : Ghosts D} where
  clean_from : (it : Pool D g) → AreClean g (pool.files it).0 (pool.files it).1 → (pool.state it).is_clean ≡ true
  unfolding pool.state pool.files
  clean_from it clean = clean

  may_from : (it : Pool D g) (image : Image) → AreClean g (pool.files it).0 (pool.files it).1 → outcomes g (pool.files it).0 (pool.files it).1 image → (pool.state it).may_leave image
  unfolding pool.state pool.files
  may_from it image clean out = (clean, out)

  view_clean : (it : FileStore D g) → AreClean g (store_files it).0 (store_files it).1 → IsClean (view it)
  view_clean it clean = no_doubt _ (clean_from it.pool clean)

  -- a connection whose store was taken out of it, and whose files a stop left so, opened again
  module _ (old again : Held (FileStore D g)) (it : FileStore D g) (before files : Files D) (whole : (before.log, before.db) ≡ store_files it)
      (quiet : IsQuiet view faults recovers is_shielded old.store it) (numbered : IsClean (view it) → IsTrue (view it).is_numbered) (sound : IsClean (view it) → AreDatabases (recovers it))
      (left : outcomes g before.log before.db (image_of g files)) (honest : AreClean g files.log files.db → AreClean g before.log before.db) where
    were_clean : Finds files again → AreClean g (store_files it).0 (store_files it).1
    were_clean found = subst (λ (p : D × D). AreClean g p.0 p.1) whole (honest found.honest)

    pub was_intact : Finds files again → HasCleanDisk (file_state old)
    was_intact found = le-zero (subst (λ (n : ℕ). doubt (view old.store).is_clean ≤ n) (view_clean it (were_clean found)) quiet.clean)

    pub came_back : Finds files again → ∥ (file_state old).may_leave (file_state again).committed.trees ∥₁
    came_back found =
        let clean = view_clean it (were_clean found) in
        let out = subst (λ (p : D × D). outcomes g p.0 p.1 (image_of g files)) whole left in
        let may = may_from it.pool (image_of g files) (were_clean found) out in
        ∥∥₁_map (next_run it (numbered clean) (sound clean) (image_of g files) may (file_state again) (record { holds = found.holds; reads = found.reads })) (quiet.outcomes _)

-- what was found, where a crash leaves one database alone
pub is_kept : (old again : State) (kept : Database) → ∥ old.may_leave again.committed.trees ∥₁ → IsDatabase kept → ((db : Trees) → old.may_leave db → db ≡ kept.trees)
    → Opens again × IsLive again → again.now ≡ kept
is_kept old again kept left sound only opens =
    let live = opens.1 opens.0.is_open in
    let trees : again.committed.trees ≡ kept.trees = ∥∥₁_elim left (Trees-set _ _) (only again.committed.trees) in
    opens.0.clean ∙ same_database again.committed kept live.1.lists sound.lists trees
