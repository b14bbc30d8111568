-- Packs of files that can't lie are clean.
use Rattle.std.proofs.Common.{List, [], ◌∷◌, Option, Some, None, IsTrue, refl}
use Rattle.std.proofs.lemmas.Bool.{and_from}
use Rattle.std.specs.List.{list_all}
use Rattle.sqlite_disk.specs.declared.Disk.{Ghosts}
use Rattle.bh_packs.specs.Packs.{pack_at, IsCleanIn}
use Rattle.bh_packs.specs.declared.pack.Pack.{Pack}
use Rattle.bh_packs.specs.declared.packs.Packs.{Packs}
use Rattle.bh_shelf.specs.Laws.{clean_each}
use Rattle.bh_shelf.specs.Ranges.{clean_of}

module _ {D : Type 0} (g : Ghosts D) (true_files : (disk : D) → IsTrue (g.is_clean disk)) where
  pack_clean : (slot : Option (Pack D)) → IsCleanIn g slot
  pack_clean None = tt
  pack_clean (Some pack) = true_files pack.disk

  files_clean : (files : List D) → IsTrue (list_all g.is_clean files)
  files_clean [] = refl
  files_clean (file ∷ files) = and_from (g.is_clean file) (list_all g.is_clean files) (true_files file) (files_clean files)

  pub packs_clean : (packs : Packs D) → IsTrue (clean_of g packs)
  packs_clean packs = clean_each g packs (λ pack. pack_clean (pack_at packs pack)) (files_clean packs.removed.files)
