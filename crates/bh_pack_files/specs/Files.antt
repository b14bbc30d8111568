-- What a pack's file is as it was opened.
use Rattle.std.specs.Prelude.{◌≡◌, ℕ, List, [], ◌∷◌}
use Rattle.sqlite_disk.specs.Events.{settled}
use Rattle.bh_pack_files.specs.Note.{brought}
use Rattle.bh_pack_files.specs.declared.file.Held.{Ghosts}
use Rattle.bh_pack_files.specs.declared.file.PackFile.{PackFile}

-- the file of this pack, which was synced, and nothing was asked of it since
abbrev pub IsFresh : {S : Type 0} {g : Ghosts S} → PackFile S g → ℕ → Type 0
IsFresh f pack = (f.pack ≡ pack) × (f.log.events ≡ settled 0 ∷ [])

-- the file of this pack, which has these bytes since it has another name, and nothing was asked of it since
abbrev pub IsShared : {S : Type 0} {g : Ghosts S} → PackFile S g → ℕ → List ℕ → Type 0
IsShared f pack bytes = (f.pack ≡ pack) × (f.log.events ≡ brought bytes (settled 0 ∷ []))
