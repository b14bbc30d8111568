-- The files of packs, and what packs have once they are opened.
use Rattle.std.specs.Prelude.{◌≡◌, ℕ, ◌<◌, ◌≤◌, ◌+◌, List, length, Some, slice_index_or}
use Rattle.bh_pack_files.specs.Files.{IsFresh}
use Rattle.bh_pack_files.specs.declared.file.Held.{Ghosts}
use Rattle.bh_pack_files.specs.declared.file.PackFile.{PackFile}
use Rattle.bh_shelf.specs.Contents.{Contents}
use Rattle.bh_shelf.specs.Ranges.{part_of, range_of}
use Rattle.bh_pack_shelf.specs.Rows.{length_in, row_at}
use Rattle.bh_shelf.specs.declared.closed.Listed.{Listed}

-- the files of the packs that the first so many rows name, in the order of the rows, as they were opened
pub record AreFilesTo {S : Type 0} {g : Ghosts S} (n : ℕ) (files : List (PackFile S g)) (rows : List Listed) : Type 0 where
  pub count : length files ≡ n
  pub each : (i : ℕ) (d : PackFile S g) → i < n → IsFresh (slice_index_or files i d) (row_at rows i).pack

-- those of all rows
abbrev pub AreFilesOf : {S : Type 0} {g : Ghosts S} → List (PackFile S g) → List Listed → Type 0
AreFilesOf files rows = AreFilesTo (length rows) files rows

-- what files have that hold this
abbrev pub in_files : (ℕ → List ℕ) → Contents
in_files held pack = range_of (held pack) (length (held pack))

-- each pack has what its file held up to the length of its row, and a pack that no row names has nothing
pub record AreOpened (held : ℕ → List ℕ) (rows : List Listed) (has : Contents) : Type 0 where
  pub bytes : (pack offset size : ℕ) → has pack offset size ≡ range_of (held pack) (length_in rows pack) offset size
  pub whole : (pack : ℕ) → length_in rows pack ≤ length (held pack)

-- Of each pack that a row names all up to its length is there: at each offset so many bytes, and they are its file's. Of no bytes
-- there is no range.
abbrev pub HaveRows : (ℕ → List ℕ) → List Listed → Contents → Type 0
HaveRows held rows has = (i offset size : ℕ) → i < length rows → 0 < size → offset + size ≤ (row_at rows i).length
    → (has (row_at rows i).pack offset size ≡ Some (part_of (held (row_at rows i).pack) offset size))
    × (length (part_of (held (row_at rows i).pack) offset size) ≡ size)
