-- Rows of table `packs`: which packs are named, and how long they are.
use Rattle.std.specs.Prelude.{◌≢◌, ℕ, ◌<◌, ◌==◌, if◌then◌else◌, List, [], ◌∷◌, length, slice_index_or}
use Rattle.bh_shelf.specs.declared.closed.Listed.{Listed}

-- the pack that a row names
abbrev pub pack_of : Listed → ℕ
pack_of row = row.pack

-- no bytes of the first pack
abbrev pub no_row : Listed
no_row = record { pack = 0; length = 0 }

abbrev pub row_at : List Listed → ℕ → Listed
row_at rows i = slice_index_or rows i no_row

-- how long a pack is by its row; 0 if no row names it
abbrev pub length_in : List Listed → ℕ → ℕ
length_in [] pack = 0
length_in (row ∷ rows) pack = if row.pack == pack then row.length else length_in rows pack

-- no two rows name the same pack
abbrev pub AreOnce : List Listed → Type 0
AreOnce rows = (i j : ℕ) → i < j → j < length rows → (row_at rows i).pack ≢ (row_at rows j).pack
