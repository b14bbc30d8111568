-- What a file has, and what the files of packs have.
use Rattle.std.specs.Prelude.{◌≡◌, ℕ, ◌+◌, ◌&&◌, nat_le, nat_lt, if◌then◌else◌, Bool, true}
use Rattle.std.specs.Prelude.{List, [], length, take, drop, Option, Some, None}
use Rattle.std.specs.List.{list_all}
use Rattle.sqlite_disk.specs.declared.Disk.{Ghosts}
use Rattle.bh_packs.specs.Packs.{pack_at, holds_in}
use Rattle.bh_packs.specs.declared.pack.Pack.{Pack}
use Rattle.bh_packs.specs.declared.packs.Packs.{Packs}
use Rattle.bh_shelf.specs.Contents.{Contents}

-- so many bytes at an offset of a file
abbrev pub part_of : List ℕ → ℕ → ℕ → List ℕ
part_of file offset size = take size (drop offset file)

-- what a file has before an end
abbrev pub range_of : List ℕ → ℕ → ℕ → ℕ → Option (List ℕ)
range_of file end offset size = if nat_lt 0 size && nat_le (offset + size) end then Some (part_of file offset size) else None

-- how many hold a pack of this number
abbrev pub holds_of : {D : Type 0} → Packs D → ℕ → ℕ
holds_of packs pack = holds_in (pack_at packs pack)

module _ {D : Type 0} (g : Ghosts D) where
  -- what a read of a pack's file returns
  abbrev pub file_in : Option (Pack D) → List ℕ
  file_in None = []
  file_in (Some pack) = g.seen pack.disk

  abbrev pub file_of : Packs D → ℕ → List ℕ
  file_of packs pack = file_in (pack_at packs pack)

  -- no wrong answer of a pack's file was taken as true
  abbrev pub clean_in : Option (Pack D) → Bool
  clean_in None = true
  clean_in (Some pack) = g.is_clean pack.disk

  -- nor of any pack's, or of a removed one's
  abbrev pub clean_of : Packs D → Bool
  clean_of packs = list_all clean_in packs.slots.items && list_all g.is_clean packs.removed.files

  -- what packs have before these ends
  abbrev pub contents_of : Packs D → (ℕ → ℕ) → Contents
  contents_of packs ends pack = range_of (file_of packs pack) (ends pack)

  -- a crash may leave a pack's file so
  abbrev pub LeavesIn : Option (Pack D) → List ℕ → Type 0
  LeavesIn None file = file ≡ []
  LeavesIn (Some pack) file = g.may_leave pack.disk file

  -- what files have, each of which a crash may leave
  abbrev pub Leaves : Packs D → Contents → Type 0
  Leaves packs left = (pack : ℕ) → (file : List ℕ) × LeavesIn (pack_at packs pack) file
      × ((offset size : ℕ) → left pack offset size ≡ range_of file (length file) offset size)
