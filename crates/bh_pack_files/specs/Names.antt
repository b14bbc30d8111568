-- The names of packs' files, and which of them were asked to be made or removed.
use Rattle.std.specs.Prelude.{◌≡◌, ℕ, ◌+◌, ◌==◌, ◌&&◌, if◌then◌else◌, List, [], ◌∷◌, ◌++◌, length, drop, codes}
use Rattle.std.specs.Fmt.{decimal}
use Rattle.sqlite_disk.specs.Events.{Event}
use Rattle.bh_pack_files.specs.declared.record.Record.{Record}

-- the number in decimal digits, and before it as many zeros as it has less than eight
abbrev pub eight_digits : ℕ → List ℕ
eight_digits n = drop (length (decimal n)) (codes "00000000") ++ decimal n

-- a pack's number, counted from 1
abbrev pub name_of : ℕ → List ℕ
name_of pack = eight_digits (pack + 1)

-- how many of these calls are of this kind and about this pack's file
abbrev pub times : ℕ → ℕ → List Event → ℕ
times kind pack [] = 0
times kind pack (e ∷ earlier) = if e.0 == kind && e.1 == pack then times kind pack earlier + 1 else times kind pack earlier

-- how often the system was asked to make the file of this pack
abbrev pub made_of : ℕ → Record → ℕ
made_of pack log = times 7 pack log.events

-- and how often to remove it
abbrev pub removed_of : ℕ → Record → ℕ
removed_of pack log = times 8 pack log.events

-- meanwhile it was asked neither
pub record Spares (old new : Record) (pack : ℕ) : Type 0 where
  pub made : made_of pack new ≡ made_of pack old
  pub removed : removed_of pack new ≡ removed_of pack old
