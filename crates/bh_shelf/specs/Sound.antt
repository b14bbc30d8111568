-- The invariant of packs and their marks.
use Rattle.std.specs.Prelude.{◌≡◌, ℕ, ◌<◌, ◌≤◌, Bool, false, List, length, Option, Some, None}
use Rattle.std.proofs.Props.{props}
use Rattle.sqlite_disk.specs.declared.Disk.{Ghosts}
use Rattle.bh_packs.specs.Packs.{pack_at, end_in, IsSettledIn, IsCleanIn}
use Rattle.bh_packs.specs.declared.pack.Pack.{Pack}
use Rattle.bh_packs.specs.declared.packs.Packs.{Packs}
use Rattle.bh_shelf.specs.declared.marks.Ends.{Ends}
use Rattle.bh_shelf.specs.declared.marks.Marks.{Marks}
use Rattle.bh_shelf.specs.Marks.{ends_of, written_of}
use Rattle.bh_shelf.specs.Ranges.{part_of, file_in}

-- bytes were appended to a pack since its last sync
abbrev pub dirty_in : {D : Type 0} → Option (Pack D) → Bool
dirty_in None = false
dirty_in (Some pack) = pack.dirty

module _ {D : Type 0} (g : Ghosts D) where
  -- all bytes of a pack before an end stand
  abbrev pub StandsTo : Option (Pack D) → ℕ → Type 0
  StandsTo slot end = 0 < end → IsSettledIn g slot 0 (part_of (file_in g slot) 0 end)

  -- all bytes of a pack before an end are written: they stand, or the next sync makes them stand
  pub record WrittenTo (slot : Option (Pack D)) (end : ℕ) : Type 0 where
    pub below : end ≤ end_in slot
    pub long : end ≤ length (file_in g slot)
    pub safe : dirty_in slot ≡ false → StandsTo slot end

  -- the ends of a pack: it is written to the last, and stands to the one before
  pub record IsSoundAt (slot : Option (Pack D)) (ends : Ends) : Type 0 where
    pub kept_seen : ends.kept ≤ ends.seen
    pub kept_stood : ends.kept ≤ ends.stood
    pub seen_written : ends.seen ≤ ends.written
    pub stood_written : ends.stood ≤ ends.written
    pub written : IsCleanIn g slot → WrittenTo slot ends.written
    pub stands : IsCleanIn g slot → StandsTo slot ends.stood

  abbrev pub IsSound : Packs D → Marks → Type 0
  IsSound packs marks = (pack : ℕ) → IsSoundAt (pack_at packs pack) (ends_of marks pack)

  -- all that is written stands
  abbrev pub AllStands : Packs D → Marks → Type 0
  AllStands packs marks = (pack : ℕ) → IsCleanIn g (pack_at packs pack) → StandsTo (pack_at packs pack) (written_of marks pack)

  settled_prop : (slot : Option (Pack D)) (offset : ℕ) (bytes : List ℕ) → IsProp (IsSettledIn g slot offset bytes)
  settled_prop None offset bytes = hlevel props
  settled_prop (Some pack) offset bytes = hlevel props

  -- a shelf is sound in one way
  pub sound_prop : (packs : Packs D) (marks : Marks) → IsProp (IsSound packs marks)
  sound_prop packs marks = hlevel (settled_prop, props)
