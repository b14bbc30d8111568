-- Packs: which bytes have a place, which of them stand, and what a call keeps.
use Rattle.std.specs.Prelude.{◌≡◌, ◌⊎◌, ℕ, ◌+◌, ◌≤◌, List, length, Option, Some, None, slice_index_or, IsTrue}
use Rattle.sqlite_disk.specs.Disk.{Holds}
use Rattle.sqlite_disk.specs.declared.Disk.{Ghosts}
use Rattle.bh_packs.specs.Stands.{Stands}
use Rattle.bh_packs.specs.Sums.{sum_of}
use Rattle.bh_packs.specs.declared.pack.Pack.{Pack}
use Rattle.bh_packs.specs.declared.packs.Packs.{Packs}
use Rattle.bh_packs.specs.declared.place.Lane.{Lane}
use Rattle.bh_packs.specs.declared.place.Place.{Place}

module _ {D : Type 0} where
  -- the pack of a number; none if there was none, or it was removed
  abbrev pub pack_at : Packs D → ℕ → Option (Pack D)
  pack_at packs n = slice_index_or packs.slots.items n None

  -- where the next bytes of a pack go: its place of appending
  abbrev pub end_in : Option (Pack D) → ℕ
  end_in None = 0
  end_in (Some p) = p.end

  -- how many hold a pack
  abbrev pub holds_in : Option (Pack D) → ℕ
  holds_in None = 0
  holds_in (Some p) = p.holds

  -- a pack is of this lane
  abbrev pub IsOfLane : Option (Pack D) → Lane → Type 0
  IsOfLane None lane = ⊥
  IsOfLane (Some p) lane = p.lane ≡ lane

  -- this is a pack's file
  abbrev pub IsFileIn : Option (Pack D) → D → Type 0
  IsFileIn None file = ⊥
  IsFileIn (Some p) file = p.disk ≡ file

  -- a pack was synced up to here
  abbrev pub IsMark : Option (Pack D) → ℕ → Type 0
  IsMark None mark = ⊥
  IsMark (Some p) mark = mark ≡ p.synced

  -- as many hold each pack as before
  abbrev pub KeepsHolds : Packs D → Packs D → Type 0
  KeepsHolds old new = (n : ℕ) → holds_in (pack_at new n) ≡ holds_in (pack_at old n)

  module _ (g : Ghosts D) where
    -- these bytes stand in a pack, below the mark up to which it was synced
    pub record IsSettled (p : Pack D) (at : ℕ) (bytes : List ℕ) : Type 0 where
      pub marked : at + length bytes ≤ p.synced
      pub below : at + length bytes ≤ p.end
      pub stands : Stands g p.disk at bytes

    -- these bytes are in a pack, below its end; they stand, or the next sync is to bring them to the disk
    pub record IsWritten (p : Pack D) (at : ℕ) (bytes : List ℕ) : Type 0 where
      pub below : at + length bytes ≤ p.end
      pub seen : Holds (g.seen p.disk) at bytes
      pub safe : IsTrue p.dirty ⊎ IsSettled p at bytes

    -- the same in a pack that may be none
    abbrev pub IsSettledIn : Option (Pack D) → ℕ → List ℕ → Type 0
    IsSettledIn None at bytes = ⊥
    IsSettledIn (Some p) at bytes = IsSettled p at bytes

    abbrev pub IsWrittenIn : Option (Pack D) → ℕ → List ℕ → Type 0
    IsWrittenIn None at bytes = ⊥
    IsWrittenIn (Some p) at bytes = IsWritten p at bytes

    -- no wrong answer of a pack's file was taken as true
    abbrev pub IsCleanIn : Option (Pack D) → Type 0
    IsCleanIn None = Unit {0}
    IsCleanIn (Some p) = IsTrue (g.is_clean p.disk)

    -- what was written or settled in a pack still is, its place of appending doesn't go back, and its lane is the same
    pub record KeepsPack (old new : Option (Pack D)) : Type 0 where
      pub written : (at : ℕ) (bytes : List ℕ) → IsWrittenIn old at bytes → IsWrittenIn new at bytes
      pub settled : (at : ℕ) (bytes : List ℕ) → IsSettledIn old at bytes → IsSettledIn new at bytes
      pub ends : end_in old ≤ end_in new
      pub lane : (lane : Lane) → IsOfLane old lane → IsOfLane new lane
      pub clean : IsCleanIn new → IsCleanIn old

    -- the same of each pack
    abbrev pub Keeps : Packs D → Packs D → Type 0
    Keeps old new = (n : ℕ) → KeepsPack (pack_at old n) (pack_at new n)

    -- a place has these bytes: they are written there, and size and sum are theirs
    pub record IsGiven (packs : Packs D) (place : Place) (bytes : List ℕ) : Type 0 where
      pub written : IsWrittenIn (pack_at packs place.pack) place.offset bytes
      pub size : place.size ≡ length bytes
      pub sum : place.sum ≡ sum_of bytes

    -- and they stand, so a crash leaves them
    pub record IsKept (packs : Packs D) (place : Place) (bytes : List ℕ) : Type 0 where
      pub settled : IsSettledIn (pack_at packs place.pack) place.offset bytes
      pub size : place.size ≡ length bytes
      pub sum : place.sum ≡ sum_of bytes
