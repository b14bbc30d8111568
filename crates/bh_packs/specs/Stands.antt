-- Bytes that stand at an offset of a file, and what calls keep of them.
use Rattle.std.specs.Prelude.{◌⊎◌, ℕ, ◌+◌, ◌≤◌, List, length}
use Rattle.sqlite_disk.specs.Disk.{Holds}
use Rattle.sqlite_disk.specs.declared.Disk.{Ghosts}

-- two ranges, each an offset and a size, share no byte
abbrev pub AreApart : ℕ → ℕ → ℕ → ℕ → Type 0
AreApart a m b n = (a + m ≤ b) ⊎ (b + n ≤ a)

module _ {D : Type 0} (g : Ghosts D) where
  -- a read at this offset returns these bytes, and each content that a crash may leave now has them there
  pub record Stands (file : D) (at : ℕ) (bytes : List ℕ) : Type 0 where
    pub seen : Holds (g.seen file) at bytes
    pub left : (c : List ℕ) → g.may_leave file c → Holds c at bytes

  -- what stands apart from so many bytes at this offset still stands
  abbrev pub KeepsOthers : D → D → ℕ → ℕ → Type 0
  KeepsOthers old new at n = (a : ℕ) (bytes : List ℕ) → AreApart a (length bytes) at n → Stands old a bytes → Stands new a bytes

  -- what stands still stands
  abbrev pub KeepsAll : D → D → Type 0
  KeepsAll old new = (a : ℕ) (bytes : List ℕ) → Stands old a bytes → Stands new a bytes
