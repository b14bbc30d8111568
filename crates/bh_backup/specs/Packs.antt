-- Packs that were copied, and the copies.
use Rattle.std.specs.Prelude.{◌≡◌, IsTrue}
use Rattle.bh_shelf.specs.Contents.{Within}
use Rattle.bh_shelf.specs.declared.shelf.Shelf.{Ghosts}

-- they were only read: no file of them had returned a wrong answer, what they kept is the same, and no less stands
pub record StayAs {P : Type 0} (g : Ghosts P) (old new : P) : Type 0 where
  pub was_clean : IsTrue (g.is_clean old)
  pub kept : g.kept new ≡ g.kept old
  pub stood : Within (g.stood old) (g.stood new)

-- all that packs keep stands in the copies, if no wrong answer of their files was taken as true
abbrev pub HaveAll : {P C : Type 0} → Ghosts P → Ghosts C → P → C → Type 0
HaveAll p c packs copies = IsTrue (c.is_clean copies) → Within (p.kept packs) (c.stood copies)
