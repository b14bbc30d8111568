-- A shelf that stayed as it was, and packs that were copied from it.
use Rattle.std.specs.Prelude.{◌≡◌, ℕ, List, Some, IsTrue}
use Rattle.bh_shelf.specs.Contents.{Contents, KeepsHolds, Rises, Within}
use Rattle.bh_shelf.specs.declared.shelf.Shelf.{Ghosts}

-- a shelf stayed as it was: its packs were read alone
pub record Stays {P : Type 0} (g : Ghosts P) (old new : P) : Type 0 where
  pub seen : IsTrue (g.is_clean new) → g.seen new ≡ g.seen old
  pub ends : Rises (g.ends old) (g.ends new)
  pub kept : IsTrue (g.is_clean new) → g.kept new ≡ g.kept old
  pub stood : IsTrue (g.is_clean new) → Within (g.stood old) (g.stood new)
  pub clean : IsTrue (g.is_clean new) → IsTrue (g.is_clean old)
  pub holds : KeepsHolds (g.holds old) (g.holds new)

-- the second have of a pack what the first have
abbrev pub HaveOf : ℕ → Contents → Contents → Type 0
HaveOf pack a b = (offset size : ℕ) (bytes : List ℕ) → a pack offset size ≡ Some bytes → b pack offset size ≡ Some bytes
