-- A connection's state with the bytes of its packs in the rows of its database.
use Rattle.std.specs.Prelude.{◌≡◌, Bool, ◌&&◌, if◌then◌else◌}
use Rattle.sqlite.specs.Tree.{Trees}
use Rattle.sqlite.specs.State.{State}
use Rattle.bh_shelf.specs.Contents.{Contents, Within}
use Rattle.bh_base.specs.Placed.{filled_trees, filled}

-- what packs have, of which rows may name the bytes
pub record Backing : Type 0 where
  -- of a transaction that is open
  pub seen : Contents
  -- it stands: a crash leaves it
  pub stood : Contents
  -- of the last commit
  pub kept : Contents
  -- no wrong answer of a pack's file was taken as true
  pub is_clean : Bool

-- what current rows may name, inside a transaction or outside
abbrev pub named : Backing → Bool → Contents
named packs inside = if inside then packs.seen else packs.kept

-- a crash may leave these trees of the database, with bytes from packs that a crash may leave
abbrev pub MayLeave : Backing → State → Trees → Type 0
MayLeave packs s trees = (left : Trees) × (c : Contents) × s.may_leave left × Within packs.stood c × (trees ≡ filled_trees c left)

-- the state as if all bytes stood in rows
abbrev pub shown : Backing → State → State
shown packs s = record s {
  now = filled (named packs s.in_transaction) s.now;
  committed = filled packs.kept s.committed;
  is_clean = s.is_clean && packs.is_clean;
  may_leave = MayLeave packs s;
}
