-- Facts about the counts of uses within a write, about the name of a new block, and about sizes.
use Rattle.std.specs.Prelude.{◌≡◌, ℕ, ◌≤◌, pos, true, false, List, [], ◌∷◌, ◌++◌, filter, length, int_lt}
use Rattle.std.specs.List.{list_any, AllByRecursion}
use Rattle.sqlite.specs.Order.{Row}
use Rattle.bh_tables.specs.Typed.{Totals, UseRow, RefRow, BlockRow, Tables, is_named, lowered_by, totals_of}
use Rattle.bh_tables.specs.Garbage.{HasUses}
use Rattle.bh_tables.specs.Shown.{Name, ref_name, is_block, is_use, is_unreferenced, shown_ref, shown_name}
use Rattle.bh_base.specs.Layer.{Standing, IsInsideBy}

-- no block has the name, and no reference names it
pub record IsNewName (q : Name) (tables : Tables) : Type 0 where
  pub free : list_any (is_block q) tables.blocks ≡ false
  pub unused : list_any (is_use q) tables.refs ≡ false

-- each count of a block of this name is above 0
abbrev pub IsCounted : Name → List UseRow → Type 0
IsCounted q uses = AllByRecursion (λ u. is_named q u ≡ true → int_lt (pos 0) u.uses ≡ true) uses

-- within a write: each count of a block of this name is above 0
abbrev pub IsUsed : Name → Standing → Type 0
IsUsed q x = (sums : Totals) → IsInsideBy sums x → IsCounted q sums.uses

-- within a write: the block of each of these references is in use, after those before it are
-- subtracted
abbrev pub AreUsed : List RefRow → Standing → Type 0
AreUsed rs x = (sums : Totals) → IsInsideBy sums x → (before after : List RefRow) (r : RefRow) → rs ≡ before ++ r ∷ after
    → IsCounted (ref_name r) (lowered_by before sums.uses)

abbrev pub size_of : BlockRow → ℕ
size_of b = length b.bytes

-- the one block of a name, if it is one, has so many bytes
abbrev pub IsSize : Name → ℕ → List BlockRow → Type 0
IsSize q size blocks = (b : BlockRow) → filter (is_block q) blocks ≡ b ∷ [] → size ≡ length b.bytes

-- one block has this name, and some reference names it
pub record IsInUse (q : Name) (tables : Tables) : Type 0 where
  pub uses : ℕ
  pub some : 1 ≤ uses
  pub counted : HasUses q uses (totals_of tables).uses

-- a row shows a reference that has the size of its block
abbrev pub IsShownRight : Row → List BlockRow → Type 0
IsShownRight row blocks = (r : RefRow) × ((row ≡ shown_ref r) × IsSize (ref_name r) r.size blocks)

-- and one the name of a block that no reference names
abbrev pub IsShownUnused : Row → List RefRow → Type 0
IsShownUnused row refs = (b : BlockRow) × ((row ≡ shown_name b) × (is_unreferenced refs b ≡ true))
