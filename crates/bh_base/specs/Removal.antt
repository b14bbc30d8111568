-- Packs that no place names.
use Rattle.std.specs.Prelude.{◌≡◌, ◌≢◌, ◌⊎◌, ℕ, Bool, false, pos, List, [], ◌∷◌, Some, Result, OnOk}
use Rattle.std.specs.Ordering.{int_eq}
use Rattle.sqlite.specs.declared.types.Value.TheVariants.{Int}
use Rattle.sqlite.specs.Effect.{Database}
use Rattle.sqlite.specs.Order.{Row, column}
use Rattle.sqlite.specs.State.{State}
use Rattle.sqlite_catalog.specs.Listing.{Lists}
use Rattle.sqlite_rules.specs.Lists.{Has}
use Rattle.sqlite_trees.specs.Objects.{catalog_tree}
use Rattle.sqlite_trees.specs.declared.store.Store.{Ghosts}
use Rattle.bh_shelf.specs.declared.shelf.Shelf.{Ghosts as Shelves}
use Rattle.bh_shelf.specs.Contents.{HasNothing}
use Rattle.bh_tables.specs.Bodies.{block_name}
use Rattle.bh_tables.specs.Packs.{place_at}
use Rattle.bh_tables.specs.Rows.{number, BlockRow, PlaceRow, PackRow}
use Rattle.bh_tables.specs.Typed.{IsHost, Tables, tables_in}
use Rattle.bh_base.specs.declared.connection.Connection.{Connection}
use Rattle.bh_base.specs.Calls.{WritesOn}
use Rattle.bh_base.specs.Connections.{IsClean, Rewrites, places, rows_of_blocks, contents}
use Rattle.bh_base.specs.Layer.{Standing, IsIntact, IsOpen, Leaves}

-- its row says that places name none of its bytes
abbrev pub is_idle : PackRow → Bool
is_idle p = int_eq (pos p.live) (pos 0)

abbrev pub shown_number : PackRow → Row
shown_number p = number p.pack ∷ []

-- the shelf has nothing of a pack
abbrev pub IsGone : {P : Type 0} → Shelves P → P → ℕ → Type 0
IsGone h shelf pack = HasNothing (h.seen shelf) pack

module _ {S P : Type 0} (g : Ghosts S) (h : Shelves P) where
  -- no place of the current rows is in a pack
  abbrev pub IsUnnamed : Connection S P → ℕ → Type 0
  IsUnnamed c pack = (p : PlaceRow) → Has (places g h c) p → p.pack ≢ pack

  -- nor in one whose number these rows have
  abbrev pub AreUnnamed : Connection S P → List Row → Type 0
  AreUnnamed c rows = (row : Row) → Has rows row → (pack : ℕ) → column row 0 ≡ Int (pos pack) → IsUnnamed c pack

  -- packs have the bytes that they had at the place of each block
  abbrev pub KeepsBytes : Connection S P → Connection S P → Type 0
  KeepsBytes old new = (b : BlockRow) → Has (rows_of_blocks g h old) b → (p : PlaceRow) → place_at (places g h old) (block_name b) ≡ Some p
      → contents g h new p.pack p.offset p.size ≡ contents g h old p.pack p.offset p.size

  -- a step of a write after which no place is in the packs of these rows, and all is shown as before
  pub record Frees {A E : Type 0} (old new : Connection S P) (rows : List Row) (result : Result A E) : Type 0 where
    pub writes : WritesOn g h old new result
    pub rewrites : OnOk result (Rewrites g h old new (λ sums. sums) (λ tables. tables))
    pub places : OnOk result (IsClean g h new → places g h new ≡ places g h old)
    pub unnamed : OnOk result (IsClean g h new → AreUnnamed new rows)

-- no transaction is open on a host's database, which was committed
pub record IsAtRest (x : Standing) : Type 0 where
  pub outside : x.inside ≡ false
  pub settled : x.now ≡ x.kept
  pub host : IsHost x.now

-- nor is one afterwards, and its tables are the same: each block has the bytes that it had
pub record RestsAgain (old new : Standing) : Type 0 where
  pub rest : IsAtRest new
  pub tables : tables_in new.now ≡ tables_in old.now

-- what a crash may leave was possible before; or the connection was open, and it is a host's database with these tables
abbrev pub LeavesTables : Tables → State → State → Type 0
LeavesTables tables old new = IsIntact new → (db : Database) → Leaves new db.trees → Lists (db.trees catalog_tree) db.schema
    → Leaves old db.trees ⊎ (IsOpen old × IsHost db × (tables_in db ≡ tables))
