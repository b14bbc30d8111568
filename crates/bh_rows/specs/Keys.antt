-- The columns that a schema's keys depend on, and which edits don't affect them.
use Rattle.std.specs.Prelude.{◌≡◌, ◌==◌, ℕ, Bool, true, false, if◌then◌else◌, List, [], ◌∷◌, ◌++◌, filter, flat_map, drop, not, ◌&&◌}
use Rattle.std.specs.Prelude.{Option, Some, None}
use Rattle.std.specs.List.{AllByRecursion, list_any, list_all}
use Rattle.sqlite.specs.Order.{Row}
use Rattle.sqlite.specs.Tree.{Trees}
use Rattle.sqlite.specs.Table.{Table}
use Rattle.sqlite.specs.Schema.{Schema}
use Rattle.sqlite_value.specs.declared.keys.Order.{Order}
use Rattle.sqlite_schema.specs.declared.schema.Action.{Action}
use Rattle.sqlite_schema.specs.declared.schema.Action.TheVariants.{NoAction, Restrict, Cascade, SetNull, SetDefault}
use Rattle.sqlite_schema.specs.declared.schema.Index.{Index}
use Rattle.sqlite_schema.specs.declared.schema.Reference.{Reference}
use Rattle.sqlite_schema.specs.Rules.{agree, guards, ParentKey, parent_key, are_typed, has_computed, are_present, passes_checks}
use Rattle.sqlite_schema.specs.Rules.{references_fit}

-- the action writes nothing: it refuses, or there is none
abbrev pub is_passive : Action → Bool
is_passive NoAction = true
is_passive Restrict = true
is_passive Cascade = false
is_passive SetNull = false
is_passive SetDefault = false

-- there is no action
abbrev pub is_none : Action → Bool
is_none NoAction = true
is_none Restrict = false
is_none Cascade = false
is_none SetNull = false
is_none SetDefault = false

-- no foreign key writes when a row is deleted
abbrev pub is_passive_schema : Schema → Bool
is_passive_schema schema = list_all (λ t. list_all (λ ref. is_passive ref.on_delete) t.references) schema.tables

-- and none acts when one is updated
abbrev pub ignores_updates : Schema → Bool
ignores_updates schema = list_all (λ t. list_all (λ ref. is_none ref.on_update) t.references) schema.tables

-- a reference to the tree, from these columns of the child to these places
pub record Pointer : Type 0 where
  pub child : ℕ
  pub columns : List ℕ
  pub places : List ℕ
  pub order : Order

-- the pointer of one reference, if it is to the tree
abbrev pub pointer_at : ℕ → ℕ → List ℕ → Option ParentKey → List Pointer
pointer_at tree child columns None = []
pointer_at tree child columns (Some key) =
    if key.0 == tree then record { child = child; columns = columns; places = key.1; order = key.2 } ∷ [] else []

-- the references to the tree, of all tables
abbrev pub pointers : Schema → ℕ → List Pointer
pointers schema tree = flat_map (λ (t : Table). flat_map (λ (ref : Reference). pointer_at tree t.tree ref.columns
    (parent_key schema.tables ref)) t.references) schema.tables

-- the row points to this row of the tree
abbrev pub points_at : Pointer → Row → Row → Bool
points_at p row old = agree p.order p.columns row p.places old

-- no row of any table points to one of these rows of the tree
abbrev pub AreUnused : Schema → Trees → ℕ → List Row → Type 0
AreUnused schema db tree olds =
    AllByRecursion (λ p. list_any (λ row. list_any (points_at p row) olds) (db p.child) ≡ false) (pointers schema tree)

-- the columns of the unique indexes of a table
abbrev pub indexed_places : Schema → Table → List ℕ
indexed_places schema table = flat_map (λ (i : Index). i.columns) (filter (λ i. guards i table) schema.indexes)

-- those of its references
abbrev pub referring_places : Table → List ℕ
referring_places table = flat_map (λ (ref : Reference). ref.columns) table.references

-- and those that references to it point to
abbrev pub pointed_places : Schema → Table → List ℕ
pointed_places schema table = flat_map (λ (p : Pointer). p.places) (pointers schema table.tree)

-- the columns of the table that a unique index, its references or references to it depend on
abbrev pub watched : Schema → Table → List ℕ
watched schema table = indexed_places schema table ++ (referring_places table ++ pointed_places schema table)

-- the row passes the table's own tests: types, NOT NULL and CHECK
pub record Suits (table : Table) (row : Row) : Type 0 where
  pub typed : (are_typed table.key 0 table.columns (drop 1 row) && has_computed table row) ≡ true
  pub present : are_present table.key 0 table.columns row ≡ true
  pub checked : passes_checks table row ≡ true

-- no two tables have the same tree
abbrev pub are_apart : List Table → Bool
are_apart [] = true
are_apart (t ∷ ts) = list_all (λ u. not (t.tree == u.tree)) ts && are_apart ts

-- each key of the table, and each key of another table to it, has a valid target
abbrev pub are_fit : Schema → Table → Bool
are_fit schema table = references_fit schema table true true
