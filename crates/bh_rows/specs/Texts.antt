-- A program's SQL statements, by kind: the result of parsing each, and a write's effect on its
-- table.
use Rattle.std.specs.Prelude.{◌≡◌, ◌≢◌, ℕ, ◌/◌, ◌^◌, nat_le, ℤ, pos, Bool, true, false, List, [], ◌∷◌, length, map, filter, Some, slice_get}
use Rattle.std.specs.Prelude.{IsTrue}
use Rattle.std.specs.declared.cmp.Ordering.{Ordering}
use Rattle.std.specs.List.{AllByRecursion, list_any, list_all}
use Rattle.std.specs.Ordering.{int_cmp, ordering_then}
use Rattle.sqlite.specs.declared.types.Value.TheVariants.{Null, Int}
use Rattle.sqlite.specs.Order.{Row, column}
use Rattle.sqlite.specs.Term.{Term, col, eval, eval_all, holds}
use Rattle.sqlite.specs.Tree.{Trees}
use Rattle.sqlite.specs.Table.{Table}
use Rattle.sqlite.specs.Schema.{Schema}
use Rattle.sqlite.specs.Cast.{cast_all}
use Rattle.sqlite.specs.Query.{output, output_cmp}
use Rattle.sqlite.specs.Source.TheVariants.{Values}
use Rattle.sqlite.specs.Command.TheVariants.{Select, Insert, Update, Delete}
use Rattle.sqlite.specs.Edit.{next_rowid}
use Rattle.sqlite.specs.Effect.{value_rows}
use Rattle.sqlite.specs.Rows.{stamped}
use Rattle.sqlite.specs.State.{State, HasCleanDisk}
use Rattle.sqlite_typing.specs.Types.{accepts_program, accepts_terms}
use Rattle.sqlite_value.specs.declared.keys.Key.{Key}
use Rattle.sqlite_schema.specs.declared.schema.Index.{Index}
use Rattle.sqlite_schema.specs.Rules.{agree, guards, has_parent}
use Rattle.bh_rows.specs.Form.{Form, AreRows, Entry, put, typed}
use Rattle.bh_rows.specs.Keys.{Suits, watched, are_apart, are_fit, is_passive_schema, ignores_updates}
use Rattle.bh_rows.specs.Means.{Means}
use Rattle.bh_rows.specs.Scan.{scan, no_limit, by_rowid, counting, summing}

-- the table, with no AUTOINCREMENT and no default that reads the time
abbrev pub plainly : Table → Table
plainly t = record t { is_counted = false; stamps = record { places = []; terms = []; formats = [] } }

-- each table has a tree of its own, and each foreign key is RESTRICT or NO ACTION
pub record IsOrderly (schema : Schema) : Type 0 where
  pub apart : are_apart schema.tables ≡ true
  pub passive : is_passive_schema schema ≡ true
  pub ignores : ignores_updates schema ≡ true

-- a table of the schema, whose columns store the typed rows unchanged
pub record IsTableOf {T : Type 0} (form : Form T) (schema : Schema) (place : ℕ) (table : Table) : Type 0 where
  pub is_table : slice_get schema.tables place ≡ Some table
  pub plain : plainly table ≡ table
  pub low : nat_le (2 ^ 31) table.tree ≡ false
  pub kept : (x : T) → cast_all table.columns (form.encode x) ≡ form.encode x
  pub fit : are_fit schema table ≡ true

module _ {T : Type 0} (form : Form T) (schema : Schema) where
  -- the database has the schema, and this tree has typed rows
  abbrev pub IsReadyAt : ℕ → State → Type 0
  IsReadyAt tree s = HasCleanDisk s → IsTrue s.is_open → (s.now.schema ≡ schema) × AreRows form (s.now.trees tree)

  -- one table has these typed rows afterwards, and the others are unchanged
  pub record Leaves (tree : ℕ) (old new : State) (after : List T) : Type 0 where
    pub next : Trees
    pub now : new.now ≡ record { schema = schema; trees = next }
    pub others : AllByRecursion (λ (t : Table). t.tree ≢ tree → next t.tree ≡ old.now.trees t.tree) schema.tables
    pub held : AreRows form (next tree)
    pub rows : typed form (next tree) ≡ after

  -- no row has the new row's key under a unique index
  abbrev pub AreFree : Table → List Row → Row → Type 0
  AreFree table rows new = AllByRecursion (λ (i : Index). list_any (λ other. agree i.order i.columns other i.columns new) rows ≡ false)
      (filter (λ i. guards i table) schema.indexes)

  -- nothing forbids the row as the next one: no column and no CHECK, no key, no missing parent
  pub record MayAdd (table : Table) (db : Trees) (x : T) : Type 0 where
    pub suits : Suits table (put form (next_rowid (db table.tree), x))
    pub free : AreFree table (db table.tree) (put form (next_rowid (db table.tree), x))
    pub parents : list_all (has_parent schema.tables db (put form (next_rowid (db table.tree), x))) table.references ≡ true

  -- a row that passes the test also fits the table after the change, which sets no column that a
  -- key depends on
  pub record MayChange (table : Table) (m : T → Bool) (f : T → T) : Type 0 where
    pub suits : (id : ℤ) (y : T) → m y ≡ true → Suits table (put form (id, y)) → Suits table (put form (id, f y))
    pub unwatched : (id : ℤ) (y : T) → m y ≡ true → map (column (put form (id, f y))) (watched schema table)
        ≡ map (column (put form (id, y))) (watched schema table)

  -- ---- writes

  -- INSERT of this row
  pub record InsertText (place : ℕ) (table : Table) (sql : List ℕ) (params : Row) (x : T) : Type 0 where
    pub terms : List Term
    pub width : ℕ
    pub means : Means schema sql (Insert place (Values terms width)) (length params)
    pub gives : value_rows (stamped (plainly table) params) width (length terms / width) terms ≡ (Null ∷ form.encode x) ∷ []
    pub accepts : accepts_terms terms (stamped (plainly table) params) ≡ true

  -- UPDATE of the rows that pass a test; the new value may depend on a row that passes the table's
  -- own tests
  pub record UpdateText (place : ℕ) (table : Table) (sql : List ℕ) (params : Row) (m : T → Bool) (f : T → T) : Type 0 where
    pub test : List Term
    pub show : List Term
    pub means : Means schema sql (Update place (record { lets = []; body = scan table.tree test show [] no_limit })) (length params)
    pub accepts : accepts_program schema [] (scan table.tree test show [] no_limit) params ≡ true
    pub tests : (id : ℤ) (y : T) → list_all (holds (params ∷ (Int id ∷ form.encode y) ∷ [])) test ≡ m y
    pub shows : (id : ℤ) (y : T) → m y ≡ true → Suits table (put form (id, y)) → eval_all show (params ∷ (Int id ∷ form.encode y) ∷ [])
        ≡ Int id ∷ Int id ∷ form.encode (f y)

  -- DELETE of the rows that pass a test
  pub record DeleteText (place : ℕ) (table : Table) (sql : List ℕ) (params : Row) (m : T → Bool) : Type 0 where
    pub test : List Term
    pub means : Means schema sql (Delete place (record { lets = []; body = scan table.tree test (col 1 0 ∷ []) [] no_limit }))
        (length params)
    pub accepts : accepts_program schema [] (scan table.tree test (col 1 0 ∷ []) [] no_limit) params ≡ true
    pub tests : (id : ℤ) (y : T) → list_all (holds (params ∷ (Int id ∷ form.encode y) ∷ [])) test ≡ m y

  -- ---- queries, of the table in this tree

  -- SELECT .. ORDER BY rowid, up to a limit
  pub record SelectText (tree : ℕ) (sql : List ℕ) (params : Row) (m : T → Bool) (view : T → Row) (limit : Term) : Type 0 where
    pub test : List Term
    pub show : List Term
    pub names : List (List ℕ)
    pub means : Means schema sql (Select (record { lets = []; body = scan tree test show by_rowid limit }) names) (length params)
    pub low : nat_le (2 ^ 31) tree ≡ false
    pub accepts : accepts_program schema [] (scan tree test show by_rowid limit) params ≡ true
    pub tests : (id : ℤ) (y : T) → list_all (holds (params ∷ (Int id ∷ form.encode y) ∷ [])) test ≡ m y
    pub shows : (id : ℤ) (y : T) → eval_all show (params ∷ (Int id ∷ form.encode y) ∷ []) ≡ view y

  -- SELECT .. ORDER BY columns and then rowid, up to a limit
  pub record SortedText (tree : ℕ) (sql : List ℕ) (params : Row) (m : T → Bool) (view : T → Row) (order : T → T → Ordering) (limit : Term) :
      Type 0 where
    pub test : List Term
    pub show : List Term
    pub keys : List (Term × Key)
    pub names : List (List ℕ)
    pub means : Means schema sql (Select (record { lets = []; body = scan tree test show keys limit }) names) (length params)
    pub low : nat_le (2 ^ 31) tree ≡ false
    pub accepts : accepts_program schema [] (scan tree test show keys limit) params ≡ true
    pub tests : (id : ℤ) (y : T) → list_all (holds (params ∷ (Int id ∷ form.encode y) ∷ [])) test ≡ m y
    pub shows : (id : ℤ) (y : T) → eval_all show (params ∷ (Int id ∷ form.encode y) ∷ []) ≡ view y
    pub orders : (a b : Entry T) → output_cmp (scan tree test show keys limit)
        (output (scan tree test show keys limit) (params ∷ put form a ∷ []))
        (output (scan tree test show keys limit) (params ∷ put form b ∷ [])) ≡ ordering_then (order a.1 b.1) (int_cmp a.0 b.0)

  -- SELECT count(*)
  pub record CountText (tree : ℕ) (sql : List ℕ) (params : Row) (m : T → Bool) : Type 0 where
    pub test : List Term
    pub names : List (List ℕ)
    pub means : Means schema sql (Select (record { lets = []; body = counting tree test }) names) (length params)
    pub low : nat_le (2 ^ 31) tree ≡ false
    pub accepts : accepts_program schema [] (counting tree test) params ≡ true
    pub tests : (id : ℤ) (y : T) → list_all (holds (params ∷ (Int id ∷ form.encode y) ∷ [])) test ≡ m y

  -- SELECT coalesce(sum(COLUMN), 0)
  pub record SumText (tree : ℕ) (sql : List ℕ) (params : Row) (m : T → Bool) (size : T → ℕ) : Type 0 where
    pub test : List Term
    pub argument : Term
    pub names : List (List ℕ)
    pub means : Means schema sql (Select (record { lets = []; body = summing tree test argument }) names) (length params)
    pub low : nat_le (2 ^ 31) tree ≡ false
    pub accepts : accepts_program schema [] (summing tree test argument) params ≡ true
    pub tests : (id : ℤ) (y : T) → list_all (holds (params ∷ (Int id ∷ form.encode y) ∷ [])) test ≡ m y
    pub reads : (id : ℤ) (y : T) → eval argument (params ∷ (Int id ∷ form.encode y) ∷ []) ≡ Int (pos (size y))
