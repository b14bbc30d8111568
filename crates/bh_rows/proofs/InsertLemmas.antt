-- An INSERT of one row adds it at the end.
use Rattle.std.proofs.Common.{◌≡◌, ◌⊎◌, inl, inr, ℕ, ◌/◌, ℤ, pos, ◌+ℤ◌, List, [], ◌∷◌, ◌++◌, length, map, fold, cond, Bool, true, false, None, Some, slice_get, Ok, Err, Result, refl, sym, ap, subst, ◌∙◌}
use Rattle.std.specs.List.{AllByRecursion}
use Rattle.std.proofs.lemmas.List.{map-append}
use Rattle.sqlite.specs.declared.types.Value.TheVariants.{Null, Int}
use Rattle.sqlite.specs.Order.{Row}
use Rattle.sqlite.specs.Term.{Term}
use Rattle.sqlite.specs.Tree.{Trees, IsTable, rowid, put_row}
use Rattle.sqlite.specs.Table.{Table}
use Rattle.sqlite.specs.Schema.{Schema}
use Rattle.sqlite.specs.Kind.TheVariants.{Integer}
use Rattle.sqlite.specs.Cast.{cast, cast_all}
use Rattle.sqlite.specs.Ops.{unary}
use Rattle.sqlite.specs.Source.TheVariants.{Values}
use Rattle.sqlite.specs.Command.{Command}
use Rattle.sqlite.specs.Command.TheVariants.{Insert}
use Rattle.sqlite.specs.Rowids.TheVariants.{Chosen}
use Rattle.sqlite.specs.Edit.{Applies, edit_of, edited, id_in, next_rowid}
use Rattle.sqlite.specs.Effect.{Database, value_rows}
use Rattle.sqlite.specs.Rows.{Task, Written, stamped}
use Rattle.sqlite.specs.Does.{Tally, Does, OnRows, due}
use Rattle.sqlite.specs.State.{State, mode_of, Executes}
use Rattle.sqlite.proofs.Callers.{runs_as, one_step, statement_of}
use Rattle.sqlite.specs.Listing.{understood}
use Rattle.sqlite_schema.specs.Rules.{Refers}
use Rattle.sqlite_schema.specs.declared.schema.Keys.TheVariants.{Enforced}
use Rattle.sqlite_rules.proofs.ActionLemmas.{no_works}
use Rattle.sqlite_trees.proofs.TreeLemmas.{IsTable-put_row}
use Rattle.sqlite_keyed.specs.Keyed.{next_key}
use Rattle.sqlite_keyed.proofs.SliceLemmas.{insert_next}
use Rattle.sqlite_typed.proofs.RowLemmas.{puts-map}
use Rattle.bh_rows.specs.Means.{Means}
pub use Rattle.bh_rows.specs.Texts.{plainly}
use Rattle.bh_rows.specs.Form.{Form, AreRows, Entry, put, entries, typed}
use Rattle.bh_rows.proofs.FormLemmas.{stored, keyed}

-- ---- steps

either : {X : Type 0} (b : Bool) (x : X) → cond b x x ≡ x
either true x = refl
either false x = refl

-- a column keeps a NULL and an integer as they are
pub cast_null : cast Integer Null ≡ Null
unfolding unary
cast_null = either _ Null

pub cast_int : (n : ℤ) → cast Integer (Int n) ≡ Int n
unfolding unary
cast_int n = either _ (Int n)

-- a part that gave a value did not stop on the way
pub went : {B E R : Type 0} {b : B} {Stops : E → Type 0} → ((stop : E) × Stops stop × (Ok b ≡ Err stop)) ⊎ R → R
went (inl stopped) = absurd (let e = stopped.2 in cc)
went (inr on) = on

-- the value that a part gave
pub same_value : {B E : Type 0} {a b : B} → ◌≡◌ {A = Result B E} (Ok a) (Ok b) → a ≡ b
same_value e = cc

-- ---- the rows

next_rowid_is : {T : Type 0} (form : Form T) (es : List (Entry T)) (a : ℤ) → fold (λ _ r. id_in (rowid r) +ℤ pos 1) a (map (put form) es) ≡ fold (λ _ (e : Entry T). e.0 +ℤ pos 1) a es
next_rowid_is form [] a = refl
next_rowid_is form (e ∷ es) a = next_rowid_is form es (e.0 +ℤ pos 1)

-- a fact of each, and of one more
pub each_push : {X : Type 0} (P : X → Type 0) (xs : List X) (x : X) → AllByRecursion P xs → P x → AllByRecursion P (xs ++ x ∷ [])
each_push P [] x all h = (h, tt)
each_push P (y ∷ xs) x all h = (all.0, each_push P xs x all.1 h)

module _ {T : Type 0} (form : Form T) (rows : List Row) (held : AreRows form rows) (x : T) where
  -- the row with the next number
  abbrev pub added : Row
  added = Int (next_rowid rows) ∷ form.encode x

  -- which is the next number of the entries
  pub next_is : next_rowid rows ≡ next_key (λ (d : Entry T). d.0) (entries form rows)
  next_is = ap next_rowid (stored form rows held) ∙ next_rowid_is form (entries form rows) (pos 1)

  -- it comes last
  pub put_last : put_row added rows ≡ rows ++ added ∷ []
  put_last =
      let es = entries form rows in
      let is = stored form rows held in
      let e : Entry T = (next_rowid rows, x) in
      let next : next_rowid rows ≡ next_key (λ (d : Entry T). d.0) es = ap next_rowid is ∙ next_rowid_is form es (pos 1) in
      ap (put_row added) is ∙ puts-map (λ (d : Entry T). d.0) (put form) (λ _. refl) (e ∷ []) es
      ∙ ap (map (put form)) (insert_next (λ (d : Entry T). d.0) es e (keyed form rows held) next)
      ∙ map-append (put form) es (e ∷ []) ∙ ap (λ l. l ++ added ∷ []) (sym is)

  -- and so among the typed rows
  pub typed_last : typed form (rows ++ added ∷ []) ≡ typed form rows ++ x ∷ []
  typed_last = map-append form.decode rows (added ∷ []) ∙ ap (λ y. typed form rows ++ y ∷ []) (form.back (Int (next_rowid rows)) x)

  -- and the rows are rows still
  pub held_last : AreRows form (rows ++ added ∷ [])
  held_last = record {
    each = each_push _ rows added held.each (ap (λ y. Int (next_rowid rows) ∷ form.encode y) (sym (form.back (Int (next_rowid rows)) x)));
    rises = subst IsTable put_last (IsTable-put_row added rows held.rises);
  }

-- ---- the statement

-- what an INSERT leaves
pub record Inserts (schema : Schema) (table : Table) (source : Row) (old new : State) (next : Trees) : Type 0 where
  pub now : new.now ≡ record { schema = schema; trees = next }
  pub applies : Applies schema Enforced old.now.trees (edit_of old.now.trees (plainly table) [] Chosen 0 (source ∷ [])) next
  pub refers : Refers (due (mode_of old)) schema next

module _ (sql : List ℕ) (schema : Schema) (table : Table) (place : ℕ) (terms : List Term) (width parameters : ℕ)
    (means : Means schema sql (Insert place (Values terms width)) parameters) (is_table : slice_get schema.tables place ≡ Some (plainly table))
    (params source : Row) (gives : value_rows (stamped (plainly table) params) width (length terms / width) terms ≡ source ∷ [])
    (old new : State) (has : old.now.schema ≡ schema) where
  abbrev command : Command
  command = Insert place (Values terms width)

  abbrev task : Task
  task = record { limit = old.step_limit; keys = Enforced; schema = schema; table = plainly table; params = params }

  -- an INSERT that succeeds
  pub inserts : (count : ℕ) → Executes sql params old new (Ok count) → (next : Trees) × Inserts schema table source old new next
  inserts count h =
      let w = runs_as sql params old new schema has command means.is means.plain count h in
      let text = statement_of sql (understood schema sql) in
      let at_schema = subst (λ s. Does old.step_limit (mode_of old) params (record old.now { schema = s }) text None command (Ok (w.tally, new.now))) has w.changed in
      let ran : OnRows task (mode_of old) None command old.now.trees (Ok (w.tally, new.now)) = rw is_table at at_schema in
      let done = went ran in
      let tested = went done.2 in
      let told = went tested.2 in
      let now = ap (λ (p : Tally × Database). p.1) (same_value told.2) in
      let given = went done.1 in
      let counter = went given.2 in
      let wrote = went counter.2 in
      let counted = went wrote.2 in
      let trees : done.0.trees ≡ wrote.0 = ap (λ (it : Written). it.trees) (same_value counted.2) ∙ same_value counted.1 in
      let rows : given.0 ≡ source ∷ [] = given.1.1 ∙ gives in
      let edit = edit_of old.now.trees (plainly table) [] Chosen 0 in
      let applies = one_step schema Enforced old.now.trees wrote.0 (edit given.0) (no_works schema Enforced 0 table.tree (edit given.0).news) wrote.1 in (
        wrote.0,
        record {
          now = now ∙ ap (λ (t : Trees). record { schema = schema; trees = t }) trees;
          applies = subst (λ l. Applies schema Enforced old.now.trees (edit l) wrote.0) rows applies;
          refers = subst (Refers (due (mode_of old)) schema) trees tested.1.0;
        },
      )

  -- the rows of the table are those before, and this one
  module _ {T : Type 0} (form : Form T) (x : T) (columns : source ≡ Null ∷ form.encode x) (kept : cast_all table.columns (form.encode x) ≡ form.encode x) (held : AreRows form (old.now.trees table.tree)) where
    pub inserted_rows : (next : Trees) → Inserts schema table source old new next → next table.tree ≡ old.now.trees table.tree ++ added form (old.now.trees table.tree) held x ∷ []
    inserted_rows next it =
        let rows = it.applies.rows in
        let is : edited old.now.trees (edit_of old.now.trees (plainly table) [] Chosen 0 (source ∷ [])) ≡ put_row (added form (old.now.trees table.tree) held x) (old.now.trees table.tree) = rw (columns, cast_null, kept) in
        rows ∙ is ∙ put_last form (old.now.trees table.tree) held x
