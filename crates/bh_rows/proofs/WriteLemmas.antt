-- UPDATE and DELETE, from what `execute` says to the typed rows.
use Rattle.std.proofs.Common.{◌≡◌, ℕ, ◌^◌, nat_le, ℤ, List, [], ◌∷◌, map, filter, drop, Bool, true, false, None, Some, slice_get, Ok, refl, sym, ap, subst, subst₂, ◌∙◌}
use Rattle.std.specs.List.{list_all}
use Rattle.std.specs.List.Sorted.{IsPermutation}
use Rattle.std.proofs.lemmas.List.Sorted.{IsPermutation-map}
use Rattle.sqlite.specs.declared.types.Value.TheVariants.{Null, Int}
use Rattle.sqlite.specs.Order.{Row}
use Rattle.sqlite.specs.Term.{Term, holds, eval_all}
use Rattle.sqlite.specs.Query.{IsAnswer}
use Rattle.sqlite.specs.Program.{overlay}
use Rattle.sqlite.specs.Tree.{Trees, rowid, put_row}
use Rattle.sqlite.specs.Table.{Table}
use Rattle.sqlite.specs.Schema.{Schema}
use Rattle.sqlite.specs.Cast.{cast_all, cast_row}
use Rattle.sqlite.specs.Command.TheVariants.{Update, Delete}
use Rattle.sqlite.specs.Rowids.TheVariants.{Given}
use Rattle.sqlite.specs.Edit.{Edit, Applies, edit_of, taken_by, id_in, numbered}
use Rattle.sqlite.specs.Effect.{Database}
use Rattle.sqlite.specs.Rows.{Task, Written}
use Rattle.sqlite.specs.Does.{Tally, Does, OnRows, due}
use Rattle.sqlite.specs.State.{State, mode_of, Executes}
use Rattle.sqlite.specs.Listing.{understood}
use Rattle.sqlite.proofs.Callers.{runs_as, one_step, statement_of}
use Rattle.sqlite_schema.specs.Rules.{Refers}
use Rattle.sqlite_schema.specs.declared.program.Program.{Program}
use Rattle.sqlite_schema.specs.declared.schema.Keys.TheVariants.{Enforced}
use Rattle.sqlite_rules.specs.Action.{works, Writes}
use Rattle.sqlite_rules.specs.Calls.{ids_of}
use Rattle.sqlite_rules.specs.Lists.{Has}
use Rattle.sqlite_keyed.specs.Lists.{update_where, delete_where}
use Rattle.sqlite_keyed.proofs.ListLemmas.{map-map, map_same}
use Rattle.bh_rows.specs.Means.{Means}
use Rattle.bh_rows.specs.Form.{Form, AreRows, Entry, put, entries}
use Rattle.bh_rows.specs.Scan.{scan, no_limit}
use Rattle.bh_rows.proofs.ScanLemmas.{scanned_any}
use Rattle.bh_rows.proofs.InsertLemmas.{went, same_value, cast_int}
use Rattle.bh_rows.proofs.EditLemmas.{left_is, edited_is}
use Rattle.bh_rows.specs.Keys.{is_passive_schema, ignores_updates}
use Rattle.bh_rows.proofs.RestrictLemmas.{only_refusals, one_edit, update_works}

-- the statement is this edit
pub record Edits (schema : Schema) (edit : Edit) (old new : State) (next : Trees) : Type 0 where
  pub now : new.now ≡ record { schema = schema; trees = next }
  pub applies : Applies schema Enforced old.now.trees edit next
  pub refers : Refers (due (mode_of old)) schema next

numbered_given : (news rows : List Row) → numbered Given rows news ≡ news
numbered_given [] rows = refl
numbered_given (n ∷ news) rows = ap (λ l. n ∷ l) (numbered_given news (put_row n rows))

module _ (sql : List ℕ) (schema : Schema) (table : Table) (place : ℕ) (test show : List Term) (parameters : ℕ)
    (is_table : slice_get schema.tables place ≡ Some table) (params : Row) (old new : State) (has : old.now.schema ≡ schema) where
  abbrev program : Program
  program = record { lets = []; body = scan table.tree test show [] no_limit }

  abbrev task : Task
  task = record { limit = old.step_limit; keys = Enforced; schema = schema; table = table; params = params }

  abbrev as_delete : List Row → Edit
  as_delete rows = edit_of old.now.trees table (ids_of rows) Given 0 []

  abbrev as_update : List Row → Edit
  as_update rows = edit_of old.now.trees table (ids_of rows) Given 1 rows

  abbrev Is : List Row → Type 0
  Is rows = IsAnswer (scan table.tree test show [] no_limit) (overlay old.now.trees []) params rows

  -- a DELETE is its edit, where that has no step but its own
  deletes_by : Means schema sql (Delete place program) parameters → ((rows : List Row) (next : Trees) → Writes schema Enforced old.now.trees (as_delete rows) (Ok next) → Applies schema Enforced old.now.trees (as_delete rows) next)
      → (count : ℕ) → Executes sql params old new (Ok count) → (rows : List Row) × (next : Trees) × Is rows × Edits schema (as_delete rows) old new next
  deletes_by means alone count h =
      let command = Delete place program in
      let w = runs_as sql params old new schema has command means.is means.plain count h in
      let text = statement_of sql (understood schema sql) in
      let at_schema = subst (λ s. Does old.step_limit (mode_of old) params (record old.now { schema = s }) text None command (Ok (w.tally, new.now))) has w.changed in
      let ran : OnRows task (mode_of old) None command old.now.trees (Ok (w.tally, new.now)) = rw is_table at at_schema in
      let done = went ran in
      let tested = went done.2 in
      let told = went tested.2 in
      let now = ap (λ (p : Tally × Database). p.1) (same_value told.2) in
      let found = went done.1 in
      let wrote = went found.2 in
      let trees : done.0.trees ≡ wrote.0 = ap (λ (it : Written). it.trees) (same_value wrote.2) in (
        found.0,
        wrote.0,
        found.1.answer Null,
        record {
          now = now ∙ ap (λ (t : Trees). record { schema = schema; trees = t }) trees;
          applies = alone found.0 wrote.0 wrote.1;
          refers = subst (Refers (due (mode_of old)) schema) trees tested.1.0;
        },
      )

  -- where no foreign key acts on it
  pub deletes : Means schema sql (Delete place program) parameters → ((rows : List Row) → works schema Enforced 0 table.tree (taken_by old.now.trees (as_delete rows)) [] ≡ [])
      → (count : ℕ) → Executes sql params old new (Ok count) → (rows : List Row) × (next : Trees) × Is rows × Edits schema (as_delete rows) old new next
  deletes means quiet = deletes_by means (λ rows next wrote. one_step schema Enforced old.now.trees next (as_delete rows) (quiet rows) wrote)

  -- where each foreign key of the schema is RESTRICT or NO ACTION, whatever points to the table
  pub deletes_passive : Means schema sql (Delete place program) parameters → is_passive_schema schema ≡ true
      → (count : ℕ) → Executes sql params old new (Ok count) → (rows : List Row) × (next : Trees) × Is rows × Edits schema (as_delete rows) old new next
  deletes_passive means passive = deletes_by means (λ rows next wrote. one_edit schema old.now.trees next (as_delete rows) (only_refusals schema table.tree _ passive) wrote)

  -- where no foreign key acts on it
  pub updates : Means schema sql (Update place program) parameters → ((rows : List Row) → works schema Enforced 0 table.tree (taken_by old.now.trees (as_update rows)) (as_update rows).news ≡ [])
      → (count : ℕ) → Executes sql params old new (Ok count) → (rows : List Row) × (next : Trees) × Is rows × Edits schema (as_update rows) old new next
  updates means quiet count h =
      let command = Update place program in
      let w = runs_as sql params old new schema has command means.is means.plain count h in
      let text = statement_of sql (understood schema sql) in
      let at_schema = subst (λ s. Does old.step_limit (mode_of old) params (record old.now { schema = s }) text None command (Ok (w.tally, new.now))) has w.changed in
      let ran : OnRows task (mode_of old) None command old.now.trees (Ok (w.tally, new.now)) = rw is_table at at_schema in
      let done = went ran in
      let tested = went done.2 in
      let told = went tested.2 in
      let now = ap (λ (p : Tally × Database). p.1) (same_value told.2) in
      let found = went done.1 in
      let wrote = went found.2 in
      let trees : done.0.trees ≡ wrote.0 = ap (λ (it : Written). it.trees) (same_value wrote.2) in (
        found.0,
        wrote.0,
        found.1.answer Null,
        record {
          now = now ∙ ap (λ (t : Trees). record { schema = schema; trees = t }) trees;
          applies = one_step schema Enforced old.now.trees wrote.0 (as_update found.0) (quiet found.0) wrote.1;
          refers = subst (Refers (due (mode_of old)) schema) trees tested.1.0;
        },
      )

  -- where no foreign key of the schema acts on an UPDATE
  pub updates_quiet : Means schema sql (Update place program) parameters → ignores_updates schema ≡ true
      → (count : ℕ) → Executes sql params old new (Ok count) → (rows : List Row) × (next : Trees) × Is rows × Edits schema (as_update rows) old new next
  updates_quiet means ignores = updates means (λ rows. update_works schema old.now.trees table ignores rows)

  -- ---- the typed rows

  module _ {T : Type 0} (form : Form T) (low : nat_le (2 ^ 31) table.tree ≡ false) (held : AreRows form (old.now.trees table.tree))
      (m : T → Bool) (tests : (id : ℤ) (x : T) → list_all (holds (params ∷ (Int id ∷ form.encode x) ∷ [])) test ≡ m x) where
    abbrev was : List Row
    was = old.now.trees table.tree

    abbrev hits : List (Entry T)
    hits = filter (λ (e : Entry T). m e.1) (entries form was)

    found_any : (view : Entry T → Row) → ((e : Entry T) → Has hits e → eval_all show (params ∷ put form e ∷ []) ≡ view e) → (rows : List Row) → Is rows → IsPermutation (map view hits) rows
    found_any view shows rows h =
        let at_tree : overlay old.now.trees [] table.tree ≡ was = rw low in
        subst (λ l. IsPermutation (map view (filter (λ (e : Entry T). m e.1) (entries form l))) rows) at_tree
        (scanned_any form table.tree (overlay old.now.trees []) (subst (AreRows form) (sym at_tree) held) test show [] params m tests view
        (λ e there. shows e (subst (λ l. Has (filter (λ (d : Entry T). m d.1) (entries form l)) e) at_tree there)) rows h)

    -- the numbers of the rows that are found
    pub deleted_ids : ((id : ℤ) (x : T) → eval_all show (params ∷ (Int id ∷ form.encode x) ∷ []) ≡ Int id ∷ []) → (rows : List Row) → Is rows → IsPermutation (map (λ (e : Entry T). e.0) hits) (ids_of rows)
    deleted_ids shows rows is =
        subst (λ l. IsPermutation l (ids_of rows)) (map-map (λ r. id_in (rowid r)) (λ (e : Entry T). Int e.0 ∷ []) hits) (IsPermutation-map (λ r. id_in (rowid r)) _ _ (found_any (λ e. Int e.0 ∷ []) (λ e there. shows e.0 e.1) rows is))

    -- the rows that a DELETE leaves
    pub deleted_rows : ((id : ℤ) (x : T) → eval_all show (params ∷ (Int id ∷ form.encode x) ∷ []) ≡ Int id ∷ []) → (rows : List Row) (next : Trees) → Is rows → Edits schema (as_delete rows) old new next
        → next table.tree ≡ map (put form) (delete_where (λ (e : Entry T). m e.1) (entries form was))
    deleted_rows shows rows next is it = it.applies.rows ∙ left_is form was held m (ids_of rows) (deleted_ids shows rows is)

    module _ (f : T → T) (kept : (x : T) → cast_all table.columns (form.encode x) ≡ form.encode x)
        (shows : (e : Entry T) → Has hits e → eval_all show (params ∷ put form e ∷ []) ≡ Int e.0 ∷ Int e.0 ∷ form.encode (f e.1)) where
      -- the numbers of the rows that are found
      pub updated_ids : (rows : List Row) → Is rows → IsPermutation (map (λ (e : Entry T). e.0) hits) (ids_of rows)
      updated_ids rows is =
          subst (λ l. IsPermutation l (ids_of rows)) (map-map (λ r. id_in (rowid r)) (λ (e : Entry T). Int e.0 ∷ Int e.0 ∷ form.encode (f e.1)) hits)
          (IsPermutation-map (λ r. id_in (rowid r)) _ _ (found_any (λ e. Int e.0 ∷ Int e.0 ∷ form.encode (f e.1)) shows rows is))

      -- the rows that are put back
      pub updated_news : (rows : List Row) → Is rows → IsPermutation (map (λ (e : Entry T). put form (e.0, f e.1)) hits) (as_update rows).news
      updated_news rows is =
          let news : (as_update rows).news ≡ map (λ s. cast_row table (drop 1 s)) rows = numbered_given _ _ in
          let cast_is : (e : Entry T) → cast_row table (Int e.0 ∷ form.encode (f e.1)) ≡ put form (e.0, f e.1) = λ e. rw (cast_int, kept) in
          subst₂ (λ xs ys. IsPermutation xs ys)
          (map-map (λ s. cast_row table (drop 1 s)) (λ (e : Entry T). Int e.0 ∷ Int e.0 ∷ form.encode (f e.1)) hits ∙ map_same _ (λ e. put form (e.0, f e.1)) cast_is hits) (sym news)
          (IsPermutation-map (λ s. cast_row table (drop 1 s)) _ _ (found_any (λ e. Int e.0 ∷ Int e.0 ∷ form.encode (f e.1)) shows rows is))

      -- the rows that an UPDATE leaves
      pub updated_rows : (rows : List Row) (next : Trees) → Is rows → Edits schema (as_update rows) old new next
          → next table.tree ≡ map (put form) (update_where (λ (e : Entry T). m e.1) (λ e. (e.0, f e.1)) (entries form was))
      updated_rows rows next is it = it.applies.rows ∙ edited_is form was held m f (ids_of rows) _ (updated_ids rows is) (updated_news rows is) it.applies.fresh
