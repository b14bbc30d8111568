-- Why an UPDATE or a DELETE may be refused.
use Rattle.std.proofs.Common.{◌≡◌, ◌⊎◌, inl, inr, ℕ, List, [], true, true≢false, Option, None, Some, option_map, slice_get, Ok, Err, sym, ap, subst, ◌∙◌}
use Rattle.sqlite.specs.declared.types.Value.TheVariants.{Null}
use Rattle.sqlite.specs.Order.{Row}
use Rattle.sqlite.specs.Term.{Term}
use Rattle.sqlite.specs.Query.{IsAnswer}
use Rattle.sqlite.specs.Program.{overlay}
use Rattle.sqlite.specs.Tree.{Trees}
use Rattle.sqlite.specs.Table.{Table}
use Rattle.sqlite.specs.Schema.{Schema}
use Rattle.sqlite.specs.Command.TheVariants.{Update, Delete}
use Rattle.sqlite.specs.Rowids.TheVariants.{Given}
use Rattle.sqlite.specs.Edit.{Edit, edit_of}
use Rattle.sqlite.specs.Effect.{edit_error, RefusesQuery}
use Rattle.sqlite.specs.Rows.{Task, Written}
use Rattle.sqlite.specs.Does.{Does, OnRows, due}
use Rattle.sqlite.specs.State.{State, mode_of}
use Rattle.sqlite.specs.declared.error.Error.{Error}
use Rattle.sqlite_typing.specs.Types.{accepts_program}
use Rattle.sqlite_schema.specs.Rules.{Refers}
use Rattle.sqlite_schema.specs.declared.program.Program.{Program}
use Rattle.sqlite_schema.specs.declared.schema.Keys.TheVariants.{Enforced}
use Rattle.sqlite_rules.specs.declared.error.Refusal.{Refusal}
use Rattle.sqlite_rules.specs.Action.{Writes}
use Rattle.sqlite_rules.specs.Calls.{ids_of}
use Rattle.bh_rows.specs.Scan.{scan, no_limit}
use Rattle.bh_rows.proofs.ScanLemmas.{no_overflow}
use Rattle.bh_rows.proofs.InsertLemmas.{went, same_value}
use Rattle.bh_rows.proofs.RefusedLemmas.{stopped}

module _ (schema : Schema) (table : Table) (place : ℕ) (test show : List Term) (is_table : slice_get schema.tables place ≡ Some table)
    (params : Row) (accepts : accepts_program schema [] (scan table.tree test show [] no_limit) params ≡ true) (old : State) (unlimited : old.step_limit ≡ None) where
  abbrev program : Program
  program = record { lets = []; body = scan table.tree test show [] no_limit }

  abbrev task : Task
  task = record { limit = old.step_limit; keys = Enforced; schema = schema; table = table; params = params }

  abbrev db : Trees
  db = old.now.trees

  -- the edit of a DELETE of these rows, and of an UPDATE
  abbrev pub as_delete : List Row → Edit
  as_delete rows = edit_of db table (ids_of rows) Given 0 []

  abbrev pub as_update : List Row → Edit
  as_update rows = edit_of db table (ids_of rows) Given 1 rows

  -- the edit of the rows that were found is refused, or breaks a foreign key
  abbrev pub Cause : (List Row → Edit) → Error → Type 0
  Cause edit e = (rows : List Row) × IsAnswer (scan table.tree test show [] no_limit) (overlay db []) params rows
      × (((r : Refusal) × Writes schema Enforced db (edit rows) (Err (Some r)) × (e ≡ edit_error r)) ⊎ ((next : Trees) × Writes schema Enforced db (edit rows) (Ok next) × ¬ Refers (due (mode_of old)) schema next))

  -- the query itself is not refused
  never_refused : (e : Error) → RefusesQuery old.step_limit (record { schema = schema; trees = db }) program params e → ⊥
  never_refused e (inl mistyped) = true≢false (sym accepts ∙ mistyped.1)
  never_refused e (inr (inl over)) = no_overflow table.tree test show [] no_limit db params over.1
  never_refused e (inr (inr long)) = absurd (let some = rw unlimited at long.1 in cc)

  edit_cause : (edit : List Row → Edit) (e : Error) (rows : List Row) → IsAnswer (scan table.tree test show [] no_limit) (overlay db []) params rows
      → (why : Option Refusal) → Writes schema Enforced db (edit rows) (Err why) → Some e ≡ option_map edit_error why → Cause edit e
  edit_cause edit e rows is None wrote told = absurd (let x = told in cc)
  edit_cause edit e rows is (Some r) wrote told = (rows, is, inl (r, wrote, (let x = told in cc)))

  -- why a DELETE is refused
  pub delete_refused : (text : List ℕ) (e : Error) → Does old.step_limit (mode_of old) params (record { schema = schema; trees = db }) text None (Delete place program) (Err (Some e)) → Cause as_delete e
  delete_refused text e h =
      let ran : OnRows task (mode_of old) None (Delete place program) db (Err (Some e)) = rw is_table at h in
      elim (stopped ran) [
        | inl wrote ↦ elim (stopped wrote) [
          | inl unread ↦ absurd (never_refused e unread)
          | inr read ↦ elim (stopped read.2) [
            | inl unedited ↦ edit_cause as_delete e read.0 (read.1.answer Null) unedited.0 unedited.1 unedited.2
            | inr on ↦ absurd (let x = on.2 in cc)
          ]
        ]
        | inr ended ↦ elim (stopped ended.2) [
          | inl untested ↦
              let found = went ended.1 in
              let wrote = went found.2 in
              (found.0, found.1.answer Null, inr (wrote.0, wrote.1, subst (λ t. ¬ Refers (due (mode_of old)) schema t) (ap (λ (it : Written). it.trees) (same_value wrote.2)) untested.0))
          | inr told ↦ elim (stopped told.2) [ inl never ↦ absurd (let x = never in cc) | inr never ↦ absurd (let x = never.2 in cc) ]
        ]
      ]

  -- why an UPDATE is refused
  pub update_refused : (text : List ℕ) (e : Error) → Does old.step_limit (mode_of old) params (record { schema = schema; trees = db }) text None (Update place program) (Err (Some e)) → Cause as_update e
  update_refused text e h =
      let ran : OnRows task (mode_of old) None (Update place program) db (Err (Some e)) = rw is_table at h in
      elim (stopped ran) [
        | inl wrote ↦ elim (stopped wrote) [
          | inl unread ↦ absurd (never_refused e unread)
          | inr read ↦ elim (stopped read.2) [
            | inl unedited ↦ edit_cause as_update e read.0 (read.1.answer Null) unedited.0 unedited.1 unedited.2
            | inr on ↦ absurd (let x = on.2 in cc)
          ]
        ]
        | inr ended ↦ elim (stopped ended.2) [
          | inl untested ↦
              let found = went ended.1 in
              let wrote = went found.2 in
              (found.0, found.1.answer Null, inr (wrote.0, wrote.1, subst (λ t. ¬ Refers (due (mode_of old)) schema t) (ap (λ (it : Written). it.trees) (same_value wrote.2)) untested.0))
          | inr told ↦ elim (stopped told.2) [ inl never ↦ absurd (let x = never in cc) | inr never ↦ absurd (let x = never.2 in cc) ]
        ]
      ]
