-- CREATE TABLE adds an empty table.
use Rattle.std.proofs.Common.{◌≡◌, ℕ, List, [], ◌∷◌, false, None, Ok, Err, Result, OnOk, IsTrue, refl, sym, ap, subst, ◌∙◌}
use Rattle.std.specs.List.{AllByRecursion}
use Rattle.sqlite.specs.Schema.{Schema}
use Rattle.sqlite.specs.Table.{Table}
use Rattle.sqlite.specs.Tree.{Trees}
use Rattle.sqlite.specs.Command.TheVariants.{CreateTable}
use Rattle.sqlite.specs.Compile.{table_defined_by}
use Rattle.sqlite.specs.Change.{created, next_tree, KeepsRows}
use Rattle.sqlite.specs.Effect.{Database}
use Rattle.sqlite.specs.Does.{Tally, lacks_sequence}
use Rattle.sqlite.specs.State.{State, HasCleanDisk, Survives, Writes, Executes, CommitsBy}
use Rattle.sqlite.specs.Listing.{understood}
use Rattle.sqlite.specs.declared.error.Error.{Error}
use Rattle.sqlite.proofs.Callers.{runs_as, statement_of}
use Rattle.bh_rows.specs.Means.{Means, IsBlank, Grows, Changes}
use Rattle.bh_rows.proofs.CallLemmas.{clean_before, executes_up, write_changes}
use Rattle.bh_rows.proofs.InsertLemmas.{went, same_value, each_push}

both_blank : (db next : Trees) (ts : List Table) → KeepsRows ts db next → AllByRecursion (λ t. db t.tree ≡ []) ts → AllByRecursion (λ t. next t.tree ≡ []) ts
both_blank db next [] keeps blank = tt
both_blank db next (t ∷ ts) keeps blank = (keeps.0 ∙ blank.0, both_blank db next ts keeps.1 blank.1)

-- what a text creates
pub record Makes (before : Schema) (sql : List ℕ) (table : Table) : Type 0 where
  pub means : Means before sql CreateTable 0
  pub text : statement_of sql (understood before sql) ≡ sql
  pub defined : table_defined_by sql ≡ Ok table
  pub uncounted : lacks_sequence (created before table) ≡ false

module _ (before : Schema) (sql : List ℕ) (table : Table) (makes : Makes before sql table) (old new : State) where
  made : (count : ℕ) → IsBlank before old → Executes sql [] old new (Ok count) → IsBlank (created before table) new
  made count blank h =
      let w = subst (λ t. Writes old new None CreateTable t [] count) makes.text (runs_as sql [] old new before blank.schema_is CreateTable makes.means.is makes.means.plain count h) in
      let all = went w.changed in
      let first = went all.1 in
      let it = first.1 in
      let both : ◌≡◌ {A = Result Table Rattle.sqlite_resolve.specs.declared.error.CompileError.CompileError} (Ok it.table) (Ok table) = sym it.defined ∙ makes.defined in
      let same : it.table ≡ table = cc in
      let schema : first.0.schema ≡ created before table = it.is ∙ ap (λ s. created s it.table) blank.schema_is ∙ ap (created before) same in
      let plain : lacks_sequence first.0.schema ≡ false = ap lacks_sequence schema ∙ makes.uncounted in
      let now : new.now ≡ first.0 = ap (λ (p : Tally × Database). p.1) (same_value all.2) ∙ same_value (rw plain at first.2) in
      let empty : first.0.trees (next_tree before) ≡ [] = subst (λ s. first.0.trees (next_tree s) ≡ []) blank.schema_is it.empty in
      let kept : KeepsRows before.tables old.now.trees first.0.trees = subst (λ (s : Schema). KeepsRows s.tables old.now.trees first.0.trees) blank.schema_is it.others in
      let rows = each_push (λ (t : Table). first.0.trees t.tree ≡ []) before.tables (record table { tree = next_tree before }) (both_blank old.now.trees first.0.trees before.tables kept blank.blank) empty in
      record {
        schema_is = ap (λ (d : Database). d.schema) now ∙ schema;
        blank = subst (λ (d : Database). AllByRecursion (λ (t : Table). d.trees t.tree ≡ []) (created before table).tables) (sym now) rows;
      }

  -- the table is added, and no table has a row
  pub creates : (HasCleanDisk old → IsTrue old.is_open → IsBlank before old) → (result : Result ℕ Error) → (HasCleanDisk new → Executes sql [] old new result) → {P : Trees → Type 0} → Survives old new P → HasCleanDisk new → IsTrue old.is_open
      → OnOk result (IsBlank (created before table) new)
  creates ready (Err e) runs s clean up = tt
  creates ready (Ok count) runs s clean up = made count (ready (clean_before old new _ s clean) up) (runs clean)

  opens : (HasCleanDisk old → IsTrue old.is_open → IsBlank before old) → (result : Result ℕ Error) → (HasCleanDisk new → Executes sql [] old new result) → {P : Trees → Type 0} → Survives old new P → HasCleanDisk new → IsTrue old.is_open
      → OnOk result (IsTrue new.is_open)
  opens ready (Err e) runs s clean up = tt
  opens ready (Ok count) runs s clean up =
      (runs_as sql [] old new before (ready (clean_before old new _ s clean) up).schema_is CreateTable makes.means.is makes.means.plain count (runs clean)).shown.is_open

  -- the same, with what the next CREATE needs
  pub grows : (HasCleanDisk old → IsTrue old.is_open → IsBlank before old) → (result : Result ℕ Error) → (HasCleanDisk new → Executes sql [] old new result) → {P : Trees → Type 0} → Survives old new P → Grows (created before table) old new result
  grows ready result runs s = record { blank = creates ready result runs s; is_open = opens ready result runs s; clean = clean_before old new _ s; up = λ clean up. executes_up sql [] old new result (runs clean) up }

  -- and what it leaves, as any write
  pub create_changes : (HasCleanDisk old → IsTrue old.is_open → IsBlank before old) → (result : Result ℕ Error) → (HasCleanDisk new → Executes sql [] old new result) → Survives old new (CommitsBy sql [] old) → Changes old new result
  create_changes ready = write_changes sql [] old new before CreateTable 0 makes.means refl (λ clean up. (ready clean up).schema_is)
