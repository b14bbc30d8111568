-- CREATE TABLE over rows: the table is added, with no row, and every other table keeps its rows.
use Rattle.std.proofs.Common.{◌≡◌, ℕ, List, [], false, None, Ok, Err, Result, OnOk, IsTrue, refl, sym, ap, subst, ◌∙◌}
use Rattle.sqlite.specs.Schema.{Schema}
use Rattle.sqlite.specs.Table.{Table}
use Rattle.sqlite.specs.Tree.{Trees}
use Rattle.sqlite.specs.Command.TheVariants.{CreateTable}
use Rattle.sqlite.specs.Change.{created, next_tree, KeepsRows}
use Rattle.sqlite.specs.Effect.{Database}
use Rattle.sqlite.specs.Does.{Tally, lacks_sequence}
use Rattle.sqlite.specs.State.{State, HasCleanDisk, Survives, Writes, Executes, CommitsBy}
use Rattle.sqlite.specs.declared.error.Error.{Error}
use Rattle.sqlite.proofs.Callers.{runs_as}
use Rattle.sqlite_resolve.specs.declared.error.CompileError.{CompileError}
use Rattle.bh_rows.specs.Means.{Changes}
use Rattle.bh_rows.specs.Over.{HasTable}
use Rattle.bh_rows.proofs.CallLemmas.{clean_before, write_changes}
use Rattle.bh_rows.proofs.CreateLemmas.{Makes}
use Rattle.bh_rows.proofs.InsertLemmas.{went, same_value}

module _ (before : Schema) (sql : List ℕ) (table : Table) (makes : Makes before sql table) (old new : State) (ready : HasCleanDisk old → IsTrue old.is_open → old.now.schema ≡ before) where
  has_table : (count : ℕ) → old.now.schema ≡ before → Executes sql [] old new (Ok count) → HasTable before table old new
  has_table count has h =
      let w = subst (λ t. Writes old new None CreateTable t [] count) makes.text (runs_as sql [] old new before has CreateTable makes.means.is makes.means.plain count h) in
      let all = went w.changed in
      let first = went all.1 in
      let it = first.1 in
      let both : ◌≡◌ {A = Result Table CompileError} (Ok it.table) (Ok table) = sym it.defined ∙ makes.defined in
      let same : it.table ≡ table = cc in
      let schema : first.0.schema ≡ created before table = it.is ∙ ap (λ s. created s it.table) has ∙ ap (created before) same in
      let plain : lacks_sequence first.0.schema ≡ false = ap lacks_sequence schema ∙ makes.uncounted in
      let now : new.now ≡ first.0 = ap (λ (p : Tally × Database). p.1) (same_value all.2) ∙ same_value (rw plain at first.2) in
      let empty : first.0.trees (next_tree before) ≡ [] = subst (λ s. first.0.trees (next_tree s) ≡ []) has it.empty in
      let kept : KeepsRows before.tables old.now.trees first.0.trees = subst (λ (s : Schema). KeepsRows s.tables old.now.trees first.0.trees) has it.others in
      record {
        schema_is = ap (λ (d : Database). d.schema) now ∙ schema;
        rows = subst (λ (d : Database). KeepsRows before.tables old.now.trees d.trees) (sym now) kept;
        empty = subst (λ (d : Database). d.trees (next_tree before) ≡ []) (sym now) empty;
      }

  pub makes_over : (result : Result ℕ Error) → (HasCleanDisk new → Executes sql [] old new result) → {P : Trees → Type 0} → Survives old new P → HasCleanDisk new → IsTrue old.is_open → OnOk result (HasTable before table old new)
  makes_over (Err e) runs s clean up = tt
  makes_over (Ok count) runs s clean up = has_table count (ready (clean_before old new _ s clean) up) (runs clean)

  -- how it may end, as any write
  pub over_changes : (result : Result ℕ Error) → (HasCleanDisk new → Executes sql [] old new result) → Survives old new (CommitsBy sql [] old) → Changes old new result
  over_changes = write_changes sql [] old new before CreateTable 0 makes.means refl ready
