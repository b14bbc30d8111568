-- Calls over versions, in the words of the tables, in which each version has the bytes of its body.
use Rattle.bh_base.specs.Shown.{Backing, shown}
use Rattle.bh_base.proofs.Apart.{versions_apart, version_may}
use Rattle.std.proofs.Common.{◌≡◌, ℕ, List, [], ◌∷◌, ◌++◌, map, filter, Bool, true, None, Result, IfOk, IfErr, Ordering, ap, take, ◌+◌, ◌∙◌}
use Rattle.sqlite.specs.Order.{Row}
use Rattle.sqlite.specs.State.{State, HasCleanDisk, IsLive, Survives, Executes, CommitsBy, CommitsShowing, Shown, FailsToQuery}
use Rattle.sqlite.specs.declared.error.Error.{Error}
use Rattle.sqlite_keyed.specs.Lists.{delete_where, sort_by}
use Rattle.bh_rows.specs.Means.{is_trouble}
use Rattle.bh_rows.specs.Scan.{no_limit}
use Rattle.bh_rows.specs.Texts.{MayAdd, InsertText, DeleteText, SelectText, SortedText}
use Rattle.bh_tables.specs.Schema.{host_schema, versions_table, at}
use Rattle.bh_tables.specs.Typed.{VersionColumns, version_form, totals_of, tables}
use Rattle.bh_tables.specs.Bodies.{resolved, columns_of}
use Rattle.bh_tables.proofs.Places.{versions, versions_is, turned}
use Rattle.bh_tables.proofs.ResolvedLemmas.{seen, seen_sorted, version_added, versions_deleted}
use Rattle.bh_base.proofs.Statements as statement
use Rattle.bh_tables.proofs.Terms.{one_row, two_rows}
use Rattle.bh_base.specs.Layer.{standing, IsIntact, IsInside, IsMidst, IsStateClean}
use Rattle.bh_base.proofs.Calls.{Question, Turn, asked, question, ready}
use Rattle.bh_base.proofs.Calls as call

-- ---- the kinds of texts

module _ (a : Backing) (stored_old stored_new : State) (inside : IsStateClean (shown a stored_old) → IsInside (standing (shown a stored_old))) where
  pub selected : {X : Type 0} (rows_in : X → List Row) (result : Result X Error) {sql : List ℕ} {params : Row} {m : VersionColumns → Bool} {view : VersionColumns → Row} → SelectText version_form host_schema 7 sql params m view no_limit
      → (HasCleanDisk stored_new → IfOk result (λ x. Shown sql params stored_old stored_new (rows_in x))) → (HasCleanDisk stored_new → IfErr result (FailsToQuery sql params stored_old stored_new)) → Survives stored_old stored_new (CommitsShowing sql params stored_old)
      → Question (shown a stored_old) (shown a stored_new) rows_in (λ t. map (λ v. view (columns_of v)) (filter (λ v. m (columns_of v)) t.versions)) result
  selected rows_in result {sql} {params} {m} {view} it ok err survives = asked _ _ (λ t. seen m t.versions view) (call.selected versions (λ _. versions_apart) a stored_old stored_new inside rows_in result it ok err survives)

  pub selected_first : {X : Type 0} (rows_in : X → List Row) (result : Result X Error) {sql : List ℕ} {params : Row} {m : VersionColumns → Bool} {view : VersionColumns → Row} {order : VersionColumns → VersionColumns → Ordering}
      → SortedText version_form host_schema 7 sql params m view order one_row
      → (HasCleanDisk stored_new → IfOk result (λ x. Shown sql params stored_old stored_new (rows_in x))) → (HasCleanDisk stored_new → IfErr result (FailsToQuery sql params stored_old stored_new)) → Survives stored_old stored_new (CommitsShowing sql params stored_old)
      → Question (shown a stored_old) (shown a stored_new) rows_in (λ t. take 1 (map (λ v. view (columns_of v)) (sort_by (λ a b. order (columns_of a) (columns_of b)) (filter (λ v. m (columns_of v)) t.versions)))) result
  selected_first rows_in result {sql} {params} {m} {view} {order} it ok err survives = asked _ _ (λ t. ap (take 1) (seen_sorted m t.versions view order)) (call.selected_first versions (λ _. versions_apart) a stored_old stored_new inside rows_in result it ok err survives)

  pub selected_two : {X : Type 0} (rows_in : X → List Row) (result : Result X Error) {sql : List ℕ} {params : Row} {m : VersionColumns → Bool} {view : VersionColumns → Row} {order : VersionColumns → VersionColumns → Ordering}
      → SortedText version_form host_schema 7 sql params m view order two_rows
      → (HasCleanDisk stored_new → IfOk result (λ x. Shown sql params stored_old stored_new (rows_in x))) → (HasCleanDisk stored_new → IfErr result (FailsToQuery sql params stored_old stored_new)) → Survives stored_old stored_new (CommitsShowing sql params stored_old)
      → Question (shown a stored_old) (shown a stored_new) rows_in (λ t. take 2 (map (λ v. view (columns_of v)) (sort_by (λ a b. order (columns_of a) (columns_of b)) (filter (λ v. m (columns_of v)) t.versions)))) result
  selected_two rows_in result {sql} {params} {m} {view} {order} it ok err survives =
      let p = versions (totals_of (tables (shown a stored_old))) in
      asked _ _ (λ t. ap (take 2) (seen_sorted m t.versions view order)) (question (shown a stored_old) (shown a stored_new) rows_in _ result inside (statement.selected_two p versions_apart a stored_old stored_new (ready (shown a stored_old) inside) rows_in result _ _ _ _ _ it ok err survives))

-- in the midst of a write of what their tenant uses
module _ (a : Backing) (stored_old stored_new : State) (midst : IsStateClean (shown a stored_old) → IsMidst (standing (shown a stored_old))) (result : Result ℕ Error) (live : IsLive stored_old) where
  pub comes : {sql : List ℕ} {params : Row} {c : VersionColumns} → InsertText version_form host_schema 4 (at 7 versions_table) sql params c
      → (HasCleanDisk stored_new → Executes sql params stored_old stored_new result) → Survives stored_old stored_new (CommitsBy sql params stored_old)
      → Turn (shown a stored_old) (shown a stored_new) (λ sums. sums) (λ t. record t { versions = t.versions ++ resolved t.refs t.blocks c ∷ [] }) result
  comes {sql} {params} {c} it runs survives = call.adds version_form 4 (at 7 versions_table) versions_is (λ sums db h. h.held.versions) versions_apart a stored_old stored_new midst result live (λ sums. sums) (λ t. record t { versions = t.versions ++ resolved t.refs t.blocks c ∷ [] }) it
      (λ sums host l. let w = turned (versions sums) (shown a stored_old) (shown a stored_new) _ host l in (w.0, w.1 ∙ ap (λ vs. record (tables (shown a stored_old)) { versions = map (resolved (tables (shown a stored_old)).refs (tables (shown a stored_old)).blocks) (vs ++ c ∷ []) }) ((versions sums).rows_are (shown a stored_old).now) ∙ version_added (shown a stored_old).now c)) runs survives

  pub goes : {sql : List ℕ} {params : Row} {m : VersionColumns → Bool} → DeleteText version_form host_schema 4 (at 7 versions_table) sql params m
      → (HasCleanDisk stored_new → Executes sql params stored_old stored_new result) → Survives stored_old stored_new (CommitsBy sql params stored_old)
      → Turn (shown a stored_old) (shown a stored_new) (λ sums. sums) (λ t. record t { versions = delete_where (λ v. m (columns_of v)) t.versions }) result
  goes {sql} {params} {m} it runs survives = call.drops version_form 4 (at 7 versions_table) versions_is (λ sums db h. h.held.versions) versions_apart a stored_old stored_new midst result live (λ sums. sums) (λ t. record t { versions = delete_where (λ v. m (columns_of v)) t.versions }) it
      (λ sums host l. let w = turned (versions sums) (shown a stored_old) (shown a stored_new) _ host l in (w.0, w.1 ∙ ap (λ vs. record (tables (shown a stored_old)) { versions = map (resolved (tables (shown a stored_old)).refs (tables (shown a stored_old)).blocks) (delete_where m vs) }) ((versions sums).rows_are (shown a stored_old).now) ∙ versions_deleted (shown a stored_old).now m)) runs survives

  pub comes_trouble : {sql : List ℕ} {params : Row} {c : VersionColumns} {A : Type 0} → InsertText version_form host_schema 4 (at 7 versions_table) sql params c → (IsStateClean (shown a stored_old) → A → MayAdd version_form host_schema (at 7 versions_table) (standing (shown a stored_old)).now.trees c)
      → (HasCleanDisk stored_new → Executes sql params stored_old stored_new result) → Survives stored_old stored_new (CommitsBy sql params stored_old) → IfErr result (λ e. IsIntact (shown a stored_new) → (standing (shown a stored_old)).limit ≡ None → A → is_trouble e ≡ true)
  comes_trouble it may runs survives = call.adds_trouble version_form 4 (at 7 versions_table) versions_is (λ sums db h. h.held.versions) versions_apart a stored_old stored_new midst result live (λ s. s) (λ t. t) it (λ packs db. version_may (totals_of (tables (shown a stored_old))) packs db _) may runs survives
