-- Calls over parts, in the words of the tables, in which each part has the bytes of its body.
use Rattle.bh_base.specs.Shown.{Backing, shown}
use Rattle.bh_base.proofs.Apart.{parts_apart}
use Rattle.std.proofs.Common.{◌≡◌, ℕ, List, [], ◌∷◌, ◌++◌, map, filter, Bool, true, Result, IfOk, IfErr, Ordering, ◌+◌, sum_by, cond, false, None, refl, sym, ap, ◌∙◌}
use Rattle.std.proofs.lemmas.List.Sums.{sum_by-cons}
use Rattle.sqlite.specs.Order.{Row}
use Rattle.sqlite.specs.State.{State, HasCleanDisk, IsLive, Survives, Executes, CommitsBy, CommitsShowing, Shown, FailsToQuery}
use Rattle.sqlite.specs.declared.error.Error.{Error}
use Rattle.sqlite_keyed.specs.Lists.{delete_where, sort_by}
use Rattle.bh_rows.specs.Means.{is_trouble}
use Rattle.bh_rows.specs.Scan.{no_limit}
use Rattle.bh_rows.specs.Texts.{InsertText, DeleteText, SelectText, SortedText, SumText}
use Rattle.bh_tables.specs.Schema.{host_schema, parts_table, at}
use Rattle.bh_tables.specs.Typed.{PartColumns, part_form, PartRow, tables}
use Rattle.bh_tables.specs.Bodies.{resolved_part, part_columns_of}
use Rattle.bh_tables.proofs.Places.{parts, parts_is, turned}
use Rattle.bh_tables.proofs.ResolvedLemmas.{seen_parts, seen_parts_sorted, part_added, parts_deleted}
use Rattle.bh_tables.proofs.PartTexts.{parts_unused}
use Rattle.bh_base.specs.Layer.{standing, IsIntact, IsInside, IsMidst, IsStateClean}
use Rattle.bh_base.proofs.Calls.{Question, Turn, asked, Total, totalled_so}
use Rattle.bh_base.proofs.Calls as call

-- sizes of the stored columns are those of the rows
sum_seen : (m : PartColumns → Bool) (size : PartColumns → ℕ) (xs : List PartRow) → sum_by size (filter m (map part_columns_of xs)) ≡ sum_by (λ x. size (part_columns_of x)) (filter (λ x. m (part_columns_of x)) xs)
sum_seen m size [] = refl
sum_seen m size (x ∷ xs) = elim (m (part_columns_of x)) as (λ b. sum_by size (cond b (part_columns_of x ∷ filter m (map part_columns_of xs)) (filter m (map part_columns_of xs))) ≡ sum_by (λ y. size (part_columns_of y)) (cond b (x ∷ filter (λ y. m (part_columns_of y)) xs) (filter (λ y. m (part_columns_of y)) xs))) [
  | true ↦ sum_by-cons size (part_columns_of x) (filter m (map part_columns_of xs)) ∙ ap (λ n. size (part_columns_of x) + n) (sum_seen m size xs) ∙ sym (sum_by-cons (λ y. size (part_columns_of y)) x (filter (λ y. m (part_columns_of y)) xs))
  | false ↦ sum_seen m size xs
]

module _ (a : Backing) (stored_old stored_new : State) (inside : IsStateClean (shown a stored_old) → IsInside (standing (shown a stored_old))) where
  pub selected : {X : Type 0} (rows_in : X → List Row) (result : Result X Error) {sql : List ℕ} {params : Row} {m : PartColumns → Bool} {view : PartColumns → Row} → SelectText part_form host_schema 18 sql params m view no_limit
      → (HasCleanDisk stored_new → IfOk result (λ x. Shown sql params stored_old stored_new (rows_in x))) → (HasCleanDisk stored_new → IfErr result (FailsToQuery sql params stored_old stored_new)) → Survives stored_old stored_new (CommitsShowing sql params stored_old)
      → Question (shown a stored_old) (shown a stored_new) rows_in (λ t. map (λ p. view (part_columns_of p)) (filter (λ p. m (part_columns_of p)) t.parts)) result
  selected rows_in result {sql} {params} {m} {view} it ok err survives = asked _ _ (λ t. seen_parts m t.parts view) (call.selected parts (λ _. parts_apart) a stored_old stored_new inside rows_in result it ok err survives)

  pub sorted : {X : Type 0} (rows_in : X → List Row) (result : Result X Error) {sql : List ℕ} {params : Row} {m : PartColumns → Bool} {view : PartColumns → Row} {order : PartColumns → PartColumns → Ordering}
      → SortedText part_form host_schema 18 sql params m view order no_limit
      → (HasCleanDisk stored_new → IfOk result (λ x. Shown sql params stored_old stored_new (rows_in x))) → (HasCleanDisk stored_new → IfErr result (FailsToQuery sql params stored_old stored_new)) → Survives stored_old stored_new (CommitsShowing sql params stored_old)
      → Question (shown a stored_old) (shown a stored_new) rows_in (λ t. map (λ p. view (part_columns_of p)) (sort_by (λ a b. order (part_columns_of a) (part_columns_of b)) (filter (λ p. m (part_columns_of p)) t.parts))) result
  sorted rows_in result {sql} {params} {m} {view} {order} it ok err survives = asked _ _ (λ t. seen_parts_sorted m t.parts view order) (call.sorted parts (λ _. parts_apart) a stored_old stored_new inside rows_in result it ok err survives)

  pub summed : {X : Type 0} (rows_in : X → List Row) (result : Result X Error) {sql : List ℕ} {params : Row} {m : PartColumns → Bool} {size : PartColumns → ℕ} → SumText part_form host_schema 18 sql params m size
      → (HasCleanDisk stored_new → IfOk result (λ x. Shown sql params stored_old stored_new (rows_in x))) → (HasCleanDisk stored_new → IfErr result (FailsToQuery sql params stored_old stored_new)) → Survives stored_old stored_new (CommitsShowing sql params stored_old)
      → Total (shown a stored_old) (shown a stored_new) rows_in (λ t. sum_by (λ x. size (part_columns_of x)) (filter (λ x. m (part_columns_of x)) t.parts)) result
  summed rows_in result {sql} {params} {m} {size} it ok err survives = totalled_so _ _ (λ t. sum_seen m size t.parts) (call.summed parts (λ _. parts_apart) a stored_old stored_new inside rows_in result it ok err survives)

-- in the midst of a write of what their tenant uses and their upload keeps
module _ (a : Backing) (stored_old stored_new : State) (midst : IsStateClean (shown a stored_old) → IsMidst (standing (shown a stored_old))) (result : Result ℕ Error) (live : IsLive stored_old) {sql : List ℕ} {params : Row} where
  pub comes : {c : PartColumns} → InsertText part_form host_schema 8 (at 18 parts_table) sql params c
      → (HasCleanDisk stored_new → Executes sql params stored_old stored_new result) → Survives stored_old stored_new (CommitsBy sql params stored_old)
      → Turn (shown a stored_old) (shown a stored_new) (λ sums. sums) (λ t. record t { parts = t.parts ++ resolved_part t.refs t.blocks c ∷ [] }) result
  comes {c} it runs survives = call.adds part_form 8 (at 18 parts_table) parts_is (λ sums db h. h.held.parts) parts_apart a stored_old stored_new midst result live (λ sums. sums) (λ t. record t { parts = t.parts ++ resolved_part t.refs t.blocks c ∷ [] }) it
      (λ sums host l. let w = turned (parts sums) (shown a stored_old) (shown a stored_new) _ host l in (w.0, w.1 ∙ ap (λ ps. record (tables (shown a stored_old)) { parts = map (resolved_part (tables (shown a stored_old)).refs (tables (shown a stored_old)).blocks) (ps ++ c ∷ []) }) ((parts sums).rows_are (shown a stored_old).now) ∙ part_added (shown a stored_old).now c)) runs survives

  pub goes : {m : PartColumns → Bool} → DeleteText part_form host_schema 8 (at 18 parts_table) sql params m
      → (HasCleanDisk stored_new → Executes sql params stored_old stored_new result) → Survives stored_old stored_new (CommitsBy sql params stored_old)
      → Turn (shown a stored_old) (shown a stored_new) (λ sums. sums) (λ t. record t { parts = delete_where (λ p. m (part_columns_of p)) t.parts }) result
  goes {m} it runs survives = call.drops part_form 8 (at 18 parts_table) parts_is (λ sums db h. h.held.parts) parts_apart a stored_old stored_new midst result live (λ sums. sums) (λ t. record t { parts = delete_where (λ p. m (part_columns_of p)) t.parts }) it
      (λ sums host l. let w = turned (parts sums) (shown a stored_old) (shown a stored_new) _ host l in (w.0, w.1 ∙ ap (λ ps. record (tables (shown a stored_old)) { parts = map (resolved_part (tables (shown a stored_old)).refs (tables (shown a stored_old)).blocks) (delete_where m ps) }) ((parts sums).rows_are (shown a stored_old).now) ∙ parts_deleted (shown a stored_old).now m)) runs survives

  -- that they go is refused in trouble alone
  pub goes_trouble : {m : PartColumns → Bool} → DeleteText part_form host_schema 8 (at 18 parts_table) sql params m
      → (HasCleanDisk stored_new → Executes sql params stored_old stored_new result) → Survives stored_old stored_new (CommitsBy sql params stored_old) → IfErr result (λ e. IsIntact (shown a stored_new) → (standing (shown a stored_old)).limit ≡ None → Unit {0} → is_trouble e ≡ true)
  goes_trouble {m} it runs survives = call.drops_trouble part_form 8 (at 18 parts_table) parts_is (λ sums db h. h.held.parts) parts_apart a stored_old stored_new midst result live (λ sums. sums) (λ t. t) it (λ packs db rows h. parts_unused db rows) (λ clean _. parts_unused (standing (shown a stored_old)).now.trees _) runs survives
