-- What a text over one table does to all of a host's tables: the lemmas on texts, once for every table.
use Rattle.std.proofs.Common.{◌≡◌, ℕ, List, [], ◌∷◌, ◌++◌, map, filter, Bool, true, None, Ok, Err, Result, OnOk, IfOk, IfErr, IsTrue, Ordering, subst, take, pos, ◌<◌, ◌≤◌, ◌^◌, ◌⊎◌, inl, inr, sum_by, length, arith, refl, ap}
use Rattle.std.proofs.lemmas.List.Sums.{sum_by-cons}
use Rattle.sqlite.specs.Order.{Row}
use Rattle.sqlite.specs.Effect.{Database}
use Rattle.sqlite.specs.Tree.{Trees}
use Rattle.sqlite.specs.Command.TheVariants.{Select}
use Rattle.sqlite.specs.Query.{Query}
use Rattle.sqlite.specs.State.{State, HasCleanDisk, IsLive, Survives, Executes, CommitsBy, CommitsShowing, Shown, FailsToQuery}
use Rattle.sqlite.specs.declared.error.Error.{Error}
use Rattle.sqlite.specs.declared.error.Error.TheVariants.{SqliteFailure}
use Rattle.sqlite.specs.declared.error.ErrorCode.TheVariants.{IntegerOverflow}
use Rattle.sqlite.specs.declared.types.Value.TheVariants.{Int}
use Rattle.sqlite_keyed.specs.Lists.{update_where, delete_where, sort_by}
use Rattle.bh_rows.specs.Form.{typed}
use Rattle.bh_rows.specs.Keys.{AreUnused}
use Rattle.bh_rows.specs.Means.{Means, is_trouble, Asks, Changes}
use Rattle.bh_rows.specs.Scan.{no_limit}
use Rattle.bh_rows.specs.Texts.{IsReadyAt, Leaves, MayAdd, MayChange, InsertText, UpdateText, DeleteText, SelectText, SortedText, SumText}
use Rattle.bh_rows.proofs.CallLemmas.{clean_before, shown_same, shown_open, query_up, query_undone, shows_nothing}
use Rattle.bh_rows.proofs.TotalLemmas.{summed_fails}
use Rattle.bh_rows.proofs.TextLemmas as text
use Rattle.bh_tables.specs.Schema.{host_schema}
use Rattle.bh_tables.specs.Typed.{Totals, IsHostBy, IsReadyBy, Tables, tables}
use Rattle.bh_tables.proofs.Places.{Place, Goes, orderly, turned}
use Rattle.bh_tables.proofs.Terms.{one_row, two_rows}

-- how a write may end, which tables it leaves, and which errors it gives
pub record Writes (sums : Totals) (old new : State) (change : Tables → Tables) (allowed : Error → Type 0) (result : Result ℕ Error) : Type 0 where
  pub changes : Changes old new result
  pub leaves : HasCleanDisk new → IsTrue old.is_open → OnOk result (IsHostBy sums new.now × (tables new ≡ change (tables old)))
  pub errors : HasCleanDisk new → old.step_limit ≡ None → IfErr result allowed

-- how a question may end, and which rows it shows
pub record Shows {X : Type 0} (old new : State) (rows_in : X → List Row) (shown : Tables → List Row) (result : Result X Error) : Type 0 where
  pub asks : Asks old new result
  pub rows : HasCleanDisk new → IfOk result (λ x. rows_in x ≡ shown (tables old))

-- an error told as another
abbrev pub told_as : {X : Type 0} → Error → Result X Error → Result X Error
told_as other (Ok x) = Ok x
told_as other (Err e) = Err other

-- how a sum may end, and its one row: as any question, but that it may be too wide
pub record Sums {X : Type 0} (old new : State) (rows_in : X → List Row) (total : Tables → ℕ) (result : Result X Error) : Type 0 where
  pub asks : (other : Error) → is_trouble other ≡ true → Asks old new (told_as other result)
  pub rows : HasCleanDisk new → IfOk result (λ x. rows_in x ≡ (Int (pos (total (tables old))) ∷ []) ∷ [])
  pub trouble : HasCleanDisk new → old.step_limit ≡ None → IfErr result (λ e. total (tables old) < 2 ^ 63 → is_trouble e ≡ true)

-- an answer's rows, and an error under a premise
module _ {X : Type 0} (result : Result X Error) where
  only_if : {A : Type 0} → (A → IfErr result (λ e. is_trouble e ≡ true)) → IfErr result (λ e. A → is_trouble e ≡ true)
  only_if = go result
    where
      go : {A : Type 0} (r : Result X Error) → (A → IfErr r (λ e. is_trouble e ≡ true)) → IfErr r (λ e. A → is_trouble e ≡ true)
      go (Ok x) h = tt
      go (Err e) h = h

-- a sum of 1 for each row is how many there are
pub ones : {X : Type 0} (xs : List X) → sum_by (λ _. 1) xs ≡ length xs
ones [] = refl
ones {X} (x ∷ xs) = let rest = ones xs in omega (arith, rest, sum_by-cons (λ (_ : X). 1) x xs)

-- a text with no test shows all rows
pub all_pass : {X : Type 0} (xs : List X) → filter (λ _. true) xs ≡ xs
all_pass [] = refl
all_pass (x ∷ xs) = ap (λ l. x ∷ l) (all_pass xs)

-- a sum that is too wide is no trouble, but it is no small one either
pub if_narrow : {X : Type 0} (total : ℕ) (r : Result X Error) → IfErr r (λ e. (is_trouble e ≡ true) ⊎ ((e ≡ SqliteFailure IntegerOverflow) × (2 ^ 63 ≤ total))) → IfErr r (λ e. total < 2 ^ 63 → is_trouble e ≡ true)
if_narrow total (Ok x) h = tt
if_narrow total (Err e) (inl bad) = λ _. bad
if_narrow total (Err e) (inr wide) = λ small. let big = wide.1 in absurd (omega (arith, big, small))

-- how a sum may end, whose error is told as trouble
module _ {sums : Totals} (old new : State) (ready : IsReadyBy sums old) (sql : List ℕ) (params : Row) {body : Query} {names : List (List ℕ)} {parameters : ℕ} (means : Means host_schema sql (Select (record { lets = []; body = body }) names) parameters)
    {X : Type 0} (rows_in : X → List Row) (survives : Survives old new (CommitsShowing sql params old)) (other : Error) (bad : is_trouble other ≡ true) where
  pub sum_ends : (r : Result X Error) → (HasCleanDisk new → IfOk r (λ x. Shown sql params old new (rows_in x))) → (HasCleanDisk new → IfErr r (FailsToQuery sql params old new)) → Asks old new (told_as other r)
  sum_ends (Ok x) ok err = record {
    same = λ clean. shown_same sql params old new host_schema (ready (clean_before old new _ survives clean) (shown_open sql params old new _ (ok clean))).schema _ parameters means (rows_in x) (ok clean);
    undone = λ _. tt;
    trouble = λ _ _. tt;
    up = query_up sql params old new rows_in (Ok x) ok err;
    survives = shows_nothing sql params old new host_schema _ parameters means (λ clean up. (ready clean up).schema) survives;
  }
  sum_ends (Err e) ok err = record {
    same = λ _. tt;
    undone = λ clean. query_undone sql params old new e (err clean);
    trouble = λ _ _. bad;
    up = query_up sql params old new rows_in (Err e) ok err;
    survives = shows_nothing sql params old new host_schema _ parameters means (λ clean up. (ready clean up).schema) survives;
  }

module _ {sums : Totals} {T : Type 0} (p : Place sums T) (old new : State) (ready : IsReadyBy sums old) where
  ready_at : IsReadyAt p.form host_schema p.table.tree old
  ready_at clean up = let h = ready clean up in (h.schema, p.held old.now h)

  abbrev stored : List T
  stored = typed p.form (old.now.trees p.table.tree)

  -- the table's rows become these of the rows that it had
  left : (after : List T → List T) (result : Result ℕ Error) {P : Trees → Type 0} → Survives old new P → (HasCleanDisk new → IsTrue old.is_open → OnOk result (Leaves p.form host_schema p.table.tree old new (after stored)))
      → HasCleanDisk new → IsTrue old.is_open → OnOk result (IsHostBy sums new.now × (tables new ≡ p.set (tables old) (after (p.rows (tables old)))))
  left after (Err e) survives h clean up = tt
  left after (Ok n) survives h clean up = turned p old new _ (ready (clean_before old new _ survives clean) up) (subst (λ l. Leaves p.form host_schema p.table.tree old new (after l)) (p.rows_are old.now) (h clean up))

  module _ (result : Result ℕ Error) (sql : List ℕ) (params : Row) (runs : HasCleanDisk new → Executes sql params old new result) (survives : Survives old new (CommitsBy sql params old)) (live : IsLive old) where
    -- one row more, where it may be the next
    pub inserted : (x : T) {A : Type 0} → InsertText p.form host_schema p.number p.table sql params x → (HasCleanDisk old → IsTrue old.is_open → A → MayAdd p.form host_schema p.table old.now.trees x)
        → Writes sums old new (λ t. p.set t (p.rows t ++ x ∷ [])) (λ e. A → is_trouble e ≡ true) result
    inserted x it may = record {
      changes = text.insert_changes p.form host_schema orderly p.number p.table p.is old new ready_at sql params x it result runs survives;
      leaves = left (λ l. l ++ x ∷ []) result survives (text.insert_adds p.form host_schema orderly p.number p.table p.is old new ready_at sql params x it result runs survives);
      errors = λ clean unlimited. only_if result (λ a. text.insert_only_trouble p.form host_schema orderly p.number p.table p.is old new ready_at sql params x it live result runs survives clean unlimited (λ was up. may was up a));
    }

    -- the rows that pass, changed
    pub updated : (m : T → Bool) (f : T → T) → UpdateText p.form host_schema p.number p.table sql params m f → MayChange p.form host_schema p.table m f
        → Writes sums old new (λ t. p.set t (update_where m f (p.rows t))) (λ e. is_trouble e ≡ true) result
    updated m f it may = record {
      changes = text.update_changes p.form host_schema orderly p.number p.table p.is old new ready_at sql params m f it result runs survives;
      leaves = left (update_where m f) result survives (text.update_sets p.form host_schema orderly p.number p.table p.is old new ready_at sql params m f it live result runs survives);
      errors = text.update_only_trouble p.form host_schema orderly p.number p.table p.is old new ready_at sql params m f it live may result runs survives;
    }

    -- the rows that pass, gone, of a table to which no other refers
    pub deleted : (m : T → Bool) → DeleteText p.form host_schema p.number p.table sql params m → ((db : Database) → IsHostBy sums db → (rows : List Row) → AreUnused host_schema db.trees p.table.tree rows)
        → Writes sums old new (λ t. p.set t (delete_where m (p.rows t))) (λ e. is_trouble e ≡ true) result
    deleted m it unused = record {
      changes = text.delete_changes p.form host_schema orderly p.number p.table p.is old new ready_at sql params m it result runs survives;
      leaves = left (delete_where m) result survives (text.delete_removes p.form host_schema orderly p.number p.table p.is old new ready_at sql params m it result runs survives);
      errors = λ clean unlimited. text.delete_only_trouble p.form host_schema orderly p.number p.table p.is old new ready_at sql params m it live result runs survives clean unlimited (λ was up. unused old.now (ready was up) _);
    }

    -- the same of a table to which others refer, where they name none of those rows
    pub removed : (m : T → Bool) {A : Type 0} → DeleteText p.form host_schema p.number p.table sql params m → (HasCleanDisk old → IsTrue old.is_open → A → Goes p old.now.trees m)
        → Writes sums old new (λ t. p.set t (delete_where m (p.rows t))) (λ e. A → is_trouble e ≡ true) result
    removed m it goes = record {
      changes = text.delete_changes p.form host_schema orderly p.number p.table p.is old new ready_at sql params m it result runs survives;
      leaves = left (delete_where m) result survives (text.delete_removes p.form host_schema orderly p.number p.table p.is old new ready_at sql params m it result runs survives);
      errors = λ clean unlimited. only_if result (λ a. text.delete_only_trouble p.form host_schema orderly p.number p.table p.is old new ready_at sql params m it live result runs survives clean unlimited (λ was up. goes was up a));
    }

  -- the rows that pass, as shown
  pub selected : {X : Type 0} (rows_in : X → List Row) (result : Result X Error) (sql : List ℕ) (params : Row) (m : T → Bool) (view : T → Row) → SelectText p.form host_schema p.table.tree sql params m view no_limit
      → (HasCleanDisk new → IfOk result (λ x. Shown sql params old new (rows_in x))) → (HasCleanDisk new → IfErr result (FailsToQuery sql params old new)) → Survives old new (CommitsShowing sql params old)
      → Shows old new rows_in (λ t. map view (filter m (p.rows t))) result
  selected rows_in result sql params m view it ok err survives = record {
    asks = text.select_asks p.form host_schema p.table.tree old new ready_at sql params m view no_limit it rows_in result ok err survives;
    rows = λ clean. subst (λ l. IfOk result (λ x. rows_in x ≡ map view (filter m l))) (p.rows_are old.now) (text.select_rows p.form host_schema p.table.tree old new ready_at sql params m view no_limit it rows_in result ok survives clean);
  }

  -- the rows that pass, as shown, sorted
  pub sorted : {X : Type 0} (rows_in : X → List Row) (result : Result X Error) (sql : List ℕ) (params : Row) (m : T → Bool) (view : T → Row) (order : T → T → Ordering) → SortedText p.form host_schema p.table.tree sql params m view order no_limit
      → (HasCleanDisk new → IfOk result (λ x. Shown sql params old new (rows_in x))) → (HasCleanDisk new → IfErr result (FailsToQuery sql params old new)) → Survives old new (CommitsShowing sql params old)
      → Shows old new rows_in (λ t. map view (sort_by order (filter m (p.rows t)))) result
  sorted rows_in result sql params m view order it ok err survives = record {
    asks = text.sorted_asks p.form host_schema p.table.tree old new ready_at sql params m view order no_limit it rows_in result ok err survives;
    rows = λ clean. subst (λ l. IfOk result (λ x. rows_in x ≡ map view (sort_by order (filter m l)))) (p.rows_are old.now) (text.select_sorted p.form host_schema p.table.tree old new ready_at sql params m view order no_limit it rows_in result ok survives clean);
  }

  -- the first of the rows that pass, in an order, as shown
  pub selected_first : {X : Type 0} (rows_in : X → List Row) (result : Result X Error) (sql : List ℕ) (params : Row) (m : T → Bool) (view : T → Row) (order : T → T → Ordering) → SortedText p.form host_schema p.table.tree sql params m view order one_row
      → (HasCleanDisk new → IfOk result (λ x. Shown sql params old new (rows_in x))) → (HasCleanDisk new → IfErr result (FailsToQuery sql params old new)) → Survives old new (CommitsShowing sql params old)
      → Shows old new rows_in (λ t. take 1 (map view (sort_by order (filter m (p.rows t))))) result
  selected_first rows_in result sql params m view order it ok err survives = record {
    asks = text.sorted_asks p.form host_schema p.table.tree old new ready_at sql params m view order one_row it rows_in result ok err survives;
    rows = λ clean. subst (λ l. IfOk result (λ x. rows_in x ≡ take 1 (map view (sort_by order (filter m l))))) (p.rows_are old.now) (text.select_sorted p.form host_schema p.table.tree old new ready_at sql params m view order one_row it rows_in result ok survives clean);
  }

  -- the first two
  pub selected_two : {X : Type 0} (rows_in : X → List Row) (result : Result X Error) (sql : List ℕ) (params : Row) (m : T → Bool) (view : T → Row) (order : T → T → Ordering) → SortedText p.form host_schema p.table.tree sql params m view order two_rows
      → (HasCleanDisk new → IfOk result (λ x. Shown sql params old new (rows_in x))) → (HasCleanDisk new → IfErr result (FailsToQuery sql params old new)) → Survives old new (CommitsShowing sql params old)
      → Shows old new rows_in (λ t. take 2 (map view (sort_by order (filter m (p.rows t))))) result
  selected_two rows_in result sql params m view order it ok err survives = record {
    asks = text.sorted_asks p.form host_schema p.table.tree old new ready_at sql params m view order two_rows it rows_in result ok err survives;
    rows = λ clean. subst (λ l. IfOk result (λ x. rows_in x ≡ take 2 (map view (sort_by order (filter m l))))) (p.rows_are old.now) (text.select_sorted p.form host_schema p.table.tree old new ready_at sql params m view order two_rows it rows_in result ok survives clean);
  }

  -- the sum of the rows that pass
  pub summed : {X : Type 0} (rows_in : X → List Row) (result : Result X Error) (sql : List ℕ) (params : Row) (m : T → Bool) (size : T → ℕ) → SumText p.form host_schema p.table.tree sql params m size
      → (HasCleanDisk new → IfOk result (λ x. Shown sql params old new (rows_in x))) → (HasCleanDisk new → IfErr result (FailsToQuery sql params old new)) → Survives old new (CommitsShowing sql params old)
      → Sums old new rows_in (λ t. sum_by size (filter m (p.rows t))) result
  summed {X} rows_in result sql params m size it ok err survives = record {
    asks = λ other bad. sum_ends old new ready sql params it.means rows_in survives other bad result ok err;
    rows = λ clean. subst (λ l. IfOk result (λ x. rows_in x ≡ (Int (pos (sum_by size (filter m l))) ∷ []) ∷ [])) (p.rows_are old.now) (text.sum_rows p.form host_schema p.table.tree old new ready_at sql params m size it rows_in result ok survives clean);
    trouble = λ clean unlimited. if_narrow _ result (subst (λ l. IfErr result (λ e. (is_trouble e ≡ true) ⊎ ((e ≡ SqliteFailure IntegerOverflow) × (2 ^ 63 ≤ sum_by size (filter m l))))) (p.rows_are old.now) (summed_fails p.form sql host_schema p.table.tree it.test it.argument it.names (length params) it.means it.low params m it.tests size it.reads old new ready_at refl it.accepts result err survives clean unlimited));
  }
