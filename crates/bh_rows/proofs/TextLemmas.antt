-- What a program's text does, from its record: what it leaves or shows, how it may end, and that trouble is its only other error.
use Rattle.std.proofs.Common.{◌≡◌, inl, inr, ℕ, ℤ, ◌<◌, ◌^◌, pos, List, [], ◌∷◌, ◌++◌, ◌||◌, length, map, filter, not, ◌&&◌, Bool, true, false, None, Some, slice_get, Ok, Err, Result, OnOk, IfOk, IfErr, IsTrue, sum_by, refl, sym, ap, subst, ◌∙◌}
use Rattle.std.specs.declared.cmp.Ordering.{Ordering}
use Rattle.std.specs.List.{list_any}
use Rattle.std.proofs.lemmas.Bool.{cases_Bool}
use Rattle.sqlite.specs.declared.types.Value.TheVariants.{Null, Int}
use Rattle.sqlite.specs.Order.{Row, column}
use Rattle.sqlite.specs.Term.{Term, col}
use Rattle.sqlite.specs.Tree.{Trees, IsAscending}
use Rattle.sqlite.specs.Table.{Table}
use Rattle.sqlite.specs.Schema.{Schema}
use Rattle.sqlite.specs.Does.{due}
use Rattle.sqlite.specs.Effect.{IsDatabase}
use Rattle.sqlite.specs.Edit.{next_rowid}
use Rattle.sqlite.specs.Query.{page}
use Rattle.sqlite.specs.State.{State, HasCleanDisk, IsLive, Survives, Executes, CommitsBy, CommitsShowing, Shown, FailsToQuery, mode_of}
use Rattle.sqlite.specs.declared.error.Error.{Error}
use Rattle.sqlite_sql.specs.Aggregate.{count}
use Rattle.sqlite_keyed.specs.Lists.{update_where, delete_where, sort_by}
use Rattle.sqlite_schema.specs.declared.schema.Constraint.TheVariants.{Unique, ForeignKey}
use Rattle.sqlite_schema.specs.Rules.{guards, clashes, references_fit}
use Rattle.sqlite_rules.specs.Keys.{are_unique}
use Rattle.sqlite_rules.specs.Lists.{Has}
use Rattle.sqlite_rules.proofs.ListLemmas.{all_has, all_from, test_from, has_got, has_filtered, has_kept}
use Rattle.bh_rows.specs.Form.{Form, AreRows, Entry, put, entries, typed}
use Rattle.bh_rows.specs.Keys.{AreUnused, Suits, watched}
use Rattle.bh_rows.specs.Means.{is_trouble, Asks, Changes}
use Rattle.bh_rows.specs.Scan.{scan, by_rowid}
use Rattle.bh_rows.specs.Texts.{IsOrderly, IsTableOf, IsReadyAt, Leaves, AreFree, MayAdd, MayChange, InsertText, UpdateText, DeleteText, SelectText, SortedText, CountText, SumText}
use Rattle.bh_rows.proofs.AllowedLemmas.{apart_by, unclashed, allowed, refers_still}
use Rattle.bh_rows.proofs.CallLemmas.{write_changes, write_open, write_refused, clean_before}
use Rattle.bh_rows.proofs.DeleteErrors.{delete_trouble}
use Rattle.bh_rows.proofs.FormLemmas.{typed_update, held_update, typed_delete, held_delete}
use Rattle.bh_rows.proofs.InsertLemmas.{plainly, added, inserts, inserted_rows, typed_last, held_last}
use Rattle.bh_rows.proofs.ObeyedLemmas.{own_key}
use Rattle.bh_rows.proofs.RefusedLemmas.{insert_refused}
use Rattle.bh_rows.proofs.ScanLemmas.{scan_rows, scan_asks, sorted_rows, summed_rows}
use Rattle.bh_rows.proofs.TotalLemmas.{counted_rows, counted_asks, summed_asks}
use Rattle.bh_rows.proofs.UpdateErrors.{update_still_trouble, referred_any, shown_fit}
use Rattle.bh_rows.proofs.WriteLemmas.{deletes_passive, deleted_rows, updates_quiet, updated_rows}

module _ {T : Type 0} (form : Form T) (schema : Schema) (orderly : IsOrderly schema) (place : ℕ) (table : Table) (is : IsTableOf form schema place table) (old new : State) (ready : IsReadyAt form schema table.tree old) where
  plain_table : slice_get schema.tables place ≡ Some (plainly table)
  plain_table = is.is_table ∙ ap Some (sym is.plain)

  -- ---- INSERT

  module _ (sql : List ℕ) (params : Row) (x : T) (it : InsertText form schema place table sql params x) where
    -- how it may end
    pub insert_changes : (result : Result ℕ Error) → (HasCleanDisk new → Executes sql params old new result) → Survives old new (CommitsBy sql params old) → Changes old new result
    insert_changes = write_changes sql params old new schema _ _ it.means refl (λ clean up. (ready clean up).0)

    -- the row is the last one
    pub insert_adds : (result : Result ℕ Error) → (HasCleanDisk new → Executes sql params old new result) → {P : Trees → Type 0} → Survives old new P → HasCleanDisk new → IsTrue old.is_open
        → OnOk result (Leaves form schema table.tree old new (typed form (old.now.trees table.tree) ++ x ∷ []))
    insert_adds (Err e) runs s clean up = tt
    insert_adds (Ok n) runs s clean up =
        let was = ready (clean_before old new _ s clean) up in
        let done = inserts sql schema table place it.terms it.width (length params) it.means plain_table params (Null ∷ form.encode x) it.gives old new was.0 n (runs clean) in
        let rows = inserted_rows sql schema table place it.terms it.width (length params) it.means plain_table params (Null ∷ form.encode x) it.gives old new was.0 form x refl (is.kept x) was.1 done.0 done.1 in
        record {
          next = done.0;
          now = done.1.now;
          others = done.1.applies.tables;
          held = subst (AreRows form) (sym rows) (held_last form (old.now.trees table.tree) was.1 x);
          rows = ap (typed form) rows ∙ typed_last form (old.now.trees table.tree) was.1 x;
        }

    -- the row, with the next number
    abbrev pub new_row : Row
    new_row = put form (next_rowid (old.now.trees table.tree), x)

    -- no row had its key
    pub insert_frees : (result : Result ℕ Error) → (HasCleanDisk new → Executes sql params old new result) → {P : Trees → Type 0} → Survives old new P → HasCleanDisk new → IsTrue old.is_open
        → OnOk result (AreFree form schema table (old.now.trees table.tree) new_row)
    insert_frees (Err e) runs s clean up = tt
    insert_frees (Ok n) runs s clean up =
        let was = ready (clean_before old new _ s clean) up in
        let done = inserts sql schema table place it.terms it.width (length params) it.means plain_table params (Null ∷ form.encode x) it.gives old new was.0 n (runs clean) in
        let rows = inserted_rows sql schema table place it.terms it.width (length params) it.means plain_table params (Null ∷ form.encode x) it.gives old new was.0 form x refl (is.kept x) was.1 done.0 done.1 in
        let keeps = done.1.applies.fits.rules Unique (λ e. absurd (cc)) in
        let up = held_last form (old.now.trees table.tree) was.1 x in
        all_from _ (filter (λ i. guards i table) schema.indexes) (λ i there.
        let one = has_filtered (λ j. guards j table) schema.indexes i there in
        own_key form schema table done.0 keeps (has_got schema.tables place table is.is_table) i one.0 one.1 (old.now.trees table.tree) (next_rowid (old.now.trees table.tree)) x was.1 up.rises rows)

    -- with no limit on the steps, a row that no key and no CHECK forbids, and whose parents are there, is refused in trouble alone
    pub insert_only_trouble : IsLive old
        → (result : Result ℕ Error) → (HasCleanDisk new → Executes sql params old new result) → {P : Trees → Type 0} → Survives old new P → HasCleanDisk new → old.step_limit ≡ None
        → (HasCleanDisk old → IsTrue old.is_open → MayAdd form schema table old.now.trees x) → IfErr result (λ e. is_trouble e ≡ true)
    insert_only_trouble live (Ok n) runs s clean unlimited may = tt
    insert_only_trouble live (Err e) runs s clean unlimited may = elim (write_open sql params old new e (runs clean)) [
      | inr bad ↦ bad
      | inl up ↦
          let was_clean = clean_before old new _ s clean in
          let was = ready was_clean up in
          let fits = may was_clean up in
          let sound = subst (λ c. IsDatabase (record { schema = c; trees = old.now.trees })) was.0 (live up).0 in
          let source = Null ∷ form.encode x in
          let apart = apart_by schema.tables orderly.apart in
          let listed : Has schema.tables (plainly table) = has_got schema.tables place (plainly table) plain_table in
          let unique = all_unique apart listed was.1 fits.free in
          let referred = referred_any schema (plainly table) (subst (λ t. references_fit schema t true true ≡ true) (sym is.plain) is.fit) true false in
          elim (write_refused sql params old new schema was.0 _ (length params) it.means refl refl e (runs clean)) [
            | inl bad ↦ bad
            | inr refused ↦ elim (insert_refused schema table place it.terms it.width plain_table params source it.gives it.accepts old unlimited refused.0 e refused.1) [
              | inl why ↦ ap is_trouble why.2 ∙ allowed form schema table source old.now.trees was.1 x refl (is.kept x) apart listed fits.suits.typed fits.suits.present fits.suits.checked referred unique (sound.obeys.rules Unique) why.0 why.1
              | inr orphan ↦ absurd (orphan.2 (refers_still form schema table source old.now.trees was.1 x refl (is.kept x) apart listed fits.suits.typed fits.suits.present fits.suits.checked referred unique (sound.obeys.rules Unique)
                  orphan.0 orphan.1 fits.parents (sound.obeys.rules ForeignKey) (due (mode_of old))))
            ]
          ]
    ]
      where
        all_unique : IsAscending (λ (a b : Table). a.tree ≡ b.tree → ⊥) schema.tables → Has schema.tables (plainly table) → (held : AreRows form (old.now.trees table.tree))
            → AreFree form schema table (old.now.trees table.tree) new_row
            → (next : Trees) → next table.tree ≡ old.now.trees table.tree ++ added form (old.now.trees table.tree) held x ∷ []
            → are_unique schema.indexes next (plainly table) (added form (old.now.trees table.tree) held x ∷ []) ≡ true
        all_unique apart listed held free next rows = test_from _ schema.indexes (λ i known. elim (cases_Bool (guards i table)) [
          | inl on ↦
              let none = unclashed form schema table (Null ∷ form.encode x) old.now.trees held x refl (is.kept x) apart listed i.order i.columns
              (all_has _ (filter (λ j. guards j table) schema.indexes) i free (has_kept (λ j. guards j table) schema.indexes i known on)) in
              let here : clashes i.order i.columns (next table.tree) (added form (old.now.trees table.tree) held x) ≡ false = ap (λ l. clashes i.order i.columns l (added form (old.now.trees table.tree) held x)) rows ∙ none in
              ap (λ b. not (guards i table && (b || false))) here ∙ not_both (guards i table)
          | inr off ↦ ap (λ b. not (b && list_any (clashes i.order i.columns (next table.tree)) (added form (old.now.trees table.tree) held x ∷ []))) off
        ])
          where
            not_both : (b : Bool) → not (b && false) ≡ true
            not_both true = refl
            not_both false = refl

  -- ---- UPDATE

  module _ (sql : List ℕ) (params : Row) (m : T → Bool) (f : T → T) (it : UpdateText form schema place table sql params m f) where
    -- how it may end
    pub update_changes : (result : Result ℕ Error) → (HasCleanDisk new → Executes sql params old new result) → Survives old new (CommitsBy sql params old) → Changes old new result
    update_changes = write_changes sql params old new schema _ _ it.means refl (λ clean up. (ready clean up).0)

    -- the rows that pass are changed
    pub update_sets : IsLive old → (result : Result ℕ Error) → (HasCleanDisk new → Executes sql params old new result) → {P : Trees → Type 0} → Survives old new P → HasCleanDisk new → IsTrue old.is_open
        → OnOk result (Leaves form schema table.tree old new (update_where m f (typed form (old.now.trees table.tree))))
    update_sets live (Err e) runs s clean up = tt
    update_sets live (Ok n) runs s clean up =
        let was = ready (clean_before old new _ s clean) up in
        let sound = subst (λ c. IsDatabase (record { schema = c; trees = old.now.trees })) was.0 (live up).0 in
        let shown = shown_fit form schema table old.now.trees was.1 (has_got schema.tables place table is.is_table) sound it.show params m f it.shows in
        let done = updates_quiet sql schema table place it.test it.show (length params) is.is_table params old new was.0 it.means orderly.ignores n (runs clean) in
        let rows = updated_rows sql schema table place it.test it.show (length params) is.is_table params old new was.0 form is.low was.1 m it.tests f is.kept shown done.0 done.1 done.2 done.3 in
        record {
          next = done.1;
          now = done.3.now;
          others = done.3.applies.tables;
          held = subst (AreRows form) (sym rows) (held_update form m (old.now.trees table.tree) was.1 f);
          rows = ap (typed form) rows ∙ typed_update form m (old.now.trees table.tree) was.1 f;
        }

    -- where it changes no column that a key watches
    pub update_only_trouble : IsLive old → MayChange form schema table m f
        → (result : Result ℕ Error) → (HasCleanDisk new → Executes sql params old new result) → {P : Trees → Type 0} → Survives old new P → HasCleanDisk new → old.step_limit ≡ None → IfErr result (λ e. is_trouble e ≡ true)
    update_only_trouble live may = update_still_trouble form sql schema table place it.test it.show (length params) it.means is.is_table is.low params refl it.accepts m it.tests f is.kept it.shows may.unwatched
        orderly.apart is.fit orderly.ignores old new ready live (λ clean up e there. may.suits e.0 e.1 (has_filtered (λ (d : Entry T). m d.1) (entries form (old.now.trees table.tree)) e there).1)

    -- the same, where what suits the table is known of the rows that are there alone
    pub update_there_trouble : IsLive old → ((id : ℤ) (y : T) → m y ≡ true → map (column (put form (id, f y))) (watched schema table) ≡ map (column (put form (id, y))) (watched schema table))
        → (HasCleanDisk old → IsTrue old.is_open → (e : Entry T) → Has (filter (λ (d : Entry T). m d.1) (entries form (old.now.trees table.tree))) e → Suits table (put form e) → Suits table (put form (e.0, f e.1)))
        → (result : Result ℕ Error) → (HasCleanDisk new → Executes sql params old new result) → {P : Trees → Type 0} → Survives old new P → HasCleanDisk new → old.step_limit ≡ None → IfErr result (λ e. is_trouble e ≡ true)
    update_there_trouble live unwatched suits = update_still_trouble form sql schema table place it.test it.show (length params) it.means is.is_table is.low params refl it.accepts m it.tests f is.kept it.shows unwatched
        orderly.apart is.fit orderly.ignores old new ready live suits

  -- ---- DELETE

  module _ (sql : List ℕ) (params : Row) (m : T → Bool) (it : DeleteText form schema place table sql params m) where
    -- how it may end
    pub delete_changes : (result : Result ℕ Error) → (HasCleanDisk new → Executes sql params old new result) → Survives old new (CommitsBy sql params old) → Changes old new result
    delete_changes = write_changes sql params old new schema _ _ it.means refl (λ clean up. (ready clean up).0)

    -- the rows that pass are gone
    pub delete_removes : (result : Result ℕ Error) → (HasCleanDisk new → Executes sql params old new result) → {P : Trees → Type 0} → Survives old new P → HasCleanDisk new → IsTrue old.is_open
        → OnOk result (Leaves form schema table.tree old new (delete_where m (typed form (old.now.trees table.tree))))
    delete_removes (Err e) runs s clean up = tt
    delete_removes (Ok n) runs s clean up =
        let was = ready (clean_before old new _ s clean) up in
        let done = deletes_passive sql schema table place it.test (col 1 0 ∷ []) (length params) is.is_table params old new was.0 it.means orderly.passive n (runs clean) in
        let rows = deleted_rows sql schema table place it.test (col 1 0 ∷ []) (length params) is.is_table params old new was.0 form is.low was.1 m it.tests (λ id y. refl) done.0 done.1 done.2 done.3 in
        record {
          next = done.1;
          now = done.3.now;
          others = done.3.applies.tables;
          held = subst (AreRows form) (sym rows) (held_delete form m (old.now.trees table.tree) was.1);
          rows = ap (typed form) rows ∙ typed_delete form m (old.now.trees table.tree) was.1;
        }

    -- where no row points to one that is deleted
    pub delete_only_trouble : IsLive old
        → (result : Result ℕ Error) → (HasCleanDisk new → Executes sql params old new result) → {P : Trees → Type 0} → Survives old new P → HasCleanDisk new → old.step_limit ≡ None
        → (HasCleanDisk old → IsTrue old.is_open → AreUnused schema old.now.trees table.tree (map (put form) (filter (λ (e : Entry T). m e.1) (entries form (old.now.trees table.tree))))) → IfErr result (λ e. is_trouble e ≡ true)
    delete_only_trouble = delete_trouble form sql schema table place it.test (col 1 0 ∷ []) (length params) it.means is.is_table is.low params refl it.accepts m it.tests (λ id y. refl) orderly.apart is.fit orderly.passive old new ready

-- ---- queries

module _ {T : Type 0} (form : Form T) (schema : Schema) (tree : ℕ) (old new : State) (ready : IsReadyAt form schema tree old) where
  module _ (sql : List ℕ) (params : Row) (m : T → Bool) (view : T → Row) (limit : Term) (it : SelectText form schema tree sql params m view limit) where
    -- the rows that pass, as shown, in the order of their numbers
    pub select_rows : {X : Type 0} (rows_in : X → List Row) (result : Result X Error) → (HasCleanDisk new → IfOk result (λ x. Shown sql params old new (rows_in x))) → {P : Trees → Type 0} → Survives old new P → HasCleanDisk new
        → IfOk result (λ x. rows_in x ≡ page (scan tree it.test it.show by_rowid limit) params (map view (filter m (typed form (old.now.trees tree)))))
    select_rows = scan_rows form sql schema tree it.test it.show limit it.names (length params) it.means it.low params m it.tests view it.shows old new ready

    -- how it may end
    pub select_asks : {X : Type 0} (rows_in : X → List Row) (result : Result X Error) → (HasCleanDisk new → IfOk result (λ x. Shown sql params old new (rows_in x)))
        → (HasCleanDisk new → IfErr result (FailsToQuery sql params old new)) → Survives old new (CommitsShowing sql params old) → Asks old new result
    select_asks = scan_asks sql schema tree it.test it.show by_rowid limit it.names (length params) it.means params old new (λ clean up. (ready clean up).0) refl it.accepts

  module _ (sql : List ℕ) (params : Row) (m : T → Bool) (view : T → Row) (order : T → T → Ordering) (limit : Term) (it : SortedText form schema tree sql params m view order limit) where
    -- the rows that pass, as shown, sorted
    pub select_sorted : {X : Type 0} (rows_in : X → List Row) (result : Result X Error) → (HasCleanDisk new → IfOk result (λ x. Shown sql params old new (rows_in x))) → {P : Trees → Type 0} → Survives old new P → HasCleanDisk new
        → IfOk result (λ x. rows_in x ≡ page (scan tree it.test it.show it.keys limit) params (map view (sort_by order (filter m (typed form (old.now.trees tree))))))
    select_sorted = sorted_rows form sql schema tree it.test it.show it.keys limit it.names (length params) it.means it.low params m it.tests view it.shows order it.orders old new ready

    -- how it may end
    pub sorted_asks : {X : Type 0} (rows_in : X → List Row) (result : Result X Error) → (HasCleanDisk new → IfOk result (λ x. Shown sql params old new (rows_in x)))
        → (HasCleanDisk new → IfErr result (FailsToQuery sql params old new)) → Survives old new (CommitsShowing sql params old) → Asks old new result
    sorted_asks = scan_asks sql schema tree it.test it.show it.keys limit it.names (length params) it.means params old new (λ clean up. (ready clean up).0) refl it.accepts

  module _ (sql : List ℕ) (params : Row) (m : T → Bool) (it : CountText form schema tree sql params m) where
    -- how many pass
    pub count_rows : {X : Type 0} (rows_in : X → List Row) (result : Result X Error) → (HasCleanDisk new → IfOk result (λ x. Shown sql params old new (rows_in x))) → {P : Trees → Type 0} → Survives old new P → HasCleanDisk new
        → IfOk result (λ x. rows_in x ≡ (count (length (filter m (typed form (old.now.trees tree)))) ∷ []) ∷ [])
    count_rows = counted_rows form sql schema tree it.test it.names (length params) it.means it.low params m it.tests old new ready

    -- how it may end
    pub count_asks : {X : Type 0} (rows_in : X → List Row) (result : Result X Error) → (HasCleanDisk new → IfOk result (λ x. Shown sql params old new (rows_in x)))
        → (HasCleanDisk new → IfErr result (FailsToQuery sql params old new)) → Survives old new (CommitsShowing sql params old) → Asks old new result
    count_asks = counted_asks sql schema tree it.test it.names (length params) it.means params old new (λ clean up. (ready clean up).0) refl it.accepts

  module _ (sql : List ℕ) (params : Row) (m : T → Bool) (size : T → ℕ) (it : SumText form schema tree sql params m size) where
    -- the sum of those that pass
    pub sum_rows : {X : Type 0} (rows_in : X → List Row) (result : Result X Error) → (HasCleanDisk new → IfOk result (λ x. Shown sql params old new (rows_in x))) → {P : Trees → Type 0} → Survives old new P → HasCleanDisk new
        → IfOk result (λ x. rows_in x ≡ (Int (pos (sum_by size (filter m (typed form (old.now.trees tree))))) ∷ []) ∷ [])
    sum_rows = summed_rows form sql schema tree it.test it.argument it.names (length params) it.means it.low params m it.tests size it.reads old new ready

    -- where the sum is known to be below 2^63
    pub sum_asks : (HasCleanDisk old → IsTrue old.is_open → sum_by size (filter m (typed form (old.now.trees tree))) < 2 ^ 63) → {X : Type 0} (rows_in : X → List Row) (result : Result X Error)
        → (HasCleanDisk new → IfOk result (λ x. Shown sql params old new (rows_in x))) → (HasCleanDisk new → IfErr result (FailsToQuery sql params old new)) → Survives old new (CommitsShowing sql params old) → Asks old new result
    sum_asks = summed_asks form sql schema tree it.test it.argument it.names (length params) it.means it.low params m it.tests size it.reads old new ready refl it.accepts
