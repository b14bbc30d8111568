-- What a scan shows, as typed rows.
use Rattle.std.proofs.Common.{◌≡◌, ℤ, ℕ, pos, List, [], ◌∷◌, map, map-id, filter, Bool, true, refl, sym, ap, ap₂, ◌∙◌, Ordering, Less, int_cmp}
use Rattle.std.specs.List.{list_all, AllByRecursion}
use Rattle.std.specs.Ordering.{is_gt}
use Rattle.std.proofs.Common.{sum_by, Some, ◌+ℤ◌}
use Rattle.std.proofs.lemmas.List.Sums.{sum_by-cons}
use Rattle.sqlite_keyed.specs.Lists.{sum_of}
use Rattle.sqlite_typed.proofs.AnswerLemmas.{sum_is, sum_of_all}
use Rattle.std.proofs.Common.{cond, Equal, Greater}
use Rattle.sqlite.specs.Tree.{IsAscending}
use Rattle.sqlite_keyed.specs.Lists.{insert_sorted}
use Rattle.sqlite_keyed.proofs.ListLemmas.{ascending-filter}
use Rattle.std.specs.Ordering.{ordering_then}
use Rattle.sqlite.specs.declared.types.Value.TheVariants.{Int}
use Rattle.sqlite.specs.Order.{Row}
use Rattle.sqlite.specs.Tree.{Trees}
use Rattle.sqlite.specs.Term.{Term, eval, eval_all, holds}
use Rattle.sqlite.specs.Query.{inner, end, IsAnswer, page, Output, output, output_cmp}
use Rattle.std.specs.List.Sorted.{IsPermutation}
use Rattle.std.proofs.lemmas.List.Sorted.{IsPermutation-map}
use Rattle.sqlite_value.specs.declared.keys.Key.{Key}
use Rattle.sqlite_value.proofs.OrderLemmas.{value_cmp-Int}
use Rattle.sqlite_keyed.specs.Lists.{sort_by}
use Rattle.sqlite_keyed.proofs.SortLemmas.{sort_by-map}
use Rattle.sqlite_typed.proofs.AnswerLemmas.{Source, at_end, last_table, answer_by_keys, answer_sorted, matches_are, no_tie, no_tie_after}
use Rattle.sqlite_typed.proofs.TestLemmas.{last_key}
use Rattle.sqlite_schema.specs.declared.program.Program.{Program}
use Rattle.sqlite.specs.Effect.{RefusesToRead}
use Rattle.std.proofs.Common.{append-nil, subst, subst₂, true≢false, false, nat_le, length, None, inl, inr, ◌^◌}
use Rattle.sqlite.specs.declared.types.Value.TheVariants.{Null}
use Rattle.sqlite.specs.Schema.{Schema}
use Rattle.sqlite.specs.Program.{overlay, ProgramOverflows}
use Rattle.sqlite.specs.Command.TheVariants.{Select}
use Rattle.sqlite.specs.Listing.{reads_listing, IsSourceOf}
use Rattle.sqlite.specs.Effect.{RefusesQuery}
use Rattle.sqlite.specs.State.{State, Shown, FailsToQuery}
use Rattle.sqlite.specs.declared.error.Error.{Error}
use Rattle.sqlite.proofs.Callers.{reads_as}
use Rattle.sqlite_typing.specs.Types.{accepts_program}
use Rattle.std.proofs.Common.{slice_get, option_map, find}
use Rattle.std.proofs.lemmas.Option.{slice_get-map}
use Rattle.sqlite_keyed.proofs.ListLemmas.{slice_get-filter, map-map}
use Rattle.sqlite_rules.proofs.ListLemmas.{any_has}
use Rattle.sqlite_rules.specs.Lists.{Has}
use Rattle.std.proofs.Common.{Result, Ok, Err, IfOk, IfErr, IsTrue}
use Rattle.sqlite.specs.State.{HasCleanDisk, Survives, CommitsShowing}
use Rattle.bh_rows.specs.Means.{Means, is_trouble, Asks}
use Rattle.bh_rows.proofs.CallLemmas.{compiled_plain, compiled_command, not_run, shown_open, shown_same, shows_nothing, query_undone, query_open, query_up, clean_before}
use Rattle.bh_rows.specs.Form.{Form, AreRows, Entry, put, entries, typed}
pub use Rattle.bh_rows.specs.Scan.{summing}
use Rattle.bh_rows.specs.Scan.{scan, no_limit, by_rowid}
use Rattle.bh_rows.proofs.FormLemmas.{stored, keyed, picked}

module _ {T : Type 0} (form : Form T) (tree : ℕ) (db : Trees) (held : AreRows form (db tree)) (test show : List Term) (limit : Term) (params : Row)
    (m : T → Bool) (tests : (id : ℤ) (x : T) → list_all (holds (params ∷ (Int id ∷ form.encode x) ∷ [])) test ≡ m x)
    (view : T → Row) (shows : (id : ℤ) (x : T) → eval_all show (params ∷ (Int id ∷ form.encode x) ∷ []) ≡ view x) where
  abbrev source : Source db (inner tree end) (Entry T)
  source = last_table db tree (put form) (λ e. e.0) (entries form (db tree)) (stored form (db tree) held) (keyed form (db tree) held) (at_end db)

  -- in the order of the rowid
  pub scanned_page : (rows : List Row) → IsAnswer (scan tree test show by_rowid limit) db params rows
      → rows ≡ page (scan tree test show by_rowid limit) params (map view (filter m (typed form (db tree))))
  scanned_page rows h =
      let q = scan tree test show by_rowid limit in
      sym (map-id rows)
      ∙ answer_by_keys q db params source (λ e. m e.1) (λ e. tests e.0 e.1) (λ r. r) (λ e. view e.1) (λ e. shows e.0 e.1) refl refl (λ a b. last_key (value_cmp-Int a.0 b.0)) rows h
      ∙ ap (page q params) (picked form m view (db tree))

-- a SELECT of one table
abbrev pub selects : ℕ → List Term → List Term → List (Term × Key) → Term → List (List ℕ) → Rattle.sqlite.specs.Command.Command
selects tree test show order limit names = Select (record { lets = []; body = scan tree test show order limit }) names

-- it sums nothing
pub no_overflow : (tree : ℕ) (test show : List Term) (order : List (Term × Key)) (limit : Term) (db : Trees) (params : Row) → ¬ ProgramOverflows db params [] [] (scan tree test show order limit)
no_overflow tree test show order limit db params (inl h) = h
no_overflow tree test show order limit db params (inr h) = (any_has _ _ h).2

module _ (sql : List ℕ) (schema : Schema) (tree : ℕ) (test show : List Term) (order : List (Term × Key)) (limit : Term) (names : List (List ℕ)) (parameters : ℕ)
    (means : Means schema sql (selects tree test show order limit names) parameters)
    (params : Row) (old new : State) (has : old.now.schema ≡ schema) where
  -- with no limit on the steps, only want of memory or the disk ends it
  pub scan_trouble : length params ≡ parameters → accepts_program schema [] (scan tree test show order limit) params ≡ true → old.step_limit ≡ None
      → (e : Error) → FailsToQuery sql params old new e → is_trouble e ≡ true
  unfolding FailsToQuery
  scan_trouble given accepts unlimited e (inl h) = not_run sql params old new schema has _ parameters means given e h
  scan_trouble given accepts unlimited e (inr ran) =
      let bare = compiled_plain sql params old new schema has _ parameters means ran.0 ran.1 in
      let it = rw (bare.0, bare.1, append-nil params) at ran.2 in
      let db : it.0 ≡ old.now = subst (λ b. IsSourceOf b old.now it.0) (ap (λ s. reads_listing s sql) has ∙ means.unlisted) it.1 in
      let q : Program = record { lets = []; body = scan tree test show order limit } in
      let refuses : RefusesQuery old.step_limit old.now q params e = subst₂ (λ k d. RefusesToRead old.step_limit k d params e) (compiled_command sql params old new schema has _ parameters means ran.0 ran.1) db it.2 in
      elim refuses [
        | inl mistyped ↦ absurd (true≢false (sym accepts ∙ ap (λ s. accepts_program s [] (scan tree test show order limit) params) (sym has) ∙ mistyped.1))
        | inr (inl over) ↦ absurd (no_overflow tree test show order limit old.now.trees params over.1)
        | inr (inr stopped) ↦ absurd (let some = rw unlimited at stopped.1 in cc)
      ]

-- what a scan in the order of the rowid shows
module _ {T : Type 0} (form : Form T) (sql : List ℕ) (schema : Schema) (tree : ℕ) (test show : List Term) (limit : Term) (names : List (List ℕ)) (parameters : ℕ)
    (means : Means schema sql (selects tree test show by_rowid limit names) parameters) (low : nat_le (2 ^ 31) tree ≡ false)
    (params : Row) (m : T → Bool) (tests : (id : ℤ) (x : T) → list_all (holds (params ∷ (Int id ∷ form.encode x) ∷ [])) test ≡ m x)
    (view : T → Row) (shows : (id : ℤ) (x : T) → eval_all show (params ∷ (Int id ∷ form.encode x) ∷ []) ≡ view x)
    (old new : State) (has : old.now.schema ≡ schema) (held : AreRows form (old.now.trees tree)) where
  -- what it shows
  pub scan_shown : (rows : List Row) → Shown sql params old new rows → rows ≡ page (scan tree test show by_rowid limit) params (map view (filter m (typed form (old.now.trees tree))))
  scan_shown rows h =
      let read = reads_as sql params old new schema has _ means.is means.plain means.unlisted rows h in
      let at_tree : overlay old.now.trees [] tree ≡ old.now.trees tree = rw low in
      scanned_page form tree (overlay old.now.trees []) (subst (AreRows form) (sym at_tree) held) test show limit params m tests view shows rows (read.answer Null)
      ∙ ap (λ l. page (scan tree test show by_rowid limit) params (map view (filter m (typed form l)))) at_tree

-- the first row, if there is one
pub first_row : {T X : Type 0} (view : T → X) (m : T → Bool) (xs : List T) (rows : List X) → rows ≡ map view (filter m xs) → slice_get rows 0 ≡ option_map view (find m xs)
first_row view m xs rows h = ap (λ l. slice_get l 0) h ∙ slice_get-map view (filter m xs) 0 ∙ ap (option_map view) (slice_get-filter m xs)

-- the whole of it, from what `query_all` says
module _ (sql : List ℕ) (schema : Schema) (tree : ℕ) (test show : List Term) (order : List (Term × Key)) (limit : Term) (names : List (List ℕ)) (parameters : ℕ)
    (means : Means schema sql (selects tree test show order limit names) parameters) (params : Row) (old new : State) (ready : HasCleanDisk old → IsTrue old.is_open → old.now.schema ≡ schema) where
  -- how a SELECT may end
  pub scan_asks : length params ≡ parameters → accepts_program schema [] (scan tree test show order limit) params ≡ true → {X : Type 0} (rows_in : X → List Row) (result : Result X Error)
      → (HasCleanDisk new → IfOk result (λ x. Shown sql params old new (rows_in x))) → (HasCleanDisk new → IfErr result (FailsToQuery sql params old new)) → Survives old new (CommitsShowing sql params old)
      → Asks old new result
  scan_asks given accepts rows_in result ok err survives = go result ok err
    where
      go : (result : Result _ Error) → (HasCleanDisk new → IfOk result (λ x. Shown sql params old new (rows_in x))) → (HasCleanDisk new → IfErr result (FailsToQuery sql params old new)) → Asks old new result
      go (Ok x) ok err = record {
        same = λ clean. shown_same sql params old new schema (ready (clean_before old new _ survives clean) (shown_open sql params old new _ (ok clean))) _ parameters means (rows_in x) (ok clean);
        undone = λ _. tt;
        trouble = λ _ _. tt;
        up = query_up sql params old new rows_in (Ok x) ok err;
        survives = shows_nothing sql params old new schema _ parameters means ready survives;
      }
      go (Err e) ok err = record {
        same = λ _. tt;
        undone = λ clean. query_undone sql params old new e (err clean);
        trouble = λ clean unlimited. elim (query_open sql params old new e (err clean)) [
          | inl up ↦ scan_trouble sql schema tree test show order limit names parameters means params old new (ready (clean_before old new _ survives clean) up) given accepts unlimited e (err clean)
          | inr bad ↦ bad
        ];
        up = query_up sql params old new rows_in (Err e) ok err;
        survives = shows_nothing sql params old new schema _ parameters means ready survives;
      }

module _ {T : Type 0} (form : Form T) (sql : List ℕ) (schema : Schema) (tree : ℕ) (test show : List Term) (limit : Term) (names : List (List ℕ)) (parameters : ℕ)
    (means : Means schema sql (selects tree test show by_rowid limit names) parameters) (low : nat_le (2 ^ 31) tree ≡ false)
    (params : Row) (m : T → Bool) (tests : (id : ℤ) (x : T) → list_all (holds (params ∷ (Int id ∷ form.encode x) ∷ [])) test ≡ m x)
    (view : T → Row) (shows : (id : ℤ) (x : T) → eval_all show (params ∷ (Int id ∷ form.encode x) ∷ []) ≡ view x)
    (old new : State) (ready : HasCleanDisk old → IsTrue old.is_open → (old.now.schema ≡ schema) × AreRows form (old.now.trees tree)) where
  -- its rows, of a result
  pub scan_rows : {X : Type 0} (rows_in : X → List Row) (result : Result X Error) → (HasCleanDisk new → IfOk result (λ x. Shown sql params old new (rows_in x)))
      → {P : Rattle.sqlite.specs.Tree.Trees → Type 0} → Survives old new P → HasCleanDisk new
      → IfOk result (λ x. rows_in x ≡ page (scan tree test show by_rowid limit) params (map view (filter m (typed form (old.now.trees tree)))))
  scan_rows rows_in (Err e) ok survives clean = tt
  scan_rows rows_in (Ok x) ok survives clean =
      let was = ready (clean_before old new _ survives clean) (shown_open sql params old new _ (ok clean)) in
      scan_shown form sql schema tree test show limit names parameters means low params m tests view shows old new was.0 was.1 (rows_in x) (ok clean)

-- two functions that agree on each element of a list
pub same_on : {X Y : Type 0} (f g : X → Y) (xs : List X) → ((x : X) → Has xs x → f x ≡ g x) → map f xs ≡ map g xs
same_on f g [] h = refl
same_on f g (x ∷ xs) h = ap₂ ◌∷◌ (h x (inl refl)) (same_on f g xs (λ y there. h y (inr there)))

-- in no order that is known
module _ {T : Type 0} (form : Form T) (tree : ℕ) (db : Trees) (held : AreRows form (db tree)) (test show : List Term) (order : List (Term × Key)) (params : Row)
    (m : T → Bool) (tests : (id : ℤ) (x : T) → list_all (holds (params ∷ (Int id ∷ form.encode x) ∷ [])) test ≡ m x)
    (view : Entry T → Row) (shows : (e : Entry T) → Has (filter (λ (d : Entry T). m d.1) (entries form (db tree))) e → eval_all show (params ∷ put form e ∷ []) ≡ view e) where
  -- the rows, in some order
  pub scanned_any : (rows : List Row) → IsAnswer (scan tree test show order no_limit) db params rows → IsPermutation (map view (filter (λ e. m e.1) (entries form (db tree)))) rows
  scanned_any rows a =
      let q = scan tree test show order no_limit in
      let source : Source db (inner tree end) (Entry T) = last_table db tree (put form) (λ e. e.0) (entries form (db tree)) (stored form (db tree) held) (keyed form (db tree) held) (at_end db) in
      let hits = filter (λ (e : Entry T). m e.1) (entries form (db tree)) in
      let staged : a.staged ≡ map (λ e. params ∷ put form e ∷ []) hits = a.grouped ∙ matches_are q db params source (λ e. m e.1) (λ e. tests e.0 e.1) in
      let shown : map (λ (o : Output). o.1) a.kept ≡ map view hits =
      ap (map (λ (o : Output). o.1)) (a.distinct ∙ ap (map (output q)) staged) ∙ map-map (λ (o : Output). o.1) (output q) _ ∙ map-map (eval_all show) (λ e. params ∷ put form e ∷ []) hits ∙ same_on _ view hits shows in
      subst₂ (λ xs ys. IsPermutation xs ys) shown (sym a.shown) (IsPermutation-map (λ (o : Output). o.1) _ _ a.same)

-- ---- ORDER BY columns, and then the rowid

-- orders, one after another
pub then_assoc : (a b c : Ordering) → ordering_then (ordering_then a b) c ≡ ordering_then a (ordering_then b c)
then_assoc Less b c = refl
then_assoc Equal b c = refl
then_assoc Greater b c = refl

-- the rowid decides no more than the order of the rows does
module _ {T : Type 0} (o : T → T → Ordering) where
  abbrev by_entry : Entry T → Entry T → Ordering
  by_entry a b = ordering_then (o a.1 b.1) (int_cmp a.0 b.0)

  not_later : (u : Ordering) (v : Ordering) → v ≡ Less → is_gt (ordering_then u v) ≡ is_gt u
  not_later Less v h = refl
  not_later Equal v h = ap is_gt h
  not_later Greater v h = refl

  inserted_same : (e : Entry T) (xs : List (Entry T)) → AllByRecursion (λ x. int_cmp e.0 x.0 ≡ Less) xs → insert_sorted by_entry e xs ≡ insert_sorted (λ a b. o a.1 b.1) e xs
  inserted_same e [] above = refl
  inserted_same e (x ∷ xs) above = rw (not_later (o e.1 x.1) _ above.0, inserted_same e xs above.1)

  all_inserted : (P : Entry T → Type 0) (e : Entry T) (xs : List (Entry T)) → P e → AllByRecursion P xs → AllByRecursion P (insert_sorted (λ a b. o a.1 b.1) e xs)
  all_inserted P e [] h all = (h, tt)
  all_inserted P e (x ∷ xs) h all =
      elim (is_gt (o e.1 x.1)) as (λ b. AllByRecursion P (cond b (x ∷ insert_sorted (λ a b. o a.1 b.1) e xs) (e ∷ x ∷ xs))) [ true ↦ (all.0, all_inserted P e xs h all.1) | false ↦ (h, all) ]

  all_sorted : (P : Entry T → Type 0) (xs : List (Entry T)) → AllByRecursion P xs → AllByRecursion P (sort_by (λ a b. o a.1 b.1) xs)
  all_sorted P [] all = tt
  all_sorted P (x ∷ xs) all = all_inserted P x _ all.0 (all_sorted P xs all.1)

  sorted_same : (xs : List (Entry T)) → IsAscending (λ a b. int_cmp a.0 b.0 ≡ Less) xs → sort_by by_entry xs ≡ sort_by (λ a b. o a.1 b.1) xs
  sorted_same [] up = refl
  sorted_same (x ∷ xs) up = ap (insert_sorted by_entry x) (sorted_same xs up.1) ∙ inserted_same x _ (all_sorted _ xs up.0)

-- the rows that pass, sorted with their rowids, show the typed rows sorted
pub sorted_typed : {T : Type 0} (form : Form T) (rows : List Row) → AreRows form rows → (o : T → T → Ordering) (m : T → Bool) (view : T → Row)
    → map (λ (e : Entry T). view e.1) (sort_by (by_entry o) (filter (λ (e : Entry T). m e.1) (entries form rows))) ≡ map view (sort_by o (filter m (typed form rows)))
sorted_typed {T} form rows held o m view =
    let db : Trees = λ _. rows in
    let source : Source db (inner 0 end) (Entry T) = last_table db 0 (put form) (λ e. e.0) (entries form rows) (stored form rows held) (keyed form rows held) (at_end db) in
    let hits = filter (λ (e : Entry T). m e.1) (entries form rows) in
    let sorted : sort_by (by_entry o) hits ≡ sort_by (λ a b. o a.1 b.1) hits = sorted_same o hits (ascending-filter _ (λ e. m e.1) _ source.rises) in
    let plain : map (λ (e : Entry T). e.1) hits ≡ filter m (typed form rows) = picked form m (λ x. x) rows ∙ map-id _ in
    ap (map (λ (e : Entry T). view e.1)) sorted ∙ sym (map-map view (λ (e : Entry T). e.1) _) ∙ ap (map view) (sym (sort_by-map o (λ (e : Entry T). e.1) hits) ∙ ap (sort_by o) plain)

module _ {T : Type 0} (form : Form T) (tree : ℕ) (db : Trees) (held : AreRows form (db tree)) (test show : List Term) (order : List (Term × Key)) (limit : Term) (params : Row)
    (m : T → Bool) (tests : (id : ℤ) (x : T) → list_all (holds (params ∷ (Int id ∷ form.encode x) ∷ [])) test ≡ m x)
    (view : T → Row) (shows : (id : ℤ) (x : T) → eval_all show (params ∷ (Int id ∷ form.encode x) ∷ []) ≡ view x)
    (o : T → T → Ordering) (is : (a b : Entry T) → output_cmp (scan tree test show order limit) (output (scan tree test show order limit) (params ∷ put form a ∷ [])) (output (scan tree test show order limit) (params ∷ put form b ∷ [])) ≡ by_entry o a b) where
  -- the rows that pass, sorted
  pub sorted_page : (rows : List Row) → IsAnswer (scan tree test show order limit) db params rows
      → rows ≡ page (scan tree test show order limit) params (map view (sort_by o (filter m (typed form (db tree)))))
  sorted_page rows h =
      let q = scan tree test show order limit in
      let source : Source db (inner tree end) (Entry T) = last_table db tree (put form) (λ e. e.0) (entries form (db tree)) (stored form (db tree) held) (keyed form (db tree) held) (at_end db) in
      sym (map-id rows)
      ∙ answer_sorted q db params source (λ e. m e.1) (λ e. tests e.0 e.1) (λ r. r) (λ e. view e.1) (λ e. shows e.0 e.1) refl refl (by_entry o) (λ a b less. no_tie_after (o a.1 b.1) (no_tie less)) is rows h
      ∙ ap (page q params) (sorted_typed form (db tree) held o m view)

-- the same, from what `query_all` says
module _ {T : Type 0} (form : Form T) (sql : List ℕ) (schema : Schema) (tree : ℕ) (test show : List Term) (order : List (Term × Key)) (limit : Term) (names : List (List ℕ)) (parameters : ℕ)
    (means : Means schema sql (selects tree test show order limit names) parameters) (low : nat_le (2 ^ 31) tree ≡ false)
    (params : Row) (m : T → Bool) (tests : (id : ℤ) (x : T) → list_all (holds (params ∷ (Int id ∷ form.encode x) ∷ [])) test ≡ m x)
    (view : T → Row) (shows : (id : ℤ) (x : T) → eval_all show (params ∷ (Int id ∷ form.encode x) ∷ []) ≡ view x)
    (o : T → T → Ordering) (is : (a b : Entry T) → output_cmp (scan tree test show order limit) (output (scan tree test show order limit) (params ∷ put form a ∷ [])) (output (scan tree test show order limit) (params ∷ put form b ∷ [])) ≡ by_entry o a b)
    (old new : State) (ready : HasCleanDisk old → IsTrue old.is_open → (old.now.schema ≡ schema) × AreRows form (old.now.trees tree)) where
  -- its rows, of a result
  pub sorted_rows : {X : Type 0} (rows_in : X → List Row) (result : Result X Error) → (HasCleanDisk new → IfOk result (λ x. Shown sql params old new (rows_in x)))
      → {P : Trees → Type 0} → Survives old new P → HasCleanDisk new
      → IfOk result (λ x. rows_in x ≡ page (scan tree test show order limit) params (map view (sort_by o (filter m (typed form (old.now.trees tree))))))
  sorted_rows rows_in (Err e) ok survives clean = tt
  sorted_rows rows_in (Ok x) ok survives clean =
      let was = ready (clean_before old new _ survives clean) (shown_open sql params old new _ (ok clean)) in
      let read = reads_as sql params old new schema was.0 _ means.is means.plain means.unlisted (rows_in x) (ok clean) in
      let at_tree : overlay old.now.trees [] tree ≡ old.now.trees tree = rw low in
      sorted_page form tree (overlay old.now.trees []) (subst (AreRows form) (sym at_tree) was.1) test show order limit params m tests view shows o is (rows_in x) (read.answer Null)
      ∙ ap (λ l. page (scan tree test show order limit) params (map view (sort_by o (filter m (typed form l))))) at_tree

-- ---- SELECT coalesce(sum(COLUMN), 0)

sum_sizes : {T : Type 0} (size : T → ℕ) (es : List (Entry T)) → sum_of (λ (e : Entry T). pos (size e.1)) es ≡ pos (sum_by size (map (λ (e : Entry T). e.1) es))
sum_sizes size [] = refl
sum_sizes {T} size (e ∷ es) = ap (λ z. pos (size e.1) +ℤ z) (sum_sizes size es) ∙ ap pos (sym (sum_by-cons size e.1 (map (λ (d : Entry T). d.1) es)))

module _ {T : Type 0} (form : Form T) (tree : ℕ) (db : Trees) (held : AreRows form (db tree)) (test : List Term) (arg : Term) (params : Row)
    (m : T → Bool) (tests : (id : ℤ) (x : T) → list_all (holds (params ∷ (Int id ∷ form.encode x) ∷ [])) test ≡ m x)
    (size : T → ℕ) (reads : (id : ℤ) (x : T) → eval arg (params ∷ (Int id ∷ form.encode x) ∷ []) ≡ Int (pos (size x))) where
  abbrev table : Source db (inner tree end) (Entry T)
  table = last_table db tree (put form) (λ e. e.0) (entries form (db tree)) (stored form (db tree) held) (keyed form (db tree) held) (at_end db)

  -- the sum of the rows that pass
  pub summed : (rows : List Row) → IsAnswer (summing tree test arg) db params rows → rows ≡ (Int (pos (sum_by size (filter m (typed form (db tree))))) ∷ []) ∷ []
  summed rows h =
      let hits = filter (λ (e : Entry T). m e.1) (entries form (db tree)) in
      let plain : map (λ (e : Entry T). e.1) hits ≡ filter m (typed form (db tree)) = picked form m (λ x. x) (db tree) ∙ map-id _ in
      sum_is (summing tree test arg) db params table (λ e. m e.1) (λ e. tests e.0 e.1) arg (λ e. Some (pos (size e.1))) (λ e. reads e.0 e.1) refl refl refl rows h
      ∙ ap (λ n. (Int n ∷ []) ∷ []) (sum_of_all (λ (e : Entry T). pos (size e.1)) hits ∙ sum_sizes size hits ∙ ap (λ l. pos (sum_by size l)) plain)

-- the sum, from what `query_all` says
module _ {T : Type 0} (form : Form T) (sql : List ℕ) (schema : Schema) (tree : ℕ) (test : List Term) (arg : Term) (names : List (List ℕ)) (parameters : ℕ)
    (means : Means schema sql (Select (record { lets = []; body = summing tree test arg }) names) parameters) (low : nat_le (2 ^ 31) tree ≡ false) (params : Row)
    (m : T → Bool) (tests : (id : ℤ) (x : T) → list_all (holds (params ∷ (Int id ∷ form.encode x) ∷ [])) test ≡ m x)
    (size : T → ℕ) (reads : (id : ℤ) (x : T) → eval arg (params ∷ (Int id ∷ form.encode x) ∷ []) ≡ Int (pos (size x)))
    (old new : State) (ready : HasCleanDisk old → IsTrue old.is_open → (old.now.schema ≡ schema) × AreRows form (old.now.trees tree)) where
  -- its row, of a result
  pub summed_rows : {X : Type 0} (rows_in : X → List Row) (result : Result X Error) → (HasCleanDisk new → IfOk result (λ x. Shown sql params old new (rows_in x)))
      → {P : Trees → Type 0} → Survives old new P → HasCleanDisk new
      → IfOk result (λ x. rows_in x ≡ (Int (pos (sum_by size (filter m (typed form (old.now.trees tree))))) ∷ []) ∷ [])
  summed_rows rows_in (Err e) ok survives clean = tt
  summed_rows rows_in (Ok x) ok survives clean =
      let was = ready (clean_before old new _ survives clean) (shown_open sql params old new _ (ok clean)) in
      let read = reads_as sql params old new schema was.0 _ means.is means.plain means.unlisted (rows_in x) (ok clean) in
      let at_tree : overlay old.now.trees [] tree ≡ old.now.trees tree = rw low in
      summed form tree (overlay old.now.trees []) (subst (AreRows form) (sym at_tree) was.1) test arg params m tests size reads (rows_in x) (read.answer Null)
      ∙ ap (λ l. (Int (pos (sum_by size (filter m (typed form l)))) ∷ []) ∷ []) at_tree
