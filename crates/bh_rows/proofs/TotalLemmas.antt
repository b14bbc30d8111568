-- COUNT, and why a query that counts or sums may fail.
use Rattle.std.proofs.Common.{arith, ◌≡◌, ◌⊎◌, inl, inr, ℕ, ◌+◌, ◌^◌, ◌<◌, ◌≤◌, nat_le, min, ℤ, pos, unsigned_abs, sum_by, List, [], ◌∷◌, length, map, map-id, filter, Bool, true, false, true≢false, None, Some, Ok, Err, Result, IfOk, IfErr, IsTrue, Any, refl, sym, ap, subst, subst₂, ◌∙◌, append-nil}
use Rattle.std.specs.List.{AllZip, list_all}
use Rattle.std.proofs.lemmas.List.{length-map}
use Rattle.std.proofs.lemmas.List.Sorted.{length_permutation}
use Rattle.std.proofs.lemmas.List.Sums.{sum_by-cons}
use Rattle.sqlite.specs.declared.types.Value.TheVariants.{Null, Int}
use Rattle.sqlite.specs.Order.{Row}
use Rattle.sqlite.specs.Collation.TheVariants.{Binary}
use Rattle.sqlite.specs.Term.{Term, lit, eval, holds}
use Rattle.sqlite.specs.Query.{Query, inner, end, matches, IsAnswer}
use Rattle.sqlite.specs.Program.{overlay, ProgramOverflows}
use Rattle.sqlite.specs.Tree.{Trees}
use Rattle.sqlite.specs.Schema.{Schema}
use Rattle.sqlite.specs.Command.TheVariants.{Select}
use Rattle.sqlite.specs.Effect.{RefusesQuery, RefusesToRead}
use Rattle.sqlite.specs.Listing.{reads_listing, IsSourceOf}
use Rattle.sqlite.specs.State.{State, HasCleanDisk, Survives, Shown, FailsToQuery, CommitsShowing}
use Rattle.sqlite.specs.declared.error.Error.{Error}
use Rattle.sqlite.specs.declared.error.Error.TheVariants.{SqliteFailure}
use Rattle.sqlite.specs.declared.error.ErrorCode.TheVariants.{IntegerOverflow}
use Rattle.sqlite.proofs.Callers.{reads_as}
use Rattle.sqlite_typing.specs.Types.{accepts_program}
use Rattle.sqlite_sql.specs.declared.aggregate.AggregateOp.TheVariants.{CountRows}
use Rattle.sqlite_sql.specs.Aggregate.{count}
use Rattle.sqlite_sql.specs.Group.{Aggregate, value_over, IsSummary}
use Rattle.sqlite_sql.specs.Query.{FoldOverflows}
use Rattle.sqlite_sql.proofs.AggregateLemmas.{present, only_one}
use Rattle.sqlite_schema.specs.declared.program.Program.{Program}
use Rattle.sqlite_rules.specs.Lists.{Has}
use Rattle.sqlite_rules.proofs.ListLemmas.{any_has}
use Rattle.sqlite_typed.proofs.AnswerLemmas.{Source, at_end, last_table, count_is, sum_too_wide}
use Rattle.bh_rows.specs.Means.{Means, Asks, is_trouble}
use Rattle.bh_rows.specs.Form.{Form, AreRows, Entry, put, entries, typed}
pub use Rattle.bh_rows.specs.Scan.{counting, counting_rows}
use Rattle.bh_rows.specs.Scan.{summing}
use Rattle.bh_rows.proofs.CallLemmas.{compiled_plain, compiled_command, not_run, shown_open, shown_same, shows_nothing, query_undone, query_open, query_up, clean_before}
use Rattle.bh_rows.proofs.FormLemmas.{stored, keyed, picked}

-- ---- SELECT count(*)

-- a number below 2^63 is shown as it is
pub count_small : (n : ℕ) → n < 2 ^ 63 → count n ≡ Int (pos n)
count_small n low = let e : min n 9223372036854775807 ≡ n = omega arith in ap (λ k. Int (pos k)) e

-- 0 is shown of no row alone
pub count_none : (n : ℕ) → count n ≡ Int (pos 0) → n ≡ 0
count_none n h = let e : min n 9223372036854775807 ≡ 0 = let same : Int (pos (min n 9223372036854775807)) ≡ Int (pos 0) = h in cc in omega arith

one_value : (order : List (List Row)) (vs : Row) → AllZip (λ a v. value_over order a ≡ Some v) counting_rows.aggregates vs → vs ≡ count (length order) ∷ []
one_value order [] h = absurd h
one_value order (v ∷ u ∷ vs) h = absurd h.1
one_value order (v ∷ []) h = let same : Some (count (length (map (eval (lit Null)) order))) ≡ Some v = h.0 in let is : count (length (map (eval (lit Null)) order)) ≡ v = cc in ap (λ x. x ∷ []) (sym is ∙ ap count (length-map order (eval (lit Null))))

one_row : (order : List (List Row)) (rows : List Row) → AllZip (IsSummary counting_rows) (order ∷ []) rows → rows ≡ (count (length order) ∷ []) ∷ []
one_row order [] h = absurd h
one_row order (r ∷ s ∷ rows) h = absurd h.1
one_row order (r ∷ []) h = ap (λ x. x ∷ []) (h.0.2 ∙ one_value order h.0.0 h.0.1)

module _ {T : Type 0} (form : Form T) (tree : ℕ) (db : Trees) (held : AreRows form (db tree)) (test : List Term) (params : Row)
    (m : T → Bool) (tests : (id : ℤ) (x : T) → list_all (holds (params ∷ (Int id ∷ form.encode x) ∷ [])) test ≡ m x) where
  abbrev table : Source db (inner tree end) (Entry T)
  table = last_table db tree (put form) (λ e. e.0) (entries form (db tree)) (stored form (db tree) held) (keyed form (db tree) held) (at_end db)

  matched : length (matches db test (inner tree end) (params ∷ [])) ≡ length (filter m (typed form (db tree)))
  matched = count_is (counting tree test) db params table (λ e. m e.1) (λ e. tests e.0 e.1) ∙ sym (length-map (filter (λ (e : Entry T). m e.1) (entries form (db tree))) (λ (e : Entry T). e.1)) ∙ ap length (picked form m (λ x. x) (db tree) ∙ map-id _)

  -- how many rows pass
  pub counted : (rows : List Row) → IsAnswer (counting tree test) db params rows → rows ≡ (count (length (filter m (typed form (db tree)))) ∷ []) ∷ []
  counted rows answer =
      let made = answer.grouped in
      let row = one_row made.grouping.0 made.rows (subst (λ g. AllZip (IsSummary counting_rows) g made.rows) made.grouping.2 made.summaries) in
      let many : length made.grouping.0 ≡ length (filter m (typed form (db tree))) = length_permutation _ _ made.grouping.1 ∙ matched in
      let kept = rw (made.having, row) at answer.distinct in
      let ordered = only_one _ answer.ordered (rw kept at answer.same) in
      rw (ordered, many) at answer.shown

-- the count, from what `query_all` says
module _ {T : Type 0} (form : Form T) (sql : List ℕ) (schema : Schema) (tree : ℕ) (test : List Term) (names : List (List ℕ)) (parameters : ℕ)
    (means : Means schema sql (Select (record { lets = []; body = counting tree test }) names) parameters) (low : nat_le (2 ^ 31) tree ≡ false) (params : Row)
    (m : T → Bool) (tests : (id : ℤ) (x : T) → list_all (holds (params ∷ (Int id ∷ form.encode x) ∷ [])) test ≡ m x)
    (old new : State) (ready : HasCleanDisk old → IsTrue old.is_open → (old.now.schema ≡ schema) × AreRows form (old.now.trees tree)) where
  -- its row, of a result
  pub counted_rows : {X : Type 0} (rows_in : X → List Row) (result : Result X Error) → (HasCleanDisk new → IfOk result (λ x. Shown sql params old new (rows_in x)))
      → {P : Trees → Type 0} → Survives old new P → HasCleanDisk new
      → IfOk result (λ x. rows_in x ≡ (count (length (filter m (typed form (old.now.trees tree)))) ∷ []) ∷ [])
  counted_rows rows_in (Err e) ok survives clean = tt
  counted_rows rows_in (Ok x) ok survives clean =
      let was = ready (clean_before old new _ survives clean) (shown_open sql params old new _ (ok clean)) in
      let read = reads_as sql params old new schema was.0 _ means.is means.plain means.unlisted (rows_in x) (ok clean) in
      let at_tree : overlay old.now.trees [] tree ≡ old.now.trees tree = rw low in
      counted form tree (overlay old.now.trees []) (subst (AreRows form) (sym at_tree) was.1) test params m tests (rows_in x) (read.answer Null)
      ∙ ap (λ l. (count (length (filter m (typed form l))) ∷ []) ∷ []) at_tree

-- ---- why a query fails

module _ (sql : List ℕ) (schema : Schema) (body : Query) (names : List (List ℕ)) (parameters : ℕ) (means : Means schema sql (Select (record { lets = []; body = body }) names) parameters) (params : Row) (old new : State) where
  -- with no limit on the steps: for trouble, or since a sum is too wide
  pub query_cause : old.now.schema ≡ schema → length params ≡ parameters → accepts_program schema [] body params ≡ true → old.step_limit ≡ None → (e : Error) → FailsToQuery sql params old new e
      → (is_trouble e ≡ true) ⊎ ((e ≡ SqliteFailure IntegerOverflow) × ProgramOverflows old.now.trees params [] [] body)
  unfolding FailsToQuery
  query_cause has given accepts unlimited e (inl h) = inl (not_run sql params old new schema has _ parameters means given e h)
  query_cause has given accepts unlimited e (inr ran) =
      let bare = compiled_plain sql params old new schema has _ parameters means ran.0 ran.1 in
      let it = rw (bare.0, bare.1, append-nil params) at ran.2 in
      let db : it.0 ≡ old.now = subst (λ b. IsSourceOf b old.now it.0) (ap (λ s. reads_listing s sql) has ∙ means.unlisted) it.1 in
      let q : Program = record { lets = []; body = body } in
      let refuses : RefusesQuery old.step_limit old.now q params e = subst₂ (λ k d. RefusesToRead old.step_limit k d params e) (compiled_command sql params old new schema has _ parameters means ran.0 ran.1) db it.2 in
      elim refuses [
        | inl mistyped ↦ absurd (true≢false (sym accepts ∙ ap (λ s. accepts_program s [] body params) (sym has) ∙ mistyped.1))
        | inr (inl over) ↦ inr over
        | inr (inr stopped) ↦ absurd (let some = rw unlimited at stopped.1 in cc)
      ]

  module _ (ready : HasCleanDisk old → IsTrue old.is_open → old.now.schema ≡ schema) (given : length params ≡ parameters) (accepts : accepts_program schema [] body params ≡ true) where
    -- where no sum is too wide, it asks as any SELECT does
    pub body_asks : (HasCleanDisk old → IsTrue old.is_open → ¬ ProgramOverflows old.now.trees params [] [] body) → {X : Type 0} (rows_in : X → List Row) (result : Result X Error)
        → (HasCleanDisk new → IfOk result (λ x. Shown sql params old new (rows_in x))) → (HasCleanDisk new → IfErr result (FailsToQuery sql params old new)) → Survives old new (CommitsShowing sql params old)
        → Asks old new result
    body_asks fits rows_in (Ok x) ok err survives = record {
      same = λ clean. shown_same sql params old new schema (ready (clean_before old new _ survives clean) (shown_open sql params old new _ (ok clean))) _ parameters means (rows_in x) (ok clean);
      undone = λ _. tt;
      trouble = λ _ _. tt;
      up = query_up sql params old new rows_in (Ok x) ok err;
      survives = shows_nothing sql params old new schema _ parameters means ready survives;
    }
    body_asks fits rows_in (Err e) ok err survives = record {
      same = λ _. tt;
      undone = λ clean. query_undone sql params old new e (err clean);
      trouble = λ clean unlimited. elim (query_open sql params old new e (err clean)) [
        | inl up ↦
            let was = clean_before old new _ survives clean in
            elim (query_cause (ready was up) given accepts unlimited e (err clean)) [ inl bad ↦ bad | inr wide ↦ absurd (fits was up wide.1) ]
        | inr bad ↦ bad
      ];
      up = query_up sql params old new rows_in (Err e) ok err;
      survives = shows_nothing sql params old new schema _ parameters means ready survives;
    }

-- over one table no other part of the query sums
one_table : (tree : ℕ) (db : Trees) (params : Row) → ¬ FoldOverflows db (inner tree end) (params ∷ [])
one_table tree db params h = (any_has _ _ h).2

always_counts : (group : List (List Row)) (a : Aggregate) → Has counting_rows.aggregates a → ¬ (value_over group a ≡ None)
always_counts group a (inl same) none = let lost : value_over group (record { op = CountRows; distinct = false; collation = Binary; argument = lit Null }) ≡ None = subst (λ b. value_over group b ≡ None) same none in absurd (cc)
always_counts group a (inr never) none = never

-- a count never overflows
pub count_fits : (tree : ℕ) (test : List Term) (db : Trees) (params : Row) → ¬ ProgramOverflows db params [] [] (counting tree test)
count_fits tree test db params (inl wide) =
    let group = any_has (λ g. Any (λ a. value_over g a ≡ None) counting_rows.aggregates) wide.0 wide.2 in
    let aggregate = any_has (λ a. value_over group.0 a ≡ None) counting_rows.aggregates group.2 in
    always_counts group.0 aggregate.0 aggregate.1 aggregate.2
count_fits tree test db params (inr h) = one_table tree (overlay db []) params h

-- what a sum that overflows comes to
sizes_are : {T : Type 0} (size : T → ℕ) (es : List (Entry T)) → sum_by unsigned_abs (present (map (λ (e : Entry T). Some (pos (size e.1))) es)) ≡ sum_by size (map (λ (e : Entry T). e.1) es)
sizes_are size [] = refl
sizes_are {T} size (e ∷ es) =
    sum_by-cons unsigned_abs (pos (size e.1)) (present (map (λ (d : Entry T). Some (pos (size d.1))) es)) ∙ ap (λ n. size e.1 + n) (sizes_are size es) ∙ sym (sum_by-cons size e.1 (map (λ (d : Entry T). d.1) es))

module _ {T : Type 0} (form : Form T) (tree : ℕ) (test : List Term) (arg : Term) (low : nat_le (2 ^ 31) tree ≡ false) (params : Row)
    (m : T → Bool) (tests : (id : ℤ) (x : T) → list_all (holds (params ∷ (Int id ∷ form.encode x) ∷ [])) test ≡ m x)
    (size : T → ℕ) (reads : (id : ℤ) (x : T) → eval arg (params ∷ (Int id ∷ form.encode x) ∷ []) ≡ Int (pos (size x))) where
  -- a sum that overflows is 2^63 at least
  pub sum_wide : (db : Trees) → AreRows form (db tree) → ProgramOverflows db params [] [] (summing tree test arg) → 2 ^ 63 ≤ sum_by size (filter m (typed form (db tree)))
  sum_wide db held (inr h) = absurd (one_table tree (overlay db []) params h)
  sum_wide db held (inl wide) =
      let at_tree : overlay db [] tree ≡ db tree = rw low in
      let kept = subst (AreRows form) (sym at_tree) held in
      let over = overlay db [] in
      let source : Source over (inner tree end) (Entry T) = last_table over tree (put form) (λ e. e.0) (entries form (over tree)) (stored form (over tree) kept) (keyed form (over tree) kept) (at_end over) in
      let big = sum_too_wide (summing tree test arg) over params source (λ e. m e.1) (λ e. tests e.0 e.1) arg (λ e. Some (pos (size e.1))) (λ e. reads e.0 e.1) refl wide in
      let same = sizes_are size (filter (λ (e : Entry T). m e.1) (entries form (over tree))) ∙ ap (sum_by size) (picked form m (λ x. x) (over tree) ∙ map-id _) ∙ ap (λ l. sum_by size (filter m (typed form l))) at_tree in
      omega (arith, big, same)

-- what is left of a COUNT, from what `query_all` says
module _ (sql : List ℕ) (schema : Schema) (tree : ℕ) (test : List Term) (names : List (List ℕ)) (parameters : ℕ)
    (means : Means schema sql (Select (record { lets = []; body = counting tree test }) names) parameters) (params : Row) (old new : State) (ready : HasCleanDisk old → IsTrue old.is_open → old.now.schema ≡ schema) where
  -- how a COUNT may end
  pub counted_asks : length params ≡ parameters → accepts_program schema [] (counting tree test) params ≡ true → {X : Type 0} (rows_in : X → List Row) (result : Result X Error)
      → (HasCleanDisk new → IfOk result (λ x. Shown sql params old new (rows_in x))) → (HasCleanDisk new → IfErr result (FailsToQuery sql params old new)) → Survives old new (CommitsShowing sql params old)
      → Asks old new result
  counted_asks given accepts = body_asks sql schema (counting tree test) names parameters means params old new ready given accepts (λ _ _. count_fits tree test old.now.trees params)

-- and of a SUM that a bound is known for
module _ {T : Type 0} (form : Form T) (sql : List ℕ) (schema : Schema) (tree : ℕ) (test : List Term) (arg : Term) (names : List (List ℕ)) (parameters : ℕ)
    (means : Means schema sql (Select (record { lets = []; body = summing tree test arg }) names) parameters) (low : nat_le (2 ^ 31) tree ≡ false) (params : Row)
    (m : T → Bool) (tests : (id : ℤ) (x : T) → list_all (holds (params ∷ (Int id ∷ form.encode x) ∷ [])) test ≡ m x)
    (size : T → ℕ) (reads : (id : ℤ) (x : T) → eval arg (params ∷ (Int id ∷ form.encode x) ∷ []) ≡ Int (pos (size x)))
    (old new : State) (ready : HasCleanDisk old → IsTrue old.is_open → (old.now.schema ≡ schema) × AreRows form (old.now.trees tree)) where
  -- how a SUM below 2^63 may end
  pub summed_asks : length params ≡ parameters → accepts_program schema [] (summing tree test arg) params ≡ true
      → (HasCleanDisk old → IsTrue old.is_open → sum_by size (filter m (typed form (old.now.trees tree))) < 2 ^ 63) → {X : Type 0} (rows_in : X → List Row) (result : Result X Error)
      → (HasCleanDisk new → IfOk result (λ x. Shown sql params old new (rows_in x))) → (HasCleanDisk new → IfErr result (FailsToQuery sql params old new)) → Survives old new (CommitsShowing sql params old)
      → Asks old new result
  summed_asks given accepts bound = body_asks sql schema (summing tree test arg) names parameters means params old new (λ clean up. (ready clean up).0) given accepts
      (λ clean up wide. let big = sum_wide form tree test arg low params m tests size reads old.now.trees (ready clean up).1 wide in let small = bound clean up in absurd (omega arith))

  -- with no bound: trouble, or a sum of 2^63 or more
  pub summed_fails : length params ≡ parameters → accepts_program schema [] (summing tree test arg) params ≡ true → {X : Type 0} (result : Result X Error)
      → (HasCleanDisk new → IfErr result (FailsToQuery sql params old new)) → {P : Trees → Type 0} → Survives old new P → HasCleanDisk new → old.step_limit ≡ None
      → IfErr result (λ e. (is_trouble e ≡ true) ⊎ ((e ≡ SqliteFailure IntegerOverflow) × (2 ^ 63 ≤ sum_by size (filter m (typed form (old.now.trees tree))))))
  summed_fails given accepts (Ok x) err survives clean unlimited = tt
  summed_fails given accepts (Err e) err survives clean unlimited = elim (query_open sql params old new e (err clean)) [
    | inr bad ↦ inl bad
    | inl up ↦
        let was = ready (clean_before old new _ survives clean) up in
        elim (query_cause sql schema (summing tree test arg) names parameters means params old new was.0 given accepts unlimited e (err clean)) [
          | inl bad ↦ inl bad
          | inr wide ↦ inr (wide.0, sum_wide form tree test arg low params m tests size reads old.now.trees was.1 wide.1)
        ]
  ]
