-- What a call on a text that is written out does to the state.
use Rattle.std.proofs.Common.{arith, ◌≡◌, ◌≢◌, ◌⊎◌, inl, inr, ℕ, List, [], length, nat_le, cond, true, false, IsTrue, Option, None, Some, IsSome, Ok, Err, Result, OnOk, OnErr, refl, sym, ap, subst, subst₂, ◌∙◌, true≢false, append-nil}
use Rattle.std.proofs.lemmas.Bool.{cases_Bool, leb-true}
use Rattle.sqlite.specs.Schema.{Schema}
use Rattle.sqlite.specs.Order.{Row}
use Rattle.sqlite.specs.Tree.{Trees}
use Rattle.sqlite.specs.Command.{Command}
use Rattle.sqlite.specs.Command.TheVariants.{Insert, InsertOr, Update, Delete, CreateTable, CreateIndex}
use Rattle.sqlite.specs.Command.TheVariants as every
use Rattle.sqlite.specs.Effect.{is_query}
use Rattle.sqlite.specs.State.{is_pragma, IsMisplaced}
use Rattle.std.proofs.Common.{◌||◌, is_some}
use Rattle.sqlite.specs.Listing.{understood}
use Rattle.sqlite.specs.Effect.{Database}
use Rattle.sqlite.specs.Does.{Does}
use Rattle.sqlite.specs.State.{State, HasCleanDisk, IsUnchanged, IsStatement, IsNoStatement, IsNotRun, Fails, store_error, Shown, ShowsRows, FailsToQuery, FailsToShow, CommitsShowing, CommitsBy, Survives, Runs, Writes, Executes, ExecutesIn, RunsCommand, shows_rows, mode_of, text_of}
use Rattle.sqlite.specs.declared.error.Error.{Error}
use Rattle.sqlite_schema.specs.declared.command.Returning.{Returning}
use Rattle.sqlite_trees.specs.declared.error.StoreError.{StoreError}
use Rattle.sqlite_trees.specs.declared.error.StoreError.TheVariants as store
use Rattle.sqlite_resolve.specs.declared.compiled.Compiled.{Compiled}
use Rattle.sqlite.proofs.Callers.{IsPlain, command_of, runs_as, statement_of}
use Rattle.sqlite.proofs.InsideLemmas.{fails_whole}
use Rattle.sqlite.proofs.StateLemmas.{survives_weaker}
use Rattle.bh_rows.specs.Means.{Means, tail_of, parameters_of, is_trouble, is_write, IsUndone, StaysInside, Changes}

-- each error of the store is trouble
pub troubled : (cause : StoreError) → is_trouble (store_error cause) ≡ true
troubled store.OutOfMemory = refl
troubled store.Io = refl
troubled store.Corrupt = refl
troubled store.Full = refl
troubled store.Broken = refl
troubled store.Unstorable = refl

-- a call that fails in the store fails in trouble
pub failed_is_trouble : (old new : State) (too_big : Type 0) (e : Error) → Fails old new too_big e → is_trouble e ≡ true
failed_is_trouble old new too_big e h = ap is_trouble h.1 ∙ troubled h.0

-- a disk that is clean afterwards was clean before
pub clean_before : (old new : State) (P : Trees → Type 0) → Survives old new P → HasCleanDisk new → HasCleanDisk old
clean_before old new P s clean = let rises = s.clean in omega arith

-- ---- with no word on the schema

module _ (sql : List ℕ) (params : Row) (old new : State) where
  -- an answer comes of an open connection
  pub shown_open : (rows : List Row) → Shown sql params old new rows → IsTrue old.is_open
  unfolding Shown
  shown_open rows h = go h.0.returning h.0 _ h.2
    where
      go : (r : Option Returning) (c : Compiled) (full : Row) → ShowsRows old new sql c full rows r → IsTrue old.is_open
      go None c full it = it.3.0.was_open
      go (Some what) c full it = it.1.shown.was_open

  -- a query that fails leaves the tables, or ends the transaction
  pub query_undone : (e : Error) → FailsToQuery sql params old new e → IsUndone old new
  unfolding FailsToQuery IsNotRun
  query_undone e (inl (inl refused)) = inl refused.1
  query_undone e (inl (inr failed)) = inr failed.3
  query_undone e (inr ran) = go ran.0.returning ran.0 _ ran.2
    where
      go : (r : Option Returning) (c : Compiled) (full : Row) → FailsToShow old new sql c full e r → IsUndone old new
      go None c full it = inl it.3
      go (Some what) c full (inl it) = inl it.1
      go (Some what) c full (inr it) = inr it.3

  -- a refusal leaves an open connection
  pub query_open : (e : Error) → FailsToQuery sql params old new e → IsTrue old.is_open ⊎ (is_trouble e ≡ true)
  unfolding FailsToQuery IsNotRun
  query_open e (inl (inl refused)) = inl refused.1.0.was_open
  query_open e (inl (inr failed)) = inr (failed_is_trouble old new _ e failed)
  query_open e (inr ran) = go ran.0.returning ran.0 _ ran.2
    where
      go : (r : Option Returning) (c : Compiled) (full : Row) → FailsToShow old new sql c full e r → IsTrue old.is_open ⊎ (is_trouble e ≡ true)
      go None c full it = inl it.3.0.was_open
      go (Some what) c full (inl it) = inl it.1.0.was_open
      go (Some what) c full (inr it) = inr (failed_is_trouble old new _ e it)

quiet_write : (k : Command) (r : Option Returning) → is_write k ≡ true → r ≡ None → (is_query k || (is_pragma k || is_some r)) ≡ false
quiet_write (Insert at from) r h none = rw none
quiet_write (InsertOr at how from clauses) r h none = rw none
quiet_write (Update at q) r h none = rw none
quiet_write (Delete at q) r h none = rw none
quiet_write CreateTable r h none = rw none
quiet_write (CreateIndex at) r h none = rw none
quiet_write _ r h none = absurd (true≢false (sym h))

not_misplaced : (s : State) (k : Command) (e : Error) → is_write k ≡ true → ¬ IsMisplaced s k e
not_misplaced s k e h (inl (named, inl begin)) = true≢false (sym h ∙ ap is_write begin.0)
not_misplaced s k e h (inl (named, inr (inl commit, _))) = true≢false (sym h ∙ ap is_write commit)
not_misplaced s k e h (inl (named, inr (inr rollback, _))) = true≢false (sym h ∙ ap is_write rollback)
not_misplaced s k e h (inr (named, name, inl release, _)) = true≢false (sym h ∙ ap is_write release)
not_misplaced s k e h (inr (named, name, inr back, _)) = true≢false (sym h ∙ ap is_write back)

-- ---- under a schema that is written out

module _ (sql : List ℕ) (params : Row) (old new : State) (schema : Schema) (has : old.now.schema ≡ schema) (command : Command) (parameters : ℕ) (means : Means schema sql command parameters) where
  here : understood old.now.schema sql ≡ understood schema sql
  here = ap (λ s. understood s sql) has

  -- the text has no RETURNING, and reads no time
  pub compiled_plain : (c : Compiled) → IsStatement old sql params c → (c.returning ≡ None) × (c.formats ≡ [])
  compiled_plain c it = subst IsPlain (sym here ∙ it.is) means.plain

  -- it is the command that it means
  pub compiled_command : (c : Compiled) → IsStatement old sql params c → c.command ≡ command
  compiled_command c it = ap command_of (sym it.is ∙ here) ∙ means.is

  -- an answer changes nothing
  pub shown_same : (rows : List Row) → Shown sql params old new rows → IsUnchanged old new
  unfolding Shown
  shown_same rows h = (rw (compiled_plain h.0 h.1).0 at h.2).3

  -- it is a statement
  pub is_known : length params ≡ parameters → (e : Error) → ¬ IsNoStatement old sql params e
  is_known given e (inl no_sql) = subst IsPlain (sym here ∙ no_sql.1) means.plain
  is_known given e (inr it) =
      let known = sym it.1 ∙ here in
      elim it.2 [
        | inl longer ↦ longer.0 (leb-true _ _ (ap (nat_le (length sql)) (ap tail_of known) ∙ means.whole))
        | inr (inl other) ↦ other.0 (given ∙ sym means.given ∙ sym (ap parameters_of known))
        | inr (inr timed) ↦ timed.0 (subst IsPlain (sym known) means.plain).1
      ]

  -- it is run, if memory and the disk allow
  pub not_run : length params ≡ parameters → (e : Error) → IsNotRun old new sql params e → is_trouble e ≡ true
  unfolding IsNotRun
  not_run given e (inr failed) = failed_is_trouble old new _ e failed
  not_run given e (inl (none, same)) = absurd (is_known given e none)

  module _ (writes : is_write command ≡ true) where
    -- it commits only outside a transaction
    pub commits_outside : (db : Trees) → CommitsBy sql params old db → old.in_transaction ≡ false
    unfolding CommitsBy
    commits_outside db h =
        let is = compiled_command h.0 h.1 in
        elim h.2 [
          | inl (inl commit, same) ↦ absurd (true≢false (sym writes ∙ ap is_write (sym is ∙ commit)))
          | inl (inr release, same) ↦ absurd (true≢false (sym writes ∙ ap is_write (sym is ∙ release.2)))
          | inr wrote ↦ wrote.0
        ]

    -- a write is refused by the database, of the text that it is, or is in trouble
    pub write_refused_text : length params ≡ parameters → (e : Error) → Executes sql params old new (Err e)
        → (is_trouble e ≡ true) ⊎ Does old.step_limit (mode_of old) params (record { schema = schema; trees = old.now.trees }) (statement_of sql (understood schema sql)) None command (Err (Some e))
    unfolding ExecutesIn
    write_refused_text given e (inl h) = inl (not_run given e h)
    write_refused_text given e (inr ran) =
        let bare = compiled_plain ran.0 ran.1 in
        let is = compiled_command ran.0 ran.1 in
        let quiet : shows_rows false ran.0 ≡ false = quiet_write ran.0.command ran.0.returning (ap is_write is ∙ writes) bare.0 in
        let it : RunsCommand old new sql ran.0 params (Err e) = rw (bare.1, append-nil params) at (rw quiet at ran.2) in
        let text : text_of sql ran.0 ≡ statement_of sql (understood schema sql) = ap (statement_of sql) (sym ran.1.is ∙ here) in
        elim it [
          | inr failed ↦ inl (failed_is_trouble old new _ e failed)
          | inl (inl misplaced, same) ↦ absurd (not_misplaced old ran.0.command e (ap is_write is ∙ writes) misplaced)
          | inl (inr refused, same) ↦ inr (subst₂ (λ (d : Database) t. Does old.step_limit (mode_of old) params d t None command (Err (Some e))) (λ i. record { schema = has i; trees = old.now.trees }) text
              (subst₂ (λ r k. Does old.step_limit (mode_of old) params old.now (text_of sql ran.0) r k (Err (Some e))) bare.0 is refused.1))
        ]

    -- the same, of some text
    pub write_refused : length params ≡ parameters → (e : Error) → Executes sql params old new (Err e)
        → (is_trouble e ≡ true) ⊎ ((text : List ℕ) × Does old.step_limit (mode_of old) params (record { schema = schema; trees = old.now.trees }) text None command (Err (Some e)))
    write_refused given e h = elim (write_refused_text given e h) [ inl bad ↦ inl bad | inr refused ↦ inr (statement_of sql (understood schema sql), refused) ]

-- a statement that fails leaves the tables, or ends the transaction
pub executes_undone : (sql : List ℕ) (params : Row) (old new : State) (e : Error) → Executes sql params old new (Err e) → IsUndone old new
executes_undone sql params old new = fails_whole old new false sql params

-- a write stays in its transaction
pub writes_inside : (old new : State) (returning : Option Returning) (command : Command) (text : List ℕ) (params : Row) (count : ℕ) {P : Trees → Type 0} → Survives old new P → Writes old new returning command text params count → StaysInside old new
writes_inside old new returning command text params count s w = record {
  is_open = w.shown.is_open;
  inside = λ within. subst IsTrue (sym w.shown.mode) within;
  committed = λ within. w.shown.committed_is ∙ ap (λ b. cond b old.committed new.now) within;
  marks = w.marks;
  limit = s.limit;
}

-- a connection that is open was so before
undone_up : (old new : State) → IsUndone old new → IsTrue new.is_open → IsTrue old.is_open
undone_up old new (inl same) up = same.0.was_open
undone_up old new (inr undone) up = undone.was_open up

runs_up : (old new : State) (returning : Option Returning) (k : Command) (text : List ℕ) (params : Row) (count : ℕ) → Runs old new returning k text params count → IsTrue new.is_open → IsTrue old.is_open
runs_up old new returning (every.Select q names) text params count h up = absurd h
runs_up old new returning (every.Insert at from) text params count h up = h.shown.was_open
runs_up old new returning (every.InsertOr at how from clauses) text params count h up = h.shown.was_open
runs_up old new returning (every.Update at q) text params count h up = h.shown.was_open
runs_up old new returning (every.Delete at q) text params count h up = h.shown.was_open
runs_up old new returning every.CreateTable text params count h up = h.shown.was_open
runs_up old new returning (every.CreateIndex at) text params count h up = h.shown.was_open
runs_up old new returning (every.DropTable at) text params count h up = h.shown.was_open
runs_up old new returning (every.DropIndex at) text params count h up = h.shown.was_open
runs_up old new returning every.CreateView text params count h up = h.shown.was_open
runs_up old new returning (every.DropView at) text params count h up = h.shown.was_open
runs_up old new returning every.Begin text params count h up = h.1.was_open
runs_up old new returning every.Commit text params count h up = h.1.was_open
runs_up old new returning every.Rollback text params count h up = h.1.was_open up
runs_up old new returning (every.Savepoint name) text params count h up = h.0.0.was_open
runs_up old new returning (every.Release name) text params count h up = elim h.2 [ inl commits ↦ commits.1.0.was_open | inr drops ↦ drops.1.0.was_open ]
runs_up old new returning (every.RollbackTo name) text params count h up = h.2.2.was_open
runs_up old new returning (every.Rows values width names) text params count h up = h.0.0.was_open
runs_up old new returning every.Nothing text params count h up = h.0.0.was_open

-- the connection was open, if it is after a statement
pub executes_up : (sql : List ℕ) (params : Row) (old new : State) (r : Result ℕ Error) → Executes sql params old new r → IsTrue new.is_open → IsTrue old.is_open
unfolding ExecutesIn
executes_up sql params old new (Ok count) h up = elim (cases_Bool (shows_rows false h.0)) [
  | inl shows ↦ (rw shows at h.2).1.0.was_open
  | inr runs ↦ runs_up old new _ _ _ _ count (rw runs at h.2) up
]
executes_up sql params old new (Err e) h up = undone_up old new (executes_undone sql params old new e h) up

-- and so after a query
pub query_up : {X : Type 0} (sql : List ℕ) (params : Row) (old new : State) (rows_in : X → List Row) (r : Result X Error) → (HasCleanDisk new → Rattle.std.proofs.Common.IfOk r (λ x. Shown sql params old new (rows_in x)))
    → (HasCleanDisk new → Rattle.std.proofs.Common.IfErr r (FailsToQuery sql params old new)) → HasCleanDisk new → IsTrue new.is_open → IsTrue old.is_open
query_up sql params old new rows_in (Ok x) ok err clean up = shown_open sql params old new (rows_in x) (ok clean)
query_up sql params old new rows_in (Err e) ok err clean up = undone_up old new (query_undone sql params old new e (err clean)) up

-- a SELECT of an open connection commits nothing, inside a transaction or outside
pub shows_nothing : (sql : List ℕ) (params : Row) (old new : State) (schema : Schema) (command : Command) (parameters : ℕ) → Means schema sql command parameters
    → (HasCleanDisk old → IsTrue old.is_open → old.now.schema ≡ schema) → Survives old new (CommitsShowing sql params old) → Survives old new (λ _. old.is_open ≡ false)
unfolding CommitsShowing
shows_nothing sql params old new schema command parameters means ready s = survives_weaker old new (CommitsShowing sql params old) (λ _. old.is_open ≡ false) (λ clean db wrote. elim (cases_Bool old.is_open) [
  | inl up ↦ absurd (none_some (compiled_plain sql params old new schema (ready (clean_before old new _ s clean) up) command parameters means wrote.0 wrote.1).0 wrote.2)
  | inr down ↦ down
]) s
  where
    none_some : {X : Type 0} {o : Option X} → o ≡ None → IsSome o → ⊥
    none_some e h = let it = subst IsSome e h in true≢false (sym it)

-- what each write leaves, from what `execute` says
pub write_changes : (sql : List ℕ) (params : Row) (old new : State) (schema : Schema) (command : Command) (parameters : ℕ) → Means schema sql command parameters → is_write command ≡ true
    → (HasCleanDisk old → IsTrue old.is_open → old.now.schema ≡ schema) → (result : Result ℕ Error) → (HasCleanDisk new → Executes sql params old new result) → Survives old new (CommitsBy sql params old) → Changes old new result
write_changes sql params old new schema command parameters means writes ready result runs s = record {
  inside = λ clean up. go result (ready (clean_before old new _ s clean) up) (runs clean);
  undone = λ clean. fails result (runs clean);
  up = λ clean up. executes_up sql params old new result (runs clean) up;
  survives = survives_weaker old new _ _ (λ clean db wrote. elim (cases_Bool old.is_open) [
    | inl up ↦ inl (commits_outside sql params old new schema (ready (clean_before old new _ s clean) up) command parameters means writes db wrote)
    | inr down ↦ inr down
  ]) s;
}
  where
    go : (r : Result ℕ Error) → old.now.schema ≡ schema → Executes sql params old new r → OnOk r (StaysInside old new)
    go (Err e) has h = tt
    go (Ok count) has h = written command writes (runs_as sql params old new schema has command means.is means.plain count h)
      where
        written : (k : Command) → is_write k ≡ true → Runs old new None k (statement_of sql (understood schema sql)) params count → StaysInside old new
        written (Insert at from) w it = writes_inside old new None _ _ params count s it
        written (InsertOr at how from clauses) w it = writes_inside old new None _ _ params count s it
        written (Update at q) w it = writes_inside old new None _ _ params count s it
        written (Delete at q) w it = writes_inside old new None _ _ params count s it
        written CreateTable w it = writes_inside old new None _ _ params count s it
        written (CreateIndex at) w it = writes_inside old new None _ _ params count s it
        written _ w it = absurd (true≢false (sym w))

    fails : (r : Result ℕ Error) → Executes sql params old new r → OnErr r (IsUndone old new)
    fails (Ok count) h = tt
    fails (Err e) h = executes_undone sql params old new e h

-- a refusal leaves an open connection
pub write_open : (sql : List ℕ) (params : Row) (old new : State) (e : Error) → Executes sql params old new (Err e) → IsTrue old.is_open ⊎ (is_trouble e ≡ true)
unfolding ExecutesIn IsNotRun
write_open sql params old new e (inl (inl refused)) = inl refused.1.0.was_open
write_open sql params old new e (inl (inr failed)) = inr (failed_is_trouble old new _ e failed)
write_open sql params old new e (inr ran) = elim (cases_Bool (shows_rows false ran.0)) [
  | inl shows ↦ inl (rw shows at ran.2).1.0.was_open
  | inr runs ↦ elim (rw runs at ran.2) [ inl refused ↦ inl refused.1.0.was_open | inr failed ↦ inr (failed_is_trouble old new _ e failed) ]
]
