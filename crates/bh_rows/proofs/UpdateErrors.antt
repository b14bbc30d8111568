-- An UPDATE of columns that no key watches is refused in trouble alone.
use Rattle.std.proofs.Common.{◌≡◌, inl, inr, ℕ, ℤ, ◌^◌, nat_le, nat_lt, List, [], ◌∷◌, length, map, filter, Bool, true, false, true≢false, None, Some, slice_get, Ok, Err, Result, IfErr, IsTrue, refl, sym, ap, subst, ◌∙◌}
use Rattle.std.specs.List.{list_all}
use Rattle.std.specs.List.Sorted.{IsPermutation}
use Rattle.std.proofs.lemmas.Bool.{and_parts, and_from}
use Rattle.std.proofs.lemmas.List.Sorted.{IsPermutation-sym}
use Rattle.sqlite.specs.declared.types.Value.TheVariants.{Int}
use Rattle.sqlite.specs.Order.{Row, column}
use Rattle.sqlite.specs.Term.{Term, holds, eval_all}
use Rattle.sqlite.specs.Tree.{Trees}
use Rattle.sqlite.specs.Table.{Table}
use Rattle.sqlite.specs.Schema.{Schema}
use Rattle.sqlite.specs.Cast.{cast_all}
use Rattle.sqlite.specs.Command.TheVariants.{Update}
use Rattle.sqlite.specs.Query.{IsAnswer}
use Rattle.sqlite.specs.Program.{overlay}
use Rattle.sqlite.specs.Rowids.TheVariants.{Given}
use Rattle.sqlite.specs.Edit.{Edit, IsRefused, edit_of, edited, left_by, are_fresh}
use Rattle.sqlite.specs.Effect.{edit_error, IsDatabase}
use Rattle.sqlite.specs.Does.{due}
use Rattle.sqlite.specs.State.{State, HasCleanDisk, IsLive, Survives, Executes, mode_of}
use Rattle.sqlite.specs.declared.error.Error.{Error}
use Rattle.sqlite.proofs.Callers.{one_step}
use Rattle.sqlite_trees.specs.Tree.{with_tree}
use Rattle.sqlite_typing.specs.Types.{accepts_program}
use Rattle.sqlite_schema.specs.declared.schema.Constraint.TheVariants.{Datatype, NotNull, Check, PrimaryKey, Unique, ForeignKey}
use Rattle.sqlite_schema.specs.declared.schema.Keys.TheVariants.{Enforced}
use Rattle.sqlite_schema.specs.Rules.{Keeps, references_fit}
use Rattle.sqlite_rules.specs.declared.error.Refusal.{Refusal}
use Rattle.sqlite_rules.specs.declared.error.Refusal.TheVariants.{Violates, Mismatch, NoRowid, BadReference, TooDeep}
use Rattle.sqlite_rules.specs.Calls.{ids_of}
use Rattle.sqlite_rules.specs.Lists.{Has}
use Rattle.sqlite_rules.proofs.ListLemmas.{all_has, test_from, has_filtered, has_got}
use Rattle.sqlite_rules.proofs.ProbeLemmas.{has_mapped}
use Rattle.sqlite_rules.proofs.RuleLemmas.{keeps_at}
use Rattle.bh_rows.specs.Means.{Means, is_trouble}
use Rattle.bh_rows.specs.Form.{Form, AreRows, Entry, put, entries}
use Rattle.bh_rows.specs.Scan.{scan, no_limit}
use Rattle.bh_rows.specs.Keys.{Suits, are_apart, are_fit, ignores_updates, watched}
use Rattle.bh_rows.proofs.AllowedLemmas.{apart_by, at_changed, at_other}
use Rattle.bh_rows.proofs.CallLemmas.{write_open, write_refused, clean_before}
use Rattle.bh_rows.proofs.CauseLemmas.{update_refused}
use Rattle.bh_rows.proofs.EditLemmas.{edited_is, has_permuted}
use Rattle.bh_rows.proofs.FreshLemmas.{entry_there, update_fresh}
use Rattle.bh_rows.proofs.KeptLemmas.{unique_after, refers_after}
use Rattle.bh_rows.proofs.RefusedLemmas.{one_refusal}
use Rattle.bh_rows.proofs.RestrictLemmas.{update_works}
use Rattle.bh_rows.proofs.WriteLemmas.{updated_ids, updated_news}

-- keys that may be pointed to stay so, whatever the edit adds or removes
pub referred_any : (schema : Schema) (table : Table) → are_fit schema table ≡ true → (adds removes : Bool) → references_fit schema table adds removes ≡ true
referred_any schema table fit true true = fit
referred_any schema table fit true false = and_from _ _ (and_parts _ _ fit).0 refl
referred_any schema table fit false true = (and_parts _ _ fit).1
referred_any schema table fit false false = refl

-- each row of a database passes its table's own tests
pub passes_own : (schema : Schema) (table : Table) (db : Trees) → Has schema.tables table → IsDatabase (record { schema = schema; trees = db }) → (r : Row) → Has (db table.tree) r → Suits table r
passes_own schema table db listed sound r h = record { typed = keeps_at Datatype schema db table r (sound.obeys.rules Datatype) listed h; present = keeps_at NotNull schema db table r (sound.obeys.rules NotNull) listed h; checked = keeps_at Check schema db table r (sound.obeys.rules Check) listed h }

-- so what is set may be reckoned from a row that passes them
pub shown_fit : {T : Type 0} (form : Form T) (schema : Schema) (table : Table) (db : Trees) → AreRows form (db table.tree) → Has schema.tables table → IsDatabase (record { schema = schema; trees = db })
    → (show : List Term) (params : Row) (m : T → Bool) (f : T → T) → ((id : ℤ) (x : T) → m x ≡ true → Suits table (put form (id, x)) → eval_all show (params ∷ (Int id ∷ form.encode x) ∷ []) ≡ Int id ∷ Int id ∷ form.encode (f x))
    → (e : Entry T) → Has (filter (λ (d : Entry T). m d.1) (entries form (db table.tree))) e → eval_all show (params ∷ put form e ∷ []) ≡ Int e.0 ∷ Int e.0 ∷ form.encode (f e.1)
shown_fit {T} form schema table db held listed sound show params m f shows e there =
    let found = has_filtered (λ (d : Entry T). m d.1) (entries form (db table.tree)) e there in
    shows e.0 e.1 found.1 (passes_own schema table db listed sound (put form e) (entry_there form (db table.tree) held m e found.0))

module _ {T : Type 0} (form : Form T) (sql : List ℕ) (schema : Schema) (table : Table) (place : ℕ) (test show : List Term) (parameters : ℕ)
    (means : Means schema sql (Update place (record { lets = []; body = scan table.tree test show [] no_limit })) parameters)
    (is_table : slice_get schema.tables place ≡ Some table) (low : nat_le (2 ^ 31) table.tree ≡ false) (params : Row) (given : length params ≡ parameters)
    (accepts : accepts_program schema [] (scan table.tree test show [] no_limit) params ≡ true)
    (m : T → Bool) (tests : (id : ℤ) (x : T) → list_all (holds (params ∷ (Int id ∷ form.encode x) ∷ [])) test ≡ m x)
    (f : T → T) (kept : (x : T) → cast_all table.columns (form.encode x) ≡ form.encode x) (shows : (id : ℤ) (x : T) → m x ≡ true → Suits table (put form (id, x)) → eval_all show (params ∷ (Int id ∷ form.encode x) ∷ []) ≡ Int id ∷ Int id ∷ form.encode (f x))
    (unwatched : (id : ℤ) (x : T) → m x ≡ true → map (column (put form (id, f x))) (watched schema table) ≡ map (column (put form (id, x))) (watched schema table))
    (apart : are_apart schema.tables ≡ true) (fit : are_fit schema table ≡ true) (ignores : ignores_updates schema ≡ true) (old new : State) where
  abbrev db : Trees
  db = old.now.trees

  -- the rows that are changed
  abbrev hits : List (Entry T)
  hits = filter (λ (e : Entry T). m e.1) (entries form (db table.tree))

  -- each suits the table after the change too
  abbrev StillSuits : Type 0
  StillSuits = (e : Entry T) → Has hits e → Suits table (put form e) → Suits table (put form (e.0, f e.1))

  abbrev edit : List Row → Edit
  edit rows = edit_of db table (ids_of rows) Given 1 rows

  module _ (has : old.now.schema ≡ schema) (held : AreRows form (db table.tree)) (sound : IsDatabase (record { schema = schema; trees = db })) (rows : List Row) (is : IsAnswer (scan table.tree test show [] no_limit) (overlay db []) params rows) (suits : StillSuits) where
    listed : Has schema.tables table
    listed = has_got schema.tables place table is_table

    -- each row passes its tests
    passed : (r : Row) → Has (db table.tree) r → Suits table r
    passed = passes_own schema table db listed sound

    shown : (e : Entry T) → Has hits e → eval_all show (params ∷ put form e ∷ []) ≡ Int e.0 ∷ Int e.0 ∷ form.encode (f e.1)
    shown = shown_fit form schema table db held listed sound show params m f shows

    ids : IsPermutation (map (λ (e : Entry T). e.0) hits) (ids_of rows)
    ids = updated_ids sql schema table place test show parameters is_table params old new has form low held m tests f kept shown rows is

    news : IsPermutation (map (λ (e : Entry T). put form (e.0, f e.1)) hits) (edit rows).news
    news = updated_news sql schema table place test show parameters is_table params old new has form low held m tests f kept shown rows is

    fresh : are_fresh (left_by db (edit rows)) (edit rows).news ≡ true
    fresh = update_fresh form (db table.tree) held m f (ids_of rows) (edit rows).news ids news

    -- each new row is that of a row that was found
    each : (r : Row) → Has (edit rows).news r → Suits table r
    each r h =
        let e = has_mapped (λ (e : Entry T). put form (e.0, f e.1)) hits r (has_permuted _ _ r (IsPermutation-sym _ _ news) h) in
        let found = has_filtered (λ (d : Entry T). m d.1) (entries form (db table.tree)) e.0 e.1 in
        subst (Suits table) (sym e.2) (suits e.0 e.1 (passed (put form e.0) (entry_there form (db table.tree) held m e.0 found.0)))

    refuted : (p : Row → Bool) → ((r : Row) → Has (edit rows).news r → p r ≡ true) → list_all p (edit rows).news ≡ false → ⊥
    refuted p h fails = true≢false (sym (test_from p (edit rows).news h) ∙ fails)

    numbered : (r : Row) → Has (edit rows).news r → Rattle.sqlite_trees.specs.View.is_int (Rattle.sqlite.specs.Tree.rowid r) ≡ true
    numbered r h =
        let e = has_mapped (λ (e : Entry T). put form (e.0, f e.1)) hits r (has_permuted _ _ r (IsPermutation-sym _ _ news) h) in
        ap (λ x. Rattle.sqlite_trees.specs.View.is_int (Rattle.sqlite.specs.Tree.rowid x)) e.2

    unique : Keeps Unique schema (with_tree db table.tree (edited db (edit rows)))
    unique = unique_after form schema table db (with_tree db table.tree (edited db (edit rows))) held m f (apart_by schema.tables apart) listed unwatched
        (at_changed db table.tree (edited db (edit rows)) ∙ edited_is form (db table.tree) held m f (ids_of rows) (edit rows).news ids news fresh)
        (λ t known other. at_other db table.tree t.tree (edited db (edit rows)) other) (sound.obeys.rules Unique)

    update_allowed : (r : Refusal) → IsRefused schema Enforced db (edit rows) r → is_trouble (edit_error r) ≡ true
    update_allowed (Violates Datatype) h = absurd (refuted _ (λ r there. (each r there).typed) h)
    update_allowed (Violates NotNull) h = absurd (refuted _ (λ r there. (each r there).present) h)
    update_allowed (Violates Check) h = absurd (refuted _ (λ r there. (each r there).checked) h)
    update_allowed (Violates PrimaryKey) h = absurd (true≢false (sym fresh ∙ h))
    update_allowed (Violates Unique) h = absurd (h unique)
    update_allowed (Violates ForeignKey) h = absurd h
    update_allowed Mismatch h = absurd (refuted _ numbered h)
    update_allowed NoRowid h = refl
    update_allowed BadReference h = absurd (true≢false (sym (referred_any schema table fit (nat_lt 0 (length (edit rows).news)) (nat_lt 0 (length (edit rows).gone))) ∙ h))
    update_allowed TooDeep h = absurd h

  module _ (ready : HasCleanDisk old → IsTrue old.is_open → (old.now.schema ≡ schema) × AreRows form (old.now.trees table.tree)) (live : IsLive old) (suits : HasCleanDisk old → IsTrue old.is_open → StillSuits) where
    -- with no limit on the steps, only trouble ends it, where each row that is changed suits its table still
    pub update_still_trouble : (result : Result ℕ Error) → (HasCleanDisk new → Executes sql params old new result) → {P : Trees → Type 0} → Survives old new P → HasCleanDisk new → old.step_limit ≡ None → IfErr result (λ e. is_trouble e ≡ true)
    update_still_trouble (Ok count) runs s clean unlimited = tt
    update_still_trouble (Err e) runs s clean unlimited = elim (write_open sql params old new e (runs clean)) [
      | inr bad ↦ bad
      | inl up ↦
          let was = ready (clean_before old new _ s clean) up in
          let still = suits (clean_before old new _ s clean) up in
          let sound = subst (λ c. IsDatabase (record { schema = c; trees = db })) was.0 (live up).0 in
          elim (write_refused sql params old new schema was.0 _ parameters means refl given e (runs clean)) [
            | inl bad ↦ bad
            | inr refused ↦
                let cause = update_refused schema table place test show is_table params accepts old unlimited refused.0 e refused.1 in
                let works = update_works schema db table ignores cause.0 in
                elim cause.2 [
                  | inl why ↦ ap is_trouble why.2 ∙ update_allowed was.0 was.1 sound cause.0 cause.1 still why.0 (one_refusal schema db (edit cause.0) why.0 works why.1)
                  | inr broken ↦
                      let it = one_step schema Enforced db broken.0 (edit cause.0) works broken.1 in
                      let l = listed was.0 was.1 sound cause.0 cause.1 still in
                      absurd (broken.2 (refers_after form schema table db broken.0 was.1 m f (apart_by schema.tables apart) l unwatched
                      (it.rows ∙ edited_is form (db table.tree) was.1 m f (ids_of cause.0) (edit cause.0).news (ids was.0 was.1 sound cause.0 cause.1 still) (news was.0 was.1 sound cause.0 cause.1 still) it.fresh)
                      (λ t known other. all_has _ schema.tables t it.tables known other) (due (mode_of old)) (sound.obeys.rules ForeignKey)))
                ]
          ]
    ]

module _ {T : Type 0} (form : Form T) (sql : List ℕ) (schema : Schema) (table : Table) (place : ℕ) (test show : List Term) (parameters : ℕ)
    (means : Means schema sql (Update place (record { lets = []; body = scan table.tree test show [] no_limit })) parameters)
    (is_table : slice_get schema.tables place ≡ Some table) (low : nat_le (2 ^ 31) table.tree ≡ false) (params : Row) (given : length params ≡ parameters)
    (accepts : accepts_program schema [] (scan table.tree test show [] no_limit) params ≡ true)
    (m : T → Bool) (tests : (id : ℤ) (x : T) → list_all (holds (params ∷ (Int id ∷ form.encode x) ∷ [])) test ≡ m x)
    (f : T → T) (kept : (x : T) → cast_all table.columns (form.encode x) ≡ form.encode x) (shows : (id : ℤ) (x : T) → m x ≡ true → Suits table (put form (id, x)) → eval_all show (params ∷ (Int id ∷ form.encode x) ∷ []) ≡ Int id ∷ Int id ∷ form.encode (f x))
    (suits : (id : ℤ) (x : T) → m x ≡ true → Suits table (put form (id, f x)))
    (unwatched : (id : ℤ) (x : T) → m x ≡ true → map (column (put form (id, f x))) (watched schema table) ≡ map (column (put form (id, x))) (watched schema table))
    (apart : are_apart schema.tables ≡ true) (fit : are_fit schema table ≡ true) (ignores : ignores_updates schema ≡ true) (old new : State)
    (ready : HasCleanDisk old → IsTrue old.is_open → (old.now.schema ≡ schema) × AreRows form (old.now.trees table.tree)) (live : IsLive old) where
  -- the same, where each new row passes its tests
  pub update_trouble : (result : Result ℕ Error) → (HasCleanDisk new → Executes sql params old new result) → {P : Trees → Type 0} → Survives old new P → HasCleanDisk new → old.step_limit ≡ None → IfErr result (λ e. is_trouble e ≡ true)
  update_trouble = update_still_trouble form sql schema table place test show parameters means is_table low params given accepts m tests f kept shows unwatched apart fit ignores old new ready live (λ clean up e there was. suits e.0 e.1 (has_filtered (λ (d : Entry T). m d.1) (entries form (old.now.trees table.tree)) e there).1)
