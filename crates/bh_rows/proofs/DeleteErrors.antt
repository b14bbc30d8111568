-- A DELETE of rows that none points to is refused in trouble alone, also under RESTRICT.
use Rattle.std.proofs.Common.{◌≡◌, ◌≢◌, inl, inr, ℕ, ℤ, ◌^◌, nat_le, nat_lt, List, [], ◌∷◌, length, map, filter, not, Bool, true, false, true≢false, None, Some, slice_get, Ok, Err, Result, IfErr, IsTrue, refl, sym, ap, ap₂, subst, ◌∙◌}
use Rattle.std.specs.List.{AllByRecursion, list_all, list_any}
use Rattle.std.proofs.lemmas.Bool.{and_right, both_ways, false_from_ne_true}
use Rattle.sqlite.specs.declared.types.Value.TheVariants.{Int}
use Rattle.sqlite.specs.Order.{Row}
use Rattle.sqlite.specs.Term.{Term, holds, eval_all}
use Rattle.sqlite.specs.Query.{IsAnswer}
use Rattle.sqlite.specs.Program.{overlay}
use Rattle.sqlite.specs.Rowids.TheVariants.{Given}
use Rattle.sqlite.specs.Tree.{Trees}
use Rattle.sqlite.specs.Table.{Table}
use Rattle.sqlite.specs.Schema.{Schema}
use Rattle.sqlite.specs.Command.TheVariants.{Delete}
use Rattle.sqlite.specs.Edit.{Edit, IsRefused, edit_of, edited, left_by, taken_by}
use Rattle.sqlite.specs.Effect.{edit_error, IsDatabase}
use Rattle.sqlite.specs.Does.{due}
use Rattle.sqlite.specs.State.{State, HasCleanDisk, IsLive, Survives, Executes, mode_of}
use Rattle.sqlite.specs.declared.error.Error.{Error}
use Rattle.sqlite_trees.specs.Tree.{with_tree}
use Rattle.sqlite_typing.specs.Types.{accepts_program}
use Rattle.sqlite_schema.specs.declared.schema.Constraint.TheVariants.{Datatype, NotNull, Check, PrimaryKey, Unique, ForeignKey}
use Rattle.sqlite_schema.specs.declared.schema.Keys.TheVariants.{Enforced}
use Rattle.sqlite_schema.specs.Rules.{Keeps, guards}
use Rattle.sqlite_rules.specs.declared.error.Refusal.{Refusal}
use Rattle.sqlite_rules.specs.declared.error.Refusal.TheVariants.{Violates, Mismatch, NoRowid, BadReference, TooDeep}
use Rattle.sqlite_rules.specs.Calls.{ids_of}
use Rattle.sqlite_rules.specs.Lists.{Has}
use Rattle.sqlite_rules.proofs.EditLemmas.{turns}
use Rattle.sqlite_rules.proofs.ListLemmas.{all_has, all_from, test_from, some_has, some_from, has_got, has_filtered, has_kept}
use Rattle.sqlite_rules.proofs.ProbeLemmas.{has_mapped}
use Rattle.sqlite_rules.proofs.RuleLemmas.{Turns, unique_kept}
use Rattle.bh_rows.specs.Means.{Means, is_trouble}
use Rattle.bh_rows.specs.Form.{Form, AreRows, Entry, put, entries, typed}
use Rattle.bh_rows.specs.Scan.{scan, no_limit}
use Rattle.bh_rows.specs.Keys.{Pointer, pointers, points_at, AreUnused, are_apart, are_fit, is_passive_schema}
use Rattle.bh_rows.proofs.AllowedLemmas.{apart_by, at_changed, at_other}
use Rattle.bh_rows.proofs.CallLemmas.{write_open, write_refused, clean_before}
use Rattle.bh_rows.proofs.CauseLemmas.{delete_refused}
use Rattle.bh_rows.proofs.FormLemmas.{stored}
use Rattle.bh_rows.proofs.FreshLemmas.{taken_hit}
use Rattle.bh_rows.proofs.KeptLemmas.{not_held_back, refers_left}
use Rattle.bh_rows.proofs.RestrictLemmas.{only_refusals, one_edit, one_refused}
use Rattle.bh_rows.proofs.UpdateErrors.{referred_any}
use Rattle.bh_rows.proofs.WriteLemmas.{deleted_ids}

-- fewer rows are pointed to by fewer
pub unused_fewer : (schema : Schema) (db : Trees) (tree : ℕ) (olds fewer : List Row) → ((r : Row) → Has fewer r → Has olds r) → AreUnused schema db tree olds → AreUnused schema db tree fewer
unused_fewer schema db tree olds fewer less unused = all_from _ (pointers schema tree) (λ p known. false_from_ne_true _ (λ some.
    let row = some_has (λ r. list_any (points_at p r) fewer) (db p.child) some in
    let old = some_has (points_at p row.0) fewer row.2 in
    both_ways _ (all_has _ (pointers schema tree) p unused known) (some_from (λ r. list_any (points_at p r) olds) (db p.child) row.0 row.1 (some_from (points_at p row.0) olds old.0 (less old.0 old.1) old.2))))

-- that no row of a child points to a row that passes a test, from the typed rows
pub none_points : {T C : Type 0} (form : Form T) (child : Form C) (rows children : List Row) (p : Pointer) (m : T → Bool) (q : C → T → Bool)
    → ((i : ℤ) (c : C) (j : ℤ) (x : T) → points_at p (put child (i, c)) (put form (j, x)) ≡ q c x) → AreRows form rows → AreRows child children
    → list_any (λ c. list_any (q c) (filter m (typed form rows))) (typed child children) ≡ false
    → list_any (λ row. list_any (points_at p row) (map (put form) (filter (λ (e : Entry T). m e.1) (entries form rows)))) children ≡ false
none_points {T} {C} form child rows children p m q agrees held kept none = false_from_ne_true _ (λ some.
    let row = some_has (λ r. list_any (points_at p r) (map (put form) (filter (λ (e : Entry T). m e.1) (entries form rows)))) children some in
    let old = some_has (points_at p row.0) (map (put form) (filter (λ (e : Entry T). m e.1) (entries form rows))) row.2 in
    let c = has_mapped (put child) (entries child children) row.0 (subst (λ l. Has l row.0) (stored child children kept) row.1) in
    let e = has_mapped (put form) (filter (λ (d : Entry T). m d.1) (entries form rows)) old.0 old.1 in
    let found = has_filtered (λ (d : Entry T). m d.1) (entries form rows) e.0 e.1 in
    let yes_it : q c.0.1 e.0.1 ≡ true = sym (agrees c.0.0 c.0.1 e.0.0 e.0.1) ∙ sym (ap₂ (points_at p) c.2 e.2) ∙ old.2 in
    both_ways _ none (some_from (λ d. list_any (q d) (filter m (typed form rows))) (typed child children) c.0.1 (typed_there child children c.0 c.1)
    (some_from (q c.0.1) (filter m (typed form rows)) e.0.1 (has_kept m (typed form rows) e.0.1 (typed_there form rows e.0 found.0) found.1) yes_it)))
  where
    typed_there : {X : Type 0} (shape : Form X) (rs : List Row) (d : Entry X) → Has (entries shape rs) d → Has (typed shape rs) d.1
    typed_there shape [] d h = absurd h
    typed_there shape (r ∷ rs) d (inl same) = inl (ap (λ (x : Entry _). x.1) same)
    typed_there shape (r ∷ rs) d (inr more) = inr (typed_there shape rs d more)

-- the same, where the test names the key that a child has: then one test on the children says it
pub none_named : {T C : Type 0} (q : C → T → Bool) (m : T → Bool) (h : C → Bool) → ((c : C) (x : T) → q c x ≡ true → m x ≡ true → h c ≡ true) → (xs : List T) (cs : List C) → list_any h cs ≡ false
    → list_any (λ c. list_any (q c) (filter m xs)) cs ≡ false
none_named q m h named xs cs none = false_from_ne_true _ (λ some.
    let c = some_has (λ d. list_any (q d) (filter m xs)) cs some in
    let x = some_has (q c.0) (filter m xs) c.2 in
    both_ways _ none (some_from h cs c.0 c.1 (named c.0 x.0 x.2 (has_filtered m xs x.0 x.1).1)))

module _ {T : Type 0} (form : Form T) (sql : List ℕ) (schema : Schema) (table : Table) (place : ℕ) (test show : List Term) (parameters : ℕ)
    (means : Means schema sql (Delete place (record { lets = []; body = scan table.tree test show [] no_limit })) parameters)
    (is_table : slice_get schema.tables place ≡ Some table) (low : nat_le (2 ^ 31) table.tree ≡ false) (params : Row) (given : length params ≡ parameters)
    (accepts : accepts_program schema [] (scan table.tree test show [] no_limit) params ≡ true)
    (m : T → Bool) (tests : (id : ℤ) (x : T) → list_all (holds (params ∷ (Int id ∷ form.encode x) ∷ [])) test ≡ m x)
    (shows : (id : ℤ) (x : T) → eval_all show (params ∷ (Int id ∷ form.encode x) ∷ []) ≡ Int id ∷ [])
    (apart : are_apart schema.tables ≡ true) (fit : are_fit schema table ≡ true) (passive : is_passive_schema schema ≡ true) (old new : State) where
  abbrev db : Trees
  db = old.now.trees

  abbrev edit : List Row → Edit
  edit rows = edit_of db table (ids_of rows) Given 0 []

  abbrev hits : List (Entry T)
  hits = filter (λ (e : Entry T). m e.1) (entries form (db table.tree))

  module _ (has : old.now.schema ≡ schema) (held : AreRows form (db table.tree)) (sound : IsDatabase (record { schema = schema; trees = db })) (unused : AreUnused schema db table.tree (map (put form) hits))
      (rows : List Row) (is : IsAnswer (scan table.tree test show [] no_limit) (overlay db []) params rows) where
    listed : Has schema.tables table
    listed = has_got schema.tables place table is_table

    unused_taken : AreUnused schema db table.tree (taken_by db (edit rows))
    unused_taken = unused_fewer schema db table.tree (map (put form) hits) (taken_by db (edit rows))
        (taken_hit form (db table.tree) held m (ids_of rows) (deleted_ids sql schema table place test show parameters is_table params old new has form low held m tests shows rows is)) unused

    turned : (next : Trees) → next table.tree ≡ edited db (edit rows) → AllByRecursion (λ (t : Table). t.tree ≢ table.tree → next t.tree ≡ db t.tree) schema.tables → Turns schema db next table (left_by db (edit rows)) (taken_by db (edit rows)) []
    turned next at others = turns schema db next (edit rows) (apart_by schema.tables apart) listed held.rises refl at others

    unique : Keeps Unique schema (with_tree db table.tree (edited db (edit rows)))
    unique = unique_kept schema db _ table _ _ [] (turned (with_tree db table.tree (edited db (edit rows))) (at_changed db table.tree (edited db (edit rows)))
        (all_from _ schema.tables (λ t known other. at_other db table.tree t.tree (edited db (edit rows)) other)))
        (test_from _ schema.indexes (λ i known. ap not (and_right (guards i table) false refl))) (sound.obeys.rules Unique)

    delete_allowed : (r : Refusal) → IsRefused schema Enforced db (edit rows) r → is_trouble (edit_error r) ≡ true
    delete_allowed (Violates Datatype) h = absurd (true≢false h)
    delete_allowed (Violates NotNull) h = absurd (true≢false h)
    delete_allowed (Violates Check) h = absurd (true≢false h)
    delete_allowed (Violates PrimaryKey) h = absurd (true≢false h)
    delete_allowed (Violates Unique) h = absurd (h unique)
    delete_allowed (Violates ForeignKey) h = absurd h
    delete_allowed Mismatch h = absurd (true≢false h)
    delete_allowed NoRowid h = refl
    delete_allowed BadReference h = absurd (true≢false (sym (referred_any schema table fit false (nat_lt 0 (length (ids_of rows)))) ∙ h))
    delete_allowed TooDeep h = absurd h

  module _ (ready : HasCleanDisk old → IsTrue old.is_open → (old.now.schema ≡ schema) × AreRows form (old.now.trees table.tree)) (live : IsLive old) where
    -- with no limit on the steps, only trouble ends it
    pub delete_trouble : (result : Result ℕ Error) → (HasCleanDisk new → Executes sql params old new result) → {P : Trees → Type 0} → Survives old new P → HasCleanDisk new → old.step_limit ≡ None
        → (HasCleanDisk old → IsTrue old.is_open → AreUnused schema old.now.trees table.tree (map (put form) (filter (λ (e : Entry T). m e.1) (entries form (old.now.trees table.tree))))) → IfErr result (λ e. is_trouble e ≡ true)
    delete_trouble (Ok count) runs s clean unlimited free = tt
    delete_trouble (Err e) runs s clean unlimited free = elim (write_open sql params old new e (runs clean)) [
      | inr bad ↦ bad
      | inl up ↦
          let was_clean = clean_before old new _ s clean in
          let was = ready was_clean up in
          let sound = subst (λ c. IsDatabase (record { schema = c; trees = db })) was.0 (live up).0 in
          elim (write_refused sql params old new schema was.0 _ parameters means refl given e (runs clean)) [
            | inl bad ↦ bad
            | inr refused ↦
                let cause = delete_refused schema table place test show is_table params accepts old unlimited refused.0 e refused.1 in
                let refusals = only_refusals schema table.tree (taken_by db (edit cause.0)) passive in
                let taken = unused_taken was.0 was.1 sound (free was_clean up) cause.0 cause.1 in
                let turn = turned was.0 was.1 sound (free was_clean up) cause.0 cause.1 in
                elim cause.2 [
                  | inl why ↦ ap is_trouble why.2 ∙ elim (one_refused schema db (edit cause.0) why.0 refusals why.1) [
                    | inl rule ↦ delete_allowed was.0 was.1 sound (free was_clean up) cause.0 cause.1 why.0 rule
                    | inr back ↦ absurd (not_held_back schema db back.0 (edit cause.0) refl (turn back.0 back.1.rows back.1.tables) taken back.2)
                  ]
                  | inr broken ↦
                      let it = one_edit schema db broken.0 (edit cause.0) refusals broken.1 in
                      absurd (broken.2 (refers_left schema db broken.0 (edit cause.0) refl (turn broken.0 it.rows it.tables) taken (due (mode_of old)) (sound.obeys.rules ForeignKey)))
                ]
          ]
    ]
