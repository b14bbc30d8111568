-- Texts over the tables that bytes of packs are shown by: blocks, places and packs. What they do to rows as they are stored, and what that says
-- of the database with these bytes.
use Rattle.std.proofs.Common.{◌≡◌, ℕ, ℤ, List, [], ◌∷◌, ◌++◌, map, filter, Bool, true, IsTrue, None, Ok, Err, Result, OnOk, IfOk, IfErr, Ordering, sym, ap, ◌∙◌, subst}
use Rattle.std.proofs.lemmas.Result.{on_ok_weaker}
use Rattle.sqlite.specs.Edit.{next_rowid}
use Rattle.sqlite.specs.Effect.{Database}
use Rattle.sqlite.specs.Order.{Row, column}
use Rattle.sqlite.specs.State.{State, HasCleanDisk, IsLive, IsUnchanged, Survives, Executes, CommitsBy, CommitsShowing, Shown, FailsToQuery}
use Rattle.sqlite.specs.Table.{Table}
use Rattle.sqlite.specs.Tree.{Trees}
use Rattle.sqlite.specs.declared.error.Error.{Error}
use Rattle.sqlite_keyed.specs.Lists.{update_where, delete_where, sort_by}
use Rattle.sqlite_rules.specs.Lists.{Has}
use Rattle.bh_rows.specs.Form.{Form, AreRows, Entry, put, entries, typed}
use Rattle.bh_rows.specs.Keys.{AreUnused, Suits, watched}
use Rattle.bh_rows.specs.Means.{is_trouble, Asks, StaysInside, Changes}
use Rattle.bh_rows.specs.Scan.{no_limit}
use Rattle.bh_rows.specs.Texts.{IsReadyAt, IsTableOf, Leaves as Becomes, AreFree, MayAdd, InsertText, UpdateText, DeleteText, SelectText, SortedText}
use Rattle.bh_rows.proofs.CallLemmas.{clean_before}
use Rattle.bh_rows.proofs.TextLemmas as text
use Rattle.bh_shelf.specs.Contents.{Contents}
use Rattle.bh_tables.specs.Schema.{host_schema}
use Rattle.bh_tables.specs.Typed.{Totals, IsHostBy, IsReadyBy, Tables, tables_in, tables}
use Rattle.bh_tables.proofs.Places.{orderly}
use Rattle.bh_tables.proofs.Statements.{Shows}
use Rattle.bh_base.specs.Layer.{standing, IsIntact, IsOpen, IsStateClean, IsMidst, KeepsDisk, IsReadableBy, StateWithin}
use Rattle.bh_base.specs.Placed.{filled}
use Rattle.bh_base.specs.Shown.{Backing, named, shown}
use Rattle.bh_base.proofs.Calls as call
use Rattle.bh_base.proofs.Calls.{Turn, turn, only_if, if_error, if_clean}
use Rattle.bh_base.proofs.Endings.{disk_clean, asks_shown, changes_shown}
use Rattle.bh_base.proofs.Lifting.{doubtless}
use Rattle.bh_base.proofs.Stored.{stored_host}

module _ (a : Backing) (old new : State) where
  -- ---- a question, of which the answer is the same with the bytes of packs

  pub told : {sums : Totals} (ready : IsReadyBy sums (shown a old)) {X : Type 0} (rows_in : X → List Row) (f : Tables → List Row) (result : Result X Error) {P : Trees → Type 0} → Survives old new P
      → (IsHostBy sums (shown a old).now → f (tables old) ≡ f (tables (shown a old))) → (IsReadyBy sums old → Shows old new rows_in f result) → Shows (shown a old) (shown a new) rows_in f result
  told {sums} ready {X} rows_in f result survives alike bare = record {
    asks = asks_shown a old new result survives (λ clean. (it clean).asks);
    rows = λ h. let clean = disk_clean a old new new h in go result ((it clean.1).asks.same clean.0) ((it clean.1).rows clean.0) (doubtless old.is_clean a.is_clean (clean_before old new _ survives clean.0) clean.1);
  }
    where
      bare_ready : IsTrue a.is_clean → IsReadyBy sums old
      bare_ready clean was up = stored_host (named a old.in_transaction) old.now (ready (doubtless old.is_clean a.is_clean was clean) up)

      it : IsTrue a.is_clean → Shows old new rows_in f result
      it clean = bare (bare_ready clean)

      go : (r : Result X Error) → OnOk r (IsUnchanged old new) → IfOk r (λ x. rows_in x ≡ f (tables old)) → HasCleanDisk (shown a old) → IfOk r (λ x. rows_in x ≡ f (tables (shown a old)))
      go (Err e) same is was = tt
      go (Ok x) same is was = is ∙ alike (ready was same.0.was_open)

-- ---- rows as they are stored, of which the host's database tells the form

module _ {T : Type 0} (form : Form T) (table : Table) (held : (sums : Totals) (db : Database) → IsHostBy sums db → AreRows form (db.trees table.tree))
    (a : Backing) (old new : State) (reads : IsStateClean (shown a old) → IsReadableBy (standing (shown a old))) where
  abbrev pub rows_stored : List T
  rows_stored = typed form (old.now.trees table.tree)

  pub record IsTold {X : Type 0} (rows_in : X → List Row) (answer : List Row) (result : Result X Error) : Type 0 where
    pub within : StateWithin (shown a old) (shown a new)
    pub opens : OnOk result (IsIntact (shown a new) → IsOpen (shown a old) × IsOpen (shown a new))
    pub same : OnOk result (IsIntact (shown a new) → standing (shown a new) ≡ standing (shown a old))
    pub rows : IfOk result (λ x. IsStateClean (shown a new) → rows_in x ≡ answer)
    -- the database is as it is stored
    pub unchanged : OnOk result (IsStateClean (shown a new) → (new.now ≡ old.now) × (new.in_transaction ≡ old.in_transaction))
    pub trouble : IfErr result (λ e. IsIntact (shown a new) → (standing (shown a old)).limit ≡ None → is_trouble e ≡ true)

  pub read_ready : IsTrue a.is_clean → IsReadyAt form host_schema table.tree old
  unfolding standing IsIntact IsOpen
  read_ready clean was up =
      let host = stored_host (named a old.in_transaction) old.now (reads (record { intact = doubtless old.is_clean a.is_clean was clean; is_open = up })).host in
      (host.schema, held _ old.now host)

  as_stored : {X : Type 0} (r : Result X Error) → (IsTrue a.is_clean → HasCleanDisk new → OnOk r (IsUnchanged old new)) → OnOk r (IsStateClean (shown a new) → (new.now ≡ old.now) × (new.in_transaction ≡ old.in_transaction))
  unfolding IsIntact
  as_stored (Err e) same = tt
  as_stored (Ok x) same = λ c. let clean = disk_clean a old new new c.intact in let it = same clean.1 clean.0 in (it.0.now_is, it.0.mode)

  pub ends_told : {X : Type 0} (rows_in : X → List Row) (rows : List Row) (result : Result X Error) {P : Trees → Type 0} → Survives old new P → (IsTrue a.is_clean → Asks old new result) → (IsTrue a.is_clean → HasCleanDisk new → IfOk result (λ x. rows_in x ≡ rows)) → IsTold rows_in rows result
  ends_told rows_in rows result survives stored is = let asks = asks_shown a old new result survives stored in record {
    within = call.asks_within (shown a old) (shown a new) (λ c. (reads c).settled) result asks;
    opens = call.asks_opens (shown a old) (shown a new) (λ c. (reads c).settled) result asks;
    same = call.asks_same (shown a old) (shown a new) (λ c. (reads c).settled) result asks;
    rows = if_clean (shown a new) result (λ x. rows_in x ≡ rows) (λ h. let clean = disk_clean a old new new h in is clean.1 clean.0);
    trouble = call.asks_trouble (shown a old) (shown a new) (λ c. (reads c).settled) result asks;
    unchanged = as_stored result (λ clean. (stored clean).same);
  }

  module _ {X : Type 0} (rows_in : X → List Row) (result : Result X Error) {sql : List ℕ} {params : Row} (ok : HasCleanDisk new → IfOk result (λ x. Shown sql params old new (rows_in x))) (err : HasCleanDisk new → IfErr result (FailsToQuery sql params old new)) (survives : Survives old new (CommitsShowing sql params old)) where
    pub selected : {m : T → Bool} {view : T → Row} → SelectText form host_schema table.tree sql params m view no_limit → IsTold rows_in (map view (filter m rows_stored)) result
    selected {m} {view} it = ends_told rows_in (map view (filter m rows_stored)) result survives (λ clean. text.select_asks form host_schema table.tree old new (read_ready clean) sql params m view no_limit it rows_in result ok err survives)
        (λ clean h. text.select_rows form host_schema table.tree old new (read_ready clean) sql params m view no_limit it rows_in result ok survives h)

    pub sorted : {m : T → Bool} {view : T → Row} {order : T → T → Ordering} → SortedText form host_schema table.tree sql params m view order no_limit → IsTold rows_in (map view (sort_by order (filter m rows_stored))) result
    sorted {m} {view} {order} it = ends_told rows_in (map view (sort_by order (filter m rows_stored))) result survives (λ clean. text.sorted_asks form host_schema table.tree old new (read_ready clean) sql params m view order no_limit it rows_in result ok err survives)
        (λ clean h. text.select_sorted form host_schema table.tree old new (read_ready clean) sql params m view order no_limit it rows_in result ok survives h)

-- ---- writes, in the midst of others

module _ {T : Type 0} (form : Form T) (number : ℕ) (table : Table) (is : IsTableOf form host_schema number table) (held : (sums : Totals) (db : Database) → IsHostBy sums db → AreRows form (db.trees table.tree))
    (a : Backing) (old new : State) (midst : IsStateClean (shown a old) → IsMidst (standing (shown a old))) where
  abbrev packs : Contents
  packs = named a old.in_transaction

  clean_old : IsTrue a.is_clean → HasCleanDisk old → IsTrue old.is_open → IsStateClean (shown a old)
  unfolding IsIntact IsOpen
  clean_old clean was up = record { intact = doubtless old.is_clean a.is_clean was clean; is_open = up }

  pub midst_now : IsStateClean (shown a old) → (sums : Totals) × IsHostBy sums (shown a old).now
  unfolding standing
  midst_now clean = let m = midst clean in (m.sums, m.by.host)

  was_within : IsStateClean (shown a old) → old.in_transaction ≡ true
  unfolding standing
  was_within clean = (midst clean).by.inside

  pub midst_ready : IsTrue a.is_clean → IsReadyAt form host_schema table.tree old
  midst_ready clean was up =
      let it = midst_now (clean_old clean was up) in
      let host = stored_host packs old.now it.1 in
      (host.schema, held it.0 old.now host)

  -- what a write of these rows leaves
  abbrev pub Turned : (Totals → Totals) → (Tables → Tables) → List T → Type 0
  Turned after change rows = IsStateClean (shown a old) → (sums : Totals) → IsHostBy sums (filled packs old.now) → Becomes form host_schema table.tree old new rows
      → IsHostBy (after sums) (filled packs new.now) × (tables_in (filled packs new.now) ≡ change (tables_in (filled packs old.now)))

  -- how a write ends, what it found, and which rows it leaves
  pub record Written (after : Totals → Totals) (change : Tables → Tables) (result : Result ℕ Error) (Found : Type 0) (rows : List T) : Type 0 where
    pub turn : Turn (shown a old) (shown a new) after change result
    pub leaves : OnOk result (IsStateClean (shown a new) → Found × Becomes form host_schema table.tree old new rows)

  -- a row may be added next
  abbrev pub IsFree : T → Type 0
  IsFree x = AreFree form host_schema table (old.now.trees table.tree) (put form (next_rowid (old.now.trees table.tree), x))

  on_both : (A B : Type 0) (r : Result ℕ Error) → OnOk r A → OnOk r B → OnOk r (A × B)
  on_both A B (Ok n) one two = (one, two)
  on_both A B (Err e) one two = tt

  left : (A : Type 0) (r : Result ℕ Error) → KeepsDisk (shown a old) (shown a new) → (IsTrue a.is_clean → HasCleanDisk new → IsTrue old.is_open → OnOk r A) → OnOk r (IsStateClean (shown a new) → A)
  unfolding IsIntact IsOpen
  left A (Err e) keeps l = tt
  left A (Ok n) keeps l = λ c. let clean = disk_clean a old new new c.intact in l clean.1 clean.0 (keeps.clean c).is_open

  ends_turned : (after : Totals → Totals) (change : Tables → Tables) (result : Result ℕ Error) {P : Trees → Type 0} → Survives old new P → (Found : Type 0) (rows : List T) → (Found → Turned after change rows)
      → (IsTrue a.is_clean → Changes old new result) → (IsTrue a.is_clean → HasCleanDisk new → IsTrue old.is_open → OnOk result (Found × Becomes form host_schema table.tree old new rows)) → Written after change result Found rows
  ends_turned after change result survives Found rows turned changes leaves =
      let t = turn (shown a old) (shown a new) after change result midst (changes_shown a old new result survives changes)
      (λ h up. let clean = disk_clean a old new new h in go result clean.0 clean.1 up ((changes clean.1).inside clean.0 up) (leaves clean.1 clean.0 up)) in
      record { turn = t; leaves = left (Found × Becomes form host_schema table.tree old new rows) result t.within.follows leaves }
    where
      go : (r : Result ℕ Error) → HasCleanDisk new → IsTrue a.is_clean → IsTrue old.is_open → OnOk r (StaysInside old new) → OnOk r (Found × Becomes form host_schema table.tree old new rows)
          → OnOk r ((sums : Totals) → IsHostBy sums (shown a old).now → IsHostBy (after sums) (shown a new).now × (tables (shown a new) ≡ change (tables (shown a old))))
      go (Err e) h clean up stays l = tt
      go (Ok n) h clean up stays l = λ sums host.
          let was = clean_old clean (clean_before old new _ survives h) up in
          let still : new.in_transaction ≡ old.in_transaction = stays.inside (was_within was) ∙ sym (was_within was) in
          let it = turned l.0 was sums host l.1 in
          let is = ap (λ b. filled (named a b) new.now) still in
          (subst (IsHostBy (after sums)) (sym is) it.0, ap tables_in is ∙ it.1)

  module _ (result : Result ℕ Error) (live : IsLive old) {sql : List ℕ} {params : Row} (after : Totals → Totals) (change : Tables → Tables) (runs : HasCleanDisk new → Executes sql params old new result) (survives : Survives old new (CommitsBy sql params old)) where
    -- how an INSERT may end, whatever it says of other rows
    pub adds_changes : {x : T} → InsertText form host_schema number table sql params x → Changes (shown a old) (shown a new) result
    adds_changes {x} it = changes_shown a old new result survives (λ clean. text.insert_changes form host_schema orderly number table is old new (midst_ready clean) sql params x it result runs survives)

    pub adds : {x : T} → InsertText form host_schema number table sql params x → (IsFree x → Turned after change (typed form (old.now.trees table.tree) ++ x ∷ [])) → Written after change result (IsFree x) (typed form (old.now.trees table.tree) ++ x ∷ [])
    adds {x} it turned = ends_turned after change result survives (IsFree x) (typed form (old.now.trees table.tree) ++ x ∷ []) turned (λ clean. text.insert_changes form host_schema orderly number table is old new (midst_ready clean) sql params x it result runs survives)
        (λ clean h up. on_both (IsFree x) (Becomes form host_schema table.tree old new (typed form (old.now.trees table.tree) ++ x ∷ [])) result (text.insert_frees form host_schema orderly number table is old new (midst_ready clean) sql params x it result runs survives h up) (text.insert_adds form host_schema orderly number table is old new (midst_ready clean) sql params x it result runs survives h up))

    pub sets : {m : T → Bool} {f : T → T} → UpdateText form host_schema number table sql params m f → Turned after change (update_where m f (typed form (old.now.trees table.tree))) → Written after change result (Unit {0}) (update_where m f (typed form (old.now.trees table.tree)))
    sets {m} {f} it turned = ends_turned after change result survives (Unit {0}) (update_where m f (typed form (old.now.trees table.tree))) (λ _. turned) (λ clean. text.update_changes form host_schema orderly number table is old new (midst_ready clean) sql params m f it result runs survives)
        (λ clean h up. on_ok_weaker result (λ l. (tt, l)) (text.update_sets form host_schema orderly number table is old new (midst_ready clean) sql params m f it live result runs survives h up))

    pub drops : {m : T → Bool} → DeleteText form host_schema number table sql params m → Turned after change (delete_where m (typed form (old.now.trees table.tree))) → Written after change result (Unit {0}) (delete_where m (typed form (old.now.trees table.tree)))
    drops {m} it turned = ends_turned after change result survives (Unit {0}) (delete_where m (typed form (old.now.trees table.tree))) (λ _. turned) (λ clean. text.delete_changes form host_schema orderly number table is old new (midst_ready clean) sql params m it result runs survives)
        (λ clean h up. on_ok_weaker result (λ l. (tt, l)) (text.delete_removes form host_schema orderly number table is old new (midst_ready clean) sql params m it result runs survives h up))

    -- one of which the database shows by what it is afterwards that its rows could go
    pub drops_found : {m : T → Bool} (Found : Type 0) → (IsTrue new.is_open → Found) → DeleteText form host_schema number table sql params m → (Found → Turned after change (delete_where m (typed form (old.now.trees table.tree)))) → Written after change result Found (delete_where m (typed form (old.now.trees table.tree)))
    drops_found {m} Found finds it turned = ends_turned after change result survives Found (delete_where m (typed form (old.now.trees table.tree))) turned changes
        (λ clean h up. on_both Found (Becomes form host_schema table.tree old new (delete_where m (typed form (old.now.trees table.tree)))) result (on_ok_weaker result (λ stays. finds stays.is_open) ((changes clean).inside h up)) (text.delete_removes form host_schema orderly number table is old new (midst_ready clean) sql params m it result runs survives h up))
      where
        changes : IsTrue a.is_clean → Changes old new result
        changes clean = text.delete_changes form host_schema orderly number table is old new (midst_ready clean) sql params m it result runs survives

  -- where the store is whole and no limit stops a text, its error is trouble alone, under a premise on rows as they are stored
  module _ (result : Result ℕ Error) (live : IsLive old) {sql : List ℕ} {params : Row} (runs : HasCleanDisk new → Executes sql params old new result) (survives : Survives old new (CommitsBy sql params old)) {A : Type 0} where
    pub adds_trouble : {x : T} → InsertText form host_schema number table sql params x → (IsStateClean (shown a old) → A → MayAdd form host_schema table old.now.trees x) → IfErr result (λ e. IsIntact (shown a new) → (standing (shown a old)).limit ≡ None → A → is_trouble e ≡ true)
    unfolding standing
    adds_trouble {x} it may = if_error (shown a old) (shown a new) result (λ e. A → is_trouble e ≡ true) (λ h unlimited. let clean = disk_clean a old new new h in only_if result (λ so.
        text.insert_only_trouble form host_schema orderly number table is old new (midst_ready clean.1) sql params x it live result runs survives clean.0 unlimited (λ was up. may (clean_old clean.1 was up) so)))

    pub sets_trouble : {m : T → Bool} {f : T → T} → UpdateText form host_schema number table sql params m f
        → ((id : ℤ) (y : T) → m y ≡ true → map (column (put form (id, f y))) (watched host_schema table) ≡ map (column (put form (id, y))) (watched host_schema table))
        → (IsStateClean (shown a old) → A → (e : Entry T) → Has (filter (λ (d : Entry T). m d.1) (entries form (old.now.trees table.tree))) e → Suits table (put form e) → Suits table (put form (e.0, f e.1)))
        → IfErr result (λ e. IsIntact (shown a new) → (standing (shown a old)).limit ≡ None → A → is_trouble e ≡ true)
    unfolding standing
    sets_trouble {m} {f} it unwatched suits = if_error (shown a old) (shown a new) result (λ e. A → is_trouble e ≡ true) (λ h unlimited. let clean = disk_clean a old new new h in only_if result (λ so.
        text.update_there_trouble form host_schema orderly number table is old new (midst_ready clean.1) sql params m f it live unwatched (λ was up. suits (clean_old clean.1 was up) so) result runs survives clean.0 unlimited))

    pub drops_trouble : {m : T → Bool} → DeleteText form host_schema number table sql params m
        → (IsStateClean (shown a old) → A → AreUnused host_schema old.now.trees table.tree (map (put form) (filter (λ (d : Entry T). m d.1) (entries form (old.now.trees table.tree)))))
        → IfErr result (λ e. IsIntact (shown a new) → (standing (shown a old)).limit ≡ None → A → is_trouble e ≡ true)
    unfolding standing
    drops_trouble {m} it unused = if_error (shown a old) (shown a new) result (λ e. A → is_trouble e ≡ true) (λ h unlimited. let clean = disk_clean a old new new h in only_if result (λ so.
        text.delete_only_trouble form host_schema orderly number table is old new (midst_ready clean.1) sql params m it live result runs survives clean.0 unlimited (λ was up. unused (clean_old clean.1 was up) so)))
