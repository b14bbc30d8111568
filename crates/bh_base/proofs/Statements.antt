-- What a text over one table does to all of a host's tables, with the bytes of packs: for each table but that of blocks and that of places.
use Rattle.std.proofs.Common.{◌≡◌, ◌≢◌, inl, inr, ℕ, List, [], ◌∷◌, ◌++◌, map, filter, Bool, true, cond, Ok, Err, Result, OnOk, IfOk, IfErr, IsTrue, Ordering, ◌⊎◌, ◌≤◌, ◌^◌, pos, take, length, sum_by, refl, sym, ap, ◌∙◌, subst}
use Rattle.std.proofs.lemmas.Bool.{cases_eq, ne_eqb}
use Rattle.std.specs.List.{AllByRecursion}
use Rattle.sqlite.specs.Order.{Row}
use Rattle.sqlite.specs.Table.{Table}
use Rattle.sqlite.specs.Effect.{Database}
use Rattle.sqlite.specs.Tree.{Trees}
use Rattle.sqlite.specs.State.{State, HasCleanDisk, IsLive, Survives, Executes, CommitsBy, CommitsShowing, Shown, FailsToQuery}
use Rattle.sqlite.specs.declared.error.Error.{Error}
use Rattle.sqlite.specs.declared.error.Error.TheVariants.{SqliteFailure}
use Rattle.sqlite.specs.declared.error.ErrorCode.TheVariants.{IntegerOverflow}
use Rattle.sqlite.specs.declared.types.Value.TheVariants.{Int}
use Rattle.sqlite_keyed.specs.Lists.{update_where, delete_where, sort_by}
use Rattle.bh_rows.specs.Form.{Form, typed, AreRows}
use Rattle.bh_rows.specs.Keys.{AreUnused}
use Rattle.bh_rows.specs.Means.{is_trouble, Changes}
use Rattle.bh_rows.specs.Scan.{no_limit}
use Rattle.bh_rows.specs.Texts.{IsReadyAt, Leaves, MayAdd, MayChange, InsertText, UpdateText, DeleteText, SelectText, SortedText, SumText}
use Rattle.bh_rows.proofs.CallLemmas.{clean_before}
use Rattle.bh_rows.proofs.TotalLemmas.{summed_fails}
use Rattle.bh_rows.proofs.TextLemmas as text
use Rattle.bh_tables.specs.Schema.{host_schema}
use Rattle.bh_tables.specs.Rows.{place_form, pack_form}
use Rattle.bh_tables.specs.Packs.{places_in, packs_in}
use Rattle.bh_tables.specs.Typed.{Totals, IsHostBy, IsReadyBy, tables}
use Rattle.bh_tables.proofs.Places.{Place, Goes, orderly, turned}
use Rattle.bh_tables.proofs.Statements.{Writes, Shows as Tells, Sums, told_as, sum_ends, if_narrow}
use Rattle.bh_tables.proofs.Terms.{one_row, two_rows}
use Rattle.bh_shelf.specs.Contents.{Contents}
use Rattle.bh_base.specs.Placed.{below, filled_row, filled_trees, filled}
use Rattle.bh_base.specs.Shown.{Backing, named, shown}
use Rattle.bh_base.proofs.Lifting.{doubtless}
use Rattle.bh_base.proofs.Stored.{stored_host}
use Rattle.bh_base.proofs.Endings.{disk_clean, changes_shown, asks_shown}

-- ---- trees, with bytes put in

module _ (packs : Contents) where
  -- but that of blocks, they are as they are
  pub outside : (trees : Trees) (t : ℕ) → t ≢ 10 → filled_trees packs trees t ≡ trees t
  unfolding filled_trees
  outside trees t other = ap (λ b. cond b (map (filled_row (below (packs_in trees) packs) (places_in trees)) (trees 10)) (trees t)) (ne_eqb t 10 other)

  -- where blocks, places and packs are the same, so are blocks with their bytes
  blocks_same : (old new : Trees) → new 10 ≡ old 10 → new 34 ≡ old 34 → new 32 ≡ old 32 → filled_trees packs new 10 ≡ filled_trees packs old 10
  unfolding filled_trees
  blocks_same old new blocks places lengths = λ i. map (filled_row (below (typed pack_form (lengths i)) packs) (typed place_form (places i))) (blocks i)

  module _ (tree : ℕ) (old new : Trees) (blocks : new 10 ≡ old 10) (places : new 34 ≡ old 34) (lengths : new 32 ≡ old 32) where
    same_at : (t : ℕ) → (t ≢ tree → new t ≡ old t) → t ≢ tree → filled_trees packs new t ≡ filled_trees packs old t
    same_at t same other = elim (cases_eq t 10) [
      | inl is ↦ ap (filled_trees packs new) is ∙ blocks_same old new blocks places lengths ∙ ap (filled_trees packs old) (sym is)
      | inr others ↦ outside new t others ∙ same other ∙ sym (outside old t others)
    ]

    others_same : (ts : List Table) → AllByRecursion (λ (t : Table). t.tree ≢ tree → new t.tree ≡ old t.tree) ts → AllByRecursion (λ (t : Table). t.tree ≢ tree → filled_trees packs new t.tree ≡ filled_trees packs old t.tree) ts
    others_same [] h = tt
    others_same (t ∷ ts) h = (same_at t.tree h.0, others_same ts h.1)

-- ---- a table of which packs have nothing

-- it is neither that of blocks nor that of places or of packs
pub record IsApart (tree : ℕ) : Type 0 where
  pub blocks : 10 ≢ tree
  pub places : 34 ≢ tree
  pub packs : 32 ≢ tree

module _ (tree : ℕ) (apart : IsApart tree) where
  pub here : (packs : Contents) (trees : Trees) → filled_trees packs trees tree ≡ trees tree
  here packs trees = outside packs trees tree (λ is. apart.blocks (sym is))

  -- a write to it leaves the other tables, and bytes in packs, as they were
  pub leaves_shown : {T : Type 0} (form : Form T) (a : Backing) (old new : State) (after : List T) → new.in_transaction ≡ old.in_transaction
      → Leaves form host_schema tree old new after → Leaves form host_schema tree (shown a old) (shown a new) after
  leaves_shown form a old new after still l =
      let packs = named a old.in_transaction in
      let blocks : l.next 10 ≡ old.now.trees 10 = l.others.1.1.1.1.1.0 apart.blocks in
      let places : l.next 34 ≡ old.now.trees 34 = l.others.1.1.1.1.1.1.1.1.1.1.1.1.1.1.0 apart.places in
      let lengths : l.next 32 ≡ old.now.trees 32 = l.others.1.1.1.1.1.1.1.1.1.1.1.1.1.0 apart.packs in
      record {
        next = filled_trees packs l.next;
        now = ap (λ b. filled (named a b) new.now) still ∙ ap (filled packs) l.now;
        others = others_same packs tree old.now.trees l.next blocks places lengths host_schema.tables l.others;
        held = subst (AreRows form) (sym (here packs l.next)) l.held;
        rows = ap (typed form) (here packs l.next) ∙ l.rows;
      }

  -- the same of what it leaves of the rows that there were
  pub leaves_on : {T : Type 0} (form : Form T) (a : Backing) (old new : State) (after : List T → List T) → new.in_transaction ≡ old.in_transaction
      → Leaves form host_schema tree old new (after (typed form (old.now.trees tree))) → Leaves form host_schema tree (shown a old) (shown a new) (after (typed form ((shown a old).now.trees tree)))
  leaves_on form a old new after still l =
      subst (λ rows. Leaves form host_schema tree (shown a old) (shown a new) (after (typed form rows))) (sym (here (named a old.in_transaction) old.now.trees)) (leaves_shown form a old new _ still l)

  -- its rows are as they are stored
  pub ready_here : {T : Type 0} (form : Form T) (a : Backing) (s : State) → IsTrue a.is_clean → IsReadyAt form host_schema tree (shown a s) → IsReadyAt form host_schema tree s
  ready_here form a s clean ready h up =
      let it = ready (doubtless s.is_clean a.is_clean h clean) up in
      (it.0, subst (AreRows form) (here (named a s.in_transaction) s.now.trees) it.1)

-- ---- texts

module _ {sums : Totals} {T : Type 0} (p : Place sums T) (apart : IsApart p.table.tree) (a : Backing) (old new : State) (ready : IsReadyBy sums (shown a old)) where
  abbrev stored : List T
  stored = typed p.form (old.now.trees p.table.tree)

  both_clean : IsTrue a.is_clean → HasCleanDisk old → HasCleanDisk (shown a old)
  both_clean clean h = doubtless old.is_clean a.is_clean h clean

  rows_here : stored ≡ p.rows (tables (shown a old))
  rows_here = ap (typed p.form) (sym (here p.table.tree apart (named a old.in_transaction) old.now.trees)) ∙ p.rows_are (shown a old).now

  ready_at : IsTrue a.is_clean → IsReadyAt p.form host_schema p.table.tree old
  ready_at clean = ready_here p.table.tree apart p.form a old clean (λ h up. let host = ready h up in (host.schema, p.held (shown a old).now host))

  -- without the bytes it is a host's database too
  stored_ready : IsTrue a.is_clean → IsReadyBy sums old
  stored_ready clean h up = stored_host (named a old.in_transaction) old.now (ready (both_clean clean h) up)

  -- ---- a write, in a transaction

  module _ (inside : HasCleanDisk (shown a old) → IsTrue old.is_open → old.in_transaction ≡ true) where
    left : (after : List T → List T) (result : Result ℕ Error) {P : Trees → Type 0} → Survives old new P → (IsTrue a.is_clean → Changes old new result)
        → (IsTrue a.is_clean → HasCleanDisk new → IsTrue old.is_open → OnOk result (Leaves p.form host_schema p.table.tree old new (after stored)))
        → HasCleanDisk (shown a new) → IsTrue old.is_open → OnOk result (IsHostBy sums (shown a new).now × (tables (shown a new) ≡ p.set (tables (shown a old)) (after (p.rows (tables (shown a old))))))
    left after (Err e) survives changes h clean up = tt
    left after (Ok n) survives changes h clean up =
        let it = disk_clean a old new new clean in
        let was = both_clean it.1 (clean_before old new _ survives it.0) in
        let still : new.in_transaction ≡ old.in_transaction = ((changes it.1).inside it.0 up).inside (inside was up) ∙ sym (inside was up) in
        turned p (shown a old) (shown a new) _ (ready was up) (leaves_shown p.table.tree apart p.form a old new _ still
        (subst (λ rows. Leaves p.form host_schema p.table.tree old new (after rows)) rows_here (h it.1 it.0 up)))

    module _ (result : Result ℕ Error) (sql : List ℕ) (params : Row) (runs : HasCleanDisk new → Executes sql params old new result) (survives : Survives old new (CommitsBy sql params old)) (live : IsLive old) where
      only_if : {A : Type 0} (r : Result ℕ Error) → (A → IfErr r (λ e. is_trouble e ≡ true)) → IfErr r (λ e. A → is_trouble e ≡ true)
      only_if (Ok n) h = tt
      only_if (Err e) h = h

      -- one row more, where it may be the next
      pub inserted : (x : T) {A : Type 0} → InsertText p.form host_schema p.number p.table sql params x → (HasCleanDisk (shown a old) → IsTrue old.is_open → A → MayAdd p.form host_schema p.table old.now.trees x)
          → Writes sums (shown a old) (shown a new) (λ t. p.set t (p.rows t ++ x ∷ [])) (λ e. A → is_trouble e ≡ true) result
      inserted x it may =
          let changes = λ (clean : IsTrue a.is_clean). text.insert_changes p.form host_schema orderly p.number p.table p.is old new (ready_at clean) sql params x it result runs survives in
          record {
            changes = changes_shown a old new result survives changes;
            leaves = left (λ l. l ++ x ∷ []) result survives changes (λ clean. text.insert_adds p.form host_schema orderly p.number p.table p.is old new (ready_at clean) sql params x it result runs survives);
            errors = λ h unlimited. let clean = disk_clean a old new new h in only_if result (λ so.
                text.insert_only_trouble p.form host_schema orderly p.number p.table p.is old new (ready_at clean.1) sql params x it live result runs survives clean.0 unlimited (λ was up. may (both_clean clean.1 was) up so));
          }

      -- the rows that pass, changed
      pub updated : (m : T → Bool) (f : T → T) → UpdateText p.form host_schema p.number p.table sql params m f → MayChange p.form host_schema p.table m f
          → Writes sums (shown a old) (shown a new) (λ t. p.set t (update_where m f (p.rows t))) (λ e. is_trouble e ≡ true) result
      updated m f it may =
          let changes = λ (clean : IsTrue a.is_clean). text.update_changes p.form host_schema orderly p.number p.table p.is old new (ready_at clean) sql params m f it result runs survives in
          record {
            changes = changes_shown a old new result survives changes;
            leaves = left (update_where m f) result survives changes (λ clean. text.update_sets p.form host_schema orderly p.number p.table p.is old new (ready_at clean) sql params m f it live result runs survives);
            errors = λ h unlimited. let clean = disk_clean a old new new h in
                text.update_only_trouble p.form host_schema orderly p.number p.table p.is old new (ready_at clean.1) sql params m f it live may result runs survives clean.0 unlimited;
          }

      -- the rows that pass, gone, of a table to which no other refers
      pub deleted : (m : T → Bool) → DeleteText p.form host_schema p.number p.table sql params m → ((db : Database) → IsHostBy sums db → (rows : List Row) → AreUnused host_schema db.trees p.table.tree rows)
          → Writes sums (shown a old) (shown a new) (λ t. p.set t (delete_where m (p.rows t))) (λ e. is_trouble e ≡ true) result
      deleted m it unused =
          let changes = λ (clean : IsTrue a.is_clean). text.delete_changes p.form host_schema orderly p.number p.table p.is old new (ready_at clean) sql params m it result runs survives in
          record {
            changes = changes_shown a old new result survives changes;
            leaves = left (delete_where m) result survives changes (λ clean. text.delete_removes p.form host_schema orderly p.number p.table p.is old new (ready_at clean) sql params m it result runs survives);
            errors = λ h unlimited. let clean = disk_clean a old new new h in
                text.delete_only_trouble p.form host_schema orderly p.number p.table p.is old new (ready_at clean.1) sql params m it live result runs survives clean.0 unlimited (λ was up. unused old.now (stored_ready clean.1 was up) _);
          }

      -- the same of a table to which others refer, where they name none of those rows
      pub removed : (m : T → Bool) {A : Type 0} → DeleteText p.form host_schema p.number p.table sql params m → (HasCleanDisk (shown a old) → IsTrue old.is_open → A → Goes p old.now.trees m)
          → Writes sums (shown a old) (shown a new) (λ t. p.set t (delete_where m (p.rows t))) (λ e. A → is_trouble e ≡ true) result
      removed m it goes =
          let changes = λ (clean : IsTrue a.is_clean). text.delete_changes p.form host_schema orderly p.number p.table p.is old new (ready_at clean) sql params m it result runs survives in
          record {
            changes = changes_shown a old new result survives changes;
            leaves = left (delete_where m) result survives changes (λ clean. text.delete_removes p.form host_schema orderly p.number p.table p.is old new (ready_at clean) sql params m it result runs survives);
            errors = λ h unlimited. let clean = disk_clean a old new new h in only_if result (λ so.
                text.delete_only_trouble p.form host_schema orderly p.number p.table p.is old new (ready_at clean.1) sql params m it live result runs survives clean.0 unlimited (λ was up. goes (both_clean clean.1 was) up so));
          }

  -- ---- a question

  -- the rows that pass, as shown
  pub selected : {X : Type 0} (rows_in : X → List Row) (result : Result X Error) (sql : List ℕ) (params : Row) (m : T → Bool) (view : T → Row) → SelectText p.form host_schema p.table.tree sql params m view no_limit
      → (HasCleanDisk new → IfOk result (λ x. Shown sql params old new (rows_in x))) → (HasCleanDisk new → IfErr result (FailsToQuery sql params old new)) → Survives old new (CommitsShowing sql params old)
      → Tells (shown a old) (shown a new) rows_in (λ t. map view (filter m (p.rows t))) result
  selected rows_in result sql params m view it ok err survives = record {
    asks = asks_shown a old new result survives (λ clean. text.select_asks p.form host_schema p.table.tree old new (ready_at clean) sql params m view no_limit it rows_in result ok err survives);
    rows = λ h. let clean = disk_clean a old new new h in
        subst (λ l. IfOk result (λ x. rows_in x ≡ map view (filter m l))) rows_here (text.select_rows p.form host_schema p.table.tree old new (ready_at clean.1) sql params m view no_limit it rows_in result ok survives clean.0);
  }

  -- the rows that pass, as shown, sorted
  pub sorted : {X : Type 0} (rows_in : X → List Row) (result : Result X Error) (sql : List ℕ) (params : Row) (m : T → Bool) (view : T → Row) (order : T → T → Ordering) → SortedText p.form host_schema p.table.tree sql params m view order no_limit
      → (HasCleanDisk new → IfOk result (λ x. Shown sql params old new (rows_in x))) → (HasCleanDisk new → IfErr result (FailsToQuery sql params old new)) → Survives old new (CommitsShowing sql params old)
      → Tells (shown a old) (shown a new) rows_in (λ t. map view (sort_by order (filter m (p.rows t)))) result
  sorted rows_in result sql params m view order it ok err survives = record {
    asks = asks_shown a old new result survives (λ clean. text.sorted_asks p.form host_schema p.table.tree old new (ready_at clean) sql params m view order no_limit it rows_in result ok err survives);
    rows = λ h. let clean = disk_clean a old new new h in
        subst (λ l. IfOk result (λ x. rows_in x ≡ map view (sort_by order (filter m l)))) rows_here (text.select_sorted p.form host_schema p.table.tree old new (ready_at clean.1) sql params m view order no_limit it rows_in result ok survives clean.0);
  }

  -- the first of the rows that pass, in an order, as shown
  pub selected_first : {X : Type 0} (rows_in : X → List Row) (result : Result X Error) (sql : List ℕ) (params : Row) (m : T → Bool) (view : T → Row) (order : T → T → Ordering) → SortedText p.form host_schema p.table.tree sql params m view order one_row
      → (HasCleanDisk new → IfOk result (λ x. Shown sql params old new (rows_in x))) → (HasCleanDisk new → IfErr result (FailsToQuery sql params old new)) → Survives old new (CommitsShowing sql params old)
      → Tells (shown a old) (shown a new) rows_in (λ t. take 1 (map view (sort_by order (filter m (p.rows t))))) result
  selected_first rows_in result sql params m view order it ok err survives = record {
    asks = asks_shown a old new result survives (λ clean. text.sorted_asks p.form host_schema p.table.tree old new (ready_at clean) sql params m view order one_row it rows_in result ok err survives);
    rows = λ h. let clean = disk_clean a old new new h in
        subst (λ l. IfOk result (λ x. rows_in x ≡ take 1 (map view (sort_by order (filter m l))))) rows_here (text.select_sorted p.form host_schema p.table.tree old new (ready_at clean.1) sql params m view order one_row it rows_in result ok survives clean.0);
  }

  -- the first two
  pub selected_two : {X : Type 0} (rows_in : X → List Row) (result : Result X Error) (sql : List ℕ) (params : Row) (m : T → Bool) (view : T → Row) (order : T → T → Ordering) → SortedText p.form host_schema p.table.tree sql params m view order two_rows
      → (HasCleanDisk new → IfOk result (λ x. Shown sql params old new (rows_in x))) → (HasCleanDisk new → IfErr result (FailsToQuery sql params old new)) → Survives old new (CommitsShowing sql params old)
      → Tells (shown a old) (shown a new) rows_in (λ t. take 2 (map view (sort_by order (filter m (p.rows t))))) result
  selected_two rows_in result sql params m view order it ok err survives = record {
    asks = asks_shown a old new result survives (λ clean. text.sorted_asks p.form host_schema p.table.tree old new (ready_at clean) sql params m view order two_rows it rows_in result ok err survives);
    rows = λ h. let clean = disk_clean a old new new h in
        subst (λ l. IfOk result (λ x. rows_in x ≡ take 2 (map view (sort_by order (filter m l))))) rows_here (text.select_sorted p.form host_schema p.table.tree old new (ready_at clean.1) sql params m view order two_rows it rows_in result ok survives clean.0);
  }

  -- the sum of the rows that pass
  pub summed : {X : Type 0} (rows_in : X → List Row) (result : Result X Error) (sql : List ℕ) (params : Row) (m : T → Bool) (size : T → ℕ) → SumText p.form host_schema p.table.tree sql params m size
      → (HasCleanDisk new → IfOk result (λ x. Shown sql params old new (rows_in x))) → (HasCleanDisk new → IfErr result (FailsToQuery sql params old new)) → Survives old new (CommitsShowing sql params old)
      → Sums (shown a old) (shown a new) rows_in (λ t. sum_by size (filter m (p.rows t))) result
  summed {X} rows_in result sql params m size it ok err survives = record {
    asks = λ other bad. asks_shown a old new (told_as other result) survives (λ clean. sum_ends old new (stored_ready clean) sql params it.means rows_in survives other bad result ok err);
    rows = λ h. let clean = disk_clean a old new new h in
        subst (λ l. IfOk result (λ x. rows_in x ≡ (Int (pos (sum_by size (filter m l))) ∷ []) ∷ [])) rows_here (text.sum_rows p.form host_schema p.table.tree old new (ready_at clean.1) sql params m size it rows_in result ok survives clean.0);
    trouble = λ h unlimited. let clean = disk_clean a old new new h in
        if_narrow _ result (subst (λ l. IfErr result (λ e. (is_trouble e ≡ true) ⊎ ((e ≡ SqliteFailure IntegerOverflow) × (2 ^ 63 ≤ sum_by size (filter m l))))) rows_here
        (summed_fails p.form sql host_schema p.table.tree it.test it.argument it.names (length params) it.means it.low params m it.tests size it.reads old new (ready_at clean.1) refl it.accepts result err survives clean.0 unlimited));
  }
