-- What a call leaves that creates a table, and what several leave.
use Rattle.std.proofs.Common.{◌≡◌, List, [], ◌∷◌, ◌++◌, ℕ, true, Ok, Err, Result, OnOk, IfErr, IsTrue, refl, ◌∙◌}
use Rattle.std.specs.List.{AllByRecursion}
use Rattle.sqlite.specs.Change.{created, KeepsRows}
use Rattle.sqlite.specs.Schema.{Schema}
use Rattle.sqlite.specs.State.{State, HasCleanDisk, Survives, Executes, CommitsBy}
use Rattle.sqlite.specs.Table.{Table}
use Rattle.sqlite.specs.Tree.{Trees}
use Rattle.sqlite.specs.declared.error.Error.{Error}
use Rattle.bh_rows.specs.Means.{Changes, is_trouble}
use Rattle.bh_rows.specs.Over.{HasTable}
use Rattle.bh_rows.proofs.CreateErrors.{IsFree, create_trouble}
use Rattle.bh_rows.proofs.CreateLemmas.{Makes}
use Rattle.bh_rows.proofs.OverLemmas.{makes_over, over_changes}
use Rattle.bh_tables.specs.Schema.{first_schema, second_schema, third_schema, fourth_schema, host_schema, at, locks_table, packs_table, placed_table, notes_table, upload_notes_table, rights_table, garbage_table, retains_table, tallies_table}
use Rattle.bh_tables.specs.Typed.{Raw, raw, first_raw, second_raw, third_raw, fourth_raw}
use Rattle.bh_base.specs.Layer.{Standing, standing, IsIntact, IsOpen, IsStateClean}
use Rattle.bh_base.proofs.Calls.{changes_inside}
use Rattle.bh_migration.specs.Making.{before, after, IsTextOf, HasMade}
use Rattle.bh_migration.specs.Migration.{HasSchema, HasRows}
use Rattle.bh_migration.specs.declared.making.Added.{Added}
use Rattle.bh_migration.specs.declared.making.Added.TheVariants as added

-- ---- one call, in a transaction

-- trouble of an intact disk
if_intact : (new : State) (r : Result ℕ Error) → (HasCleanDisk new → IfErr r (λ e. is_trouble e ≡ true)) → IfErr r (λ e. IsIntact new → is_trouble e ≡ true)
unfolding IsIntact
if_intact new (Ok x) h = tt
if_intact new (Err e) h = h

module _ (item : Added) {sql : List ℕ} (text : IsTextOf item sql) (old new : State) (has : IsStateClean old → HasSchema (before item) (standing old)) (result : Result ℕ Error) (runs : HasCleanDisk new → Executes sql [] old new result) (s : Survives old new (CommitsBy sql [] old)) where
  ready : HasCleanDisk old → IsTrue old.is_open → old.now.schema ≡ before item
  unfolding IsIntact IsOpen standing
  ready clean up = (has (record { intact = clean; is_open = up })).schema

  pub make_changes : Changes old new result
  make_changes = over_changes (before item) sql text.table text.creates old new ready result runs s

  pub make_trouble : IfErr result (λ e. IsIntact new → is_trouble e ≡ true)
  make_trouble = if_intact new result (create_trouble (before item) sql text.table text.creates text.free old new ready result runs s)

  pub makes : OnOk result (IsStateClean new → HasMade item (standing old) (standing new))
  unfolding IsIntact IsOpen standing
  makes = go result (makes_over (before item) sql text.table text.creates old new ready result runs s) (changes_inside old new (λ c. (has c).inside) result make_changes)
    where
      go : (r : Result ℕ Error) → (HasCleanDisk new → IsTrue old.is_open → OnOk r (HasTable (before item) text.table old new)) → OnOk r (IsStateClean new → new.in_transaction ≡ true) → OnOk r (IsStateClean new → HasMade item (standing old) (standing new))
      go (Err e) h stays = tt
      go (Ok n) h stays = λ c.
          let it = h c.intact (make_changes.up c.intact c.is_open) in
          record { inside = stays c; schema = it.schema_is ∙ text.leads; rows = it.rows; none = it.empty }

pub text_of : (item : Added) {sql : List ℕ} {table : Table} → created (before item) table ≡ after item → Makes (before item) sql table → IsFree (before item) sql table → IsTextOf item sql
text_of item {sql} {table} leads creates free = record { table = table; leads = leads; creates = creates; free = free }

-- ---- the rows of an earlier host, where each of their trees stays

-- of the first of some tables, and of the others
kept_first : (xs ys : List Table) (db next : Trees) → KeepsRows (xs ++ ys) db next → KeepsRows xs db next
kept_first [] ys db next h = tt
kept_first (x ∷ xs) ys db next h = (h.0, kept_first xs ys db next h.1)

kept_rest : (xs ys : List Table) (db next : Trees) → KeepsRows (xs ++ ys) db next → KeepsRows ys db next
kept_rest [] ys db next h = h
kept_rest (x ∷ xs) ys db next h = kept_rest xs ys db next h.1

first_kept : (db next : Trees) → KeepsRows first_schema.tables db next → first_raw next ≡ first_raw db
first_kept db next h = λ i. record {
  host = h.0 i;
  tenants = h.1.0 i;
  keys = h.1.1.0 i;
  buckets = h.1.1.1.0 i;
  versions = h.1.1.1.1.0 i;
  blocks = h.1.1.1.1.1.0 i;
  refs = h.1.1.1.1.1.1.0 i;
  uploads = h.1.1.1.1.1.1.1.0 i;
  parts = h.1.1.1.1.1.1.1.1.0 i;
  uses = h.1.1.1.1.1.1.1.1.1.0 i;
  locks = [];
  retains = [];
  tallies = [];
  garbage = [];
  packs = [];
  places = [];
  unfilled = [];
}

second_kept : (db next : Trees) → KeepsRows second_schema.tables db next → second_raw next ≡ second_raw db
second_kept db next h = λ i. record (first_kept db next (kept_first first_schema.tables (at 26 locks_table ∷ at 28 retains_table ∷ []) db next h) i) {
  locks = h.1.1.1.1.1.1.1.1.1.1.0 i;
  retains = h.1.1.1.1.1.1.1.1.1.1.1.0 i;
}

third_kept : (db next : Trees) → KeepsRows third_schema.tables db next → third_raw next ≡ third_raw db
third_kept db next h = λ i. record (second_kept db next (kept_first second_schema.tables (at 30 tallies_table ∷ []) db next h) i) { tallies = h.1.1.1.1.1.1.1.1.1.1.1.1.0 i }

-- the tables that version 4 added
abbrev filled_never : List Table
filled_never = at 32 packs_table ∷ at 34 placed_table ∷ at 37 notes_table ∷ at 39 upload_notes_table ∷ at 41 rights_table ∷ at 43 garbage_table ∷ []

fourth_kept : (db next : Trees) → KeepsRows fourth_schema.tables db next → fourth_raw next ≡ fourth_raw db
fourth_kept db next h =
    let z = kept_rest third_schema.tables filled_never db next h in
    λ i. record (third_kept db next (kept_first third_schema.tables filled_never db next h) i) { packs = z.0 i; places = z.1.0 i; unfilled = z.1.1.0 i ++ (z.1.1.1.0 i ++ (z.1.1.1.1.0 i ++ (z.1.1.1.1.1.0 i ++ []))) }

-- ---- the tables that each version added

pub second_made : (a b c : Standing) → HasMade added.Locks a b → HasMade added.Retains b c → HasRows second_schema second_raw (first_raw a.now.trees) c
second_made a b c one two =
    let ten = kept_first first_schema.tables (at 26 locks_table ∷ []) b.now.trees c.now.trees two.rows in
    let locks = kept_rest first_schema.tables (at 26 locks_table ∷ []) b.now.trees c.now.trees two.rows in
    let none : second_raw c.now.trees ≡ first_raw c.now.trees = λ i. record (second_raw c.now.trees) { locks = (locks.0 ∙ one.none) i; retains = two.none i } in
    record { inside = two.inside; schema = two.schema; rows = none ∙ first_kept b.now.trees c.now.trees ten ∙ first_kept a.now.trees b.now.trees one.rows }

pub third_made : (a b : Standing) → HasMade added.Tallies a b → HasRows third_schema third_raw (second_raw a.now.trees) b
third_made a b one =
    let none : third_raw b.now.trees ≡ second_raw b.now.trees = λ i. record (third_raw b.now.trees) { tallies = one.none i } in
    record { inside = one.inside; schema = one.schema; rows = none ∙ second_kept a.now.trees b.now.trees one.rows }

-- over the third schema, these tables are empty so far, and the earlier ones have their rows
record Widens (tables : List Table) (was now : Trees) : Type 0 where
  rows : third_raw now ≡ third_raw was
  none : AllByRecursion (λ (t : Table). now t.tree ≡ []) tables

still_none : (ys : List Table) (db next : Trees) → KeepsRows ys db next → AllByRecursion (λ (t : Table). db t.tree ≡ []) ys → (y : Table) → next y.tree ≡ [] → AllByRecursion (λ (t : Table). next t.tree ≡ []) (ys ++ y ∷ [])
still_none [] db next keeps none y last = (last, tt)
still_none (x ∷ ys) db next keeps none y last = (keeps.0 ∙ none.0, still_none ys db next keeps.1 none.1 y last)

widens : (ys : List Table) (y : Table) (was db next : Trees) → Widens ys was db → KeepsRows (third_schema.tables ++ ys) db next → next y.tree ≡ [] → Widens (ys ++ y ∷ []) was next
widens ys y was db next so keeps none = record {
  rows = third_kept db next (kept_first third_schema.tables ys db next keeps) ∙ so.rows;
  none = still_none ys db next (kept_rest third_schema.tables ys db next keeps) so.none y none;
}

pub fourth_made : (a b c d e f g : Standing) → HasMade added.Packs a b → HasMade added.Placed b c → HasMade added.Notes c d → HasMade added.UploadNotes d e → HasMade added.Rights e f → HasMade added.Garbage f g
    → HasRows fourth_schema fourth_raw (third_raw a.now.trees) g
fourth_made a b c d e f g one two three four five six =
    let was = a.now.trees in
    let w1 : Widens (at 32 packs_table ∷ []) was b.now.trees = widens [] (at 32 packs_table) was was b.now.trees (record { rows = refl; none = tt }) one.rows one.none in
    let w2 : Widens (at 32 packs_table ∷ at 34 placed_table ∷ []) was c.now.trees = widens (at 32 packs_table ∷ []) (at 34 placed_table) was b.now.trees c.now.trees w1 two.rows two.none in
    let w3 : Widens (at 32 packs_table ∷ at 34 placed_table ∷ at 37 notes_table ∷ []) was d.now.trees = widens (at 32 packs_table ∷ at 34 placed_table ∷ []) (at 37 notes_table) was c.now.trees d.now.trees w2 three.rows three.none in
    let w4 : Widens (at 32 packs_table ∷ at 34 placed_table ∷ at 37 notes_table ∷ at 39 upload_notes_table ∷ []) was e.now.trees =
    widens (at 32 packs_table ∷ at 34 placed_table ∷ at 37 notes_table ∷ []) (at 39 upload_notes_table) was d.now.trees e.now.trees w3 four.rows four.none in
    let w5 : Widens (at 32 packs_table ∷ at 34 placed_table ∷ at 37 notes_table ∷ at 39 upload_notes_table ∷ at 41 rights_table ∷ []) was f.now.trees =
    widens (at 32 packs_table ∷ at 34 placed_table ∷ at 37 notes_table ∷ at 39 upload_notes_table ∷ []) (at 41 rights_table) was e.now.trees f.now.trees w4 five.rows five.none in
    let w6 : Widens (at 32 packs_table ∷ at 34 placed_table ∷ at 37 notes_table ∷ at 39 upload_notes_table ∷ at 41 rights_table ∷ at 43 garbage_table ∷ []) was g.now.trees =
    widens (at 32 packs_table ∷ at 34 placed_table ∷ at 37 notes_table ∷ at 39 upload_notes_table ∷ at 41 rights_table ∷ []) (at 43 garbage_table) was f.now.trees g.now.trees w5 six.rows six.none in
    let z = w6.none in
    let none : fourth_raw g.now.trees ≡ third_raw g.now.trees = λ i. record (fourth_raw g.now.trees) { packs = z.0 i; places = z.1.0 i; unfilled = z.1.1.0 i ++ (z.1.1.1.0 i ++ (z.1.1.1.1.0 i ++ (z.1.1.1.1.1.0 i ++ []))) } in
    record { inside = six.inside; schema = six.schema; rows = none ∙ w6.rows }

pub fifth_made : (a b : Standing) → HasMade added.Unneeded a b → HasRows host_schema raw (fourth_raw a.now.trees) b
fifth_made a b one =
    let none : raw b.now.trees ≡ fourth_raw b.now.trees = λ i. record (raw b.now.trees) { garbage = one.none i } in
    record { inside = one.inside; schema = one.schema; rows = none ∙ fourth_kept a.now.trees b.now.trees one.rows }

-- ---- several, one after another

pub then_rows : {schema : Schema} {rows_in : Trees → Raw} {rows now : Raw} {x : Standing} → HasRows schema rows_in now x → now ≡ rows → HasRows schema rows_in rows x
then_rows it same = record { inside = it.inside; schema = it.schema; rows = it.rows ∙ same }
