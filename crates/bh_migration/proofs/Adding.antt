-- A row that is added in the midst of a write, in a database alone.
use Rattle.std.proofs.Common.{◌≡◌, ℕ, List, [], ◌∷◌, ◌++◌, Ok, Err, Result, OnOk, subst}
use Rattle.sqlite.specs.Effect.{Database}
use Rattle.sqlite.specs.Order.{Row}
use Rattle.sqlite.specs.State.{State, HasCleanDisk, Survives, Executes, CommitsBy}
use Rattle.sqlite.specs.Table.{Table}
use Rattle.sqlite.specs.declared.error.Error.{Error}
use Rattle.bh_rows.specs.Form.{Form, AreRows, typed}
use Rattle.bh_rows.specs.Texts.{IsReadyAt, IsTableOf, InsertText, Leaves}
use Rattle.bh_rows.proofs.TextLemmas as text
use Rattle.bh_tables.specs.Schema.{host_schema, tallies_table, unneeded_table, at}
use Rattle.bh_tables.specs.Typed.{Totals, TallyRow, tally_form, tallied, GarbageRow, garbage_form, weighed, IsHostBy, tables}
use Rattle.bh_tables.proofs.Places.{orderly, tallies_is, garbage_is}
use Rattle.bh_tables.proofs.StoredLemmas.{tallies_turned, garbage_turned}
use Rattle.bh_base.specs.Layer.{standing, IsIntact, IsOpen, IsStateClean, IsMidst}
use Rattle.bh_base.proofs.Calls.{Turn, turn}

on_ok : {A B : Type 0} (r : Result ℕ Error) → (A → B) → OnOk r A → OnOk r B
on_ok (Ok n) f h = f h
on_ok (Err e) f h = tt

module _ {T : Type 0} (form : Form T) (number : ℕ) (table : Table) (is : IsTableOf form host_schema number table) (held : (sums : Totals) (db : Database) → IsHostBy sums db → AreRows form (db.trees table.tree))
    (old new : State) (midst : IsStateClean old → IsMidst (standing old)) where
  ready_at : IsReadyAt form host_schema table.tree old
  unfolding standing IsIntact IsOpen
  ready_at clean up = let m = midst (record { intact = clean; is_open = up }) in (m.by.host.schema, held m.sums old.now m.by.host)

  adds : (result : Result ℕ Error) {sql : List ℕ} {params : Row} (after : Totals → Totals) {x : T} → InsertText form host_schema number table sql params x
      → ((sums : Totals) → IsHostBy sums old.now → Leaves form host_schema table.tree old new (typed form (old.now.trees table.tree) ++ x ∷ []) → IsHostBy (after sums) new.now × (tables new ≡ tables old))
      → (HasCleanDisk new → Executes sql params old new result) → Survives old new (CommitsBy sql params old) → Turn old new after (λ t. t) result
  adds result {sql} {params} after {x} it turned runs survives = turn old new after (λ t. t) result midst (text.insert_changes form host_schema orderly number table is old new ready_at sql params x it result runs survives)
      (λ clean up. on_ok result (λ l sums host. turned sums host l) (text.insert_adds form host_schema orderly number table is old new ready_at sql params x it result runs survives clean up))

module _ (old new : State) (midst : IsStateClean old → IsMidst (standing old)) (result : Result ℕ Error) {sql : List ℕ} {params : Row} (runs : HasCleanDisk new → Executes sql params old new result) (survives : Survives old new (CommitsBy sql params old)) where
  pub tally_adds : {x : TallyRow} → InsertText tally_form host_schema 12 (at 30 tallies_table) sql params x → Turn old new (tallied (λ ts. ts ++ x ∷ [])) (λ t. t) result
  tally_adds {x} it = adds tally_form 12 (at 30 tallies_table) tallies_is (λ sums db h. h.held.tallies) old new midst result (tallied (λ ts. ts ++ x ∷ [])) it
      (λ sums host l. tallies_turned sums (sums.tallies ++ x ∷ []) old new host (subst (λ ts. Leaves tally_form host_schema 30 old new (ts ++ x ∷ [])) host.held.tallied l)) runs survives

  pub weight_adds : {x : GarbageRow} → InsertText garbage_form host_schema 19 (at 44 unneeded_table) sql params x → Turn old new (weighed (λ gs. gs ++ x ∷ [])) (λ t. t) result
  weight_adds {x} it = adds garbage_form 19 (at 44 unneeded_table) garbage_is (λ sums db h. h.held.garbage) old new midst result (weighed (λ gs. gs ++ x ∷ [])) it
      (λ sums host l. garbage_turned sums (sums.garbage ++ x ∷ []) old new host (subst (λ gs. Leaves garbage_form host_schema 44 old new (gs ++ x ∷ [])) host.held.weighed l)) runs survives
