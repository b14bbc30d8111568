-- Calls over the number of bytes that nobody needs.
use Rattle.bh_base.specs.Shown.{Backing, named, shown}
use Rattle.bh_base.proofs.Statements.{here, ready_here}
use Rattle.bh_base.proofs.Endings.{disk_clean, asks_shown}
use Rattle.bh_base.proofs.Lifting.{doubtless}
use Rattle.bh_base.proofs.Apart.{garbage_apart, garbage_may}
use Rattle.std.proofs.Common.{IsTrue, sym}
use Rattle.std.proofs.Common.{◌≡◌, ℕ, ◌+◌, List, [], ◌∷◌, ◌++◌, Bool, true, map, filter, codes, None, Ok, Err, Result, IfOk, IfErr, arith, ap, ◌∙◌, subst}
use Rattle.sqlite.specs.Order.{Row}
use Rattle.sqlite.specs.State.{State, HasCleanDisk, IsLive, Survives, Executes, CommitsBy, CommitsShowing, Shown, FailsToQuery}
use Rattle.sqlite.specs.declared.error.Error.{Error}
use Rattle.sqlite_keyed.specs.Lists.{update_where}
use Rattle.sqlite_rules.proofs.ListLemmas.{has_filtered}
use Rattle.bh_rows.specs.Form.{Entry, entries, typed}
use Rattle.bh_rows.specs.Means.{is_trouble}
use Rattle.bh_rows.specs.Texts.{IsReadyAt, InsertText, UpdateText, Leaves, MayAdd, MayChange}
use Rattle.bh_rows.specs.Scan.{no_limit}
use Rattle.bh_rows.proofs.CallLemmas.{clean_before, shown_open}
use Rattle.bh_rows.proofs.TextLemmas as text
use Rattle.bh_tables.specs.Schema.{host_schema, unneeded_table, at}
use Rattle.bh_tables.specs.Typed.{Totals, GarbageRow, garbage_form, weight, weighed, IsHostBy, Tables, tables, number}
use Rattle.bh_tables.specs.Shown.{shown_garbage}
use Rattle.bh_tables.proofs.GarbageTexts.{garbage_shown}
use Rattle.bh_tables.proofs.Places.{garbage_is}
use Rattle.bh_tables.proofs.StoredLemmas.{garbage_turned}
use Rattle.bh_schema.specs.Garbage.{garbage_in, weight_set}
use Rattle.bh_base.specs.Layer.{Standing, standing, IsIntact, IsInside, HoldsBy, IsStateClean, IsMidst}
use Rattle.bh_base.proofs.Calls.{Turn, Question, question, ready}
use Rattle.bh_base.proofs.Calls as call

-- the rows of it become these of those that were
garbage_turn : (old new : State) (change : List GarbageRow → List GarbageRow) (sums : Totals) → IsHostBy sums old.now → Leaves garbage_form host_schema 44 old new (change (typed garbage_form (old.now.trees 44))) → IsHostBy (weighed change sums) new.now × (tables new ≡ tables old)
garbage_turn old new change sums host l = garbage_turned sums (change sums.garbage) old new host (subst (λ gs. Leaves garbage_form host_schema 44 old new (change gs)) host.held.weighed l)

module _ (a : Backing) (stored_old stored_new : State) (midst : IsStateClean (shown a stored_old) → IsMidst (standing (shown a stored_old))) (result : Result ℕ Error) (live : IsLive stored_old) {sql : List ℕ} {params : Row} where
  pub adds : {x : GarbageRow} → InsertText garbage_form host_schema 19 (at 44 unneeded_table) sql params x → (HasCleanDisk stored_new → Executes sql params stored_old stored_new result) → Survives stored_old stored_new (CommitsBy sql params stored_old)
      → Turn (shown a stored_old) (shown a stored_new) (weighed (λ gs. gs ++ x ∷ [])) (λ t. t) result
  adds {x} it = call.adds garbage_form 19 (at 44 unneeded_table) garbage_is (λ sums db h. h.held.garbage) garbage_apart a stored_old stored_new midst result live (weighed (λ gs. gs ++ x ∷ [])) (λ t. t) it (garbage_turn (shown a stored_old) (shown a stored_new) (λ gs. gs ++ x ∷ []))

  pub sets : {m : GarbageRow → Bool} {f : GarbageRow → GarbageRow} → UpdateText garbage_form host_schema 19 (at 44 unneeded_table) sql params m f → (HasCleanDisk stored_new → Executes sql params stored_old stored_new result) → Survives stored_old stored_new (CommitsBy sql params stored_old)
      → Turn (shown a stored_old) (shown a stored_new) (weighed (update_where m f)) (λ t. t) result
  sets {m} {f} it = call.sets garbage_form 19 (at 44 unneeded_table) garbage_is (λ sums db h. h.held.garbage) garbage_apart a stored_old stored_new midst result live (weighed (update_where m f)) (λ t. t) it (garbage_turn (shown a stored_old) (shown a stored_new) (update_where m f))

  pub adds_trouble : {x : GarbageRow} {A : Type 0} → InsertText garbage_form host_schema 19 (at 44 unneeded_table) sql params x → (IsStateClean (shown a stored_old) → A → MayAdd garbage_form host_schema (at 44 unneeded_table) (standing (shown a stored_old)).now.trees x)
      → (HasCleanDisk stored_new → Executes sql params stored_old stored_new result) → Survives stored_old stored_new (CommitsBy sql params stored_old) → IfErr result (λ e. IsIntact (shown a stored_new) → (standing (shown a stored_old)).limit ≡ None → A → is_trouble e ≡ true)
  adds_trouble it may runs survives = call.adds_trouble garbage_form 19 (at 44 unneeded_table) garbage_is (λ sums db h. h.held.garbage) garbage_apart a stored_old stored_new midst result live (λ s. s) (λ t. t) it (λ packs db. garbage_may packs db _) may runs survives

  pub sets_trouble : {m : GarbageRow → Bool} {f : GarbageRow → GarbageRow} → UpdateText garbage_form host_schema 19 (at 44 unneeded_table) sql params m f → MayChange garbage_form host_schema (at 44 unneeded_table) m f
      → (HasCleanDisk stored_new → Executes sql params stored_old stored_new result) → Survives stored_old stored_new (CommitsBy sql params stored_old) → IfErr result (λ e. IsIntact (shown a stored_new) → (standing (shown a stored_old)).limit ≡ None → Unit {0} → is_trouble e ≡ true)
  sets_trouble {m} {f} it may runs survives = call.sets_trouble garbage_form 19 (at 44 unneeded_table) garbage_is (λ sums db h. h.held.garbage) garbage_apart a stored_old stored_new midst result live (λ s. s) (λ t. t) it may.unwatched
      (λ clean _ e there was. may.suits e.0 e.1 (has_filtered (λ (d : Entry GarbageRow). m d.1) (entries garbage_form ((standing (shown a stored_old)).now.trees 44)) e there).1 was) runs survives

-- ---- it is told

module _ (a : Backing) (stored_old stored_new : State) (inside : IsStateClean (shown a stored_old) → IsInside (standing (shown a stored_old))) where
  abbrev sql : List ℕ
  sql = codes "SELECT bytes FROM unneeded ORDER BY rowid"

  ready_shown : IsReadyAt garbage_form host_schema 44 (shown a stored_old)
  ready_shown clean up = let h = ready (shown a stored_old) inside clean up in (h.schema, h.held.garbage)

  ready_at : IsTrue a.is_clean → IsReadyAt garbage_form host_schema 44 stored_old
  ready_at clean = ready_here 44 garbage_apart garbage_form a stored_old clean ready_shown

  abbrev told : List GarbageRow → List Row
  told gs = map shown_garbage (filter (λ _. true) gs)

  pub garbage_told : {X : Type 0} (rows_in : X → List Row) (result : Result X Error) → (HasCleanDisk stored_new → IfOk result (λ x. Shown sql [] stored_old stored_new (rows_in x)))
      → (HasCleanDisk stored_new → IfErr result (FailsToQuery sql [] stored_old stored_new)) → Survives stored_old stored_new (CommitsShowing sql [] stored_old)
      → Question (shown a stored_old) (shown a stored_new) rows_in (λ t. (number (garbage_in t) ∷ []) ∷ []) result
  garbage_told {X} rows_in result ok err survives = question (shown a stored_old) (shown a stored_new) rows_in _ result inside (record {
    asks = asks_shown a stored_old stored_new result survives (λ clean. text.select_asks garbage_form host_schema 44 stored_old stored_new (ready_at clean) sql [] (λ _. true) shown_garbage no_limit garbage_shown rows_in result ok err survives);
    rows = λ h. let clean = disk_clean a stored_old stored_new stored_new h in go clean result ok (text.select_rows garbage_form host_schema 44 stored_old stored_new (ready_at clean.1) sql [] (λ _. true) shown_garbage no_limit garbage_shown rows_in result ok survives clean.0);
  })
    where
      go : HasCleanDisk stored_new × IsTrue a.is_clean → (r : Result X Error) → (HasCleanDisk stored_new → IfOk r (λ x. Shown sql [] stored_old stored_new (rows_in x))) → IfOk r (λ x. rows_in x ≡ told (typed garbage_form (stored_old.now.trees 44)))
          → IfOk r (λ x. rows_in x ≡ (number (garbage_in (tables (shown a stored_old))) ∷ []) ∷ [])
      go clean (Err e) ok is = tt
      go clean (Ok x) ok is =
          let host = ready (shown a stored_old) inside (doubtless stored_old.is_clean a.is_clean (clean_before stored_old stored_new _ survives clean.0) clean.1) (shown_open sql [] stored_old stored_new _ (ok clean.0)) in
          is ∙ ap (λ rows. told (typed garbage_form rows)) (sym (here 44 garbage_apart (named a stored_old.in_transaction) stored_old.now.trees)) ∙ ap told host.held.weighed

-- ---- it is set

-- to the number that it had, with more and with less
pub reweighed_to : (before more less m after : ℕ) (sums : Totals) (t : Tables) (x : Standing) → m + less ≡ before + more → sums.garbage ≡ weight before ∷ [] → after + less ≡ before + more → HoldsBy (weight_set m sums) t x
    → HoldsBy (record sums { garbage = weight after ∷ [] }) t x
reweighed_to before more less m after sums t x is was so h =
    let same : m ≡ after = omega (arith, is, so) in
    subst (λ gs. HoldsBy (record sums { garbage = gs }) t x) (ap (update_where (λ _. true) (λ _. weight m)) was ∙ ap (λ n. weight n ∷ []) same) h
