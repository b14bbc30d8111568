-- Calls over tallies, in the midst of a write of versions, and from a transaction into such a write.
use Rattle.std.proofs.Common.{IsTrue, sym}
use Rattle.bh_base.specs.Shown.{Backing, named, shown}
use Rattle.bh_base.proofs.Statements.{here, ready_here}
use Rattle.bh_base.proofs.Endings.{disk_clean, asks_shown}
use Rattle.bh_base.proofs.Lifting.{doubtless}
use Rattle.bh_base.proofs.Apart.{tallies_apart, tally_may}
use Rattle.std.proofs.Common.{◌≡◌, ℕ, List, [], ◌∷◌, ◌++◌, Bool, true, map, filter, codes, None, Ok, Err, Result, IfOk, IfErr, ap, ◌∙◌, subst}
use Rattle.sqlite.specs.Order.{Row}
use Rattle.sqlite.specs.State.{State, HasCleanDisk, IsLive, Survives, Executes, CommitsBy, CommitsShowing, Shown, FailsToQuery}
use Rattle.sqlite.specs.declared.error.Error.{Error}
use Rattle.sqlite.specs.declared.types.Value.TheVariants.{Text}
use Rattle.sqlite_keyed.specs.Lists.{update_where, delete_where}
use Rattle.sqlite_keyed.proofs.ListLemmas.{filter-map, map-map}
use Rattle.sqlite_rules.proofs.ListLemmas.{has_filtered}
use Rattle.bh_rows.specs.Form.{Entry, entries, typed}
use Rattle.bh_rows.specs.Means.{is_trouble}
use Rattle.bh_rows.specs.Texts.{IsReadyAt, InsertText, UpdateText, DeleteText, Leaves, MayAdd, MayChange}
use Rattle.bh_rows.specs.Scan.{no_limit}
use Rattle.bh_rows.proofs.CallLemmas.{clean_before, shown_open}
use Rattle.bh_rows.proofs.TextLemmas as text
use Rattle.bh_tables.specs.Schema.{Octets, host_schema, tallies_table, at}
use Rattle.bh_tables.specs.Typed.{Totals, TallyRow, tally_form, tally_of, is_tally, tallied, IsHostBy, Tables, tables}
use Rattle.bh_tables.specs.Shown.{is_tenant, shown_tally}
use Rattle.bh_tables.proofs.TallyTexts.{tally_shown}
use Rattle.bh_tables.proofs.Places.{tallies_is}
use Rattle.bh_tables.proofs.StoredLemmas.{tallies_turned}
use Rattle.bh_base.specs.Layer.{standing, IsIntact, IsInside, IsStateClean, IsMidst}
use Rattle.bh_base.proofs.Calls.{Turn, Question, question, ready}
use Rattle.bh_base.proofs.Calls as call

-- the tallies that are kept become these of those that were
tally_turn : (old new : State) (change : List TallyRow → List TallyRow) (sums : Totals) → IsHostBy sums old.now → Leaves tally_form host_schema 30 old new (change (typed tally_form (old.now.trees 30))) → IsHostBy (tallied change sums) new.now × (tables new ≡ tables old)
tally_turn old new change sums host l = tallies_turned sums (change sums.tallies) old new host (subst (λ ts. Leaves tally_form host_schema 30 old new (change ts)) host.held.tallied l)

module _ (a : Backing) (stored_old stored_new : State) (midst : IsStateClean (shown a stored_old) → IsMidst (standing (shown a stored_old))) (result : Result ℕ Error) (live : IsLive stored_old) {sql : List ℕ} {params : Row} where
  pub adds : {x : TallyRow} → InsertText tally_form host_schema 12 (at 30 tallies_table) sql params x → (HasCleanDisk stored_new → Executes sql params stored_old stored_new result) → Survives stored_old stored_new (CommitsBy sql params stored_old)
      → Turn (shown a stored_old) (shown a stored_new) (tallied (λ ts. ts ++ x ∷ [])) (λ t. t) result
  adds {x} it = call.adds tally_form 12 (at 30 tallies_table) tallies_is (λ sums db h. h.held.tallies) tallies_apart a stored_old stored_new midst result live (tallied (λ ts. ts ++ x ∷ [])) (λ t. t) it (tally_turn (shown a stored_old) (shown a stored_new) (λ ts. ts ++ x ∷ []))

  pub sets : {m : TallyRow → Bool} {f : TallyRow → TallyRow} → UpdateText tally_form host_schema 12 (at 30 tallies_table) sql params m f → (HasCleanDisk stored_new → Executes sql params stored_old stored_new result) → Survives stored_old stored_new (CommitsBy sql params stored_old)
      → Turn (shown a stored_old) (shown a stored_new) (tallied (update_where m f)) (λ t. t) result
  sets {m} {f} it = call.sets tally_form 12 (at 30 tallies_table) tallies_is (λ sums db h. h.held.tallies) tallies_apart a stored_old stored_new midst result live (tallied (update_where m f)) (λ t. t) it (tally_turn (shown a stored_old) (shown a stored_new) (update_where m f))

  pub drops : {m : TallyRow → Bool} → DeleteText tally_form host_schema 12 (at 30 tallies_table) sql params m → (HasCleanDisk stored_new → Executes sql params stored_old stored_new result) → Survives stored_old stored_new (CommitsBy sql params stored_old)
      → Turn (shown a stored_old) (shown a stored_new) (tallied (delete_where m)) (λ t. t) result
  drops {m} it = call.drops tally_form 12 (at 30 tallies_table) tallies_is (λ sums db h. h.held.tallies) tallies_apart a stored_old stored_new midst result live (tallied (delete_where m)) (λ t. t) it (tally_turn (shown a stored_old) (shown a stored_new) (delete_where m))

  pub adds_trouble : {x : TallyRow} {A : Type 0} → InsertText tally_form host_schema 12 (at 30 tallies_table) sql params x → (IsStateClean (shown a stored_old) → A → MayAdd tally_form host_schema (at 30 tallies_table) (standing (shown a stored_old)).now.trees x)
      → (HasCleanDisk stored_new → Executes sql params stored_old stored_new result) → Survives stored_old stored_new (CommitsBy sql params stored_old) → IfErr result (λ e. IsIntact (shown a stored_new) → (standing (shown a stored_old)).limit ≡ None → A → is_trouble e ≡ true)
  adds_trouble it may runs survives = call.adds_trouble tally_form 12 (at 30 tallies_table) tallies_is (λ sums db h. h.held.tallies) tallies_apart a stored_old stored_new midst result live (λ s. s) (λ t. t) it (λ packs db. tally_may packs db _) may runs survives

  pub sets_trouble : {m : TallyRow → Bool} {f : TallyRow → TallyRow} → UpdateText tally_form host_schema 12 (at 30 tallies_table) sql params m f → MayChange tally_form host_schema (at 30 tallies_table) m f
      → (HasCleanDisk stored_new → Executes sql params stored_old stored_new result) → Survives stored_old stored_new (CommitsBy sql params stored_old) → IfErr result (λ e. IsIntact (shown a stored_new) → (standing (shown a stored_old)).limit ≡ None → Unit {0} → is_trouble e ≡ true)
  sets_trouble {m} {f} it may runs survives = call.sets_trouble tally_form 12 (at 30 tallies_table) tallies_is (λ sums db h. h.held.tallies) tallies_apart a stored_old stored_new midst result live (λ s. s) (λ t. t) it may.unwatched
      (λ clean _ e there was. may.suits e.0 e.1 (has_filtered (λ (d : Entry TallyRow). m d.1) (entries tally_form ((standing (shown a stored_old)).now.trees 30)) e there).1 was) runs survives

-- ---- a tally is told

module _ (a : Backing) (stored_old stored_new : State) (inside : IsStateClean (shown a stored_old) → IsInside (standing (shown a stored_old))) (tenant : Octets) where
  abbrev sql : List ℕ
  sql = codes "SELECT versions, markers, objects FROM tallies WHERE tenant = ?1 ORDER BY rowid"

  ready_shown : IsReadyAt tally_form host_schema 30 (shown a stored_old)
  ready_shown clean up = let h = ready (shown a stored_old) inside clean up in (h.schema, h.held.tallies)

  ready_at : IsTrue a.is_clean → IsReadyAt tally_form host_schema 30 stored_old
  ready_at clean = ready_here 30 tallies_apart tally_form a stored_old clean ready_shown

  abbrev told : List TallyRow → List Row
  told ts = map shown_tally (filter (is_tally tenant) ts)

  told_of : (t : Tables) → told (map (tally_of t.versions) t.tenants) ≡ map (λ x. shown_tally (tally_of t.versions x)) (filter (is_tenant tenant) t.tenants)
  told_of t = ap (map shown_tally) (filter-map (is_tally tenant) (tally_of t.versions) t.tenants) ∙ map-map shown_tally (tally_of t.versions) (filter (is_tenant tenant) t.tenants)

  pub tally_told : {X : Type 0} (rows_in : X → List Row) (result : Result X Error) → (HasCleanDisk stored_new → IfOk result (λ x. Shown sql (Text tenant ∷ []) stored_old stored_new (rows_in x)))
      → (HasCleanDisk stored_new → IfErr result (FailsToQuery sql (Text tenant ∷ []) stored_old stored_new)) → Survives stored_old stored_new (CommitsShowing sql (Text tenant ∷ []) stored_old)
      → Question (shown a stored_old) (shown a stored_new) rows_in (λ t. map (λ x. shown_tally (tally_of t.versions x)) (filter (is_tenant tenant) t.tenants)) result
  tally_told {X} rows_in result ok err survives = question (shown a stored_old) (shown a stored_new) rows_in _ result inside (record {
    asks = asks_shown a stored_old stored_new result survives (λ clean. text.select_asks tally_form host_schema 30 stored_old stored_new (ready_at clean) sql (Text tenant ∷ []) (is_tally tenant) shown_tally no_limit (tally_shown tenant) rows_in result ok err survives);
    rows = λ h. let clean = disk_clean a stored_old stored_new stored_new h in go clean result ok (text.select_rows tally_form host_schema 30 stored_old stored_new (ready_at clean.1) sql (Text tenant ∷ []) (is_tally tenant) shown_tally no_limit (tally_shown tenant) rows_in result ok survives clean.0);
  })
    where
      go : HasCleanDisk stored_new × IsTrue a.is_clean → (r : Result X Error) → (HasCleanDisk stored_new → IfOk r (λ x. Shown sql (Text tenant ∷ []) stored_old stored_new (rows_in x))) → IfOk r (λ x. rows_in x ≡ told (typed tally_form (stored_old.now.trees 30)))
          → IfOk r (λ x. rows_in x ≡ map (λ x. shown_tally (tally_of (tables (shown a stored_old)).versions x)) (filter (is_tenant tenant) (tables (shown a stored_old)).tenants))
      go clean (Err e) ok is = tt
      go clean (Ok x) ok is =
          let host = ready (shown a stored_old) inside (doubtless stored_old.is_clean a.is_clean (clean_before stored_old stored_new _ survives clean.0) clean.1) (shown_open sql (Text tenant ∷ []) stored_old stored_new _ (ok clean.0)) in
          is ∙ ap (λ rows. told (typed tally_form rows)) (sym (here 30 tallies_apart (named a stored_old.in_transaction) stored_old.now.trees)) ∙ ap told host.held.tallied ∙ told_of (tables (shown a stored_old))
