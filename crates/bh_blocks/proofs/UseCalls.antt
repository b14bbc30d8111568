-- Calls over counts of uses, and over references and blocks beside them, in the midst of a write.
use Rattle.bh_base.specs.Shown.{Backing, named, shown}
use Rattle.bh_base.proofs.Statements.{here, ready_here}
use Rattle.bh_base.proofs.Endings.{disk_clean, asks_shown}
use Rattle.bh_base.specs.Placed.{filled_trees}
use Rattle.bh_base.proofs.Blocks.{any_shown}
use Rattle.bh_base.proofs.Stored.{stored_host}
use Rattle.std.proofs.Common.{IsTrue}
use Rattle.bh_base.proofs.Beneath as beneath
use Rattle.bh_base.proofs.Beneath.{IsFree}
use Rattle.bh_tables.specs.Bodies.{first}
use Rattle.bh_tables.specs.Packs.{place_at, is_place, places_in}
use Rattle.bh_base.proofs.Apart.{refs_apart, uses_apart}
use Rattle.std.proofs.Common.{◌≡◌, inl, ℕ, pos, ◌-ℤ◌, codes, List, [], ◌∷◌, ◌++◌, map, filter, take, Bool, true, false, None, cond, ◌||◌, int_lt, Ok, Err, Result, OnOk, IfOk, IfErr, refl, sym, ap, ◌∙◌, subst}
use Rattle.std.proofs.lemmas.Result.{IfOk-weaker}
use Rattle.std.specs.List.{list_any, AllByRecursion}
use Rattle.sqlite.specs.declared.types.Value.TheVariants.{Blob}
use Rattle.sqlite.specs.Effect.{IsDatabase}
use Rattle.sqlite.specs.Order.{Row}
use Rattle.sqlite.specs.State.{State, HasCleanDisk, IsLive, Survives, Executes, CommitsBy, CommitsShowing, Shown, FailsToQuery}
use Rattle.sqlite.specs.declared.error.Error.{Error}
use Rattle.sqlite_keyed.specs.Lists.{update_where, delete_where, sort_by}
use Rattle.sqlite_rules.proofs.ListLemmas.{has_filtered}
use Rattle.bh_rows.specs.Texts.{IsReadyAt, InsertText, UpdateText, DeleteText, Leaves}
use Rattle.bh_rows.specs.Form.{Entry, entries, typed}
use Rattle.bh_rows.specs.Means.{is_trouble, Asks}
use Rattle.bh_rows.specs.Scan.{no_limit}
use Rattle.bh_rows.proofs.TextLemmas as text
use Rattle.bh_tables.specs.Schema.{host_schema, uses_table, refs_table, blocks_table, at}
use Rattle.bh_tables.specs.Typed.{Totals, counted, UseRow, use_form, is_named, number, RefRow, ref_form, BlockRow, block_form, IsHostBy, tables, tables_in, rebodied}
use Rattle.bh_tables.specs.Shown.{Name, block_name, ref_name, is_block, is_use, is_at_place}
use Rattle.bh_tables.proofs.BlockTexts.{block_free, unreferenced_goes}
use Rattle.bh_tables.proofs.OwnedLemmas.{block_unused}
use Rattle.bh_tables.proofs.Places.{uses_is, refs, refs_is, blocks, blocks_is, turned}
use Rattle.bh_tables.proofs.RefTexts.{new_ref, refs_unused}
use Rattle.bh_tables.proofs.StoredLemmas.{uses_turned}
use Rattle.bh_tables.proofs.UseTexts.{uses_unused, lowered_suits, lowered_unwatched}
use Rattle.bh_tables.specs.Garbage.{shown_uses}
use Rattle.bh_tables.specs.Shown.{is_unused, by_use_name, shown_use_name}
use Rattle.bh_tables.specs.Typed.{use_among}
use Rattle.bh_tables.proofs.UseTexts.{unused_listed}
use Rattle.sqlite.specs.Term.{col}
use Rattle.bh_tables.proofs.GarbageTexts.{uses_shown}
use Rattle.bh_base.specs.Layer.{standing, IsIntact, IsOpen, IsStateClean, IsStandingSettled, IsInside, IsInsideBy, IsReadableBy, IsMidst, StateWithin}
use Rattle.bh_base.proofs.Calls.{Turn}
use Rattle.bh_base.proofs.Calls as call
use Rattle.bh_blocks.specs.Uses.{IsNewName, IsUsed}
use Rattle.bh_blocks.specs.UseChanges.{uses_after, MayChange, IsTextOf}
use Rattle.bh_blocks.specs.declared.uses.UseChange.{UseChange}
use Rattle.bh_blocks.specs.declared.uses.UseChange.TheVariants as change

-- where none is found, none passes
none_any : {X : Type 0} (m : X → Bool) (xs : List X) → first (filter m xs) ≡ None → list_any m xs ≡ false
none_any m [] none = refl
none_any {X} m (x ∷ xs) none = go (m x) (none_any m xs) none
  where
    go : (t : Bool) → (first (filter m xs) ≡ None → list_any m xs ≡ false) → first (cond t (x ∷ filter m xs) (filter m xs)) ≡ None → (t || list_any m xs) ≡ false
    go true rest h = absurd (cc)
    go false rest h = rest h

-- the counts that are kept become these of those that were
use_turned : (old new : State) (change : List UseRow → List UseRow) (sums : Totals) → IsHostBy sums old.now → Leaves use_form host_schema 23 old new (change (typed use_form (old.now.trees 23))) → IsHostBy (counted change sums) new.now × (tables new ≡ tables old)
use_turned old new change sums host l = uses_turned sums (change sums.uses) old new host (subst (λ us. Leaves use_form host_schema 23 old new (change us)) host.held.counts l)

-- a name under which a block comes is new
pub block_fresh : (a : Backing) (stored_old stored_new : State) (midst : IsStateClean (shown a stored_old) → IsMidst (standing (shown a stored_old))) → IsLive stored_old → (b : BlockRow) → IsStateClean (shown a stored_old)
    → IsFree block_form 5 (at 10 blocks_table) blocks_is (λ sums db h. h.held.blocks) a stored_old stored_new midst b → IsNewName (block_name b) (tables_in (standing (shown a stored_old)).now)
unfolding standing IsOpen filled_trees
block_fresh a stored_old stored_new midst live b c free =
    let m = midst c in
    let packs = named a stored_old.in_transaction in
    let bare = stored_host packs stored_old.now m.by.host in
    let sound = subst (λ s. IsDatabase (record { schema = s; trees = stored_old.now.trees })) m.by.host.schema (live c.is_open).0 in
    let none = block_free stored_old.now bare b free in
    record { free = any_shown packs stored_old.now (block_name b) m.by.host ∙ none; unused = block_unused m.sums stored_old.now sound bare (block_name b) none }

module _ (a : Backing) (stored_old stored_new : State) (midst : IsStateClean (shown a stored_old) → IsMidst (standing (shown a stored_old))) (result : Result ℕ Error) (live : IsLive stored_old) {sql : List ℕ} {params : Row} where
  pub adds : {x : UseRow} → InsertText use_form host_schema 9 (at 23 uses_table) sql params x → (HasCleanDisk stored_new → Executes sql params stored_old stored_new result) → Survives stored_old stored_new (CommitsBy sql params stored_old)
      → Turn (shown a stored_old) (shown a stored_new) (counted (λ us. us ++ x ∷ [])) (λ t. t) result
  adds {x} it = call.adds use_form 9 (at 23 uses_table) uses_is (λ sums db h. h.held.uses) uses_apart a stored_old stored_new midst result live (counted (λ us. us ++ x ∷ [])) (λ t. t) it (use_turned (shown a stored_old) (shown a stored_new) (λ us. us ++ x ∷ []))

  pub sets : {m : UseRow → Bool} {f : UseRow → UseRow} → UpdateText use_form host_schema 9 (at 23 uses_table) sql params m f → (HasCleanDisk stored_new → Executes sql params stored_old stored_new result) → Survives stored_old stored_new (CommitsBy sql params stored_old)
      → Turn (shown a stored_old) (shown a stored_new) (counted (update_where m f)) (λ t. t) result
  sets {m} {f} it = call.sets use_form 9 (at 23 uses_table) uses_is (λ sums db h. h.held.uses) uses_apart a stored_old stored_new midst result live (counted (update_where m f)) (λ t. t) it (use_turned (shown a stored_old) (shown a stored_new) (update_where m f))

  pub drops : {m : UseRow → Bool} → DeleteText use_form host_schema 9 (at 23 uses_table) sql params m → (HasCleanDisk stored_new → Executes sql params stored_old stored_new result) → Survives stored_old stored_new (CommitsBy sql params stored_old)
      → Turn (shown a stored_old) (shown a stored_new) (counted (delete_where m)) (λ t. t) result
  drops {m} it = call.drops use_form 9 (at 23 uses_table) uses_is (λ sums db h. h.held.uses) uses_apart a stored_old stored_new midst result live (counted (delete_where m)) (λ t. t) it (use_turned (shown a stored_old) (shown a stored_new) (delete_where m))

  -- references come and go, and counts stay
  pub ref_comes : {r : RefRow} → InsertText ref_form host_schema 6 (at 12 refs_table) sql params r → (HasCleanDisk stored_new → Executes sql params stored_old stored_new result) → Survives stored_old stored_new (CommitsBy sql params stored_old)
      → Turn (shown a stored_old) (shown a stored_new) (λ s. s) (λ t. rebodied t (t.refs ++ r ∷ []) t.blocks) result
  ref_comes {r} it = call.adds ref_form 6 (at 12 refs_table) refs_is (λ sums db h. h.held.refs) refs_apart a stored_old stored_new midst result live (λ s. s) (λ t. rebodied t (t.refs ++ r ∷ []) t.blocks) it (λ sums host l. turned (refs sums) (shown a stored_old) (shown a stored_new) _ host l)

  pub refs_go : {m : RefRow → Bool} → DeleteText ref_form host_schema 6 (at 12 refs_table) sql params m → (HasCleanDisk stored_new → Executes sql params stored_old stored_new result) → Survives stored_old stored_new (CommitsBy sql params stored_old)
      → Turn (shown a stored_old) (shown a stored_new) (λ s. s) (λ t. rebodied t (delete_where m t.refs) t.blocks) result
  refs_go {m} it = call.drops ref_form 6 (at 12 refs_table) refs_is (λ sums db h. h.held.refs) refs_apart a stored_old stored_new midst result live (λ s. s) (λ t. rebodied t (delete_where m t.refs) t.blocks) it (λ sums host l. turned (refs sums) (shown a stored_old) (shown a stored_new) _ host l)

  -- ---- which errors are trouble alone

  pub use_drops_trouble : {m : UseRow → Bool} → DeleteText use_form host_schema 9 (at 23 uses_table) sql params m → (HasCleanDisk stored_new → Executes sql params stored_old stored_new result) → Survives stored_old stored_new (CommitsBy sql params stored_old)
      → IfErr result (λ e. IsIntact (shown a stored_new) → (standing (shown a stored_old)).limit ≡ None → Unit {0} → is_trouble e ≡ true)
  use_drops_trouble it runs survives = beneath.drops_trouble use_form 9 (at 23 uses_table) uses_is (λ sums db h. h.held.uses) a stored_old stored_new midst result live runs survives it (λ clean _. uses_unused stored_old.now.trees _)

  pub refs_go_trouble : {m : RefRow → Bool} → DeleteText ref_form host_schema 6 (at 12 refs_table) sql params m → (HasCleanDisk stored_new → Executes sql params stored_old stored_new result) → Survives stored_old stored_new (CommitsBy sql params stored_old)
      → IfErr result (λ e. IsIntact (shown a stored_new) → (standing (shown a stored_old)).limit ≡ None → Unit {0} → is_trouble e ≡ true)
  refs_go_trouble it runs survives = beneath.drops_trouble ref_form 6 (at 12 refs_table) refs_is (λ sums db h. h.held.refs) a stored_old stored_new midst result live runs survives it (λ clean _. refs_unused stored_old.now.trees _)

  pub ref_comes_trouble : (r : RefRow) → InsertText ref_form host_schema 6 (at 12 refs_table) sql params r → (HasCleanDisk stored_new → Executes sql params stored_old stored_new result) → Survives stored_old stored_new (CommitsBy sql params stored_old)
      → IfErr result (λ e. IsIntact (shown a stored_new) → (standing (shown a stored_old)).limit ≡ None → (list_any (is_at_place (r.tenant, r.body) r.place) (tables_in (standing (shown a stored_old)).now).refs ≡ false) × (list_any (is_block (ref_name r)) (tables_in (standing (shown a stored_old)).now).blocks ≡ true) → is_trouble e ≡ true)
  unfolding standing filled_trees
  ref_comes_trouble r it runs survives = beneath.adds_trouble ref_form 6 (at 12 refs_table) refs_is (λ sums db h. h.held.refs) a stored_old stored_new midst result live runs survives it (λ clean may.
      let host = (midst clean).by.host in
      let packs = named a stored_old.in_transaction in
      new_ref stored_old.now (stored_host packs stored_old.now host) r may.0 (sym (any_shown packs stored_old.now (ref_name r) host) ∙ may.1))

  pub block_goes_trouble : (q : Name) → DeleteText block_form host_schema 5 (at 10 blocks_table) sql params (is_block q) → (HasCleanDisk stored_new → Executes sql params stored_old stored_new result) → Survives stored_old stored_new (CommitsBy sql params stored_old)
      → IfErr result (λ e. IsIntact (shown a stored_new) → (standing (shown a stored_old)).limit ≡ None → (list_any (is_use q) (tables_in (standing (shown a stored_old)).now).refs ≡ false) × (place_at (places_in stored_old.now.trees) q ≡ None) → is_trouble e ≡ true)
  unfolding standing filled_trees
  block_goes_trouble q it runs survives = beneath.drops_trouble block_form 5 (at 10 blocks_table) blocks_is (λ sums db h. h.held.blocks) a stored_old stored_new midst result live runs survives it (λ clean unused.
      unreferenced_goes stored_old.now (stored_host (named a stored_old.in_transaction) stored_old.now (midst clean).by.host) q unused.0 (none_any (is_place q) (places_in stored_old.now.trees) unused.1))

  -- a count that is above 0 may be lowered
  pub lowers_trouble : (q : Name) → UpdateText use_form host_schema 9 (at 23 uses_table) sql params (is_named q) (λ u. record u { uses = u.uses -ℤ pos 1 }) → (HasCleanDisk stored_new → Executes sql params stored_old stored_new result) → Survives stored_old stored_new (CommitsBy sql params stored_old)
      → IfErr result (λ e. IsIntact (shown a stored_new) → (standing (shown a stored_old)).limit ≡ None → IsUsed q (standing (shown a stored_old)) → is_trouble e ≡ true)
  lowers_trouble q it runs survives = call.sets_trouble use_form 9 (at 23 uses_table) uses_is (λ sums db h. h.held.uses) uses_apart a stored_old stored_new midst result live (λ s. s) (λ t. t) it (lowered_unwatched q) (λ clean used e there suits.
      let m = midst clean in
      let found = has_filtered (λ (d : Entry UseRow). is_named q d.1) (entries use_form ((standing (shown a stored_old)).now.trees 23)) e there in
      let counts = call.at_entry use_form (λ u. is_named q u ≡ true → int_lt (pos 0) u.uses ≡ true) ((standing (shown a stored_old)).now.trees 23) (subst (AllByRecursion (λ u. is_named q u ≡ true → int_lt (pos 0) u.uses ≡ true)) (sym m.by.host.held.counts) (used m.sums m.by)) e found.0 in
      lowered_suits e.0 e.1 (counts found.1) suits) runs survives

-- ---- each change of a count

module _ (a : Backing) (stored_old stored_new : State) (midst : IsStateClean (shown a stored_old) → IsMidst (standing (shown a stored_old))) (result : Result ℕ Error) (live : IsLive stored_old) (sql : List ℕ) (q : Name) where
  abbrev params : Row
  params = Blob q.0 ∷ number q.1 ∷ []

  pub turns : (change : UseChange) → IsTextOf change sql → (HasCleanDisk stored_new → Executes sql params stored_old stored_new result) → Survives stored_old stored_new (CommitsBy sql params stored_old) → Turn (shown a stored_old) (shown a stored_new) (counted (uses_after change q)) (λ t. t) result
  turns change.Added it = adds a stored_old stored_new midst result live (it q)
  turns change.Raised it = sets a stored_old stored_new midst result live (it q)
  turns change.Lowered it = sets a stored_old stored_new midst result live (it q)
  turns change.Removed it = drops a stored_old stored_new midst result live (it q)

  -- nothing is said under a premise that doesn't hold
  unsaid : (r : Result ℕ Error) → IfErr r (λ e. IsIntact (shown a stored_new) → (standing (shown a stored_old)).limit ≡ None → ⊥ → is_trouble e ≡ true)
  unsaid (Ok n) = tt
  unsaid (Err e) = λ intact unlimited no. absurd no

  pub turns_trouble : (change : UseChange) → IsTextOf change sql → (HasCleanDisk stored_new → Executes sql params stored_old stored_new result) → Survives stored_old stored_new (CommitsBy sql params stored_old)
      → IfErr result (λ e. IsIntact (shown a stored_new) → (standing (shown a stored_old)).limit ≡ None → MayChange change q (standing (shown a stored_old)) → is_trouble e ≡ true)
  turns_trouble change.Added it runs survives = unsaid result
  turns_trouble change.Raised it runs survives = unsaid result
  turns_trouble change.Lowered it runs survives = lowers_trouble a stored_old stored_new midst result live q (it q) runs survives
  turns_trouble change.Removed it runs survives = use_drops_trouble a stored_old stored_new midst result live (it q) runs survives

-- ---- the count of a block is told

module _ (a : Backing) (stored_old stored_new : State) (midst : IsStateClean (shown a stored_old) → IsMidst (standing (shown a stored_old))) (q : Name) where
  abbrev count_text : List ℕ
  count_text = codes "SELECT uses FROM uses WHERE digest = ?1 AND ord = ?2 ORDER BY rowid"

  abbrev its_name : Row
  its_name = Blob q.0 ∷ number q.1 ∷ []

  count_shown : IsReadyAt use_form host_schema 23 (shown a stored_old)
  unfolding standing IsIntact IsOpen
  count_shown clean up = let m = midst (record { intact = clean; is_open = up }) in (m.by.host.schema, m.by.host.held.uses)

  count_ready : IsTrue a.is_clean → IsReadyAt use_form host_schema 23 stored_old
  count_ready clean = ready_here 23 uses_apart use_form a stored_old clean count_shown

  pub record IsTold {X : Type 0} (rows_in : X → List Row) (result : Result X Error) : Type 0 where
    pub within : StateWithin (shown a stored_old) (shown a stored_new)
    pub opens : OnOk result (IsIntact (shown a stored_new) → IsOpen (shown a stored_old) × IsOpen (shown a stored_new))
    pub same : OnOk result (IsIntact (shown a stored_new) → standing (shown a stored_new) ≡ standing (shown a stored_old))
    pub rows : IfOk result (λ x. IsStateClean (shown a stored_new) → (sums : Totals) → IsInsideBy sums (standing (shown a stored_old)) → rows_in x ≡ map shown_uses (filter (is_named q) sums.uses))
    pub trouble : IfErr result (λ e. IsIntact (shown a stored_new) → (standing (shown a stored_old)).limit ≡ None → is_trouble e ≡ true)

  pub count_told : {X : Type 0} (rows_in : X → List Row) (result : Result X Error) → (HasCleanDisk stored_new → IfOk result (λ x. Shown count_text its_name stored_old stored_new (rows_in x)))
      → (HasCleanDisk stored_new → IfErr result (FailsToQuery count_text its_name stored_old stored_new)) → Survives stored_old stored_new (CommitsShowing count_text its_name stored_old) → IsTold rows_in result
  unfolding standing
  count_told {X} rows_in result ok err survives = record {
    within = call.asks_within (shown a stored_old) (shown a stored_new) settled result asks;
    opens = call.asks_opens (shown a stored_old) (shown a stored_new) settled result asks;
    same = call.asks_same (shown a stored_old) (shown a stored_new) settled result asks;
    rows = call.if_clean (shown a stored_new) result (λ x. (sums : Totals) → IsInsideBy sums (standing (shown a stored_old)) → rows_in x ≡ map shown_uses (filter (is_named q) sums.uses)) (λ h. let clean = disk_clean a stored_old stored_new stored_new h in IfOk-weaker result _ _ (λ x is sums by.
        is ∙ ap (λ rows. map shown_uses (filter (is_named q) (typed use_form rows))) (sym (here 23 uses_apart (named a stored_old.in_transaction) stored_old.now.trees)) ∙ ap (λ us. map shown_uses (filter (is_named q) us)) by.host.held.counts)
        (text.select_rows use_form host_schema 23 stored_old stored_new (count_ready clean.1) count_text its_name (is_named q) shown_uses no_limit (uses_shown q) rows_in result ok survives clean.0));
    trouble = call.asks_trouble (shown a stored_old) (shown a stored_new) settled result asks;
  }
    where
      settled : IsStateClean (shown a stored_old) → IsStandingSettled (standing (shown a stored_old))
      settled c = inl (midst c).by.inside

      asks : Asks (shown a stored_old) (shown a stored_new) result
      asks = asks_shown a stored_old stored_new result survives (λ clean. text.select_asks use_form host_schema 23 stored_old stored_new (count_ready clean) count_text its_name (is_named q) shown_uses no_limit (uses_shown q) rows_in result ok err survives)

-- ---- the blocks without a use are told

-- the counts are those of the blocks that are shown
pub counts_at : (a : Backing) (s : State) → IsInside (standing (shown a s)) → typed use_form (s.now.trees 23) ≡ map (use_among (tables_in (standing (shown a s)).now).refs) (tables_in (standing (shown a s)).now).blocks
unfolding standing filled_trees
counts_at a s inside = inside.host.held.counts

module _ (a : Backing) (stored_old stored_new : State) (reads : IsStateClean (shown a stored_old) → IsReadableBy (standing (shown a stored_old))) (limit : ℕ) where
  abbrev unused_text : List ℕ
  unused_text = codes "SELECT digest, ord FROM uses WHERE uses = 0 ORDER BY digest, ord, rowid LIMIT ?1"

  abbrev unused_listed_of : List UseRow → List Row
  unused_listed_of us = take limit (map shown_use_name (sort_by by_use_name (filter is_unused us)))

  pub unused_told : {X : Type 0} (rows_in : X → List Row) (result : Result X Error) → (HasCleanDisk stored_new → IfOk result (λ x. Shown unused_text (number limit ∷ []) stored_old stored_new (rows_in x)))
      → (HasCleanDisk stored_new → IfErr result (FailsToQuery unused_text (number limit ∷ []) stored_old stored_new)) → Survives stored_old stored_new (CommitsShowing unused_text (number limit ∷ []) stored_old)
      → beneath.IsTold use_form (at 23 uses_table) (λ sums db h. h.held.uses) a stored_old stored_new reads rows_in (unused_listed_of (typed use_form (stored_old.now.trees 23))) result
  unused_told rows_in result ok err survives =
      let ready = beneath.read_ready use_form (at 23 uses_table) (λ sums db h. h.held.uses) a stored_old stored_new reads in
      beneath.ends_told use_form (at 23 uses_table) (λ sums db h. h.held.uses) a stored_old stored_new reads rows_in _ result survives
      (λ clean. text.sorted_asks use_form host_schema 23 stored_old stored_new (ready clean) unused_text (number limit ∷ []) is_unused shown_use_name by_use_name (col 0 0) (unused_listed limit) rows_in result ok err survives)
      (λ clean h. text.select_sorted use_form host_schema 23 stored_old stored_new (ready clean) unused_text (number limit ∷ []) is_unused shown_use_name by_use_name (col 0 0) (unused_listed limit) rows_in result ok survives h)
