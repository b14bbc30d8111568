-- Calls that set what is kept of a tenant, in the midst of a write, and the one that adds a tenant.
use Rattle.std.proofs.Common.{IsTrue, sym}
use Rattle.sqlite.specs.Tree.{Trees}
use Rattle.bh_shelf.specs.Contents.{Contents}
use Rattle.bh_base.specs.Placed.{filled_trees}
use Rattle.bh_base.specs.Shown.{Backing, named, shown}
use Rattle.bh_base.proofs.Obeying.{filled_obeys}
use Rattle.bh_base.proofs.Lifting.{doubtless}
use Rattle.bh_base.proofs.Endings.{disk_clean, changes_shown}
use Rattle.bh_base.proofs.Statements.{here, ready_here}
use Rattle.bh_base.proofs.Apart.{tenants_apart}
use Rattle.std.proofs.Common.{◌≡◌, ℕ, ℤ, pos, ◌+ℤ◌, ◌-ℤ◌, List, [], ◌∷◌, ◌++◌, Ok, Err, Result, OnOk, IfErr, IsTrue, Bool, true, false, cond, arith, refl, sym, ap, ap₂, ◌∙◌, subst}
use Rattle.std.proofs.lemmas.Int.{ints}
use Rattle.std.proofs.lemmas.List.{map-append}
use Rattle.sqlite.specs.Edit.{next_rowid}
use Rattle.sqlite.specs.Effect.{IsDatabase}
use Rattle.sqlite.specs.Order.{Row}
use Rattle.sqlite.specs.State.{State, HasCleanDisk, IsLive, Survives, Executes, CommitsBy}
use Rattle.sqlite.specs.declared.error.Error.{Error}
use Rattle.sqlite_keyed.specs.Lists.{update_where}
use Rattle.sqlite_keyed.proofs.ListLemmas.{map-map}
use Rattle.bh_rows.specs.Form.{typed, put}
use Rattle.bh_rows.specs.Means.{is_trouble}
use Rattle.bh_rows.specs.Texts.{IsReadyAt, Leaves, AreFree, MayAdd, InsertText, UpdateText}
use Rattle.bh_rows.proofs.CallLemmas.{clean_before}
use Rattle.bh_rows.proofs.InsertLemmas.{each_push}
use Rattle.bh_rows.proofs.TextLemmas as text
use Rattle.bh_tables.specs.Schema.{Octets, host_schema, tenants_table, at}
use Rattle.bh_tables.specs.Typed.{totals_of, TenantRow, TenantColumns, stored_tenant_form, used_changed, IsHost, IsHostBy, tables, tables_in}
use Rattle.bh_tables.specs.Shown.{is_tenant}
use Rattle.bh_tables.proofs.OwnedLemmas.{tenant_unused}
use Rattle.bh_tables.proofs.Places.{orderly, stored_tenants_is}
use Rattle.bh_tables.proofs.StoredLemmas.{Uses, tenants_stored, tenants_count, tenants_turned}
use Rattle.bh_tables.proofs.TenantTexts.{tenant_free}
use Rattle.bh_tables.proofs.UsedLemmas.{used_turned}
use Rattle.bh_schema.specs.Rows.{IsNewTenant}
use Rattle.bh_base.specs.Layer.{standing, IsIntact, IsOpen, IsStateClean, IsInside, IsMidst}
use Rattle.bh_base.proofs.Calls.{leaves, in_midst, Turn, Entering, sets, ready, entering}

module _ (a : Backing) (stored_old stored_new : State) (midst : IsStateClean (shown a stored_old) → IsMidst (standing (shown a stored_old))) (result : Result ℕ Error) (live : IsLive stored_old) (tenant : Octets) where
  -- so many bytes more and fewer, with other numbers
  pub changed_tenants : (more less : ℕ) (f : TenantColumns → TenantColumns) (g : TenantRow → TenantRow) → ((c : TenantColumns) → (f c).row ≡ g c.row) → ((t : TenantRow) → (g t).tenant ≡ t.tenant) → ((c : TenantColumns) → (f c).used ≡ c.used +ℤ pos more -ℤ pos less)
      → {sql : List ℕ} {params : Row} → UpdateText stored_tenant_form host_schema 1 (at 1 tenants_table) sql params (λ c. is_tenant tenant c.row) f
      → (HasCleanDisk stored_new → Executes sql params stored_old stored_new result) → Survives stored_old stored_new (CommitsBy sql params stored_old)
      → Turn (shown a stored_old) (shown a stored_new) (used_changed tenant more less) (λ t. record t { tenants = update_where (is_tenant tenant) g t.tenants }) result
  changed_tenants more less f g shows named uses it runs survives =
      sets stored_tenant_form 1 (at 1 tenants_table) stored_tenants_is (λ sums db h. tenants_stored sums (db.trees 1) h.held.tenants) tenants_apart a stored_old stored_new midst result live
      (used_changed tenant more less) (λ t. record t { tenants = update_where (is_tenant tenant) g t.tenants }) it (λ sums host l. used_turned tenant more less f g shows named uses sums (shown a stored_old) (shown a stored_new) host l) runs survives

  none_more : (z : ℤ) (less : ℕ) → z -ℤ pos less ≡ z +ℤ pos 0 -ℤ pos less
  none_more z less = grind (arith, ints)

  either : (b : Bool) (t : TenantRow) → cond b t t ≡ t
  either true t = refl
  either false t = refl

  unmoved : (ts : List TenantRow) → update_where (is_tenant tenant) (λ t. t) ts ≡ ts
  unmoved [] = refl
  unmoved (t ∷ ts) = ap₂ ◌∷◌ (either (is_tenant tenant t) t) (unmoved ts)

  -- fewer, and the same numbers
  pub fewer_used : (less : ℕ) {sql : List ℕ} {params : Row} → UpdateText stored_tenant_form host_schema 1 (at 1 tenants_table) sql params (λ c. is_tenant tenant c.row) (λ c. record c { used = c.used -ℤ pos less })
      → (HasCleanDisk stored_new → Executes sql params stored_old stored_new result) → Survives stored_old stored_new (CommitsBy sql params stored_old) → Turn (shown a stored_old) (shown a stored_new) (used_changed tenant 0 less) (λ t. t) result
  fewer_used less it runs survives =
      sets stored_tenant_form 1 (at 1 tenants_table) stored_tenants_is (λ sums db h. tenants_stored sums (db.trees 1) h.held.tenants) tenants_apart a stored_old stored_new midst result live
      (used_changed tenant 0 less) (λ t. t) it
      (λ sums host l. let w = used_turned tenant 0 less (λ c. record c { used = c.used -ℤ pos less }) (λ t. t) (λ c. refl) (λ t. refl) (λ c. none_more c.used less) sums (shown a stored_old) (shown a stored_new) host l in (w.0, w.1 ∙ ap (λ ts. record (tables (shown a stored_old)) { tenants = ts }) (unmoved (tables (shown a stored_old)).tenants))) runs survives

-- ---- a tenant comes, of whom nothing is kept

module _ (a : Backing) (stored_old stored_new : State) (inside : IsStateClean (shown a stored_old) → IsInside (standing (shown a stored_old))) (result : Result ℕ Error) (live : IsLive stored_old) (tenant : Octets) (quota : ℕ) where
  abbrev new_row : TenantRow
  new_row = record { tenant = tenant; quota = quota; next_version = 1; next_upload = 1; next_entry = 1 }

  abbrev new_columns : TenantColumns
  new_columns = record { row = new_row; used = pos 0 }

  stored_ready : IsReadyAt stored_tenant_form host_schema 1 (shown a stored_old)
  stored_ready clean up = let h = ready (shown a stored_old) inside clean up in (h.schema, tenants_stored (totals_of (tables (shown a stored_old))) ((shown a stored_old).now.trees 1) h.held.tenants)

  bare_ready : IsTrue a.is_clean → IsReadyAt stored_tenant_form host_schema 1 stored_old
  bare_ready clean = ready_here 1 tenants_apart stored_tenant_form a stored_old clean stored_ready

  was_inside : HasCleanDisk (shown a stored_old) → IsTrue (shown a stored_old).is_open → stored_old.in_transaction ≡ true
  unfolding standing IsIntact IsOpen
  was_inside h up = (inside (record { intact = h; is_open = up })).inside

  -- its rows are as they are stored
  rows_here : (shown a stored_old).now.trees 1 ≡ stored_old.now.trees 1
  rows_here = here 1 tenants_apart (named a stored_old.in_transaction) stored_old.now.trees

  both_ok : {A B C : Type 0} (r : Result ℕ Error) → (A → B → C) → OnOk r A → OnOk r B → OnOk r C
  both_ok (Ok n) f a b = f a b
  both_ok (Err e) f a b = tt

  holds_it : IsHost (shown a stored_old).now → IsTrue (shown a stored_old).is_open → Leaves stored_tenant_form host_schema 1 (shown a stored_old) (shown a stored_new) (typed stored_tenant_form ((shown a stored_old).now.trees 1) ++ new_columns ∷ []) → AreFree stored_tenant_form host_schema (at 1 tenants_table) ((shown a stored_old).now.trees 1) (put stored_tenant_form (next_rowid ((shown a stored_old).now.trees 1), new_columns))
      → IsHostBy (totals_of (tables (shown a stored_old))) (shown a stored_new).now × (tables (shown a stored_new) ≡ record (tables (shown a stored_old)) { tenants = (tables (shown a stored_old)).tenants ++ new_row ∷ [] })
  holds_it host up l free =
      let sums = totals_of (tables (shown a stored_old)) in
      let sound = filled_obeys (named a stored_old.in_transaction) stored_old.now host (subst (λ s. IsDatabase (record { schema = s; trees = stored_old.now.trees })) host.schema (live up).0) in
      let none : pos 0 ≡ sums.used tenant = ap pos (sym (tenant_unused sums (shown a stored_old).now sound host tenant (tenant_free sums (shown a stored_old).now host new_columns free))) in
      let all = each_push (Uses sums) (typed stored_tenant_form ((shown a stored_old).now.trees 1)) new_columns (tenants_count sums ((shown a stored_old).now.trees 1) host.held.tenants) none in
      let it = tenants_turned sums sums.used (typed stored_tenant_form ((shown a stored_old).now.trees 1) ++ new_columns ∷ []) (shown a stored_old) (shown a stored_new) host all l in (
        it.0,
        it.1 ∙ ap (λ ts. record (tables (shown a stored_old)) { tenants = ts }) (map-append (λ (c : TenantColumns). c.row) (typed stored_tenant_form ((shown a stored_old).now.trees 1)) (new_columns ∷ [])
            ∙ ap (λ ts. ts ++ new_row ∷ []) (map-map (λ (c : TenantColumns). c.row) stored_tenant_form.decode ((shown a stored_old).now.trees 1))),
      )

  pub tenant_added : {sql : List ℕ} {params : Row} {A : Type 0} → InsertText stored_tenant_form host_schema 1 (at 1 tenants_table) sql params new_columns → ((packs : Contents) (db : Trees) → MayAdd stored_tenant_form host_schema (at 1 tenants_table) (filled_trees packs db) new_columns → MayAdd stored_tenant_form host_schema (at 1 tenants_table) db new_columns) → (IsStateClean (shown a stored_old) → A → MayAdd stored_tenant_form host_schema (at 1 tenants_table) (standing (shown a stored_old)).now.trees new_columns)
      → (HasCleanDisk stored_new → Executes sql params stored_old stored_new result) → Survives stored_old stored_new (CommitsBy sql params stored_old)
      → Entering (shown a stored_old) (shown a stored_new) (λ t. record t { tenants = t.tenants ++ new_row ∷ [] }) (λ e. A → is_trouble e ≡ true) result
  unfolding IsIntact IsOpen standing
  tenant_added {sql} {params} it bare may runs survives = entering (shown a stored_old) (shown a stored_new) (λ t. record t { tenants = t.tenants ++ new_row ∷ [] }) _ result inside (record {
    changes = changes_shown a stored_old stored_new result survives (λ clean. text.insert_changes stored_tenant_form host_schema orderly 1 (at 1 tenants_table) stored_tenants_is stored_old stored_new (bare_ready clean) sql params new_columns it result runs survives);
    leaves = λ h up. let clean = disk_clean a stored_old stored_new stored_new h in
        let was = doubtless stored_old.is_clean a.is_clean (clean_before stored_old stored_new _ survives clean.0) clean.1 in
        both_ok result (holds_it (ready (shown a stored_old) inside was up) up)
        (leaves stored_tenant_form 1 (at 1 tenants_table) stored_tenants_is (λ sums db h. tenants_stored sums (db.trees 1) h.held.tenants) tenants_apart a stored_old stored_new (λ c. in_midst _ (inside c)) (λ rows. rows ++ new_columns ∷ []) result survives (λ clean. text.insert_changes stored_tenant_form host_schema orderly 1 (at 1 tenants_table) stored_tenants_is stored_old stored_new (bare_ready clean) sql params new_columns it result runs survives)
        (λ clean. text.insert_adds stored_tenant_form host_schema orderly 1 (at 1 tenants_table) stored_tenants_is stored_old stored_new (bare_ready clean) sql params new_columns it result runs survives) h up)
        (subst (λ rows. OnOk result (AreFree stored_tenant_form host_schema (at 1 tenants_table) rows (put stored_tenant_form (next_rowid (rows), new_columns)))) (sym rows_here)
        (text.insert_frees stored_tenant_form host_schema orderly 1 (at 1 tenants_table) stored_tenants_is stored_old stored_new (bare_ready clean.1) sql params new_columns it result runs survives clean.0 up));
    errors = λ h unlimited. let clean = disk_clean a stored_old stored_new stored_new h in
        if_so result (λ so. text.insert_only_trouble stored_tenant_form host_schema orderly 1 (at 1 tenants_table) stored_tenants_is stored_old stored_new (bare_ready clean.1) sql params new_columns it live result runs survives clean.0 unlimited
        (λ was up. bare (named a stored_old.in_transaction) stored_old.now.trees (may (record { intact = doubtless stored_old.is_clean a.is_clean was clean.1; is_open = up }) so)));
  })
    where
      if_so : {A : Type 0} (r : Result ℕ Error) → (A → IfErr r (λ e. is_trouble e ≡ true)) → IfErr r (λ e. A → is_trouble e ≡ true)
      if_so (Ok n) h = tt
      if_so (Err e) h = h

  -- its name was new
  pub tenant_was_new : {sql : List ℕ} {params : Row} → InsertText stored_tenant_form host_schema 1 (at 1 tenants_table) sql params new_columns → (IsStateClean (shown a stored_new) → IsStateClean (shown a stored_old))
      → (HasCleanDisk stored_new → Executes sql params stored_old stored_new result) → Survives stored_old stored_new (CommitsBy sql params stored_old) → OnOk result (IsStateClean (shown a stored_new) → IsNewTenant (tables_in (standing (shown a stored_old)).now) tenant)
  unfolding IsIntact IsOpen standing
  tenant_was_new {sql} {params} it was runs survives = go result (λ c. let clean = disk_clean a stored_old stored_new stored_new c.intact in
      subst (λ rows. OnOk result (AreFree stored_tenant_form host_schema (at 1 tenants_table) rows (put stored_tenant_form (next_rowid rows, new_columns)))) (sym rows_here)
      (text.insert_frees stored_tenant_form host_schema orderly 1 (at 1 tenants_table) stored_tenants_is stored_old stored_new (bare_ready clean.1) sql params new_columns it result runs survives clean.0 (was c).is_open))
    where
      go : (r : Result ℕ Error) → (IsStateClean (shown a stored_new) → OnOk r (AreFree stored_tenant_form host_schema (at 1 tenants_table) ((shown a stored_old).now.trees 1) (put stored_tenant_form (next_rowid ((shown a stored_old).now.trees 1), new_columns)))) → OnOk r (IsStateClean (shown a stored_new) → IsNewTenant (tables_in (shown a stored_old).now) tenant)
      go (Err e) h = tt
      go (Ok n) h = λ c. record { free = tenant_free (totals_of (tables (shown a stored_old))) (shown a stored_old).now (inside (was c)).host new_columns (h c) }
