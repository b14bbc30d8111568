-- Calls that set what is kept of an upload, in the midst of a write, and the one that adds an upload.
use Rattle.std.proofs.Common.{IsTrue, sym}
use Rattle.sqlite.specs.Tree.{Trees}
use Rattle.bh_shelf.specs.Contents.{Contents}
use Rattle.bh_base.specs.Placed.{filled_trees}
use Rattle.bh_base.specs.Shown.{Backing, named, shown}
use Rattle.bh_base.proofs.Obeying.{filled_obeys}
use Rattle.bh_base.proofs.Lifting.{doubtless}
use Rattle.bh_base.proofs.Endings.{disk_clean, changes_shown}
use Rattle.bh_base.proofs.Statements.{here, ready_here}
use Rattle.bh_base.proofs.Apart.{uploads_apart}
use Rattle.std.proofs.Common.{◌≡◌, ℕ, ℤ, pos, ◌+ℤ◌, ◌-ℤ◌, List, [], ◌∷◌, ◌++◌, Ok, Err, Result, OnOk, IfErr, IsTrue, true, refl, sym, ap, ◌∙◌, subst}
use Rattle.std.proofs.lemmas.List.{map-append}
use Rattle.sqlite.specs.Edit.{next_rowid}
use Rattle.sqlite.specs.Effect.{IsDatabase}
use Rattle.sqlite.specs.Order.{Row}
use Rattle.sqlite.specs.State.{State, HasCleanDisk, IsLive, Survives, Executes, CommitsBy}
use Rattle.sqlite.specs.declared.error.Error.{Error}
use Rattle.sqlite_keyed.proofs.ListLemmas.{map-map}
use Rattle.bh_rows.specs.Form.{typed, put}
use Rattle.bh_rows.specs.Means.{is_trouble}
use Rattle.bh_rows.specs.Texts.{IsReadyAt, Leaves, AreFree, MayAdd, InsertText, UpdateText}
use Rattle.bh_rows.proofs.CallLemmas.{clean_before}
use Rattle.bh_rows.proofs.InsertLemmas.{each_push}
use Rattle.bh_rows.proofs.TextLemmas as text
use Rattle.bh_tables.specs.Schema.{Octets, host_schema, uploads_table, at}
use Rattle.bh_tables.specs.Typed.{totals_of, UploadRow, UploadColumns, stored_upload_form, kept_changed, IsHost, IsHostBy, tables}
use Rattle.bh_tables.specs.Shown.{is_upload}
use Rattle.bh_tables.proofs.OwnedLemmas.{upload_unused}
use Rattle.bh_tables.proofs.Places.{orderly, stored_uploads_is}
use Rattle.bh_tables.proofs.StoredLemmas.{Keeps, uploads_stored, uploads_count, uploads_turned}
use Rattle.bh_tables.proofs.UploadTexts.{upload_free}
use Rattle.bh_tables.proofs.UsedLemmas.{kept_turned}
use Rattle.bh_base.specs.Layer.{standing, IsIntact, IsOpen, IsStateClean, IsInside, IsMidst}
use Rattle.bh_base.proofs.Calls.{leaves, in_midst, Turn, Write, sets, ready, write}

-- so many bytes more and fewer
module _ (a : Backing) (stored_old stored_new : State) (midst : IsStateClean (shown a stored_old) → IsMidst (standing (shown a stored_old))) (result : Result ℕ Error) (live : IsLive stored_old) (tenant : Octets) (upload : ℕ) where
  pub changed_uploads : (more less : ℕ) {sql : List ℕ} {params : Row} → UpdateText stored_upload_form host_schema 7 (at 16 uploads_table) sql params (λ c. is_upload tenant upload c.row) (λ c. record c { kept = c.kept +ℤ pos more -ℤ pos less })
      → (HasCleanDisk stored_new → Executes sql params stored_old stored_new result) → Survives stored_old stored_new (CommitsBy sql params stored_old)
      → Turn (shown a stored_old) (shown a stored_new) (kept_changed (tenant, upload) more less) (λ t. t) result
  changed_uploads more less it runs survives =
      sets stored_upload_form 7 (at 16 uploads_table) stored_uploads_is (λ sums db h. uploads_stored sums (db.trees 16) h.held.uploads) uploads_apart a stored_old stored_new midst result live
      (kept_changed (tenant, upload) more less) (λ t. t) it (λ sums host l. kept_turned tenant upload more less (λ c. record c { kept = c.kept +ℤ pos more -ℤ pos less }) (λ c. refl) (λ c. refl) sums (shown a stored_old) (shown a stored_new) host l) runs survives

-- ---- an upload comes, of which nothing is kept

module _ (a : Backing) (stored_old stored_new : State) (inside : IsStateClean (shown a stored_old) → IsInside (standing (shown a stored_old))) (result : Result ℕ Error) (live : IsLive stored_old) (row : UploadRow) where
  abbrev new_columns : UploadColumns
  new_columns = record { row = row; kept = pos 0 }

  stored_ready : IsReadyAt stored_upload_form host_schema 16 (shown a stored_old)
  stored_ready clean up = let h = ready (shown a stored_old) inside clean up in (h.schema, uploads_stored (totals_of (tables (shown a stored_old))) ((shown a stored_old).now.trees 16) h.held.uploads)

  bare_ready : IsTrue a.is_clean → IsReadyAt stored_upload_form host_schema 16 stored_old
  bare_ready clean = ready_here 16 uploads_apart stored_upload_form a stored_old clean stored_ready

  was_inside : HasCleanDisk (shown a stored_old) → IsTrue (shown a stored_old).is_open → stored_old.in_transaction ≡ true
  unfolding standing IsIntact IsOpen
  was_inside h up = (inside (record { intact = h; is_open = up })).inside

  -- its rows are as they are stored
  rows_here : (shown a stored_old).now.trees 16 ≡ stored_old.now.trees 16
  rows_here = here 16 uploads_apart (named a stored_old.in_transaction) stored_old.now.trees

  both_ok : {A B C : Type 0} (r : Result ℕ Error) → (A → B → C) → OnOk r A → OnOk r B → OnOk r C
  both_ok (Ok n) f a b = f a b
  both_ok (Err e) f a b = tt

  holds_it : IsHost (shown a stored_old).now → IsTrue (shown a stored_old).is_open → Leaves stored_upload_form host_schema 16 (shown a stored_old) (shown a stored_new) (typed stored_upload_form ((shown a stored_old).now.trees 16) ++ new_columns ∷ []) → AreFree stored_upload_form host_schema (at 16 uploads_table) ((shown a stored_old).now.trees 16) (put stored_upload_form (next_rowid ((shown a stored_old).now.trees 16), new_columns))
      → IsHostBy (totals_of (tables (shown a stored_old))) (shown a stored_new).now × (tables (shown a stored_new) ≡ record (tables (shown a stored_old)) { uploads = (tables (shown a stored_old)).uploads ++ row ∷ [] })
  holds_it host up l free =
      let sums = totals_of (tables (shown a stored_old)) in
      let sound = filled_obeys (named a stored_old.in_transaction) stored_old.now host (subst (λ s. IsDatabase (record { schema = s; trees = stored_old.now.trees })) host.schema (live up).0) in
      let none : pos 0 ≡ sums.kept (row.tenant, row.upload) = ap pos (sym (upload_unused sums (shown a stored_old).now sound host row.tenant row.upload (upload_free sums (shown a stored_old).now host new_columns free))) in
      let all = each_push (Keeps sums) (typed stored_upload_form ((shown a stored_old).now.trees 16)) new_columns (uploads_count sums ((shown a stored_old).now.trees 16) host.held.uploads) none in
      let it = uploads_turned sums sums.kept (typed stored_upload_form ((shown a stored_old).now.trees 16) ++ new_columns ∷ []) (shown a stored_old) (shown a stored_new) host all l in (
        it.0,
        it.1 ∙ ap (λ us. record (tables (shown a stored_old)) { uploads = us }) (map-append (λ (c : UploadColumns). c.row) (typed stored_upload_form ((shown a stored_old).now.trees 16)) (new_columns ∷ [])
            ∙ ap (λ us. us ++ row ∷ []) (map-map (λ (c : UploadColumns). c.row) stored_upload_form.decode ((shown a stored_old).now.trees 16))),
      )

  pub upload_added : {sql : List ℕ} {params : Row} {A : Type 0} → InsertText stored_upload_form host_schema 7 (at 16 uploads_table) sql params new_columns → ((packs : Contents) (db : Trees) → MayAdd stored_upload_form host_schema (at 16 uploads_table) (filled_trees packs db) new_columns → MayAdd stored_upload_form host_schema (at 16 uploads_table) db new_columns) → (IsStateClean (shown a stored_old) → A → MayAdd stored_upload_form host_schema (at 16 uploads_table) (standing (shown a stored_old)).now.trees new_columns)
      → (HasCleanDisk stored_new → Executes sql params stored_old stored_new result) → Survives stored_old stored_new (CommitsBy sql params stored_old)
      → Write (shown a stored_old) (shown a stored_new) (λ t. record t { uploads = t.uploads ++ row ∷ [] }) (λ e. A → is_trouble e ≡ true) result
  unfolding IsIntact IsOpen standing
  upload_added {sql} {params} it bare may runs survives = write (shown a stored_old) (shown a stored_new) (λ t. record t { uploads = t.uploads ++ row ∷ [] }) _ result inside refl (record {
    changes = changes_shown a stored_old stored_new result survives (λ clean. text.insert_changes stored_upload_form host_schema orderly 7 (at 16 uploads_table) stored_uploads_is stored_old stored_new (bare_ready clean) sql params new_columns it result runs survives);
    leaves = λ h up. let clean = disk_clean a stored_old stored_new stored_new h in
        let was = doubtless stored_old.is_clean a.is_clean (clean_before stored_old stored_new _ survives clean.0) clean.1 in
        both_ok result (holds_it (ready (shown a stored_old) inside was up) up)
        (leaves stored_upload_form 7 (at 16 uploads_table) stored_uploads_is (λ sums db h. uploads_stored sums (db.trees 16) h.held.uploads) uploads_apart a stored_old stored_new (λ c. in_midst _ (inside c)) (λ rows. rows ++ new_columns ∷ []) result survives (λ clean. text.insert_changes stored_upload_form host_schema orderly 7 (at 16 uploads_table) stored_uploads_is stored_old stored_new (bare_ready clean) sql params new_columns it result runs survives)
        (λ clean. text.insert_adds stored_upload_form host_schema orderly 7 (at 16 uploads_table) stored_uploads_is stored_old stored_new (bare_ready clean) sql params new_columns it result runs survives) h up)
        (subst (λ rows. OnOk result (AreFree stored_upload_form host_schema (at 16 uploads_table) rows (put stored_upload_form (next_rowid (rows), new_columns)))) (sym rows_here)
        (text.insert_frees stored_upload_form host_schema orderly 7 (at 16 uploads_table) stored_uploads_is stored_old stored_new (bare_ready clean.1) sql params new_columns it result runs survives clean.0 up));
    errors = λ h unlimited. let clean = disk_clean a stored_old stored_new stored_new h in
        if_so result (λ so. text.insert_only_trouble stored_upload_form host_schema orderly 7 (at 16 uploads_table) stored_uploads_is stored_old stored_new (bare_ready clean.1) sql params new_columns it live result runs survives clean.0 unlimited
        (λ was up. bare (named a stored_old.in_transaction) stored_old.now.trees (may (record { intact = doubtless stored_old.is_clean a.is_clean was clean.1; is_open = up }) so)));
  })
    where
      if_so : {A : Type 0} (r : Result ℕ Error) → (A → IfErr r (λ e. is_trouble e ≡ true)) → IfErr r (λ e. A → is_trouble e ≡ true)
      if_so (Ok n) h = tt
      if_so (Err e) h = h
