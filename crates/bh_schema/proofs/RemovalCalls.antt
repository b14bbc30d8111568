-- A tenant's rows of a table go, in the midst of the write that deletes them all.
use Rattle.bh_base.specs.Shown.{Backing, shown}
use Rattle.bh_base.proofs.Apart.{buckets_apart, keys_apart, locks_apart, retains_apart, tenants_apart, uploads_apart}
use Rattle.std.proofs.Common.{ℕ, List, [], ◌∷◌, not, Result, sym, ap, ◌∙◌}
use Rattle.sqlite.specs.declared.types.Value.TheVariants.{Text}
use Rattle.sqlite.specs.State.{State, HasCleanDisk, IsLive, Survives, Executes, CommitsBy}
use Rattle.sqlite.specs.declared.error.Error.{Error}
use Rattle.sqlite_keyed.specs.Lists.{delete_where}
use Rattle.sqlite_keyed.proofs.ListLemmas.{all-filter, filter-map, map-map}
use Rattle.bh_rows.specs.Form.{typed}
use Rattle.bh_tables.specs.Schema.{Octets, tenants_table, keys_table, buckets_table, uploads_table, locks_table, retains_table, at}
use Rattle.bh_tables.specs.Typed.{TenantColumns, UploadColumns, stored_tenant_form, key_form, bucket_form, stored_upload_form, lock_form, retain_form, tables}
use Rattle.bh_tables.specs.Shown.{is_tenant, is_owned_upload}
use Rattle.bh_tables.proofs.Places as place
use Rattle.bh_tables.proofs.StoredLemmas.{Uses, tenants_stored, tenants_count, tenants_turned, Keeps, uploads_stored, uploads_count, uploads_turned}
use Rattle.bh_base.specs.Layer.{standing, IsStateClean, IsMidst}
use Rattle.bh_schema.specs.Removal.{without_table, sums_without, IsTextOf}
use Rattle.bh_schema.specs.declared.rows.removal.TenantTable.{TenantTable}
use Rattle.bh_schema.specs.declared.rows.removal.TenantTable.TheVariants as table
use Rattle.bh_base.proofs.Calls.{Turn, drops}
use Rattle.bh_schema.proofs.PartCalls as part
use Rattle.bh_schema.proofs.TallyCalls as tally
use Rattle.bh_schema.proofs.VersionCalls as version

module _ (a : Backing) (stored_old stored_new : State) (midst : IsStateClean (shown a stored_old) → IsMidst (standing (shown a stored_old))) (result : Result ℕ Error) (live : IsLive stored_old) (t : Octets) where
  pub owned_gone : (which : TenantTable) (sql : List ℕ) → IsTextOf which sql → (HasCleanDisk stored_new → Executes sql (Text t ∷ []) stored_old stored_new result) → Survives stored_old stored_new (CommitsBy sql (Text t ∷ []) stored_old)
      → Turn (shown a stored_old) (shown a stored_new) (sums_without which t) (without_table which t) result
  owned_gone table.Retains sql it = drops retain_form 11 (at 28 retains_table) place.retains_is (λ sums db h. h.held.retains) retains_apart a stored_old stored_new midst result live (sums_without table.Retains t) (without_table table.Retains t) (it t) (λ sums host l. place.turned (place.retains sums) (shown a stored_old) (shown a stored_new) _ host l)
  owned_gone table.Locks sql it = drops lock_form 10 (at 26 locks_table) place.locks_is (λ sums db h. h.held.locks) locks_apart a stored_old stored_new midst result live (sums_without table.Locks t) (without_table table.Locks t) (it t) (λ sums host l. place.turned (place.locks sums) (shown a stored_old) (shown a stored_new) _ host l)
  owned_gone table.Parts sql it = part.goes a stored_old stored_new midst result live (it t)
  owned_gone table.Uploads sql it = drops stored_upload_form 7 (at 16 uploads_table) place.stored_uploads_is (λ sums db h. uploads_stored sums (db.trees 16) h.held.uploads) uploads_apart a stored_old stored_new midst result live (sums_without table.Uploads t) (without_table table.Uploads t) (it t)
      (λ sums host l.
      let cs = typed stored_upload_form ((shown a stored_old).now.trees 16) in
      let w = uploads_turned sums sums.kept (delete_where (λ (c : UploadColumns). is_owned_upload t c.row) cs) (shown a stored_old) (shown a stored_new) host (all-filter (Keeps sums) _ cs (uploads_count sums ((shown a stored_old).now.trees 16) host.held.uploads)) l in (
        w.0,
        w.1 ∙ ap (λ us. record (tables (shown a stored_old)) { uploads = us }) (sym (filter-map (λ u. not (is_owned_upload t u)) (λ (c : UploadColumns). c.row) cs) ∙ ap (delete_where (is_owned_upload t)) (map-map (λ (c : UploadColumns). c.row) stored_upload_form.decode ((shown a stored_old).now.trees 16))),
      ))
  owned_gone table.Versions sql it = version.goes a stored_old stored_new midst result live (it t)
  owned_gone table.Buckets sql it = drops bucket_form 3 (at 5 buckets_table) place.buckets_is (λ sums db h. h.held.buckets) buckets_apart a stored_old stored_new midst result live (sums_without table.Buckets t) (without_table table.Buckets t) (it t) (λ sums host l. place.turned (place.buckets sums) (shown a stored_old) (shown a stored_new) _ host l)
  owned_gone table.Keys sql it = drops key_form 2 (at 3 keys_table) place.keys_is (λ sums db h. h.held.keys) keys_apart a stored_old stored_new midst result live (sums_without table.Keys t) (without_table table.Keys t) (it t) (λ sums host l. place.turned (place.keys sums) (shown a stored_old) (shown a stored_new) _ host l)
  owned_gone table.Tallies sql it = tally.drops a stored_old stored_new midst result live (it t)
  owned_gone table.Tenants sql it = drops stored_tenant_form 1 (at 1 tenants_table) place.stored_tenants_is (λ sums db h. tenants_stored sums (db.trees 1) h.held.tenants) tenants_apart a stored_old stored_new midst result live (sums_without table.Tenants t) (without_table table.Tenants t) (it t)
      (λ sums host l.
      let cs = typed stored_tenant_form ((shown a stored_old).now.trees 1) in
      let w = tenants_turned sums sums.used (delete_where (λ (c : TenantColumns). is_tenant t c.row) cs) (shown a stored_old) (shown a stored_new) host (all-filter (Uses sums) _ cs (tenants_count sums ((shown a stored_old).now.trees 1) host.held.tenants)) l in (
        w.0,
        w.1 ∙ ap (λ ts. record (tables (shown a stored_old)) { tenants = ts }) (sym (filter-map (λ x. not (is_tenant t x)) (λ (c : TenantColumns). c.row) cs) ∙ ap (delete_where (is_tenant t)) (map-map (λ (c : TenantColumns). c.row) stored_tenant_form.decode ((shown a stored_old).now.trees 1))),
      ))
