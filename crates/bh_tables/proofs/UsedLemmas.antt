-- What a write to the column `used` or `bytes_kept` is to a host's database, and that a new tenant uses nothing.
use Rattle.std.proofs.Common.{◌≡◌, ℕ, ℤ, pos, ◌+ℤ◌, ◌-ℤ◌, Bool, true, false, List, [], ◌∷◌, map, cond, refl, sym, ap, ap₂, ◌∙◌}
use Rattle.std.specs.List.{AllByRecursion}
use Rattle.sqlite.specs.State.{State}
use Rattle.sqlite_keyed.specs.Lists.{update_where}
use Rattle.sqlite_keyed.proofs.ListLemmas.{map-map}
use Rattle.sqlite_typed.specs.Tests.{bytes_eq}
use Rattle.bh_rows.specs.Form.{typed}
use Rattle.bh_rows.specs.Texts.{Leaves}
use Rattle.bh_tables.specs.Schema.{Octets, host_schema}
use Rattle.bh_tables.specs.Typed.{Totals, TenantRow, TenantColumns, stored_tenant_form, UploadRow, UploadColumns, stored_upload_form, used_changed, kept_changed, IsHostBy, tables}
use Rattle.bh_tables.specs.Bodies.{Name, same_name}
use Rattle.bh_tables.specs.Shown.{is_tenant, is_upload}
use Rattle.bh_tables.proofs.StoredLemmas.{Uses, tenants_count, tenants_turned, Keeps, uploads_count, uploads_turned, facts_after, shown_updated}

-- ---- of tenants

module _ (tenant : Octets) (more less : ℕ) (f : TenantColumns → TenantColumns) (g : TenantRow → TenantRow) (shows : (c : TenantColumns) → (f c).row ≡ g c.row) (named : (t : TenantRow) → (g t).tenant ≡ t.tenant)
    (uses : (c : TenantColumns) → (f c).used ≡ c.used +ℤ pos more -ℤ pos less) (sums : Totals) (old new : State) where
  abbrev after : Octets → ℤ
  after t = cond (bytes_eq t tenant) (sums.used t +ℤ pos more -ℤ pos less) (sums.used t)

  abbrev changed : List TenantColumns
  changed = update_where (λ c. is_tenant tenant c.row) f (typed stored_tenant_form (old.now.trees 1))

  same_name_still : (c : TenantColumns) → (f c).row.tenant ≡ c.row.tenant
  same_name_still c = ap (λ (t : TenantRow). t.tenant) (shows c) ∙ named c.row

  all_use : IsHostBy sums old.now → AllByRecursion (Uses (record sums { used = after })) changed
  all_use host = facts_after (λ c. is_tenant tenant c.row) f (Uses sums) (Uses (record sums { used = after }))
      (λ c on k. uses c ∙ ap (λ z. z +ℤ pos more -ℤ pos less) k ∙ sym (ap (λ b. cond b (sums.used c.row.tenant +ℤ pos more -ℤ pos less) (sums.used c.row.tenant)) on) ∙ ap after (sym (same_name_still c)))
      (λ c off k. k ∙ sym (ap (λ b. cond b (sums.used c.row.tenant +ℤ pos more -ℤ pos less) (sums.used c.row.tenant)) off))
      (typed stored_tenant_form (old.now.trees 1)) (tenants_count sums (old.now.trees 1) host.held.tenants)

  pub used_turned : IsHostBy sums old.now → Leaves stored_tenant_form host_schema 1 old new changed
      → IsHostBy (used_changed tenant more less sums) new.now × (tables new ≡ record (tables old) { tenants = update_where (is_tenant tenant) g (tables old).tenants })
  used_turned host l =
      let it = tenants_turned sums after changed old new host (all_use host) l in (
        it.0,
        it.1 ∙ ap (λ ts. record (tables old) { tenants = ts }) (shown_updated (λ (c : TenantColumns). c.row) (is_tenant tenant) f g shows (typed stored_tenant_form (old.now.trees 1))
            ∙ ap (update_where (is_tenant tenant) g) (map-map (λ (c : TenantColumns). c.row) stored_tenant_form.decode (old.now.trees 1))),
      )

-- ---- of uploads

module _ (tenant : Octets) (upload more less : ℕ) (f : UploadColumns → UploadColumns) (shows : (c : UploadColumns) → (f c).row ≡ c.row) (keeps : (c : UploadColumns) → (f c).kept ≡ c.kept +ℤ pos more -ℤ pos less) (sums : Totals) (old new : State) where
  abbrev after_kept : Name → ℤ
  after_kept q = cond (same_name q (tenant, upload)) (sums.kept q +ℤ pos more -ℤ pos less) (sums.kept q)

  abbrev changed_uploads : List UploadColumns
  changed_uploads = update_where (λ c. is_upload tenant upload c.row) f (typed stored_upload_form (old.now.trees 16))

  all_keep : IsHostBy sums old.now → AllByRecursion (Keeps (record sums { kept = after_kept })) changed_uploads
  all_keep host = facts_after (λ c. is_upload tenant upload c.row) f (Keeps sums) (Keeps (record sums { kept = after_kept }))
      (λ c on k. keeps c ∙ ap (λ z. z +ℤ pos more -ℤ pos less) k ∙ sym (ap (λ b. cond b (sums.kept (c.row.tenant, c.row.upload) +ℤ pos more -ℤ pos less) (sums.kept (c.row.tenant, c.row.upload))) on)
      ∙ ap (λ (u : UploadRow). after_kept (u.tenant, u.upload)) (sym (shows c)))
      (λ c off k. k ∙ sym (ap (λ b. cond b (sums.kept (c.row.tenant, c.row.upload) +ℤ pos more -ℤ pos less) (sums.kept (c.row.tenant, c.row.upload))) off))
      (typed stored_upload_form (old.now.trees 16)) (uploads_count sums (old.now.trees 16) host.held.uploads)

  same_rows : (cs : List UploadColumns) → map (λ (c : UploadColumns). c.row) (update_where (λ c. is_upload tenant upload c.row) f cs) ≡ map (λ (c : UploadColumns). c.row) cs
  same_rows cs = shown_updated (λ (c : UploadColumns). c.row) (is_upload tenant upload) f (λ u. u) shows cs ∙ unmoved (map (λ (c : UploadColumns). c.row) cs)
    where
      unmoved : (us : List UploadRow) → update_where (is_upload tenant upload) (λ u. u) us ≡ us
      unmoved [] = refl
      unmoved (u ∷ us) = ap₂ ◌∷◌ (either (is_upload tenant upload u)) (unmoved us)
        where
          either : (b : Bool) → cond b u u ≡ u
          either true = refl
          either false = refl

  pub kept_turned : IsHostBy sums old.now → Leaves stored_upload_form host_schema 16 old new changed_uploads → IsHostBy (kept_changed (tenant, upload) more less sums) new.now × (tables new ≡ tables old)
  kept_turned host l =
      let it = uploads_turned sums after_kept changed_uploads old new host (all_keep host) l in
      (it.0, it.1 ∙ ap (λ us. record (tables old) { uploads = us }) (same_rows (typed stored_upload_form (old.now.trees 16)) ∙ map-map (λ (c : UploadColumns). c.row) stored_upload_form.decode (old.now.trees 16)))
