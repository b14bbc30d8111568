-- The texts over tenants.
use Rattle.std.proofs.Common.{◌≡◌, ℕ, ℤ, pos, zero-le, codes, [], ◌∷◌, true, false, refl, sym, subst, ◌∙◌}
use Rattle.std.specs.List.{list_any}
use Rattle.sqlite.specs.declared.types.Value.TheVariants.{Int, Text}
use Rattle.sqlite.specs.Edit.{next_rowid}
use Rattle.sqlite.specs.Effect.{Database}
use Rattle.sqlite.specs.Listing.{understood}
use Rattle.sqlite.specs.Term.{col}
use Rattle.sqlite_sql.specs.declared.ops.CompareOp.TheVariants.{Eq}
use Rattle.sqlite_value.specs.Keys.{plain, first_key}
use Rattle.sqlite_schema.specs.Rules.{agree, passes_checks}
use Rattle.sqlite_tied.specs.Compute.{everything}
use Rattle.sqlite_typed.proofs.TestLemmas.{at_texts, last_term}
use Rattle.bh_rows.specs.Form.{put}
use Rattle.bh_rows.specs.Keys.{Suits}
use Rattle.bh_rows.specs.Scan.{no_limit}
use Rattle.bh_rows.specs.Texts.{AreFree, MayAdd, MayChange, UpdateText, SelectText}
use Rattle.bh_rows.proofs.FormLemmas.{any_typed}
use Rattle.bh_tables.specs.Schema.{Octets, host_schema, tenants_table, at}
use Rattle.bh_tables.specs.Typed.{Totals, TenantRow, tenant_columns, tenant_form, TenantColumns, stored_tenant_form, number, IsHostBy, tables_in}
use Rattle.bh_tables.specs.Shown.{is_tenant, shown_tenant}
use Rattle.bh_tables.proofs.Checked.{tenant_checked, tenant_checked_still}
use Rattle.bh_tables.proofs.Terms.{is}

-- ---- a tenant whose name no other has may be added

pub tenant_agrees : (i j : ℤ) (a b : TenantColumns) → agree plain (1 ∷ []) (put stored_tenant_form (i, a)) (1 ∷ []) (put stored_tenant_form (j, b)) ≡ is_tenant b.row.tenant a.row
unfolding first_key
tenant_agrees i j a b = last_term (at_texts false Eq a.row.tenant b.row.tenant)

module _ (sums : Totals) where
  agrees : (i j : ℤ) (a : TenantRow) (b : TenantColumns) → agree plain (1 ∷ []) (put (tenant_form sums) (i, a)) (1 ∷ []) (put stored_tenant_form (j, b)) ≡ is_tenant b.row.tenant a
  unfolding first_key
  agrees i j a b = last_term (at_texts false Eq a.tenant b.row.tenant)

  -- of whom nothing is kept
  pub new_tenant : (db : Database) → IsHostBy sums db → (t : TenantRow) → list_any (is_tenant t.tenant) (tables_in db).tenants ≡ false → MayAdd stored_tenant_form host_schema (at 1 tenants_table) db.trees (record { row = t; used = pos 0 })
  unfolding everything
  new_tenant db host t free = record {
    suits = record { typed = refl; present = refl; checked = tenant_checked (next_rowid (db.trees 1)) 0 t zero-le };
    free = (any_typed (tenant_form sums) _ (is_tenant t.tenant) (λ id a. agrees id (next_rowid (db.trees 1)) a (record { row = t; used = pos 0 })) (db.trees 1) host.held.tenants ∙ free, tt);
    parents = refl;
  }

  -- and one that was added had a name that no other had
  pub tenant_free : (db : Database) → IsHostBy sums db → (x : TenantColumns) → AreFree stored_tenant_form host_schema (at 1 tenants_table) (db.trees 1) (put stored_tenant_form (next_rowid (db.trees 1), x))
      → list_any (is_tenant x.row.tenant) (tables_in db).tenants ≡ false
  unfolding everything
  tenant_free db host x free = sym (any_typed (tenant_form sums) _ (is_tenant x.row.tenant) (λ id a. agrees id (next_rowid (db.trees 1)) a x) (db.trees 1) host.held.tenants) ∙ free.0

  -- with other numbers it passes the same tests
  suits_still : (id : ℤ) (t u : TenantRow) → u.tenant ≡ t.tenant → Suits (at 1 tenants_table) (put (tenant_form sums) (id, t)) → Suits (at 1 tenants_table) (put (tenant_form sums) (id, u))
  suits_still id t u same was = record {
    typed = refl;
    present = refl;
    checked = subst (λ n. passes_checks tenants_table (Int id ∷ tenant_columns (sums.used n) u) ≡ true) (sym same) (tenant_checked_still id (sums.used t.tenant) t u was.checked);
  }

  -- ---- the texts

  pub tenant_shown : (tenant : Octets) → SelectText (tenant_form sums) host_schema 1 (codes "SELECT quota, next_version, next_upload, next_entry FROM tenants WHERE tenant = ?1 ORDER BY rowid") (Text tenant ∷ []) (is_tenant tenant) shown_tenant no_limit
  unfolding understood everything
  tenant_shown tenant = record {
    test = is 1 0 ∷ [];
    show = col 1 2 ∷ col 1 3 ∷ col 1 4 ∷ col 1 5 ∷ [];
    names = codes "quota" ∷ codes "next_version" ∷ codes "next_upload" ∷ codes "next_entry" ∷ [];
    means = record { is = refl; plain = (refl, refl); unlisted = refl; whole = refl; given = refl };
    low = refl;
    accepts = refl;
    tests = λ id t. last_term (at_texts false Eq t.tenant tenant);
    shows = λ id t. refl;
  }

  pub next_entry_set : (tenant : Octets) (n : ℕ) → UpdateText (tenant_form sums) host_schema 1 (at 1 tenants_table) (codes "UPDATE tenants SET next_entry = ?2 WHERE tenant = ?1") (Text tenant ∷ number n ∷ []) (is_tenant tenant) (λ t. record t { next_entry = n })
  unfolding understood everything
  next_entry_set tenant n = record {
    test = is 1 0 ∷ [];
    show = col 1 0 ∷ col 1 0 ∷ col 1 1 ∷ col 1 2 ∷ col 1 3 ∷ col 1 4 ∷ col 0 1 ∷ col 1 6 ∷ [];
    means = record { is = refl; plain = (refl, refl); unlisted = refl; whole = refl; given = refl };
    accepts = refl;
    tests = λ id t. last_term (at_texts false Eq t.tenant tenant);
    shows = λ id t found was. refl;
  }

  pub next_entry_may : (tenant : Octets) (n : ℕ) → MayChange (tenant_form sums) host_schema (at 1 tenants_table) (is_tenant tenant) (λ t. record t { next_entry = n })
  unfolding everything
  next_entry_may tenant n = record { suits = λ id t found was. suits_still id t (record t { next_entry = n }) refl was; unwatched = λ id t found. refl }

  pub numbers_set : (tenant : Octets) (version entry : ℕ) → UpdateText (tenant_form sums) host_schema 1 (at 1 tenants_table) (codes "UPDATE tenants SET next_version = ?2, next_entry = ?3 WHERE tenant = ?1") (Text tenant ∷ number version ∷ number entry ∷ [])
      (is_tenant tenant) (λ t. record t { next_version = version; next_entry = entry })
  unfolding understood everything
  numbers_set tenant version entry = record {
    test = is 1 0 ∷ [];
    show = col 1 0 ∷ col 1 0 ∷ col 1 1 ∷ col 1 2 ∷ col 0 1 ∷ col 1 4 ∷ col 0 2 ∷ col 1 6 ∷ [];
    means = record { is = refl; plain = (refl, refl); unlisted = refl; whole = refl; given = refl };
    accepts = refl;
    tests = λ id t. last_term (at_texts false Eq t.tenant tenant);
    shows = λ id t found was. refl;
  }

  pub numbers_may : (tenant : Octets) (version entry : ℕ) → MayChange (tenant_form sums) host_schema (at 1 tenants_table) (is_tenant tenant) (λ t. record t { next_version = version; next_entry = entry })
  unfolding everything
  numbers_may tenant version entry = record { suits = λ id t found was. suits_still id t (record t { next_version = version; next_entry = entry }) refl was; unwatched = λ id t found. refl }

  pub quota_set : (tenant : Octets) (n : ℕ) → UpdateText (tenant_form sums) host_schema 1 (at 1 tenants_table) (codes "UPDATE tenants SET quota = ?2 WHERE tenant = ?1") (Text tenant ∷ number n ∷ []) (is_tenant tenant) (λ t. record t { quota = n })
  unfolding understood everything
  quota_set tenant n = record {
    test = is 1 0 ∷ [];
    show = col 1 0 ∷ col 1 0 ∷ col 1 1 ∷ col 0 1 ∷ col 1 3 ∷ col 1 4 ∷ col 1 5 ∷ col 1 6 ∷ [];
    means = record { is = refl; plain = (refl, refl); unlisted = refl; whole = refl; given = refl };
    accepts = refl;
    tests = λ id t. last_term (at_texts false Eq t.tenant tenant);
    shows = λ id t found was. refl;
  }

  pub quota_may : (tenant : Octets) (n : ℕ) → MayChange (tenant_form sums) host_schema (at 1 tenants_table) (is_tenant tenant) (λ t. record t { quota = n })
  unfolding everything
  quota_may tenant n = record { suits = λ id t found was. suits_still id t (record t { quota = n }) refl was; unwatched = λ id t found. refl }
