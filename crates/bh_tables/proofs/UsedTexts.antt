-- The texts that set what is kept of other rows: of a tenant the bytes that it uses, of an upload those of its parts.
use Rattle.std.proofs.Common.{inl, inr, ◌≡◌, ◌<◌, ◌^◌, ℕ, ℤ, pos, ◌+ℤ◌, ◌-ℤ◌, codes, true, false, [], ◌∷◌, arith, refl, ap, ◌∙◌}
use Rattle.sqlite.specs.Collation.TheVariants.{Binary}
use Rattle.sqlite.specs.declared.types.Value.TheVariants.{Null, Int, Text, Blob}
use Rattle.sqlite.specs.Listing.{understood}
use Rattle.sqlite.specs.Term.{lit, col, op2}
use Rattle.sqlite_sql.specs.declared.ops.ArithOp.TheVariants.{Add, Sub}
use Rattle.sqlite_sql.specs.declared.ops.BinaryOp.TheVariants.{Arith}
use Rattle.sqlite_sql.specs.declared.ops.CompareOp.TheVariants.{Eq}
use Rattle.sqlite_sql.specs.Ops.{binary}
use Rattle.sqlite_schema.specs.Rules.{passes_checks}
use Rattle.sqlite_tied.specs.Compute.{everything}
use Rattle.sqlite_typed.proofs.TestLemmas.{at_texts, at_ints, last_term, then_term, then_key, last_key}
use Rattle.sqlite_value.proofs.OrderLemmas.{value_cmp-Int, value_cmp-Text}
use Rattle.bh_rows.specs.Scan.{by_rowid, no_limit}
use Rattle.bh_rows.specs.Texts.{InsertText, UpdateText, SelectText, SortedText}
use Rattle.bh_tables.specs.Schema.{Octets, is_natural, is_small, host_schema, tenants_table, uploads_table, at}
use Rattle.bh_tables.specs.Typed.{Totals, tenant_form, TenantColumns, stored_tenant_form, tenant_columns, UploadRow, UploadColumns, stored_upload_form, upload_form, upload_columns, number}
use Rattle.bh_tables.specs.Shown.{is_tenant, by_tenant, shown_account, shown_quota, shown_used, is_upload, shown_kept}
use Rattle.bh_tables.proofs.Checked.{check_at}
use Rattle.bh_tables.proofs.UseTexts.{IsKept, kept_by, taken, added, taken_after}
use Rattle.bh_tables.proofs.Terms.{is}

-- ---- a row that the CHECKs let through keeps a number that can be added to and taken from

used_kept : (id : ℤ) (c : TenantColumns) → passes_checks tenants_table (Int id ∷ tenant_columns c.used c.row) ≡ true → IsKept c.used
used_kept id c h =
    let row = Int id ∷ tenant_columns c.used c.row in
    kept_by c.used (check_at tenants_table row (is_natural 6) (inr (inr (inr (inr (inl refl))))) h) (check_at tenants_table row (is_small 6) (inr (inr (inr (inr (inr (inl refl)))))) h)

upload_kept : (id : ℤ) (c : UploadColumns) → passes_checks uploads_table (Int id ∷ upload_columns c.kept c.row) ≡ true → IsKept c.kept
upload_kept id c h =
    let row = Int id ∷ upload_columns c.kept c.row in
    kept_by c.kept (check_at uploads_table row (is_natural 6) (inr (inr (inl refl))) h) (check_at uploads_table row (is_small 6) (inr (inr (inr (inl refl)))) h)

-- so many more, and so many less
pub changed : (n : ℤ) (more less : ℕ) → IsKept n → more < 2 ^ 62 → less < 2 ^ 62 → binary (Arith Sub) (binary (Arith Add) (Int n) (number more)) (number less) ≡ Int (n +ℤ pos more -ℤ pos less)
unfolding binary
changed n more less kept low small = ap (λ v. binary (Arith Sub) v (number less)) (added n more kept low) ∙ taken_after n more less kept low small

-- ---- of tenants

pub tenant_inserted : (tenant : Octets) (quota : ℕ) → InsertText stored_tenant_form host_schema 1 (at 1 tenants_table) (codes "INSERT INTO tenants (tenant, quota, next_version, next_upload, next_entry, used) VALUES (?1, ?2, 1, 1, 1, 0)") (Text tenant ∷ number quota ∷ [])
    (record { row = record { tenant = tenant; quota = quota; next_version = 1; next_upload = 1; next_entry = 1 }; used = pos 0 })
unfolding understood everything
tenant_inserted tenant quota = record {
  terms = lit Null ∷ col 0 0 ∷ col 0 1 ∷ lit (Int (pos 1)) ∷ lit (Int (pos 1)) ∷ lit (Int (pos 1)) ∷ lit (Int (pos 0)) ∷ [];
  width = 7;
  means = record { is = refl; plain = (refl, refl); unlisted = refl; whole = refl; given = refl };
  gives = refl;
  accepts = refl;
}

pub tenants_listed : (sums : Totals) → SortedText (tenant_form sums) host_schema 1 (codes "SELECT tenant, quota, used FROM tenants ORDER BY tenant, rowid") [] (λ _. true) (shown_quota sums) by_tenant no_limit
unfolding understood everything
tenants_listed sums = record {
  test = [];
  show = col 1 1 ∷ col 1 2 ∷ col 1 6 ∷ [];
  keys = (col 1 1, record { collation = Binary; descending = false }) ∷ by_rowid;
  names = codes "tenant" ∷ codes "quota" ∷ codes "used" ∷ [];
  means = record { is = refl; plain = (refl, refl); unlisted = refl; whole = refl; given = refl };
  low = refl;
  accepts = refl;
  tests = λ id t. refl;
  shows = λ id t. refl;
  orders = λ a b. then_key (value_cmp-Text a.1.tenant b.1.tenant) (last_key (value_cmp-Int a.0 b.0));
}

pub all_used_shown : (sums : Totals) → SelectText (tenant_form sums) host_schema 1 (codes "SELECT used FROM tenants ORDER BY rowid") [] (λ _. true) (shown_used sums) no_limit
unfolding understood everything
all_used_shown sums = record {
  test = [];
  show = col 1 6 ∷ [];
  names = codes "used" ∷ [];
  means = record { is = refl; plain = (refl, refl); unlisted = refl; whole = refl; given = refl };
  low = refl;
  accepts = refl;
  tests = λ id t. refl;
  shows = λ id t. refl;
}

pub account_shown : (sums : Totals) (tenant : Octets) → SelectText (tenant_form sums) host_schema 1 (codes "SELECT quota, next_version, next_upload, next_entry, used FROM tenants WHERE tenant = ?1 ORDER BY rowid") (Text tenant ∷ []) (is_tenant tenant) (shown_account sums) no_limit
unfolding understood everything
account_shown sums tenant = record {
  test = is 1 0 ∷ [];
  show = col 1 2 ∷ col 1 3 ∷ col 1 4 ∷ col 1 5 ∷ col 1 6 ∷ [];
  names = codes "quota" ∷ codes "next_version" ∷ codes "next_upload" ∷ codes "next_entry" ∷ codes "used" ∷ [];
  means = record { is = refl; plain = (refl, refl); unlisted = refl; whole = refl; given = refl };
  low = refl;
  accepts = refl;
  tests = λ id t. last_term (at_texts false Eq t.tenant tenant);
  shows = λ id t. refl;
}

-- with the number that the next entry takes
pub entry_used_set : (tenant : Octets) (entry more less : ℕ) → more < 2 ^ 62 → less < 2 ^ 62
    → UpdateText stored_tenant_form host_schema 1 (at 1 tenants_table) (codes "UPDATE tenants SET next_entry = ?2, used = used + ?3 - ?4 WHERE tenant = ?1") (Text tenant ∷ number entry ∷ number more ∷ number less ∷ [])
    (λ c. is_tenant tenant c.row) (λ c. record { row = record c.row { next_entry = entry }; used = c.used +ℤ pos more -ℤ pos less })
unfolding understood everything
entry_used_set tenant entry more less low small = record {
  test = is 1 0 ∷ [];
  show = col 1 0 ∷ col 1 0 ∷ col 1 1 ∷ col 1 2 ∷ col 1 3 ∷ col 1 4 ∷ col 0 1 ∷ op2 (Arith Sub) (op2 (Arith Add) (col 1 6) (col 0 2)) (col 0 3) ∷ [];
  means = record { is = refl; plain = (refl, refl); unlisted = refl; whole = refl; given = refl };
  accepts = refl;
  tests = λ id c. last_term (at_texts false Eq c.row.tenant tenant);
  shows = λ id c found was. ap (λ v. Int id ∷ Int id ∷ Text c.row.tenant ∷ number c.row.quota ∷ number c.row.next_version ∷ number c.row.next_upload ∷ number entry ∷ v ∷ []) (changed c.used more less (used_kept id c was.checked) low small);
}

-- with those that the next numbered version and the next entry take
pub numbers_used_set : (tenant : Octets) (version entry more less : ℕ) → more < 2 ^ 62 → less < 2 ^ 62
    → UpdateText stored_tenant_form host_schema 1 (at 1 tenants_table) (codes "UPDATE tenants SET next_version = ?2, next_entry = ?3, used = used + ?4 - ?5 WHERE tenant = ?1") (Text tenant ∷ number version ∷ number entry ∷ number more ∷ number less ∷ [])
    (λ c. is_tenant tenant c.row) (λ c. record { row = record c.row { next_version = version; next_entry = entry }; used = c.used +ℤ pos more -ℤ pos less })
unfolding understood everything
numbers_used_set tenant version entry more less low small = record {
  test = is 1 0 ∷ [];
  show = col 1 0 ∷ col 1 0 ∷ col 1 1 ∷ col 1 2 ∷ col 0 1 ∷ col 1 4 ∷ col 0 2 ∷ op2 (Arith Sub) (op2 (Arith Add) (col 1 6) (col 0 3)) (col 0 4) ∷ [];
  means = record { is = refl; plain = (refl, refl); unlisted = refl; whole = refl; given = refl };
  accepts = refl;
  tests = λ id c. last_term (at_texts false Eq c.row.tenant tenant);
  shows = λ id c found was. ap (λ v. Int id ∷ Int id ∷ Text c.row.tenant ∷ number c.row.quota ∷ number version ∷ number c.row.next_upload ∷ number entry ∷ v ∷ []) (changed c.used more less (used_kept id c was.checked) low small);
}

-- where rows go and none comes
pub used_taken : (tenant : Octets) (less : ℕ) → less < 2 ^ 62
    → UpdateText stored_tenant_form host_schema 1 (at 1 tenants_table) (codes "UPDATE tenants SET used = used - ?2 WHERE tenant = ?1") (Text tenant ∷ number less ∷ [])
    (λ c. is_tenant tenant c.row) (λ c. record c { used = c.used -ℤ pos less })
unfolding understood everything binary
used_taken tenant less small = record {
  test = is 1 0 ∷ [];
  show = col 1 0 ∷ col 1 0 ∷ col 1 1 ∷ col 1 2 ∷ col 1 3 ∷ col 1 4 ∷ col 1 5 ∷ op2 (Arith Sub) (col 1 6) (col 0 1) ∷ [];
  means = record { is = refl; plain = (refl, refl); unlisted = refl; whole = refl; given = refl };
  accepts = refl;
  tests = λ id c. last_term (at_texts false Eq c.row.tenant tenant);
  shows = λ id c found was. ap (λ v. Int id ∷ Int id ∷ Text c.row.tenant ∷ number c.row.quota ∷ number c.row.next_version ∷ number c.row.next_upload ∷ number c.row.next_entry ∷ v ∷ []) (taken c.used less (used_kept id c was.checked) small);
}

-- ---- of uploads

pub upload_inserted : (u : UploadRow) → InsertText stored_upload_form host_schema 7 (at 16 uploads_table) (codes "INSERT INTO uploads (tenant, upload, bucket, okey, begun, bytes_kept) VALUES (?1, ?2, ?3, ?4, ?5, 0)") (Text u.tenant ∷ number u.upload ∷ Text u.bucket ∷ Blob u.okey ∷ number u.begun ∷ [])
    (record { row = u; kept = pos 0 })
unfolding understood everything
upload_inserted u = record {
  terms = lit Null ∷ col 0 0 ∷ col 0 1 ∷ col 0 2 ∷ col 0 3 ∷ col 0 4 ∷ lit (Int (pos 0)) ∷ [];
  width = 7;
  means = record { is = refl; plain = (refl, refl); unlisted = refl; whole = refl; given = refl };
  gives = refl;
  accepts = refl;
}

pub kept_set : (tenant : Octets) (upload more less : ℕ) → more < 2 ^ 62 → less < 2 ^ 62
    → UpdateText stored_upload_form host_schema 7 (at 16 uploads_table) (codes "UPDATE uploads SET bytes_kept = bytes_kept + ?3 - ?4 WHERE tenant = ?1 AND upload = ?2") (Text tenant ∷ number upload ∷ number more ∷ number less ∷ [])
    (λ c. is_upload tenant upload c.row) (λ c. record c { kept = c.kept +ℤ pos more -ℤ pos less })
unfolding understood everything
kept_set tenant upload more less low small = record {
  test = is 1 0 ∷ is 2 1 ∷ [];
  show = col 1 0 ∷ col 1 0 ∷ col 1 1 ∷ col 1 2 ∷ col 1 3 ∷ col 1 4 ∷ col 1 5 ∷ op2 (Arith Sub) (op2 (Arith Add) (col 1 6) (col 0 2)) (col 0 3) ∷ [];
  means = record { is = refl; plain = (refl, refl); unlisted = refl; whole = refl; given = refl };
  accepts = refl;
  tests = λ id c. then_term (at_texts false Eq c.row.tenant tenant) (last_term (at_ints false Eq (pos c.row.upload) (pos upload)));
  shows = λ id c found was. ap (λ v. Int id ∷ Int id ∷ Text c.row.tenant ∷ number c.row.upload ∷ Text c.row.bucket ∷ Blob c.row.okey ∷ number c.row.begun ∷ v ∷ []) (changed c.kept more less (upload_kept id c was.checked) low small);
}

pub kept_shown : (sums : Totals) (tenant : Octets) (upload : ℕ) → SelectText (upload_form sums) host_schema 16 (codes "SELECT bytes_kept FROM uploads WHERE tenant = ?1 AND upload = ?2 ORDER BY rowid") (Text tenant ∷ number upload ∷ []) (is_upload tenant upload) (shown_kept sums) no_limit
unfolding understood everything
kept_shown sums tenant upload = record {
  test = is 1 0 ∷ is 2 1 ∷ [];
  show = col 1 6 ∷ [];
  names = codes "bytes_kept" ∷ [];
  means = record { is = refl; plain = (refl, refl); unlisted = refl; whole = refl; given = refl };
  low = refl;
  accepts = refl;
  tests = λ id u. then_term (at_texts false Eq u.tenant tenant) (last_term (at_ints false Eq (pos u.upload) (pos upload)));
  shows = λ id u. refl;
}
