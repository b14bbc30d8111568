-- The texts over uploads, and the one that sets the number that the next upload takes.
use Rattle.std.proofs.Common.{inl, inr, ◌≡◌, ℕ, ℤ, pos, zero-le, codes, [], ◌∷◌, ◌&&◌, true, false, refl, sym, ap, ◌∙◌, int_cmp}
use Rattle.std.specs.List.{list_any}
use Rattle.std.specs.Cmp.Derive.{both_true}
use Rattle.std.specs.Ordering.{int_eq}
use Rattle.std.proofs.lemmas.Bool.{and_parts}
use Rattle.sqlite.specs.Collation.TheVariants.{Binary}
use Rattle.sqlite.specs.declared.types.Value.TheVariants.{Int, Text}
use Rattle.sqlite.specs.Edit.{next_rowid}
use Rattle.sqlite.specs.Effect.{Database}
use Rattle.sqlite.specs.Listing.{understood}
use Rattle.sqlite.specs.Term.{lit, col, op2}
use Rattle.sqlite_sql.specs.declared.ops.BinaryOp.TheVariants.{Compare}
use Rattle.sqlite_sql.specs.declared.ops.CompareOp.TheVariants.{Eq, Lt}
use Rattle.sqlite_value.specs.Keys.{plain, ascending, first_key}
use Rattle.sqlite_value.proofs.OrderLemmas.{value_cmp-Int, value_cmp-Blob}
use Rattle.sqlite_schema.specs.Rules.{agree}
use Rattle.sqlite_tied.specs.Compute.{everything}
use Rattle.sqlite_keyed.proofs.KeyedLemmas.{same_int}
use Rattle.sqlite_typed.specs.Tests.{bytes_eq, bytes_cmp}
use Rattle.sqlite_typed.proofs.TestLemmas.{same_bytes, at_texts, at_ints, last_term, then_term, then_key, last_key}
use Rattle.bh_rows.specs.Form.{put, typed}
use Rattle.bh_rows.specs.Keys.{Pointer, points_at}
use Rattle.bh_rows.specs.Scan.{by_rowid, no_limit}
use Rattle.bh_rows.specs.Texts.{AreFree, MayAdd, MayChange, UpdateText, DeleteText, SelectText, SortedText, SumText}
use Rattle.bh_rows.proofs.DeleteErrors.{none_points, none_named}
use Rattle.bh_rows.proofs.FormLemmas.{any_typed}
use Rattle.bh_rows.proofs.ScanLemmas.{then_assoc}
use Rattle.bh_tables.specs.Schema.{Octets, host_schema, tenants_table, uploads_table, at}
use Rattle.bh_tables.specs.Typed.{Totals, UploadRow, UploadColumns, stored_upload_form, PartColumns, bucket_form, tenant_form, upload_form, part_form, number, IsHostBy, tables_in}
use Rattle.bh_tables.specs.Bodies.{bare_part}
use Rattle.bh_tables.specs.Shown.{is_tenant, is_bucket, is_upload, is_upload_in, is_part_of, by_key, shown_upload, shown_number, is_begun_before, by_begun, is_owned_upload}
use Rattle.bh_tables.proofs.Checked.{upload_checked, tenant_checked_still}
use Rattle.bh_tables.proofs.PartTexts.{any_in_parts}
use Rattle.bh_tables.proofs.Places.{Goes, uploads}
use Rattle.bh_tables.proofs.Terms.{is, one_row}
use Rattle.bh_tables.proofs.Unfilled.{unfilled_none, none_names}

module _ (sums : Totals) where
  -- ---- an upload in a bucket, whose number no other has, may be added

  upload_agrees : (i j : ℤ) (a : UploadRow) (b : UploadColumns) → agree plain (1 ∷ 2 ∷ []) (put (upload_form sums) (i, a)) (1 ∷ 2 ∷ []) (put stored_upload_form (j, b)) ≡ is_upload b.row.tenant b.row.upload a
  unfolding first_key
  upload_agrees i j a b = then_term (at_texts false Eq a.tenant b.row.tenant) (last_term (at_ints false Eq (pos a.upload) (pos b.row.upload)))

  -- of which nothing is kept
  pub new_upload : (db : Database) → IsHostBy sums db → (u : UploadRow) → list_any (is_upload u.tenant u.upload) (tables_in db).uploads ≡ false → list_any (is_bucket u.tenant u.bucket) (tables_in db).buckets ≡ true
      → MayAdd stored_upload_form host_schema (at 16 uploads_table) db.trees (record { row = u; kept = pos 0 })
  unfolding everything
  new_upload db host u free owned = record {
    suits = record { typed = refl; present = refl; checked = upload_checked (next_rowid (db.trees 16)) 0 u zero-le };
    free = (any_typed (upload_form sums) _ (is_upload u.tenant u.upload) (λ id a. upload_agrees id (next_rowid (db.trees 16)) a (record { row = u; kept = pos 0 })) (db.trees 16) host.held.uploads ∙ free, tt);
    parents = ap (λ c. c && true) (any_typed bucket_form _ (is_bucket u.tenant u.bucket) (λ id b. then_term (at_texts false Eq b.tenant u.tenant) (last_term (at_texts false Eq b.bucket u.bucket))) (db.trees 5) host.held.buckets ∙ owned);
  }

  -- and one that was added had a number that no other had
  pub upload_free : (db : Database) → IsHostBy sums db → (x : UploadColumns) → AreFree stored_upload_form host_schema (at 16 uploads_table) (db.trees 16) (put stored_upload_form (next_rowid (db.trees 16), x))
      → list_any (is_upload x.row.tenant x.row.upload) (tables_in db).uploads ≡ false
  unfolding everything
  upload_free db host x free = sym (any_typed (upload_form sums) _ (is_upload x.row.tenant x.row.upload) (λ id a. upload_agrees id (next_rowid (db.trees 16)) a x) (db.trees 16) host.held.uploads) ∙ free.0

  -- ---- an upload that no part names may go

  abbrev to_uploads : Pointer
  to_uploads = record { child = 18; columns = 1 ∷ 2 ∷ []; places = 1 ∷ 2 ∷ []; order = plain }

  lies_in : (i : ℤ) (p : PartColumns) (j : ℤ) (u : UploadRow) → points_at to_uploads (put part_form (i, p)) (put (upload_form sums) (j, u)) ≡ (bytes_eq p.tenant u.tenant && int_eq (pos p.upload) (pos u.upload))
  unfolding first_key
  lies_in i p j u = then_term (at_texts false Eq p.tenant u.tenant) (last_term (at_ints false Eq (pos p.upload) (pos u.upload)))

  named : (tenant : Octets) (upload : ℕ) (p : PartColumns) (u : UploadRow) → (bytes_eq p.tenant u.tenant && int_eq (pos p.upload) (pos u.upload)) ≡ true → is_upload tenant upload u ≡ true → is_part_of tenant upload (bare_part p) ≡ true
  named tenant upload p u lies is =
      let both = and_parts _ _ is in
      let its = and_parts _ _ lies in
      both_true (ap (bytes_eq p.tenant) (sym (same_bytes u.tenant tenant both.0)) ∙ its.0) (ap (λ n. int_eq (pos p.upload) n) (sym (same_int (pos u.upload) (pos upload) both.1)) ∙ its.1)

  pub upload_goes : (db : Database) → IsHostBy sums db → (tenant : Octets) (upload : ℕ) → list_any (is_part_of tenant upload) (tables_in db).parts ≡ false → Goes (uploads sums) db.trees (is_upload tenant upload)
  unfolding everything
  upload_goes db host tenant upload empty = (
    none_points (upload_form sums) part_form (db.trees 16) (db.trees 18) to_uploads (is_upload tenant upload) (λ p u. bytes_eq p.tenant u.tenant && int_eq (pos p.upload) (pos u.upload)) lies_in host.held.uploads host.held.parts
        (none_named (λ p u. bytes_eq p.tenant u.tenant && int_eq (pos p.upload) (pos u.upload)) (is_upload tenant upload) (λ p. is_part_of tenant upload (bare_part p)) (named tenant upload) (tables_in db).uploads (typed part_form (db.trees 18)) (sym (any_in_parts db (is_part_of tenant upload)) ∙ empty)),
    (none_names _ (db.trees 39) (unfilled_none db host 39 (inr (inl refl))), tt),
  )

  -- ---- the texts

  pub upload_shown : (tenant : Octets) (upload : ℕ) → SelectText (upload_form sums) host_schema 16 (codes "SELECT bucket, okey, begun FROM uploads WHERE tenant = ?1 AND upload = ?2 ORDER BY rowid") (Text tenant ∷ number upload ∷ []) (is_upload tenant upload) shown_upload no_limit
  unfolding understood everything
  upload_shown tenant upload = record {
    test = is 1 0 ∷ is 2 1 ∷ [];
    show = col 1 3 ∷ col 1 4 ∷ col 1 5 ∷ [];
    names = codes "bucket" ∷ codes "okey" ∷ codes "begun" ∷ [];
    means = record { is = refl; plain = (refl, refl); unlisted = refl; whole = refl; given = refl };
    low = refl;
    accepts = refl;
    tests = λ id u. then_term (at_texts false Eq u.tenant tenant) (last_term (at_ints false Eq (pos u.upload) (pos upload)));
    shows = λ id u. refl;
  }

  pub bucket_upload_shown : (tenant bucket : Octets)
      → SortedText (upload_form sums) host_schema 16 (codes "SELECT upload FROM uploads WHERE tenant = ?1 AND bucket = ?2 ORDER BY okey, upload, rowid LIMIT 1") (Text tenant ∷ Text bucket ∷ []) (is_upload_in tenant bucket) shown_number by_key one_row
  unfolding understood everything
  bucket_upload_shown tenant bucket = record {
    test = is 1 0 ∷ is 3 1 ∷ [];
    show = col 1 2 ∷ [];
    keys = (col 1 4, ascending Binary) ∷ (col 1 2, ascending Binary) ∷ by_rowid;
    names = codes "upload" ∷ [];
    means = record { is = refl; plain = (refl, refl); unlisted = refl; whole = refl; given = refl };
    low = refl;
    accepts = refl;
    tests = λ id u. then_term (at_texts false Eq u.tenant tenant) (last_term (at_texts false Eq u.bucket bucket));
    shows = λ id u. refl;
    orders = λ a b. then_key (value_cmp-Blob a.1.okey b.1.okey) (then_key (value_cmp-Int (pos a.1.upload) (pos b.1.upload)) (last_key (value_cmp-Int a.0 b.0))) ∙ sym (then_assoc (bytes_cmp a.1.okey b.1.okey) (int_cmp (pos a.1.upload) (pos b.1.upload)) (int_cmp a.0 b.0));
  }

  pub stale_listed : (tenant bucket : Octets) (moment : ℕ)
      → SortedText (upload_form sums) host_schema 16 (codes "SELECT upload FROM uploads WHERE tenant = ?1 AND bucket = ?2 AND begun < ?3 ORDER BY begun, upload, rowid") (Text tenant ∷ Text bucket ∷ number moment ∷ []) (is_begun_before tenant bucket moment) shown_number by_begun no_limit
  unfolding understood everything
  stale_listed tenant bucket moment = record {
    test = is 1 0 ∷ is 3 1 ∷ op2 (Compare Lt Binary) (col 1 5) (col 0 2) ∷ [];
    show = col 1 2 ∷ [];
    keys = (col 1 5, ascending Binary) ∷ (col 1 2, ascending Binary) ∷ by_rowid;
    names = codes "upload" ∷ [];
    means = record { is = refl; plain = (refl, refl); unlisted = refl; whole = refl; given = refl };
    low = refl;
    accepts = refl;
    tests = λ id u. then_term (at_texts false Eq u.tenant tenant) (then_term (at_texts false Eq u.bucket bucket) (last_term (at_ints false Lt (pos u.begun) (pos moment))));
    shows = λ id u. refl;
    orders = λ a b. then_key (value_cmp-Int (pos a.1.begun) (pos b.1.begun)) (then_key (value_cmp-Int (pos a.1.upload) (pos b.1.upload)) (last_key (value_cmp-Int a.0 b.0))) ∙ sym (then_assoc (int_cmp (pos a.1.begun) (pos b.1.begun)) (int_cmp (pos a.1.upload) (pos b.1.upload)) (int_cmp a.0 b.0));
  }

  -- 1 for each row
  pub uploads_counted : (tenant : Octets) → SumText (upload_form sums) host_schema 16 (codes "SELECT coalesce(sum(1), 0) FROM uploads WHERE tenant = ?1") (Text tenant ∷ []) (is_owned_upload tenant) (λ _. 1)
  unfolding understood everything
  uploads_counted tenant = record {
    test = is 1 0 ∷ [];
    argument = lit (Int (pos 1));
    names = codes "coalesce(sum(1), 0)" ∷ [];
    means = record { is = refl; plain = (refl, refl); unlisted = refl; whole = refl; given = refl };
    low = refl;
    accepts = refl;
    tests = λ id u. last_term (at_texts false Eq u.tenant tenant);
    reads = λ id u. refl;
  }

  pub upload_deleted : (tenant : Octets) (upload : ℕ) → DeleteText (upload_form sums) host_schema 7 (at 16 uploads_table) (codes "DELETE FROM uploads WHERE tenant = ?1 AND upload = ?2") (Text tenant ∷ number upload ∷ []) (is_upload tenant upload)
  unfolding understood everything
  upload_deleted tenant upload = record {
    test = is 1 0 ∷ is 2 1 ∷ [];
    means = record { is = refl; plain = (refl, refl); unlisted = refl; whole = refl; given = refl };
    accepts = refl;
    tests = λ id u. then_term (at_texts false Eq u.tenant tenant) (last_term (at_ints false Eq (pos u.upload) (pos upload)));
  }

  -- ---- of tenants

  pub next_upload_set : (tenant : Octets) (n : ℕ) → UpdateText (tenant_form sums) host_schema 1 (at 1 tenants_table) (codes "UPDATE tenants SET next_upload = ?2 WHERE tenant = ?1") (Text tenant ∷ number n ∷ []) (is_tenant tenant) (λ t. record t { next_upload = n })
  unfolding understood everything
  next_upload_set tenant n = record {
    test = is 1 0 ∷ [];
    show = col 1 0 ∷ col 1 0 ∷ col 1 1 ∷ col 1 2 ∷ col 1 3 ∷ col 0 1 ∷ col 1 5 ∷ col 1 6 ∷ [];
    means = record { is = refl; plain = (refl, refl); unlisted = refl; whole = refl; given = refl };
    accepts = refl;
    tests = λ id t. last_term (at_texts false Eq t.tenant tenant);
    shows = λ id t found was. refl;
  }

  pub next_upload_may : (tenant : Octets) (n : ℕ) → MayChange (tenant_form sums) host_schema (at 1 tenants_table) (is_tenant tenant) (λ t. record t { next_upload = n })
  unfolding everything
  next_upload_may tenant n = record { suits = λ id t found was. record { typed = refl; present = refl; checked = tenant_checked_still id (sums.used t.tenant) t (record t { next_upload = n }) was.checked }; unwatched = λ id t found. refl }
