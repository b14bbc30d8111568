-- The texts by which a tenant is removed: each deletes its rows of one table. And those that read what stands against it, and which bodies it has.
use Rattle.std.proofs.Common.{ℕ, pos, codes, [], ◌∷◌, false, refl}
use Rattle.sqlite.specs.Collation.TheVariants.{Binary}
use Rattle.sqlite.specs.declared.types.Value.TheVariants.{Int, Text}
use Rattle.sqlite.specs.Listing.{understood}
use Rattle.sqlite.specs.Term.{lit, col, op2}
use Rattle.sqlite_sql.specs.declared.ops.BinaryOp.TheVariants.{Compare}
use Rattle.sqlite_sql.specs.declared.ops.CompareOp.TheVariants.{Eq, Gt}
use Rattle.sqlite_tied.specs.Compute.{everything}
use Rattle.sqlite_typed.specs.Tests.{bytes_eq}
use Rattle.sqlite_typed.proofs.TestLemmas.{at_texts, at_ints, last_term, then_term}
use Rattle.bh_rows.specs.Scan.{no_limit}
use Rattle.bh_rows.specs.Texts.{DeleteText, SelectText, SumText}
use Rattle.bh_tables.specs.Schema.{Octets, host_schema, tenants_table, keys_table, buckets_table, versions_table, uploads_table, parts_table, locks_table, retains_table, tallies_table, at}
use Rattle.bh_tables.specs.Typed.{is_tally, stored_tenant_form, key_form, bucket_form, version_form, stored_upload_form, part_form, lock_form, retain_form, tally_form, number}
use Rattle.bh_tables.specs.Shown.{is_tenant, is_owned_key, is_owned_bucket, is_owned_upload, is_owned_lock, is_owned_retain, is_kept_after}
use Rattle.bh_tables.proofs.Terms.{is}

-- ---- rows go

pub its_retains_deleted : (tenant : Octets) → DeleteText retain_form host_schema 11 (at 28 retains_table) (codes "DELETE FROM retains WHERE tenant = ?1") (Text tenant ∷ []) (is_owned_retain tenant)
unfolding understood everything
its_retains_deleted tenant = record {
  test = is 1 0 ∷ [];
  means = record { is = refl; plain = (refl, refl); unlisted = refl; whole = refl; given = refl };
  accepts = refl;
  tests = λ id r. last_term (at_texts false Eq r.tenant tenant);
}

pub its_locks_deleted : (tenant : Octets) → DeleteText lock_form host_schema 10 (at 26 locks_table) (codes "DELETE FROM locks WHERE tenant = ?1") (Text tenant ∷ []) (is_owned_lock tenant)
unfolding understood everything
its_locks_deleted tenant = record {
  test = is 1 0 ∷ [];
  means = record { is = refl; plain = (refl, refl); unlisted = refl; whole = refl; given = refl };
  accepts = refl;
  tests = λ id l. last_term (at_texts false Eq l.tenant tenant);
}

pub its_keys_deleted : (tenant : Octets) → DeleteText key_form host_schema 2 (at 3 keys_table) (codes "DELETE FROM keys WHERE tenant = ?1") (Text tenant ∷ []) (is_owned_key tenant)
unfolding understood everything
its_keys_deleted tenant = record {
  test = is 1 0 ∷ [];
  means = record { is = refl; plain = (refl, refl); unlisted = refl; whole = refl; given = refl };
  accepts = refl;
  tests = λ id k. last_term (at_texts false Eq k.tenant tenant);
}

pub its_tally_deleted : (tenant : Octets) → DeleteText tally_form host_schema 12 (at 30 tallies_table) (codes "DELETE FROM tallies WHERE tenant = ?1") (Text tenant ∷ []) (is_tally tenant)
unfolding understood everything
its_tally_deleted tenant = record {
  test = is 1 0 ∷ [];
  means = record { is = refl; plain = (refl, refl); unlisted = refl; whole = refl; given = refl };
  accepts = refl;
  tests = λ id t. last_term (at_texts false Eq t.tenant tenant);
}

pub its_versions_deleted : (tenant : Octets) → DeleteText version_form host_schema 4 (at 7 versions_table) (codes "DELETE FROM versions WHERE tenant = ?1") (Text tenant ∷ []) (λ v. bytes_eq v.tenant tenant)
unfolding understood everything
its_versions_deleted tenant = record {
  test = is 1 0 ∷ [];
  means = record { is = refl; plain = (refl, refl); unlisted = refl; whole = refl; given = refl };
  accepts = refl;
  tests = λ id v. last_term (at_texts false Eq v.tenant tenant);
}

pub its_buckets_deleted : (tenant : Octets) → DeleteText bucket_form host_schema 3 (at 5 buckets_table) (codes "DELETE FROM buckets WHERE tenant = ?1") (Text tenant ∷ []) (is_owned_bucket tenant)
unfolding understood everything
its_buckets_deleted tenant = record {
  test = is 1 0 ∷ [];
  means = record { is = refl; plain = (refl, refl); unlisted = refl; whole = refl; given = refl };
  accepts = refl;
  tests = λ id b. last_term (at_texts false Eq b.tenant tenant);
}

pub its_parts_deleted : (tenant : Octets) → DeleteText part_form host_schema 8 (at 18 parts_table) (codes "DELETE FROM parts WHERE tenant = ?1") (Text tenant ∷ []) (λ p. bytes_eq p.tenant tenant)
unfolding understood everything
its_parts_deleted tenant = record {
  test = is 1 0 ∷ [];
  means = record { is = refl; plain = (refl, refl); unlisted = refl; whole = refl; given = refl };
  accepts = refl;
  tests = λ id p. last_term (at_texts false Eq p.tenant tenant);
}

-- rows beside which sums are kept, as they are stored

pub its_uploads_deleted : (tenant : Octets) → DeleteText stored_upload_form host_schema 7 (at 16 uploads_table) (codes "DELETE FROM uploads WHERE tenant = ?1") (Text tenant ∷ []) (λ c. is_owned_upload tenant c.row)
unfolding understood everything
its_uploads_deleted tenant = record {
  test = is 1 0 ∷ [];
  means = record { is = refl; plain = (refl, refl); unlisted = refl; whole = refl; given = refl };
  accepts = refl;
  tests = λ id c. last_term (at_texts false Eq c.row.tenant tenant);
}

pub tenant_deleted : (tenant : Octets) → DeleteText stored_tenant_form host_schema 1 (at 1 tenants_table) (codes "DELETE FROM tenants WHERE tenant = ?1") (Text tenant ∷ []) (λ c. is_tenant tenant c.row)
unfolding understood everything
tenant_deleted tenant = record {
  test = is 1 0 ∷ [];
  means = record { is = refl; plain = (refl, refl); unlisted = refl; whole = refl; given = refl };
  accepts = refl;
  tests = λ id c. last_term (at_texts false Eq c.row.tenant tenant);
}

-- ---- rows are read

-- 1 for each date that is not over
pub its_dates_counted : (tenant : Octets) (moment : ℕ) → SumText retain_form host_schema 28 (codes "SELECT coalesce(sum(1), 0) FROM retains WHERE tenant = ?1 AND until > ?2") (Text tenant ∷ number moment ∷ []) (is_kept_after tenant moment) (λ _. 1)
unfolding understood everything
its_dates_counted tenant moment = record {
  test = is 1 0 ∷ op2 (Compare Gt Binary) (col 1 3) (col 0 1) ∷ [];
  argument = lit (Int (pos 1));
  names = codes "coalesce(sum(1), 0)" ∷ [];
  means = record { is = refl; plain = (refl, refl); unlisted = refl; whole = refl; given = refl };
  low = refl;
  accepts = refl;
  tests = λ id r. then_term (at_texts false Eq r.tenant tenant) (last_term (at_ints false Gt (pos r.until) (pos moment)));
  reads = λ id r. refl;
}

pub its_entries_listed : (tenant : Octets) → SelectText version_form host_schema 7 (codes "SELECT seq FROM versions WHERE tenant = ?1 ORDER BY rowid") (Text tenant ∷ []) (λ v. bytes_eq v.tenant tenant) (λ v. number v.seq ∷ []) no_limit
unfolding understood everything
its_entries_listed tenant = record {
  test = is 1 0 ∷ [];
  show = col 1 2 ∷ [];
  names = codes "seq" ∷ [];
  means = record { is = refl; plain = (refl, refl); unlisted = refl; whole = refl; given = refl };
  low = refl;
  accepts = refl;
  tests = λ id v. last_term (at_texts false Eq v.tenant tenant);
  shows = λ id v. refl;
}

pub its_bodies_listed : (tenant : Octets) → SelectText part_form host_schema 18 (codes "SELECT body FROM parts WHERE tenant = ?1 ORDER BY rowid") (Text tenant ∷ []) (λ p. bytes_eq p.tenant tenant) (λ p. number p.body ∷ []) no_limit
unfolding understood everything
its_bodies_listed tenant = record {
  test = is 1 0 ∷ [];
  show = col 1 7 ∷ [];
  names = codes "body" ∷ [];
  means = record { is = refl; plain = (refl, refl); unlisted = refl; whole = refl; given = refl };
  low = refl;
  accepts = refl;
  tests = λ id p. last_term (at_texts false Eq p.tenant tenant);
  shows = λ id p. refl;
}
