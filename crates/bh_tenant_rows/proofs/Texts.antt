-- The texts that read a tenant's rows.
use Rattle.std.proofs.Common.{codes, [], ◌∷◌, true, false, refl}
use Rattle.sqlite.specs.Listing.{understood}
use Rattle.sqlite.specs.Term.{col}
use Rattle.sqlite_sql.specs.declared.ops.CompareOp.TheVariants.{Eq}
use Rattle.sqlite_tied.specs.Compute.{everything}
use Rattle.sqlite_typed.proofs.TestLemmas.{at_texts, last_term}
use Rattle.bh_rows.specs.Scan.{no_limit}
use Rattle.bh_rows.specs.Texts.{SelectText}
use Rattle.bh_tables.specs.Schema.{host_schema}
use Rattle.bh_tables.specs.Typed.{Totals, tenant_form}
use Rattle.bh_tables.proofs.Terms.{is}
use Rattle.bh_tenant_rows.specs.Shown.{shown_name}
use Rattle.bh_tenant_rows.specs.Owned.{IsTextOf}
use Rattle.bh_tenant_rows.specs.declared.reads.Owned.TheVariants as owned

pub names_shown : (sums : Totals) → SelectText (tenant_form sums) host_schema 1 (codes "SELECT tenant FROM tenants ORDER BY rowid") [] (λ _. true) shown_name no_limit
unfolding understood everything
names_shown sums = record {
  test = [];
  show = col 1 1 ∷ [];
  names = codes "tenant" ∷ [];
  means = record { is = refl; plain = (refl, refl); unlisted = refl; whole = refl; given = refl };
  low = refl;
  accepts = refl;
  tests = λ id t. refl;
  shows = λ id t. refl;
}

pub keys_shown : IsTextOf owned.Keys (codes "SELECT name, secret FROM keys WHERE tenant = ?1 ORDER BY rowid")
unfolding understood everything
keys_shown tenant = record {
  test = is 1 0 ∷ [];
  show = col 1 2 ∷ col 1 3 ∷ [];
  names = codes "name" ∷ codes "secret" ∷ [];
  means = record { is = refl; plain = (refl, refl); unlisted = refl; whole = refl; given = refl };
  low = refl;
  accepts = refl;
  tests = λ id k. last_term (at_texts false Eq k.tenant tenant);
  shows = λ id k. refl;
}

pub buckets_shown : IsTextOf owned.Buckets (codes "SELECT bucket, created, state, days FROM buckets WHERE tenant = ?1 ORDER BY rowid")
unfolding understood everything
buckets_shown tenant = record {
  test = is 1 0 ∷ [];
  show = col 1 2 ∷ col 1 3 ∷ col 1 4 ∷ col 1 5 ∷ [];
  names = codes "bucket" ∷ codes "created" ∷ codes "state" ∷ codes "days" ∷ [];
  means = record { is = refl; plain = (refl, refl); unlisted = refl; whole = refl; given = refl };
  low = refl;
  accepts = refl;
  tests = λ id b. last_term (at_texts false Eq b.tenant tenant);
  shows = λ id b. refl;
}

pub locks_shown : IsTextOf owned.Locks (codes "SELECT bucket FROM locks WHERE tenant = ?1 ORDER BY rowid")
unfolding understood everything
locks_shown tenant = record {
  test = is 1 0 ∷ [];
  show = col 1 2 ∷ [];
  names = codes "bucket" ∷ [];
  means = record { is = refl; plain = (refl, refl); unlisted = refl; whole = refl; given = refl };
  low = refl;
  accepts = refl;
  tests = λ id l. last_term (at_texts false Eq l.tenant tenant);
  shows = λ id l. refl;
}

pub versions_shown : IsTextOf owned.Versions (codes "SELECT seq, bucket, okey, id, marker, stamp, size, sum FROM versions WHERE tenant = ?1 ORDER BY rowid")
unfolding understood everything
versions_shown tenant = record {
  test = is 1 0 ∷ [];
  show = col 1 2 ∷ col 1 3 ∷ col 1 4 ∷ col 1 5 ∷ col 1 6 ∷ col 1 7 ∷ col 1 8 ∷ col 1 9 ∷ [];
  names = codes "seq" ∷ codes "bucket" ∷ codes "okey" ∷ codes "id" ∷ codes "marker" ∷ codes "stamp" ∷ codes "size" ∷ codes "sum" ∷ [];
  means = record { is = refl; plain = (refl, refl); unlisted = refl; whole = refl; given = refl };
  low = refl;
  accepts = refl;
  tests = λ id v. last_term (at_texts false Eq v.tenant tenant);
  shows = λ id v. refl;
}

pub uploads_shown : IsTextOf owned.Uploads (codes "SELECT upload, bucket, okey, begun FROM uploads WHERE tenant = ?1 ORDER BY rowid")
unfolding understood everything
uploads_shown sums tenant = record {
  test = is 1 0 ∷ [];
  show = col 1 2 ∷ col 1 3 ∷ col 1 4 ∷ col 1 5 ∷ [];
  names = codes "upload" ∷ codes "bucket" ∷ codes "okey" ∷ codes "begun" ∷ [];
  means = record { is = refl; plain = (refl, refl); unlisted = refl; whole = refl; given = refl };
  low = refl;
  accepts = refl;
  tests = λ id u. last_term (at_texts false Eq u.tenant tenant);
  shows = λ id u. refl;
}

pub parts_shown : IsTextOf owned.Parts (codes "SELECT upload, number, size, sum, stamp, body FROM parts WHERE tenant = ?1 ORDER BY rowid")
unfolding understood everything
parts_shown tenant = record {
  test = is 1 0 ∷ [];
  show = col 1 2 ∷ col 1 3 ∷ col 1 4 ∷ col 1 5 ∷ col 1 6 ∷ col 1 7 ∷ [];
  names = codes "upload" ∷ codes "number" ∷ codes "size" ∷ codes "sum" ∷ codes "stamp" ∷ codes "body" ∷ [];
  means = record { is = refl; plain = (refl, refl); unlisted = refl; whole = refl; given = refl };
  low = refl;
  accepts = refl;
  tests = λ id p. last_term (at_texts false Eq p.tenant tenant);
  shows = λ id p. refl;
}

pub retains_shown : IsTextOf owned.Retains (codes "SELECT seq, until FROM retains WHERE tenant = ?1 ORDER BY rowid")
unfolding understood everything
retains_shown tenant = record {
  test = is 1 0 ∷ [];
  show = col 1 2 ∷ col 1 3 ∷ [];
  names = codes "seq" ∷ codes "until" ∷ [];
  means = record { is = refl; plain = (refl, refl); unlisted = refl; whole = refl; given = refl };
  low = refl;
  accepts = refl;
  tests = λ id r. last_term (at_texts false Eq r.tenant tenant);
  shows = λ id r. refl;
}
