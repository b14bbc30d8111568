-- The texts over buckets.
use Rattle.std.proofs.Common.{arith, ◌≡◌, ◌≤◌, nat_le, ℕ, ℤ, pos, codes, [], ◌∷◌, ◌&&◌, true, false, Option, None, Some, refl, sym, ap, ap₂, ◌∙◌, is_some, int_le}
use Rattle.std.specs.List.{list_any}
use Rattle.std.proofs.lemmas.Bool.{leb-true, and_parts}
use Rattle.sqlite.specs.Collation.TheVariants.{Binary}
use Rattle.sqlite.specs.declared.types.Value.TheVariants.{Null, Int, Text}
use Rattle.sqlite.specs.Edit.{next_rowid}
use Rattle.sqlite.specs.Effect.{Database}
use Rattle.sqlite.specs.Listing.{understood}
use Rattle.sqlite.specs.Term.{lit, col, op2}
use Rattle.sqlite_sql.specs.declared.ops.CompareOp.TheVariants.{Eq, Ge}
use Rattle.sqlite_value.specs.Keys.{plain, first_key}
use Rattle.sqlite_value.proofs.OrderLemmas.{value_cmp-Int, value_cmp-Text}
use Rattle.sqlite_schema.specs.Rules.{agree, passes_checks}
use Rattle.sqlite_tied.specs.Compute.{everything}
use Rattle.sqlite_sql.specs.declared.ops.BinaryOp.TheVariants.{Compare}
use Rattle.sqlite_sql.specs.Ops.{binary}
use Rattle.sqlite_typed.specs.Columns.{or_null}
use Rattle.sqlite_typed.specs.Tests.{bytes_eq, both_and}
use Rattle.std.proofs.lemmas.Int.{ints}
use Rattle.sqlite_typed.proofs.TestLemmas.{truth_or, same_bytes, at_texts, last_term, then_term, then_key, last_key, at_ints, at_nullable}
use Rattle.bh_rows.specs.Form.{put, typed}
use Rattle.bh_rows.specs.Keys.{Pointer, points_at, Suits}
use Rattle.bh_rows.specs.Scan.{by_rowid, no_limit}
use Rattle.bh_rows.specs.Texts.{MayAdd, MayChange, InsertText, UpdateText, DeleteText, SelectText, SortedText, SumText}
use Rattle.bh_rows.proofs.DeleteErrors.{none_points, none_named}
use Rattle.bh_rows.proofs.FormLemmas.{any_typed}
use Rattle.bh_tables.specs.Schema.{Octets, host_schema, buckets_table, at}
use Rattle.bh_tables.specs.Typed.{Totals, BucketRow, VersionColumns, UploadRow, LockRow, lock_form, bucket_form, tenant_form, version_form, upload_form, number, IsHostBy, tables_in}
use Rattle.bh_tables.specs.Bodies.{bare}
use Rattle.bh_tables.specs.Shown.{is_bucket, is_lock, is_in_bucket, is_upload_in, is_owned_bucket, is_tenant, by_bucket, shown_bucket, shown_entry, is_ruled, shown_rule}
use Rattle.bh_tables.proofs.Places.{Goes, buckets}
use Rattle.bh_tables.proofs.ResolvedLemmas.{any_resolved}
use Rattle.bh_tables.proofs.Checked.{bucket_checked, bucket_checked_still}
use Rattle.bh_tables.proofs.Terms.{is}

-- ---- a bucket of a tenant, whose name no other bucket of the tenant has, may be added

bucket_suits : (id : ℤ) (b : BucketRow) (days : Option ℕ) → b.state ≤ 2 → Suits (at 5 buckets_table) (put bucket_form (id, record b { days = days }))
bucket_suits id b None low = record { typed = refl; present = refl; checked = bucket_checked id (record b { days = None }) low }
bucket_suits id b (Some n) low = record { typed = refl; present = refl; checked = bucket_checked id (record b { days = Some n }) low }

bucket_agrees : (i j : ℤ) (a b : BucketRow) → agree plain (1 ∷ 2 ∷ []) (put bucket_form (i, a)) (1 ∷ 2 ∷ []) (put bucket_form (j, b)) ≡ is_bucket b.tenant b.bucket a
unfolding first_key
bucket_agrees i j a b = then_term (at_texts false Eq a.tenant b.tenant) (last_term (at_texts false Eq a.bucket b.bucket))

pub new_bucket : {sums : Totals} (db : Database) → IsHostBy sums db → (b : BucketRow) → nat_le b.state 2 ≡ true → list_any (is_bucket b.tenant b.bucket) (tables_in db).buckets ≡ false → list_any (is_tenant b.tenant) (tables_in db).tenants ≡ true
    → MayAdd bucket_form host_schema (at 5 buckets_table) db.trees b
unfolding everything
new_bucket {sums} db host b low free owned = record {
  suits = bucket_suits _ b b.days (leb-true _ _ low);
  free = (any_typed bucket_form _ (is_bucket b.tenant b.bucket) (λ id a. bucket_agrees id (next_rowid (db.trees 5)) a b) (db.trees 5) host.held.buckets ∙ free, tt);
  parents = ap (λ c. c && true) (any_typed (tenant_form sums) _ (is_tenant b.tenant) (λ id t. last_term (at_texts false Eq t.tenant b.tenant)) (db.trees 1) host.held.tenants ∙ owned);
}

-- ---- a bucket that no version, no upload and no lock names may go

-- the rows of the table in this tree name their bucket by columns 1 and 3
abbrev to_buckets : ℕ → Pointer
to_buckets child = record { child = child; columns = 1 ∷ 3 ∷ []; places = 1 ∷ 2 ∷ []; order = plain }

lies_in : (i : ℤ) (v : VersionColumns) (j : ℤ) (b : BucketRow) → points_at (to_buckets 7) (put version_form (i, v)) (put bucket_form (j, b)) ≡ (bytes_eq v.tenant b.tenant && bytes_eq v.bucket b.bucket)
unfolding first_key
lies_in i v j b = then_term (at_texts false Eq v.tenant b.tenant) (last_term (at_texts false Eq v.bucket b.bucket))

begun_in : (sums : Totals) (i : ℤ) (u : UploadRow) (j : ℤ) (b : BucketRow) → points_at (to_buckets 16) (put (upload_form sums) (i, u)) (put bucket_form (j, b)) ≡ (bytes_eq u.tenant b.tenant && bytes_eq u.bucket b.bucket)
unfolding first_key
begun_in sums i u j b = then_term (at_texts false Eq u.tenant b.tenant) (last_term (at_texts false Eq u.bucket b.bucket))

locked_by : Pointer
locked_by = record { child = 26; columns = 1 ∷ 2 ∷ []; places = 1 ∷ 2 ∷ []; order = plain }

locks : (i : ℤ) (l : LockRow) (j : ℤ) (b : BucketRow) → points_at locked_by (put lock_form (i, l)) (put bucket_form (j, b)) ≡ (bytes_eq l.tenant b.tenant && bytes_eq l.bucket b.bucket)
unfolding locked_by first_key
locks i l j b = then_term (at_texts false Eq l.tenant b.tenant) (last_term (at_texts false Eq l.bucket b.bucket))

-- what is in the row's bucket is in the bucket of this name
named : (tenant bucket mine its : Octets) (b : BucketRow) → (bytes_eq mine b.tenant && bytes_eq its b.bucket) ≡ true → is_bucket tenant bucket b ≡ true → (bytes_eq mine tenant && bytes_eq its bucket) ≡ true
named tenant bucket mine its b lies is =
    let both = and_parts _ _ is in
    ap₂ (λ t n. bytes_eq mine t && bytes_eq its n) (sym (same_bytes b.tenant tenant both.0)) (sym (same_bytes b.bucket bucket both.1)) ∙ lies

module _ {sums : Totals} (db : Database) (host : IsHostBy sums db) (tenant bucket : Octets) where
  no_version : list_any (is_in_bucket tenant bucket) (tables_in db).versions ≡ false → list_any (λ v. is_in_bucket tenant bucket (bare v)) (typed version_form (db.trees 7)) ≡ false
  no_version empty = sym (any_resolved (tables_in db).refs (tables_in db).blocks (is_in_bucket tenant bucket) (typed version_form (db.trees 7))) ∙ empty

  pub empty_goes : list_any (is_in_bucket tenant bucket) (tables_in db).versions ≡ false → list_any (is_upload_in tenant bucket) (tables_in db).uploads ≡ false → list_any (is_lock tenant bucket) (tables_in db).locks ≡ false
      → Goes (buckets sums) db.trees (is_bucket tenant bucket)
  unfolding everything locked_by
  empty_goes empty finished unlocked = (
    none_points bucket_form version_form (db.trees 5) (db.trees 7) (to_buckets 7) (is_bucket tenant bucket) (λ v b. bytes_eq v.tenant b.tenant && bytes_eq v.bucket b.bucket) lies_in host.held.buckets host.held.versions
        (none_named (λ v b. bytes_eq v.tenant b.tenant && bytes_eq v.bucket b.bucket) (is_bucket tenant bucket) (λ v. is_in_bucket tenant bucket (bare v)) (λ v b. named tenant bucket v.tenant v.bucket b) (tables_in db).buckets (typed version_form (db.trees 7)) (no_version empty)),
    (
      none_points bucket_form (upload_form sums) (db.trees 5) (db.trees 16) (to_buckets 16) (is_bucket tenant bucket) (λ u b. bytes_eq u.tenant b.tenant && bytes_eq u.bucket b.bucket) (begun_in sums) host.held.buckets host.held.uploads
          (none_named (λ u b. bytes_eq u.tenant b.tenant && bytes_eq u.bucket b.bucket) (is_bucket tenant bucket) (is_upload_in tenant bucket) (λ u b. named tenant bucket u.tenant u.bucket b) (tables_in db).buckets (tables_in db).uploads finished),
      (
        none_points bucket_form lock_form (db.trees 5) (db.trees 26) locked_by (is_bucket tenant bucket) (λ l b. bytes_eq l.tenant b.tenant && bytes_eq l.bucket b.bucket) locks host.held.buckets host.held.locks
            (none_named (λ l b. bytes_eq l.tenant b.tenant && bytes_eq l.bucket b.bucket) (is_bucket tenant bucket) (is_lock tenant bucket) (λ l b. named tenant bucket l.tenant l.bucket b) (tables_in db).buckets (tables_in db).locks unlocked),
        tt,
      ),
    ),
  )

-- ---- a state is one of three

pub state_may : (tenant bucket : Octets) (state : ℕ) → state ≤ 2 → MayChange bucket_form host_schema (at 5 buckets_table) (is_bucket tenant bucket) (λ b. record b { state = state })
unfolding everything
state_may tenant bucket state low = record { suits = λ id b found was. bucket_suits id (record b { state = state }) b.days low; unwatched = λ id b found. refl }

-- a bucket with other days
other_days : (id : ℤ) (b : BucketRow) (days : Option ℕ) → passes_checks (at 5 buckets_table) (put bucket_form (id, b)) ≡ true → Suits (at 5 buckets_table) (put bucket_form (id, record b { days = days }))
other_days id b None was = record { typed = refl; present = refl; checked = bucket_checked_still id b None was }
other_days id b (Some n) was = record { typed = refl; present = refl; checked = bucket_checked_still id b (Some n) was }

pub days_may : (tenant bucket : Octets) (days : Option ℕ) → MayChange bucket_form host_schema (at 5 buckets_table) (is_bucket tenant bucket) (λ b. record b { days = days })
unfolding everything
days_may tenant bucket days = record { suits = λ id b found was. other_days id b days was.checked; unwatched = λ id b found. refl }

-- ---- the texts

pub bucket_shown : (tenant bucket : Octets) → SelectText bucket_form host_schema 5 (codes "SELECT created, state, days FROM buckets WHERE tenant = ?1 AND bucket = ?2 ORDER BY rowid") (Text tenant ∷ Text bucket ∷ []) (is_bucket tenant bucket) shown_bucket no_limit
unfolding understood everything
bucket_shown tenant bucket = record {
  test = is 1 0 ∷ is 2 1 ∷ [];
  show = col 1 3 ∷ col 1 4 ∷ col 1 5 ∷ [];
  names = codes "created" ∷ codes "state" ∷ codes "days" ∷ [];
  means = record { is = refl; plain = (refl, refl); unlisted = refl; whole = refl; given = refl };
  low = refl;
  accepts = refl;
  tests = λ id b. then_term (at_texts false Eq b.tenant tenant) (last_term (at_texts false Eq b.bucket bucket));
  shows = λ id b. refl;
}

pub bucket_inserted : (tenant bucket : Octets) (created state : ℕ) → InsertText bucket_form host_schema 3 (at 5 buckets_table) (codes "INSERT INTO buckets (tenant, bucket, created, state, days) VALUES (?1, ?2, ?3, ?4, NULL)") (Text tenant ∷ Text bucket ∷ number created ∷ number state ∷ [])
    (record { tenant = tenant; bucket = bucket; created = created; state = state; days = None })
unfolding understood everything
bucket_inserted tenant bucket created state = record {
  terms = lit Null ∷ col 0 0 ∷ col 0 1 ∷ col 0 2 ∷ col 0 3 ∷ lit Null ∷ [];
  width = 6;
  means = record { is = refl; plain = (refl, refl); unlisted = refl; whole = refl; given = refl };
  gives = refl;
  accepts = refl;
}

pub buckets_listed : (tenant : Octets) → SortedText bucket_form host_schema 5 (codes "SELECT bucket, created FROM buckets WHERE tenant = ?1 ORDER BY bucket, rowid") (Text tenant ∷ []) (is_owned_bucket tenant) shown_entry by_bucket no_limit
unfolding understood everything
buckets_listed tenant = record {
  test = is 1 0 ∷ [];
  show = col 1 2 ∷ col 1 3 ∷ [];
  keys = (col 1 2, record { collation = Binary; descending = false }) ∷ by_rowid;
  names = codes "bucket" ∷ codes "created" ∷ [];
  means = record { is = refl; plain = (refl, refl); unlisted = refl; whole = refl; given = refl };
  low = refl;
  accepts = refl;
  tests = λ id b. last_term (at_texts false Eq b.tenant tenant);
  shows = λ id b. refl;
  orders = λ a b. then_key (value_cmp-Text a.1.bucket b.1.bucket) (last_key (value_cmp-Int a.0 b.0));
}

pub state_set : (tenant bucket : Octets) (state : ℕ) → UpdateText bucket_form host_schema 3 (at 5 buckets_table) (codes "UPDATE buckets SET state = ?3 WHERE tenant = ?1 AND bucket = ?2") (Text tenant ∷ Text bucket ∷ number state ∷ [])
    (is_bucket tenant bucket) (λ b. record b { state = state })
unfolding understood everything
state_set tenant bucket state = record {
  test = is 1 0 ∷ is 2 1 ∷ [];
  show = col 1 0 ∷ col 1 0 ∷ col 1 1 ∷ col 1 2 ∷ col 1 3 ∷ col 0 2 ∷ col 1 5 ∷ [];
  means = record { is = refl; plain = (refl, refl); unlisted = refl; whole = refl; given = refl };
  accepts = refl;
  tests = λ id b. then_term (at_texts false Eq b.tenant tenant) (last_term (at_texts false Eq b.bucket bucket));
  shows = λ id b found was. refl;
}

pub bucket_deleted : (tenant bucket : Octets) → DeleteText bucket_form host_schema 3 (at 5 buckets_table) (codes "DELETE FROM buckets WHERE tenant = ?1 AND bucket = ?2") (Text tenant ∷ Text bucket ∷ []) (is_bucket tenant bucket)
unfolding understood everything
bucket_deleted tenant bucket = record {
  test = is 1 0 ∷ is 2 1 ∷ [];
  means = record { is = refl; plain = (refl, refl); unlisted = refl; whole = refl; given = refl };
  accepts = refl;
  tests = λ id b. then_term (at_texts false Eq b.tenant tenant) (last_term (at_texts false Eq b.bucket bucket));
}

-- ---- rules

has_days : (o : Option ℕ) → truth_or false (binary (Compare Ge Binary) (or_null number o) (number 0)) ≡ is_some o
has_days o = at_nullable number false Ge (λ a b. int_le (pos b) (pos a)) (λ a b. at_ints false Ge (pos a) (pos b)) o (Some 0) ∙ go o
  where
    go : (o : Option ℕ) → both_and (λ a b. int_le (pos b) (pos a)) o (Some 0) ≡ is_some o
    go None = refl
    go (Some n) = grind (arith, ints)

pub rules_listed : (tenant : Octets) → SortedText bucket_form host_schema 5 (codes "SELECT bucket, days FROM buckets WHERE tenant = ?1 AND days >= 0 ORDER BY bucket, rowid") (Text tenant ∷ []) (is_ruled tenant) shown_rule by_bucket no_limit
unfolding understood everything
rules_listed tenant = record {
  test = is 1 0 ∷ op2 (Compare Ge Binary) (col 1 5) (lit (Int (pos 0))) ∷ [];
  show = col 1 2 ∷ col 1 5 ∷ [];
  keys = (col 1 2, record { collation = Binary; descending = false }) ∷ by_rowid;
  names = codes "bucket" ∷ codes "days" ∷ [];
  means = record { is = refl; plain = (refl, refl); unlisted = refl; whole = refl; given = refl };
  low = refl;
  accepts = refl;
  tests = λ id b. then_term (at_texts false Eq b.tenant tenant) (last_term (has_days b.days));
  shows = λ id b. refl;
  orders = λ a b. then_key (value_cmp-Text a.1.bucket b.1.bucket) (last_key (value_cmp-Int a.0 b.0));
}

pub days_set : (tenant bucket : Octets) (days : ℕ) → UpdateText bucket_form host_schema 3 (at 5 buckets_table) (codes "UPDATE buckets SET days = ?3 WHERE tenant = ?1 AND bucket = ?2") (Text tenant ∷ Text bucket ∷ number days ∷ [])
    (is_bucket tenant bucket) (λ b. record b { days = Some days })
unfolding understood everything
days_set tenant bucket days = record {
  test = is 1 0 ∷ is 2 1 ∷ [];
  show = col 1 0 ∷ col 1 0 ∷ col 1 1 ∷ col 1 2 ∷ col 1 3 ∷ col 1 4 ∷ col 0 2 ∷ [];
  means = record { is = refl; plain = (refl, refl); unlisted = refl; whole = refl; given = refl };
  accepts = refl;
  tests = λ id b. then_term (at_texts false Eq b.tenant tenant) (last_term (at_texts false Eq b.bucket bucket));
  shows = λ id b found was. refl;
}

pub days_cleared : (tenant bucket : Octets) → UpdateText bucket_form host_schema 3 (at 5 buckets_table) (codes "UPDATE buckets SET days = NULL WHERE tenant = ?1 AND bucket = ?2") (Text tenant ∷ Text bucket ∷ [])
    (is_bucket tenant bucket) (λ b. record b { days = None })
unfolding understood everything
days_cleared tenant bucket = record {
  test = is 1 0 ∷ is 2 1 ∷ [];
  show = col 1 0 ∷ col 1 0 ∷ col 1 1 ∷ col 1 2 ∷ col 1 3 ∷ col 1 4 ∷ lit Null ∷ [];
  means = record { is = refl; plain = (refl, refl); unlisted = refl; whole = refl; given = refl };
  accepts = refl;
  tests = λ id b. then_term (at_texts false Eq b.tenant tenant) (last_term (at_texts false Eq b.bucket bucket));
  shows = λ id b found was. refl;
}

-- 1 for each row
pub buckets_counted : (tenant : Octets) → SumText bucket_form host_schema 5 (codes "SELECT coalesce(sum(1), 0) FROM buckets WHERE tenant = ?1") (Text tenant ∷ []) (is_owned_bucket tenant) (λ _. 1)
unfolding understood everything
buckets_counted tenant = record {
  test = is 1 0 ∷ [];
  argument = lit (Int (pos 1));
  names = codes "coalesce(sum(1), 0)" ∷ [];
  means = record { is = refl; plain = (refl, refl); unlisted = refl; whole = refl; given = refl };
  low = refl;
  accepts = refl;
  tests = λ id b. last_term (at_texts false Eq b.tenant tenant);
  reads = λ id b. refl;
}
