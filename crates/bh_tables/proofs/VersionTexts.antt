-- The texts over versions.
use Rattle.std.proofs.Common.{inl, ◌≡◌, Bool, ℕ, ℤ, pos, codes, List, [], ◌∷◌, filter, ◌&&◌, true, false, true≢false, refl, sym, ap, ◌∙◌, int_cmp}
use Rattle.std.specs.List.{list_any}
use Rattle.sqlite.specs.declared.types.Value.TheVariants.{Null, Int, Text, Blob}
use Rattle.sqlite.specs.Collation.TheVariants.{Binary}
use Rattle.sqlite.specs.Edit.{next_rowid}
use Rattle.sqlite.specs.Effect.{Database}
use Rattle.sqlite.specs.Listing.{understood}
use Rattle.sqlite.specs.Term.{lit, col}
use Rattle.sqlite_sql.specs.declared.ops.CompareOp.TheVariants.{Eq}
use Rattle.sqlite_value.specs.Keys.{plain, ascending, first_key}
use Rattle.sqlite_value.proofs.OrderLemmas.{value_cmp-Int, value_cmp-Blob}
use Rattle.sqlite_rules.proofs.ListLemmas.{some_has, some_from, has_filtered}
use Rattle.sqlite_schema.specs.Rules.{agree}
use Rattle.std.proofs.lemmas.Bool.{and_from, false_from_ne_true}
use Rattle.sqlite_tied.specs.Compute.{everything}
use Rattle.sqlite_typed.proofs.TestLemmas.{at_texts, at_blobs, at_ints, last_term, then_term, last_key, then_key}
use Rattle.sqlite_typed.specs.Tests.{bytes_cmp}
use Rattle.bh_rows.specs.Form.{put, typed}
use Rattle.bh_rows.specs.Keys.{Pointer, points_at}
use Rattle.bh_rows.specs.Scan.{no_limit, by_rowid}
use Rattle.bh_rows.specs.Texts.{MayAdd, InsertText, DeleteText, SelectText, SortedText}
use Rattle.bh_rows.proofs.DeleteErrors.{none_points}
use Rattle.bh_rows.proofs.FormLemmas.{any_typed}
use Rattle.bh_rows.proofs.ScanLemmas.{then_assoc}
use Rattle.bh_tables.specs.Schema.{Octets, host_schema, versions_table, at}
use Rattle.bh_tables.specs.Typed.{Totals, VersionColumns, VersionRow, RetainRow, version_form, bucket_form, retain_form, number, IsHostBy, tables_in}
use Rattle.bh_tables.specs.Bodies.{bare, resolved}
use Rattle.bh_tables.specs.Shown.{is_version, is_retain, is_dated, is_at, is_in_bucket, is_entry, is_bucket, is_marked_right, newer, by_id, shown_head, shown_place, shown_seq}
use Rattle.bh_tables.proofs.Places.{Goes, versions}
use Rattle.bh_tables.proofs.ResolvedLemmas.{any_resolved}
use Rattle.bh_tables.proofs.Checked.{version_checked}
use Rattle.bh_tables.proofs.Terms.{is, one_row, two_rows}
use Rattle.bh_tables.proofs.Unfilled.{unfilled_none, none_names}

-- ---- a version in a bucket, whose entry number and whose id no other has, may be added

entry_agrees : (i j : ℤ) (a b : VersionColumns) → agree plain (1 ∷ 2 ∷ []) (put version_form (i, a)) (1 ∷ 2 ∷ []) (put version_form (j, b)) ≡ is_entry b.tenant b.seq (bare a)
unfolding first_key
entry_agrees i j a b = then_term (at_texts false Eq a.tenant b.tenant) (last_term (at_ints false Eq (pos a.seq) (pos b.seq)))

pub version_agrees : (i j : ℤ) (a b : VersionColumns) → agree plain (1 ∷ 3 ∷ 4 ∷ 5 ∷ []) (put version_form (i, a)) (1 ∷ 3 ∷ 4 ∷ 5 ∷ []) (put version_form (j, b)) ≡ is_version b.tenant b.bucket b.okey b.id (bare a)
unfolding first_key
version_agrees i j a b = then_term (at_texts false Eq a.tenant b.tenant) (then_term (at_texts false Eq a.bucket b.bucket) (then_term (at_blobs false Eq a.okey b.okey) (last_term (at_ints false Eq (pos a.id) (pos b.id)))))

pub new_version : {sums : Totals} (db : Database) → IsHostBy sums db → (v : VersionColumns) → is_marked_right (bare v) ≡ true → list_any (is_entry v.tenant v.seq) (tables_in db).versions ≡ false → list_any (is_version v.tenant v.bucket v.okey v.id) (tables_in db).versions ≡ false
    → list_any (is_bucket v.tenant v.bucket) (tables_in db).buckets ≡ true → MayAdd version_form host_schema (at 7 versions_table) db.trees v
unfolding everything
new_version {sums} db host v right unnumbered free owned = record {
  suits = record { typed = refl; present = refl; checked = version_checked (next_rowid (db.trees 7)) v right };
  free = (
    any_typed version_form _ (λ a. is_entry v.tenant v.seq (bare a)) (λ id a. entry_agrees id (next_rowid (db.trees 7)) a v) (db.trees 7) host.held.versions ∙ sym (any_in_it (is_entry v.tenant v.seq)) ∙ unnumbered,
    (any_typed version_form _ (λ a. is_version v.tenant v.bucket v.okey v.id (bare a)) (λ id a. version_agrees id (next_rowid (db.trees 7)) a v) (db.trees 7) host.held.versions ∙ sym (any_in_it (is_version v.tenant v.bucket v.okey v.id)) ∙ free, tt),
  );
  parents = ap (λ c. c && true) (any_typed bucket_form _ (is_bucket v.tenant v.bucket) (λ id b. then_term (at_texts false Eq b.tenant v.tenant) (last_term (at_texts false Eq b.bucket v.bucket))) (db.trees 5) host.held.buckets ∙ owned);
}
  where
    any_in_it : (m : VersionRow → Bool) → list_any m (tables_in db).versions ≡ list_any (λ c. m (resolved (tables_in db).refs (tables_in db).blocks c)) (typed version_form (db.trees 7))
    any_in_it m = any_resolved (tables_in db).refs (tables_in db).blocks m (typed version_form (db.trees 7))

-- ---- a version that has no date may go

to_versions : Pointer
to_versions = record { child = 28; columns = 1 ∷ 2 ∷ []; places = 1 ∷ 2 ∷ []; order = plain }

dates : (i : ℤ) (r : RetainRow) (j : ℤ) (v : VersionColumns) → points_at to_versions (put retain_form (i, r)) (put version_form (j, v)) ≡ is_retain v.tenant v.seq r
unfolding to_versions first_key
dates i r j v = then_term (at_texts false Eq r.tenant v.tenant) (last_term (at_ints false Eq (pos r.seq) (pos v.seq)))

pub undated_goes : {sums : Totals} (db : Database) → IsHostBy sums db → (tenant bucket okey : Octets) (id : ℕ)
    → list_any (λ v. is_version tenant bucket okey id v && is_dated (tables_in db).retains v) (tables_in db).versions ≡ false → Goes (versions sums) db.trees (λ v. is_version tenant bucket okey id (bare v))
unfolding everything to_versions
undated_goes db host tenant bucket okey id undated = (
  none_points version_form retain_form (db.trees 7) (db.trees 28) to_versions goes (λ r v. is_retain v.tenant v.seq r) dates host.held.versions host.held.retains
      (false_from_ne_true _ (λ some.
      let r = some_has (λ r. list_any (λ v. is_retain v.tenant v.seq r) (filter goes stored)) (tables_in db).retains some in
      let v = some_has (λ v. is_retain v.tenant v.seq r.0) (filter goes stored) r.2 in
      let found = has_filtered goes stored v.0 v.1 in
      let date = some_from (is_retain v.0.tenant v.0.seq) (tables_in db).retains r.0 r.1 v.2 in
      both_ways (some_from (λ c. goes c && is_dated (tables_in db).retains (bare c)) stored v.0 found.0 (and_from _ _ found.1 date)) none_stored)),
  (none_names _ (db.trees 37) (unfilled_none db host 37 (inl refl)), tt),
)
  where
    goes : VersionColumns → Bool
    goes v = is_version tenant bucket okey id (bare v)

    stored : List VersionColumns
    stored = typed version_form (db.trees 7)

    none_stored : list_any (λ c. goes c && is_dated (tables_in db).retains (bare c)) stored ≡ false
    none_stored = sym (any_resolved (tables_in db).refs (tables_in db).blocks (λ v. is_version tenant bucket okey id v && is_dated (tables_in db).retains v) stored) ∙ undated

    both_ways : {b : Bool} → b ≡ true → b ≡ false → ⊥
    both_ways is not_so = true≢false (sym is ∙ not_so)

-- ---- the texts

pub head_shown : (tenant bucket okey : Octets) (version : ℕ)
    → SelectText version_form host_schema 7 (codes "SELECT seq, id, marker, stamp, size, sum FROM versions WHERE tenant = ?1 AND bucket = ?2 AND okey = ?3 AND id = ?4 ORDER BY rowid") (Text tenant ∷ Text bucket ∷ Blob okey ∷ number version ∷ [])
    (λ v. is_version tenant bucket okey version (bare v)) (λ v. shown_head (bare v)) no_limit
unfolding understood everything
head_shown tenant bucket okey version = record {
  test = is 1 0 ∷ is 3 1 ∷ is 4 2 ∷ is 5 3 ∷ [];
  show = col 1 2 ∷ col 1 5 ∷ col 1 6 ∷ col 1 7 ∷ col 1 8 ∷ col 1 9 ∷ [];
  names = codes "seq" ∷ codes "id" ∷ codes "marker" ∷ codes "stamp" ∷ codes "size" ∷ codes "sum" ∷ [];
  means = record { is = refl; plain = (refl, refl); unlisted = refl; whole = refl; given = refl };
  low = refl;
  accepts = refl;
  tests = λ id v. then_term (at_texts false Eq v.tenant tenant) (then_term (at_texts false Eq v.bucket bucket) (then_term (at_blobs false Eq v.okey okey) (last_term (at_ints false Eq (pos v.id) (pos version)))));
  shows = λ id v. refl;
}

pub newest_shown : (tenant bucket okey : Octets)
    → SortedText version_form host_schema 7 (codes "SELECT seq, id, marker, stamp, size, sum FROM versions WHERE tenant = ?1 AND bucket = ?2 AND okey = ?3 ORDER BY seq DESC, rowid LIMIT 1") (Text tenant ∷ Text bucket ∷ Blob okey ∷ [])
    (λ v. is_at tenant bucket okey (bare v)) (λ v. shown_head (bare v)) (λ a b. newer (bare a) (bare b)) one_row
unfolding understood everything
newest_shown tenant bucket okey = record {
  test = is 1 0 ∷ is 3 1 ∷ is 4 2 ∷ [];
  show = col 1 2 ∷ col 1 5 ∷ col 1 6 ∷ col 1 7 ∷ col 1 8 ∷ col 1 9 ∷ [];
  keys = (col 1 2, record { collation = Binary; descending = true }) ∷ by_rowid;
  names = codes "seq" ∷ codes "id" ∷ codes "marker" ∷ codes "stamp" ∷ codes "size" ∷ codes "sum" ∷ [];
  means = record { is = refl; plain = (refl, refl); unlisted = refl; whole = refl; given = refl };
  low = refl;
  accepts = refl;
  tests = λ id v. then_term (at_texts false Eq v.tenant tenant) (then_term (at_texts false Eq v.bucket bucket) (last_term (at_blobs false Eq v.okey okey)));
  shows = λ id v. refl;
  orders = λ a b. then_key (value_cmp-Int (pos b.1.seq) (pos a.1.seq)) (last_key (value_cmp-Int a.0 b.0));
}

-- the two newest
pub newest_places_shown : (tenant bucket okey : Octets)
    → SortedText version_form host_schema 7 (codes "SELECT seq, id, marker FROM versions WHERE tenant = ?1 AND bucket = ?2 AND okey = ?3 ORDER BY seq DESC, rowid LIMIT 2") (Text tenant ∷ Text bucket ∷ Blob okey ∷ [])
    (λ v. is_at tenant bucket okey (bare v)) (λ v. shown_place (bare v)) (λ a b. newer (bare a) (bare b)) two_rows
unfolding understood everything
newest_places_shown tenant bucket okey = record {
  test = is 1 0 ∷ is 3 1 ∷ is 4 2 ∷ [];
  show = col 1 2 ∷ col 1 5 ∷ col 1 6 ∷ [];
  keys = (col 1 2, record { collation = Binary; descending = true }) ∷ by_rowid;
  names = codes "seq" ∷ codes "id" ∷ codes "marker" ∷ [];
  means = record { is = refl; plain = (refl, refl); unlisted = refl; whole = refl; given = refl };
  low = refl;
  accepts = refl;
  tests = λ id v. then_term (at_texts false Eq v.tenant tenant) (then_term (at_texts false Eq v.bucket bucket) (last_term (at_blobs false Eq v.okey okey)));
  shows = λ id v. refl;
  orders = λ a b. then_key (value_cmp-Int (pos b.1.seq) (pos a.1.seq)) (last_key (value_cmp-Int a.0 b.0));
}

pub place_shown : (tenant bucket okey : Octets) (version : ℕ)
    → SelectText version_form host_schema 7 (codes "SELECT seq, id, marker FROM versions WHERE tenant = ?1 AND bucket = ?2 AND okey = ?3 AND id = ?4 ORDER BY rowid") (Text tenant ∷ Text bucket ∷ Blob okey ∷ number version ∷ [])
    (λ v. is_version tenant bucket okey version (bare v)) (λ v. shown_place (bare v)) no_limit
unfolding understood everything
place_shown tenant bucket okey version = record {
  test = is 1 0 ∷ is 3 1 ∷ is 4 2 ∷ is 5 3 ∷ [];
  show = col 1 2 ∷ col 1 5 ∷ col 1 6 ∷ [];
  names = codes "seq" ∷ codes "id" ∷ codes "marker" ∷ [];
  means = record { is = refl; plain = (refl, refl); unlisted = refl; whole = refl; given = refl };
  low = refl;
  accepts = refl;
  tests = λ id v. then_term (at_texts false Eq v.tenant tenant) (then_term (at_texts false Eq v.bucket bucket) (then_term (at_blobs false Eq v.okey okey) (last_term (at_ints false Eq (pos v.id) (pos version)))));
  shows = λ id v. refl;
}

pub bucket_shown_first : (tenant bucket : Octets)
    → SortedText version_form host_schema 7 (codes "SELECT seq FROM versions WHERE tenant = ?1 AND bucket = ?2 ORDER BY okey, id, rowid LIMIT 1") (Text tenant ∷ Text bucket ∷ [])
    (λ v. is_in_bucket tenant bucket (bare v)) (λ v. shown_seq (bare v)) (λ a b. by_id (bare a) (bare b)) one_row
unfolding understood everything
bucket_shown_first tenant bucket = record {
  test = is 1 0 ∷ is 3 1 ∷ [];
  show = col 1 2 ∷ [];
  keys = (col 1 4, ascending Binary) ∷ (col 1 5, ascending Binary) ∷ by_rowid;
  names = codes "seq" ∷ [];
  means = record { is = refl; plain = (refl, refl); unlisted = refl; whole = refl; given = refl };
  low = refl;
  accepts = refl;
  tests = λ id v. then_term (at_texts false Eq v.tenant tenant) (last_term (at_texts false Eq v.bucket bucket));
  shows = λ id v. refl;
  orders = λ a b. then_key (value_cmp-Blob a.1.okey b.1.okey) (then_key (value_cmp-Int (pos a.1.id) (pos b.1.id)) (last_key (value_cmp-Int a.0 b.0))) ∙ sym (then_assoc (bytes_cmp a.1.okey b.1.okey) (int_cmp (pos a.1.id) (pos b.1.id)) (int_cmp a.0 b.0));
}

pub version_inserted : (tenant bucket okey checksum : Octets) (seq id stamp size : ℕ)
    → InsertText version_form host_schema 4 (at 7 versions_table) (codes "INSERT INTO versions (tenant, seq, bucket, okey, id, marker, stamp, size, sum) VALUES (?1, ?2, ?3, ?4, ?5, 0, ?6, ?7, ?8)")
    (Text tenant ∷ number seq ∷ Text bucket ∷ Blob okey ∷ number id ∷ number stamp ∷ number size ∷ Text checksum ∷ [])
    (record { tenant = tenant; seq = seq; bucket = bucket; okey = okey; id = id; marker = 0; stamp = stamp; size = size; checksum = checksum })
unfolding understood everything
version_inserted tenant bucket okey checksum seq id stamp size = record {
  terms = lit Null ∷ col 0 0 ∷ col 0 1 ∷ col 0 2 ∷ col 0 3 ∷ col 0 4 ∷ lit (Int (pos 0)) ∷ col 0 5 ∷ col 0 6 ∷ col 0 7 ∷ [];
  width = 10;
  means = record { is = refl; plain = (refl, refl); unlisted = refl; whole = refl; given = refl };
  gives = refl;
  accepts = refl;
}

pub marker_inserted : (tenant bucket okey : Octets) (seq id stamp : ℕ)
    → InsertText version_form host_schema 4 (at 7 versions_table) (codes "INSERT INTO versions (tenant, seq, bucket, okey, id, marker, stamp, size, sum) VALUES (?1, ?2, ?3, ?4, ?5, 1, ?6, 0, '')")
    (Text tenant ∷ number seq ∷ Text bucket ∷ Blob okey ∷ number id ∷ number stamp ∷ [])
    (record { tenant = tenant; seq = seq; bucket = bucket; okey = okey; id = id; marker = 1; stamp = stamp; size = 0; checksum = [] })
unfolding understood everything
marker_inserted tenant bucket okey seq id stamp = record {
  terms = lit Null ∷ col 0 0 ∷ col 0 1 ∷ col 0 2 ∷ col 0 3 ∷ col 0 4 ∷ lit (Int (pos 1)) ∷ col 0 5 ∷ lit (Int (pos 0)) ∷ lit (Text []) ∷ [];
  width = 10;
  means = record { is = refl; plain = (refl, refl); unlisted = refl; whole = refl; given = refl };
  gives = refl;
  accepts = refl;
}

pub version_deleted : (tenant bucket okey : Octets) (version : ℕ)
    → DeleteText version_form host_schema 4 (at 7 versions_table) (codes "DELETE FROM versions WHERE tenant = ?1 AND bucket = ?2 AND okey = ?3 AND id = ?4") (Text tenant ∷ Text bucket ∷ Blob okey ∷ number version ∷ [])
    (λ v. is_version tenant bucket okey version (bare v))
unfolding understood everything
version_deleted tenant bucket okey version = record {
  test = is 1 0 ∷ is 3 1 ∷ is 4 2 ∷ is 5 3 ∷ [];
  means = record { is = refl; plain = (refl, refl); unlisted = refl; whole = refl; given = refl };
  accepts = refl;
  tests = λ id v. then_term (at_texts false Eq v.tenant tenant) (then_term (at_texts false Eq v.bucket bucket) (then_term (at_blobs false Eq v.okey okey) (last_term (at_ints false Eq (pos v.id) (pos version)))));
}
