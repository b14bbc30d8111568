-- The texts over the locks of buckets.
use Rattle.std.proofs.Common.{◌≡◌, ℤ, codes, List, [], ◌∷◌, ◌&&◌, true, false, refl, ap, ◌∙◌}
use Rattle.std.specs.List.{list_any}
use Rattle.sqlite.specs.declared.types.Value.TheVariants.{Null, Text}
use Rattle.sqlite.specs.Edit.{next_rowid}
use Rattle.sqlite.specs.Effect.{Database}
use Rattle.sqlite.specs.Listing.{understood}
use Rattle.sqlite.specs.Order.{Row}
use Rattle.sqlite.specs.Term.{lit, col}
use Rattle.sqlite.specs.Tree.{Trees}
use Rattle.sqlite_sql.specs.declared.ops.CompareOp.TheVariants.{Eq}
use Rattle.sqlite_value.specs.Keys.{plain, first_key}
use Rattle.sqlite_schema.specs.Rules.{agree}
use Rattle.sqlite_tied.specs.Compute.{everything}
use Rattle.sqlite_typed.proofs.TestLemmas.{at_texts, last_term, then_term}
use Rattle.bh_rows.specs.Form.{put}
use Rattle.bh_rows.specs.Keys.{AreUnused}
use Rattle.bh_rows.specs.Scan.{no_limit}
use Rattle.bh_rows.specs.Texts.{MayAdd, InsertText, DeleteText, SelectText}
use Rattle.bh_rows.proofs.FormLemmas.{any_typed}
use Rattle.bh_tables.specs.Schema.{Octets, host_schema, locks_table, at}
use Rattle.bh_tables.specs.Typed.{Totals, LockRow, lock_form, bucket_form, IsHostBy, tables_in}
use Rattle.bh_tables.specs.Shown.{is_lock, is_bucket, shown_lock}
use Rattle.bh_tables.proofs.Terms.{is}

-- ---- a bucket that is not locked may be

lock_agrees : (i j : ℤ) (a b : LockRow) → agree plain (1 ∷ 2 ∷ []) (put lock_form (i, a)) (1 ∷ 2 ∷ []) (put lock_form (j, b)) ≡ is_lock b.tenant b.bucket a
unfolding first_key
lock_agrees i j a b = then_term (at_texts false Eq a.tenant b.tenant) (last_term (at_texts false Eq a.bucket b.bucket))

pub new_lock : {sums : Totals} (db : Database) → IsHostBy sums db → (l : LockRow) → list_any (is_lock l.tenant l.bucket) (tables_in db).locks ≡ false → list_any (is_bucket l.tenant l.bucket) (tables_in db).buckets ≡ true
    → MayAdd lock_form host_schema (at 26 locks_table) db.trees l
unfolding everything
new_lock db host l free owned = record {
  suits = record { typed = refl; present = refl; checked = refl };
  free = (any_typed lock_form _ (is_lock l.tenant l.bucket) (λ id a. lock_agrees id (next_rowid (db.trees 26)) a l) (db.trees 26) host.held.locks ∙ free, tt);
  parents = ap (λ b. b && true) (any_typed bucket_form _ (is_bucket l.tenant l.bucket) (λ id b. then_term (at_texts false Eq b.tenant l.tenant) (last_term (at_texts false Eq b.bucket l.bucket))) (db.trees 5) host.held.buckets ∙ owned);
}

pub locks_unused : (db : Trees) (rows : List Row) → AreUnused host_schema db 26 rows
unfolding everything
locks_unused db rows = tt

-- ---- the texts

pub lock_found : (tenant bucket : Octets) → SelectText lock_form host_schema 26 (codes "SELECT bucket FROM locks WHERE tenant = ?1 AND bucket = ?2 ORDER BY rowid") (Text tenant ∷ Text bucket ∷ []) (is_lock tenant bucket) shown_lock no_limit
unfolding understood everything
lock_found tenant bucket = record {
  test = is 1 0 ∷ is 2 1 ∷ [];
  show = col 1 2 ∷ [];
  names = codes "bucket" ∷ [];
  means = record { is = refl; plain = (refl, refl); unlisted = refl; whole = refl; given = refl };
  low = refl;
  accepts = refl;
  tests = λ id l. then_term (at_texts false Eq l.tenant tenant) (last_term (at_texts false Eq l.bucket bucket));
  shows = λ id l. refl;
}

pub lock_inserted : (tenant bucket : Octets) → InsertText lock_form host_schema 10 (at 26 locks_table) (codes "INSERT INTO locks (tenant, bucket) VALUES (?1, ?2)") (Text tenant ∷ Text bucket ∷ []) (record { tenant = tenant; bucket = bucket })
unfolding understood everything
lock_inserted tenant bucket = record {
  terms = lit Null ∷ col 0 0 ∷ col 0 1 ∷ [];
  width = 3;
  means = record { is = refl; plain = (refl, refl); unlisted = refl; whole = refl; given = refl };
  gives = refl;
  accepts = refl;
}

pub lock_deleted : (tenant bucket : Octets) → DeleteText lock_form host_schema 10 (at 26 locks_table) (codes "DELETE FROM locks WHERE tenant = ?1 AND bucket = ?2") (Text tenant ∷ Text bucket ∷ []) (is_lock tenant bucket)
unfolding understood everything
lock_deleted tenant bucket = record {
  test = is 1 0 ∷ is 2 1 ∷ [];
  means = record { is = refl; plain = (refl, refl); unlisted = refl; whole = refl; given = refl };
  accepts = refl;
  tests = λ id l. then_term (at_texts false Eq l.tenant tenant) (last_term (at_texts false Eq l.bucket bucket));
}
