-- The texts over references, and the one that reads a block.
use Rattle.std.proofs.Common.{◌≡◌, ℕ, ℤ, pos, List, codes, [], ◌∷◌, ◌&&◌, true, false, refl, ap, ◌∙◌}
use Rattle.std.specs.List.{list_any}
use Rattle.sqlite.specs.declared.types.Value.TheVariants.{Null, Text, Blob}
use Rattle.sqlite.specs.Edit.{next_rowid}
use Rattle.sqlite.specs.Effect.{Database}
use Rattle.sqlite.specs.Collation.TheVariants.{Binary}
use Rattle.sqlite.specs.Listing.{understood}
use Rattle.sqlite.specs.Order.{Row}
use Rattle.sqlite.specs.Term.{lit, col}
use Rattle.sqlite.specs.Tree.{Trees}
use Rattle.sqlite_sql.specs.declared.ops.CompareOp.TheVariants.{Eq}
use Rattle.sqlite_value.specs.Keys.{plain, ascending, first_key}
use Rattle.sqlite_value.proofs.OrderLemmas.{value_cmp-Int}
use Rattle.sqlite_schema.specs.Rules.{agree}
use Rattle.sqlite_tied.specs.Compute.{everything}
use Rattle.sqlite_typed.proofs.TestLemmas.{at_texts, at_blobs, at_ints, last_term, then_term, then_key, last_key}
use Rattle.bh_rows.specs.Form.{put}
use Rattle.bh_rows.specs.Keys.{AreUnused}
use Rattle.bh_rows.specs.Scan.{by_rowid, no_limit}
use Rattle.bh_rows.specs.Texts.{MayAdd, InsertText, DeleteText, SelectText, SortedText}
use Rattle.bh_rows.proofs.FormLemmas.{any_typed}
use Rattle.bh_tables.specs.Schema.{host_schema, refs_table, at}
use Rattle.bh_tables.specs.Typed.{Totals, RefRow, block_form, ref_form, ref_columns, number, IsHostBy, tables_in}
use Rattle.bh_tables.specs.Shown.{Name, ref_name, is_block, is_of_body, is_at_place, by_place, shown_ref, shown_bytes}
use Rattle.bh_tables.proofs.Checked.{ref_checked}
use Rattle.bh_tables.proofs.Terms.{is}

-- ---- a reference to a block, at a place that no other reference of the body has, may be added

place_agrees : (i j : ℤ) (a b : RefRow) → agree plain (1 ∷ 2 ∷ 3 ∷ []) (put ref_form (i, a)) (1 ∷ 2 ∷ 3 ∷ []) (put ref_form (j, b)) ≡ is_at_place (b.tenant, b.body) b.place a
unfolding first_key
place_agrees i j a b = then_term (at_texts false Eq a.tenant b.tenant) (then_term (at_ints false Eq (pos a.body) (pos b.body)) (last_term (at_ints false Eq (pos a.place) (pos b.place))))

pub new_ref : {sums : Totals} (db : Database) → IsHostBy sums db → (r : RefRow) → list_any (is_at_place (r.tenant, r.body) r.place) (tables_in db).refs ≡ false → list_any (is_block (ref_name r)) (tables_in db).blocks ≡ true
    → MayAdd ref_form host_schema (at 12 refs_table) db.trees r
unfolding everything
new_ref db host r free there = record {
  suits = record { typed = refl; present = refl; checked = ref_checked (next_rowid (db.trees 12)) r };
  free = (any_typed ref_form _ (is_at_place (r.tenant, r.body) r.place) (λ id a. place_agrees id (next_rowid (db.trees 12)) a r) (db.trees 12) host.held.refs ∙ free, tt);
  parents = ap (λ c. c && true) (any_typed block_form _ (is_block (ref_name r)) (λ id b. then_term (at_blobs false Eq b.digest r.digest) (last_term (at_ints false Eq (pos b.ord) (pos r.ord)))) (db.trees 10) host.held.blocks ∙ there);
}

-- no table refers to references
pub refs_unused : (db : Trees) (rows : List Row) → AreUnused host_schema db 12 rows
unfolding everything
refs_unused db rows = tt

-- ---- the texts

pub refs_listed : (q : Name) → SortedText ref_form host_schema 12 (codes "SELECT digest, ord, size FROM refs WHERE tenant = ?1 AND body = ?2 ORDER BY place, rowid") (Text q.0 ∷ number q.1 ∷ []) (is_of_body q) shown_ref by_place no_limit
unfolding understood everything
refs_listed q = record {
  test = is 1 0 ∷ is 2 1 ∷ [];
  show = col 1 4 ∷ col 1 5 ∷ col 1 6 ∷ [];
  keys = (col 1 3, ascending Binary) ∷ by_rowid;
  names = codes "digest" ∷ codes "ord" ∷ codes "size" ∷ [];
  means = record { is = refl; plain = (refl, refl); unlisted = refl; whole = refl; given = refl };
  low = refl;
  accepts = refl;
  tests = λ id r. then_term (at_texts false Eq r.tenant q.0) (last_term (at_ints false Eq (pos r.body) (pos q.1)));
  shows = λ id r. refl;
  orders = λ a b. then_key (value_cmp-Int (pos a.1.place) (pos b.1.place)) (last_key (value_cmp-Int a.0 b.0));
}

pub ref_shown : (q : Name) (place : ℕ) → SelectText ref_form host_schema 12 (codes "SELECT digest, ord, size FROM refs WHERE tenant = ?1 AND body = ?2 AND place = ?3 ORDER BY rowid") (Text q.0 ∷ number q.1 ∷ number place ∷ []) (is_at_place q place) shown_ref no_limit
unfolding understood everything
ref_shown q place = record {
  test = is 1 0 ∷ is 2 1 ∷ is 3 2 ∷ [];
  show = col 1 4 ∷ col 1 5 ∷ col 1 6 ∷ [];
  names = codes "digest" ∷ codes "ord" ∷ codes "size" ∷ [];
  means = record { is = refl; plain = (refl, refl); unlisted = refl; whole = refl; given = refl };
  low = refl;
  accepts = refl;
  tests = λ id r. then_term (at_texts false Eq r.tenant q.0) (then_term (at_ints false Eq (pos r.body) (pos q.1)) (last_term (at_ints false Eq (pos r.place) (pos place))));
  shows = λ id r. refl;
}

pub ref_inserted : (r : RefRow) → InsertText ref_form host_schema 6 (at 12 refs_table) (codes "INSERT INTO refs (tenant, body, place, digest, ord, size) VALUES (?1, ?2, ?3, ?4, ?5, ?6)") (ref_columns r) r
unfolding understood everything
ref_inserted r = record {
  terms = lit Null ∷ col 0 0 ∷ col 0 1 ∷ col 0 2 ∷ col 0 3 ∷ col 0 4 ∷ col 0 5 ∷ [];
  width = 7;
  means = record { is = refl; plain = (refl, refl); unlisted = refl; whole = refl; given = refl };
  gives = refl;
  accepts = refl;
}

pub refs_deleted : (q : Name) → DeleteText ref_form host_schema 6 (at 12 refs_table) (codes "DELETE FROM refs WHERE tenant = ?1 AND body = ?2") (Text q.0 ∷ number q.1 ∷ []) (is_of_body q)
unfolding understood everything
refs_deleted q = record {
  test = is 1 0 ∷ is 2 1 ∷ [];
  means = record { is = refl; plain = (refl, refl); unlisted = refl; whole = refl; given = refl };
  accepts = refl;
  tests = λ id r. then_term (at_texts false Eq r.tenant q.0) (last_term (at_ints false Eq (pos r.body) (pos q.1)));
}

pub bytes_shown : (q : Name) → SelectText block_form host_schema 10 (codes "SELECT bytes FROM blocks WHERE digest = ?1 AND ord = ?2 ORDER BY rowid") (Blob q.0 ∷ number q.1 ∷ []) (is_block q) shown_bytes no_limit
unfolding understood everything
bytes_shown q = record {
  test = is 1 0 ∷ is 2 1 ∷ [];
  show = col 1 3 ∷ [];
  names = codes "bytes" ∷ [];
  means = record { is = refl; plain = (refl, refl); unlisted = refl; whole = refl; given = refl };
  low = refl;
  accepts = refl;
  tests = λ id b. then_term (at_blobs false Eq b.digest q.0) (last_term (at_ints false Eq (pos b.ord) (pos q.1)));
  shows = λ id b. refl;
}
