-- The texts over blocks.
use Rattle.std.proofs.Common.{◌≡◌, ℤ, pos, nat_lt, length, codes, [], ◌∷◌, ◌&&◌, true, false, refl, sym, ◌∙◌}
use Rattle.std.specs.List.{list_any}
use Rattle.std.specs.Cmp.{signed_Decides}
use Rattle.std.specs.Ordering.{int_eq}
use Rattle.std.proofs.lemmas.Bool.{and_parts}
use Rattle.sqlite.specs.declared.types.Value.TheVariants.{Null, Int, Blob}
use Rattle.sqlite.specs.Edit.{next_rowid}
use Rattle.sqlite.specs.Effect.{Database}
use Rattle.sqlite.specs.Collation.TheVariants.{Binary}
use Rattle.sqlite.specs.Listing.{understood}
use Rattle.sqlite.specs.Term.{lit, col, op1, op2}
use Rattle.sqlite_sql.specs.declared.ops.BinaryOp.TheVariants.{Compare}
use Rattle.sqlite_sql.specs.declared.ops.CompareOp.TheVariants.{Eq, Gt}
use Rattle.sqlite_sql.specs.declared.ops.UnaryOp.TheVariants.{Length}
use Rattle.sqlite_sql.specs.Ops.{unary, test}
use Rattle.sqlite_value.specs.Keys.{plain, ascending, first_key}
use Rattle.sqlite_value.proofs.OrderLemmas.{value_cmp-Int}
use Rattle.sqlite_schema.specs.Rules.{agree}
use Rattle.sqlite_tied.specs.Compute.{everything}
use Rattle.sqlite_typed.specs.Tests.{bytes_eq}
use Rattle.sqlite_typed.proofs.TestLemmas.{same_bytes, at_blobs, at_ints, last_term, then_term, then_key, last_key}
use Rattle.bh_rows.specs.Form.{put}
use Rattle.bh_rows.specs.Keys.{Pointer, points_at}
use Rattle.bh_rows.specs.Scan.{by_rowid, no_limit}
use Rattle.bh_rows.specs.Texts.{AreFree, MayAdd, InsertText, DeleteText, SelectText, SortedText, SumText}
use Rattle.bh_rows.proofs.DeleteErrors.{none_points, none_named}
use Rattle.bh_rows.proofs.FormLemmas.{any_typed}
use Rattle.bh_tables.specs.Schema.{Octets, host_schema, blocks_table, at}
use Rattle.bh_tables.specs.Typed.{Totals, BlockRow, RefRow, block_form, block_columns, ref_form, number, IsHostBy, tables_in}
use Rattle.bh_tables.specs.Rows.{PlaceRow, place_form}
use Rattle.bh_tables.specs.Packs.{place_name, is_place, places_in}
use Rattle.bh_tables.specs.Shown.{Name, same_name, block_name, ref_name, is_block, is_use, has_digest, by_ord, shown_ord}
use Rattle.bh_tables.proofs.Places.{Goes, blocks}
use Rattle.bh_tables.proofs.Checked.{block_checked}
use Rattle.bh_tables.proofs.Terms.{is}

-- ---- a block whose name no other has may be added

block_agrees : (i j : ℤ) (a b : BlockRow) → agree plain (1 ∷ 2 ∷ []) (put block_form (i, a)) (1 ∷ 2 ∷ []) (put block_form (j, b)) ≡ is_block (block_name b) a
unfolding first_key
block_agrees i j a b = then_term (at_blobs false Eq a.digest b.digest) (last_term (at_ints false Eq (pos a.ord) (pos b.ord)))

pub new_block : {sums : Totals} (db : Database) → IsHostBy sums db → (b : BlockRow) → list_any (is_block (block_name b)) (tables_in db).blocks ≡ false → MayAdd block_form host_schema (at 10 blocks_table) db.trees b
unfolding everything
new_block db host b free = record {
  suits = record { typed = refl; present = refl; checked = block_checked (next_rowid (db.trees 10)) b };
  free = (any_typed block_form _ (is_block (block_name b)) (λ id a. block_agrees id (next_rowid (db.trees 10)) a b) (db.trees 10) host.held.blocks ∙ free, tt);
  parents = refl;
}

-- and one that was added had a name that no other had
pub block_free : {sums : Totals} (db : Database) → IsHostBy sums db → (b : BlockRow) → AreFree block_form host_schema (at 10 blocks_table) (db.trees 10) (put block_form (next_rowid (db.trees 10), b)) → list_any (is_block (block_name b)) (tables_in db).blocks ≡ false
unfolding everything
block_free db host b free = sym (any_typed block_form _ (is_block (block_name b)) (λ id a. block_agrees id (next_rowid (db.trees 10)) a b) (db.trees 10) host.held.blocks) ∙ free.0

-- ---- a block that no reference names may go

abbrev to_blocks : Pointer
to_blocks = record { child = 12; columns = 4 ∷ 5 ∷ []; places = 1 ∷ 2 ∷ []; order = plain }

abbrev from_places : Pointer
from_places = record { child = 34; columns = 1 ∷ 2 ∷ []; places = 1 ∷ 2 ∷ []; order = plain }

placed_names : (i : ℤ) (p : PlaceRow) (j : ℤ) (b : BlockRow) → points_at from_places (put place_form (i, p)) (put block_form (j, b)) ≡ same_name (place_name p) (block_name b)
unfolding first_key
placed_names i p j b = then_term (at_blobs false Eq p.digest b.digest) (last_term (at_ints false Eq (pos p.ord) (pos b.ord)))

-- what names a block that has a name, has that name
named_so : (a : Name) (b : BlockRow) (q : Name) → same_name a (block_name b) ≡ true → is_block q b ≡ true → same_name a q ≡ true
named_so a b q on is =
    let both = and_parts _ _ is in
    sym (λ i. bytes_eq a.0 (same_bytes b.digest q.0 both.0 i) && int_eq (pos a.1) ((signed_Decides (pos b.ord) (pos q.1)).0 both.1 i)) ∙ on

names : (i : ℤ) (r : RefRow) (j : ℤ) (b : BlockRow) → points_at to_blocks (put ref_form (i, r)) (put block_form (j, b)) ≡ same_name (ref_name r) (block_name b)
unfolding first_key
names i r j b = then_term (at_blobs false Eq r.digest b.digest) (last_term (at_ints false Eq (pos r.ord) (pos b.ord)))

uses : (q : Name) (r : RefRow) (b : BlockRow) → same_name (ref_name r) (block_name b) ≡ true → is_block q b ≡ true → is_use q r ≡ true
uses q r b on is = named_so (ref_name r) b q on is

pub unreferenced_goes : {sums : Totals} (db : Database) → IsHostBy sums db → (q : Name) → list_any (is_use q) (tables_in db).refs ≡ false → list_any (is_place q) (places_in db.trees) ≡ false → Goes (blocks sums) db.trees (is_block q)
unfolding everything
unreferenced_goes db host q unused unplaced = (
  none_points block_form ref_form (db.trees 10) (db.trees 12) to_blocks (is_block q) (λ r b. same_name (ref_name r) (block_name b)) names host.held.blocks host.held.refs
      (none_named (λ r b. same_name (ref_name r) (block_name b)) (is_block q) (is_use q) (uses q) (tables_in db).blocks (tables_in db).refs unused),
  (
    none_points block_form place_form (db.trees 10) (db.trees 34) from_places (is_block q) (λ p b. same_name (place_name p) (block_name b)) placed_names host.held.blocks host.held.places
        (none_named (λ p b. same_name (place_name p) (block_name b)) (is_block q) (is_place q) (λ p b. named_so (place_name p) b q) (tables_in db).blocks (places_in db.trees) unplaced),
    tt,
  ),
)

-- ---- the texts

pub ords_shown : (digest : Octets) → SelectText block_form host_schema 10 (codes "SELECT ord FROM blocks WHERE digest = ?1 ORDER BY rowid") (Blob digest ∷ []) (has_digest digest) shown_ord no_limit
unfolding understood everything
ords_shown digest = record {
  test = is 1 0 ∷ [];
  show = col 1 2 ∷ [];
  names = codes "ord" ∷ [];
  means = record { is = refl; plain = (refl, refl); unlisted = refl; whole = refl; given = refl };
  low = refl;
  accepts = refl;
  tests = λ id b. last_term (at_blobs false Eq b.digest digest);
  shows = λ id b. refl;
}

pub ords_listed : (digest : Octets) → SortedText block_form host_schema 10 (codes "SELECT ord FROM blocks WHERE digest = ?1 ORDER BY ord, rowid") (Blob digest ∷ []) (has_digest digest) shown_ord by_ord no_limit
unfolding understood everything
ords_listed digest = record {
  test = is 1 0 ∷ [];
  show = col 1 2 ∷ [];
  keys = (col 1 2, ascending Binary) ∷ by_rowid;
  names = codes "ord" ∷ [];
  means = record { is = refl; plain = (refl, refl); unlisted = refl; whole = refl; given = refl };
  low = refl;
  accepts = refl;
  tests = λ id b. last_term (at_blobs false Eq b.digest digest);
  shows = λ id b. refl;
  orders = λ a b. then_key (value_cmp-Int (pos a.1.ord) (pos b.1.ord)) (last_key (value_cmp-Int a.0 b.0));
}

pub block_inserted : (b : BlockRow) → InsertText block_form host_schema 5 (at 10 blocks_table) (codes "INSERT INTO blocks (digest, ord, bytes) VALUES (?1, ?2, ?3)") (block_columns b) b
unfolding understood everything
block_inserted b = record {
  terms = lit Null ∷ col 0 0 ∷ col 0 1 ∷ col 0 2 ∷ [];
  width = 4;
  means = record { is = refl; plain = (refl, refl); unlisted = refl; whole = refl; given = refl };
  gives = refl;
  accepts = refl;
}

pub block_deleted : (q : Name) → DeleteText block_form host_schema 5 (at 10 blocks_table) (codes "DELETE FROM blocks WHERE digest = ?1 AND ord = ?2") (Blob q.0 ∷ number q.1 ∷ []) (is_block q)
unfolding understood everything
block_deleted q = record {
  test = is 1 0 ∷ is 2 1 ∷ [];
  means = record { is = refl; plain = (refl, refl); unlisted = refl; whole = refl; given = refl };
  accepts = refl;
  tests = λ id b. then_term (at_blobs false Eq b.digest q.0) (last_term (at_ints false Eq (pos b.ord) (pos q.1)));
}

-- 1 for each row
pub blocks_counted : SumText block_form host_schema 10 (codes "SELECT coalesce(sum(1), 0) FROM blocks") [] (λ _. true) (λ _. 1)
unfolding understood everything
blocks_counted = record {
  test = [];
  argument = lit (Int (pos 1));
  names = codes "coalesce(sum(1), 0)" ∷ [];
  means = record { is = refl; plain = (refl, refl); unlisted = refl; whole = refl; given = refl };
  low = refl;
  accepts = refl;
  tests = λ id b. refl;
  reads = λ id b. refl;
}

-- a block whose digest another block had
pub clashes_counted : SumText block_form host_schema 10 (codes "SELECT coalesce(sum(1), 0) FROM blocks WHERE ord > 0") [] (λ b. nat_lt 0 b.ord) (λ _. 1)
unfolding understood everything
clashes_counted = record {
  test = op2 (Compare Gt Binary) (col 1 2) (lit (Int (pos 0))) ∷ [];
  argument = lit (Int (pos 1));
  names = codes "coalesce(sum(1), 0)" ∷ [];
  means = record { is = refl; plain = (refl, refl); unlisted = refl; whole = refl; given = refl };
  low = refl;
  accepts = refl;
  tests = λ id b. last_term (at_ints false Gt (pos b.ord) (pos 0));
  reads = λ id b. refl;
}

pub blocks_summed : SumText block_form host_schema 10 (codes "SELECT coalesce(sum(length(bytes)), 0) FROM blocks") [] (λ _. true) (λ b. length b.bytes)
unfolding understood everything unary
blocks_summed = record {
  test = [];
  argument = op1 Length (col 1 3);
  names = codes "coalesce(sum(length(bytes)), 0)" ∷ [];
  means = record { is = refl; plain = (refl, refl); unlisted = refl; whole = refl; given = refl };
  low = refl;
  accepts = refl;
  tests = λ id b. refl;
  reads = λ id b. refl;
}
