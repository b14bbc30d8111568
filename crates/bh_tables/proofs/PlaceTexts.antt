-- The texts over packs, and over the places in them.
use Rattle.std.proofs.Common.{◌≡◌, ◌≤◌, ℕ, ℤ, pos, codes, true, false, List, [], ◌∷◌, refl, sym, ◌∙◌}
use Rattle.std.specs.List.{list_any}
use Rattle.sqlite.specs.Collation.TheVariants.{Binary}
use Rattle.sqlite.specs.declared.types.Value.TheVariants.{Null, Blob}
use Rattle.sqlite.specs.Listing.{understood}
use Rattle.sqlite.specs.Term.{lit, col}
use Rattle.sqlite_sql.specs.declared.ops.CompareOp.TheVariants.{Eq}
use Rattle.sqlite_tied.specs.Compute.{everything}
use Rattle.sqlite_typed.proofs.TestLemmas.{at_blobs, at_ints, last_term, then_term, then_key, last_key}
use Rattle.sqlite.specs.Edit.{next_rowid}
use Rattle.sqlite.specs.Effect.{Database}
use Rattle.sqlite_schema.specs.Rules.{agree}
use Rattle.sqlite_value.specs.Keys.{plain, ascending, first_key}
use Rattle.sqlite_value.proofs.OrderLemmas.{value_cmp-Int}
use Rattle.sqlite.specs.Order.{Row}
use Rattle.sqlite.specs.Tree.{Trees}
use Rattle.bh_rows.specs.Form.{put}
use Rattle.bh_rows.specs.Keys.{AreUnused}
use Rattle.bh_rows.proofs.FormLemmas.{any_typed}
use Rattle.bh_rows.specs.Scan.{by_rowid, no_limit}
use Rattle.bh_rows.specs.Texts.{AreFree, MayChange, InsertText, UpdateText, DeleteText, SelectText, SortedText}
use Rattle.bh_tables.specs.Bodies.{Name}
use Rattle.bh_tables.specs.Rows.{number, PlaceRow, place_columns, place_form, PackRow, pack_columns, pack_form}
use Rattle.bh_tables.specs.Schema.{host_schema, packs_table, placed_table, at}
use Rattle.bh_tables.proofs.Checked.{pack_checked}
use Rattle.bh_tables.proofs.Terms.{is}
use Rattle.bh_tables.specs.Typed.{Totals, IsHostBy}
use Rattle.bh_tables.specs.Packs.{place_name, places_in, is_place, shown_place, is_in_pack, is_pack, by_pack, shown_pack}

-- ---- a place that was added was of a block that had none

place_agrees : (i j : ℤ) (a b : PlaceRow) → agree plain (1 ∷ 2 ∷ []) (put place_form (i, a)) (1 ∷ 2 ∷ []) (put place_form (j, b)) ≡ is_place (place_name b) a
unfolding first_key
place_agrees i j a b = then_term (at_blobs false Eq a.digest b.digest) (last_term (at_ints false Eq (pos a.ord) (pos b.ord)))

pub place_free : {sums : Totals} (db : Database) → IsHostBy sums db → (p : PlaceRow) → AreFree place_form host_schema (at 34 placed_table) (db.trees 34) (put place_form (next_rowid (db.trees 34), p)) → list_any (is_place (place_name p)) (places_in db.trees) ≡ false
unfolding everything
place_free db host p free = sym (any_typed place_form _ (is_place (place_name p)) (λ id a. place_agrees id (next_rowid (db.trees 34)) a p) (db.trees 34) host.held.places) ∙ free.0

-- ---- places

pub place_found : (q : Name) → SelectText place_form host_schema 34 (codes "SELECT pack, place, size, sum FROM placed WHERE digest = ?1 AND ord = ?2 ORDER BY rowid") (Blob q.0 ∷ number q.1 ∷ []) (is_place q) shown_place no_limit
unfolding understood everything
place_found q = record {
  test = is 1 0 ∷ is 2 1 ∷ [];
  show = col 1 3 ∷ col 1 4 ∷ col 1 5 ∷ col 1 6 ∷ [];
  names = codes "pack" ∷ codes "place" ∷ codes "size" ∷ codes "sum" ∷ [];
  means = record { is = refl; plain = (refl, refl); unlisted = refl; whole = refl; given = refl };
  low = refl;
  accepts = refl;
  tests = λ id p. then_term (at_blobs false Eq p.digest q.0) (last_term (at_ints false Eq (pos p.ord) (pos q.1)));
  shows = λ id p. refl;
}

pub place_inserted : (p : PlaceRow) → InsertText place_form host_schema 14 (at 34 placed_table) (codes "INSERT INTO placed (digest, ord, pack, place, size, sum) VALUES (?1, ?2, ?3, ?4, ?5, ?6)") (place_columns p) p
unfolding understood everything
place_inserted p = record {
  terms = lit Null ∷ col 0 0 ∷ col 0 1 ∷ col 0 2 ∷ col 0 3 ∷ col 0 4 ∷ col 0 5 ∷ [];
  width = 7;
  means = record { is = refl; plain = (refl, refl); unlisted = refl; whole = refl; given = refl };
  gives = refl;
  accepts = refl;
}

pub place_deleted : (q : Name) → DeleteText place_form host_schema 14 (at 34 placed_table) (codes "DELETE FROM placed WHERE digest = ?1 AND ord = ?2") (Blob q.0 ∷ number q.1 ∷ []) (is_place q)
unfolding understood everything
place_deleted q = record {
  test = is 1 0 ∷ is 2 1 ∷ [];
  means = record { is = refl; plain = (refl, refl); unlisted = refl; whole = refl; given = refl };
  accepts = refl;
  tests = λ id p. then_term (at_blobs false Eq p.digest q.0) (last_term (at_ints false Eq (pos p.ord) (pos q.1)));
}

-- nothing refers to a place
pub places_unused : (db : Trees) (rows : List Row) → AreUnused host_schema db 34 rows
unfolding everything
places_unused db rows = tt

-- those in a pack, which may go when there are none
pub places_found : (pack : ℕ) → SelectText place_form host_schema 34 (codes "SELECT pack, place, size, sum FROM placed WHERE pack = ?1 ORDER BY rowid") (number pack ∷ []) (is_in_pack pack) shown_place no_limit
unfolding understood everything
places_found pack = record {
  test = is 3 0 ∷ [];
  show = col 1 3 ∷ col 1 4 ∷ col 1 5 ∷ col 1 6 ∷ [];
  names = codes "pack" ∷ codes "place" ∷ codes "size" ∷ codes "sum" ∷ [];
  means = record { is = refl; plain = (refl, refl); unlisted = refl; whole = refl; given = refl };
  low = refl;
  accepts = refl;
  tests = λ id p. last_term (at_ints false Eq (pos p.pack) (pos pack));
  shows = λ id p. refl;
}

-- ---- packs

pub packs_listed : SortedText pack_form host_schema 32 (codes "SELECT pack, length, live FROM packs ORDER BY pack, rowid") [] (λ _. true) pack_columns by_pack no_limit
unfolding understood everything
packs_listed = record {
  test = [];
  show = col 1 1 ∷ col 1 2 ∷ col 1 3 ∷ [];
  keys = (col 1 1, ascending Binary) ∷ by_rowid;
  names = codes "pack" ∷ codes "length" ∷ codes "live" ∷ [];
  means = record { is = refl; plain = (refl, refl); unlisted = refl; whole = refl; given = refl };
  low = refl;
  accepts = refl;
  tests = λ id p. refl;
  shows = λ id p. refl;
  orders = λ a b. then_key (value_cmp-Int (pos a.1.pack) (pos b.1.pack)) (last_key (value_cmp-Int a.0 b.0));
}

pub pack_found : (pack : ℕ) → SelectText pack_form host_schema 32 (codes "SELECT length, live FROM packs WHERE pack = ?1 ORDER BY rowid") (number pack ∷ []) (is_pack pack) shown_pack no_limit
unfolding understood everything
pack_found pack = record {
  test = is 1 0 ∷ [];
  show = col 1 2 ∷ col 1 3 ∷ [];
  names = codes "length" ∷ codes "live" ∷ [];
  means = record { is = refl; plain = (refl, refl); unlisted = refl; whole = refl; given = refl };
  low = refl;
  accepts = refl;
  tests = λ id p. last_term (at_ints false Eq (pos p.pack) (pos pack));
  shows = λ id p. refl;
}

pub pack_inserted : (p : PackRow) → InsertText pack_form host_schema 13 (at 32 packs_table) (codes "INSERT INTO packs (pack, length, live) VALUES (?1, ?2, ?3)") (pack_columns p) p
unfolding understood everything
pack_inserted p = record {
  terms = lit Null ∷ col 0 0 ∷ col 0 1 ∷ col 0 2 ∷ [];
  width = 4;
  means = record { is = refl; plain = (refl, refl); unlisted = refl; whole = refl; given = refl };
  gives = refl;
  accepts = refl;
}

pub pack_set : (pack length live : ℕ) → UpdateText pack_form host_schema 13 (at 32 packs_table) (codes "UPDATE packs SET length = ?2, live = ?3 WHERE pack = ?1") (number pack ∷ number length ∷ number live ∷ [])
    (is_pack pack) (λ p. record p { length = length; live = live })
unfolding understood everything
pack_set pack length live = record {
  test = is 1 0 ∷ [];
  show = col 1 0 ∷ col 1 0 ∷ col 1 1 ∷ col 0 1 ∷ col 0 2 ∷ [];
  means = record { is = refl; plain = (refl, refl); unlisted = refl; whole = refl; given = refl };
  accepts = refl;
  tests = λ id p. last_term (at_ints false Eq (pos p.pack) (pos pack));
  shows = λ id p found was. refl;
}

pub pack_may : (pack length live : ℕ) → length ≤ 4611686018427387904 → live ≤ 4611686018427387904 → MayChange pack_form host_schema (at 32 packs_table) (is_pack pack) (λ p. record p { length = length; live = live })
unfolding everything
pack_may pack length live short few = record {
  suits = λ id p found was. record { typed = refl; present = refl; checked = pack_checked id (record p { length = length; live = live }) short few };
  unwatched = λ id p found. refl;
}

pub pack_deleted : (pack : ℕ) → DeleteText pack_form host_schema 13 (at 32 packs_table) (codes "DELETE FROM packs WHERE pack = ?1") (number pack ∷ []) (is_pack pack)
unfolding understood everything
pack_deleted pack = record {
  test = is 1 0 ∷ [];
  means = record { is = refl; plain = (refl, refl); unlisted = refl; whole = refl; given = refl };
  accepts = refl;
  tests = λ id p. last_term (at_ints false Eq (pos p.pack) (pos pack));
}
