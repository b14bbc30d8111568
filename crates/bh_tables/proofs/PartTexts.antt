-- The texts over parts.
use Rattle.std.proofs.Common.{◌≡◌, Bool, ℕ, ℤ, pos, codes, List, [], ◌∷◌, ◌&&◌, true, false, refl, sym, ap, ◌∙◌}
use Rattle.std.specs.List.{list_any}
use Rattle.sqlite.specs.Collation.TheVariants.{Binary}
use Rattle.sqlite.specs.declared.types.Value.TheVariants.{Null, Text}
use Rattle.sqlite.specs.Edit.{next_rowid}
use Rattle.sqlite.specs.Effect.{Database}
use Rattle.sqlite.specs.Listing.{understood}
use Rattle.sqlite.specs.Order.{Row}
use Rattle.sqlite.specs.Term.{lit, col}
use Rattle.sqlite.specs.Tree.{Trees}
use Rattle.sqlite_sql.specs.declared.ops.CompareOp.TheVariants.{Eq}
use Rattle.sqlite_value.specs.Keys.{plain, ascending, first_key}
use Rattle.sqlite_value.proofs.OrderLemmas.{value_cmp-Int}
use Rattle.sqlite_schema.specs.Rules.{agree}
use Rattle.sqlite_tied.specs.Compute.{everything}
use Rattle.sqlite_typed.proofs.TestLemmas.{at_texts, at_ints, last_term, then_term, last_key, then_key}
use Rattle.bh_rows.specs.Form.{put, typed}
use Rattle.bh_rows.specs.Keys.{AreUnused}
use Rattle.bh_rows.specs.Scan.{no_limit, by_rowid}
use Rattle.bh_rows.specs.Texts.{MayAdd, InsertText, DeleteText, SelectText, SortedText, SumText}
use Rattle.bh_rows.proofs.FormLemmas.{any_typed}
use Rattle.bh_tables.specs.Schema.{Octets, host_schema, parts_table, at}
use Rattle.bh_tables.specs.Typed.{Totals, PartColumns, PartRow, part_form, part_columns, upload_form, number, IsHostBy, tables_in}
use Rattle.bh_tables.specs.Bodies.{bare_part, resolved_part}
use Rattle.bh_tables.specs.Shown.{is_upload, is_part, is_part_of, has_body, by_part, shown_part, shown_body, is_part_used}
use Rattle.bh_tables.proofs.ResolvedLemmas.{any_resolved_part}
use Rattle.bh_tables.proofs.Checked.{part_checked}
use Rattle.bh_tables.proofs.Terms.{is}

-- ---- a part of an upload, whose number and whose body no other has, may be added

pub part_agrees : (i j : ℤ) (a b : PartColumns) → agree plain (1 ∷ 2 ∷ 3 ∷ []) (put part_form (i, a)) (1 ∷ 2 ∷ 3 ∷ []) (put part_form (j, b)) ≡ is_part b.tenant b.upload b.part (bare_part a)
unfolding first_key
part_agrees i j a b = then_term (at_texts false Eq a.tenant b.tenant) (then_term (at_ints false Eq (pos a.upload) (pos b.upload)) (last_term (at_ints false Eq (pos a.part) (pos b.part))))

body_agrees : (i j : ℤ) (a b : PartColumns) → agree plain (1 ∷ 7 ∷ []) (put part_form (i, a)) (1 ∷ 7 ∷ []) (put part_form (j, b)) ≡ has_body (b.tenant, b.body) (bare_part a)
unfolding first_key
body_agrees i j a b = then_term (at_texts false Eq a.tenant b.tenant) (last_term (at_ints false Eq (pos a.body) (pos b.body)))

pub any_in_parts : (db : Database) (m : PartRow → Bool) → list_any m (tables_in db).parts ≡ list_any (λ c. m (resolved_part (tables_in db).refs (tables_in db).blocks c)) (typed part_form (db.trees 18))
any_in_parts db m = any_resolved_part (tables_in db).refs (tables_in db).blocks m (typed part_form (db.trees 18))

pub new_part : {sums : Totals} (db : Database) → IsHostBy sums db → (p : PartColumns) → list_any (is_part p.tenant p.upload p.part) (tables_in db).parts ≡ false → list_any (has_body (p.tenant, p.body)) (tables_in db).parts ≡ false
    → list_any (is_upload p.tenant p.upload) (tables_in db).uploads ≡ true → MayAdd part_form host_schema (at 18 parts_table) db.trees p
unfolding everything
new_part {sums} db host p free unshared owned = record {
  suits = record { typed = refl; present = refl; checked = part_checked (next_rowid (db.trees 18)) p };
  free = (
    any_typed part_form _ (λ a. is_part p.tenant p.upload p.part (bare_part a)) (λ id a. part_agrees id (next_rowid (db.trees 18)) a p) (db.trees 18) host.held.parts ∙ sym (any_in_parts db (is_part p.tenant p.upload p.part)) ∙ free,
    (any_typed part_form _ (λ a. has_body (p.tenant, p.body) (bare_part a)) (λ id a. body_agrees id (next_rowid (db.trees 18)) a p) (db.trees 18) host.held.parts ∙ sym (any_in_parts db (has_body (p.tenant, p.body))) ∙ unshared, tt),
  );
  parents = ap (λ c. c && true) (any_typed (upload_form sums) _ (is_upload p.tenant p.upload) (λ id u. then_term (at_texts false Eq u.tenant p.tenant) (last_term (at_ints false Eq (pos u.upload) (pos p.upload)))) (db.trees 16) host.held.uploads ∙ owned);
}

-- no table refers to parts
pub parts_unused : (db : Trees) (rows : List Row) → AreUnused host_schema db 18 rows
unfolding everything
parts_unused db rows = tt

-- ---- the texts

pub part_body_shown : (tenant : Octets) (upload part : ℕ)
    → SelectText part_form host_schema 18 (codes "SELECT body, size FROM parts WHERE tenant = ?1 AND upload = ?2 AND number = ?3 ORDER BY rowid") (Text tenant ∷ number upload ∷ number part ∷ []) (λ p. is_part tenant upload part (bare_part p)) (λ p. shown_body (bare_part p)) no_limit
unfolding understood everything
part_body_shown tenant upload part = record {
  test = is 1 0 ∷ is 2 1 ∷ is 3 2 ∷ [];
  show = col 1 7 ∷ col 1 4 ∷ [];
  names = codes "body" ∷ codes "size" ∷ [];
  means = record { is = refl; plain = (refl, refl); unlisted = refl; whole = refl; given = refl };
  low = refl;
  accepts = refl;
  tests = λ id p. then_term (at_texts false Eq p.tenant tenant) (then_term (at_ints false Eq (pos p.upload) (pos upload)) (last_term (at_ints false Eq (pos p.part) (pos part))));
  shows = λ id p. refl;
}

pub parts_listed : (tenant : Octets) (upload : ℕ)
    → SortedText part_form host_schema 18 (codes "SELECT number, size, sum, stamp, body FROM parts WHERE tenant = ?1 AND upload = ?2 ORDER BY number, rowid") (Text tenant ∷ number upload ∷ [])
    (λ p. is_part_of tenant upload (bare_part p)) (λ p. shown_part (bare_part p)) (λ a b. by_part (bare_part a) (bare_part b)) no_limit
unfolding understood everything
parts_listed tenant upload = record {
  test = is 1 0 ∷ is 2 1 ∷ [];
  show = col 1 3 ∷ col 1 4 ∷ col 1 5 ∷ col 1 6 ∷ col 1 7 ∷ [];
  keys = (col 1 3, ascending Binary) ∷ by_rowid;
  names = codes "number" ∷ codes "size" ∷ codes "sum" ∷ codes "stamp" ∷ codes "body" ∷ [];
  means = record { is = refl; plain = (refl, refl); unlisted = refl; whole = refl; given = refl };
  low = refl;
  accepts = refl;
  tests = λ id p. then_term (at_texts false Eq p.tenant tenant) (last_term (at_ints false Eq (pos p.upload) (pos upload)));
  shows = λ id p. refl;
  orders = λ a b. then_key (value_cmp-Int (pos a.1.part) (pos b.1.part)) (last_key (value_cmp-Int a.0 b.0));
}

pub part_inserted : (p : PartColumns) → InsertText part_form host_schema 8 (at 18 parts_table) (codes "INSERT INTO parts (tenant, upload, number, size, sum, stamp, body) VALUES (?1, ?2, ?3, ?4, ?5, ?6, ?7)") (part_columns p) p
unfolding understood everything
part_inserted p = record {
  terms = lit Null ∷ col 0 0 ∷ col 0 1 ∷ col 0 2 ∷ col 0 3 ∷ col 0 4 ∷ col 0 5 ∷ col 0 6 ∷ [];
  width = 8;
  means = record { is = refl; plain = (refl, refl); unlisted = refl; whole = refl; given = refl };
  gives = refl;
  accepts = refl;
}

pub part_deleted : (tenant : Octets) (upload part : ℕ)
    → DeleteText part_form host_schema 8 (at 18 parts_table) (codes "DELETE FROM parts WHERE tenant = ?1 AND upload = ?2 AND number = ?3") (Text tenant ∷ number upload ∷ number part ∷ []) (λ p. is_part tenant upload part (bare_part p))
unfolding understood everything
part_deleted tenant upload part = record {
  test = is 1 0 ∷ is 2 1 ∷ is 3 2 ∷ [];
  means = record { is = refl; plain = (refl, refl); unlisted = refl; whole = refl; given = refl };
  accepts = refl;
  tests = λ id p. then_term (at_texts false Eq p.tenant tenant) (then_term (at_ints false Eq (pos p.upload) (pos upload)) (last_term (at_ints false Eq (pos p.part) (pos part))));
}

pub parts_deleted : (tenant : Octets) (upload : ℕ) → DeleteText part_form host_schema 8 (at 18 parts_table) (codes "DELETE FROM parts WHERE tenant = ?1 AND upload = ?2") (Text tenant ∷ number upload ∷ []) (λ p. is_part_of tenant upload (bare_part p))
unfolding understood everything
parts_deleted tenant upload = record {
  test = is 1 0 ∷ is 2 1 ∷ [];
  means = record { is = refl; plain = (refl, refl); unlisted = refl; whole = refl; given = refl };
  accepts = refl;
  tests = λ id p. then_term (at_texts false Eq p.tenant tenant) (last_term (at_ints false Eq (pos p.upload) (pos upload)));
}

pub parts_summed : (tenant : Octets) → SumText part_form host_schema 18 (codes "SELECT coalesce(sum(size), 0) FROM parts WHERE tenant = ?1") (Text tenant ∷ []) (λ p. is_part_used tenant (bare_part p)) (λ p. p.size)
unfolding understood everything
parts_summed tenant = record {
  test = is 1 0 ∷ [];
  argument = col 1 4;
  names = codes "coalesce(sum(size), 0)" ∷ [];
  means = record { is = refl; plain = (refl, refl); unlisted = refl; whole = refl; given = refl };
  low = refl;
  accepts = refl;
  tests = λ id p. last_term (at_texts false Eq p.tenant tenant);
  reads = λ id p. refl;
}
