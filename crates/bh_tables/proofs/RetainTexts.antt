-- The texts over the dates of versions.
use Rattle.std.proofs.Common.{◌≡◌, ℕ, ℤ, pos, codes, List, [], ◌∷◌, ◌&&◌, true, false, refl, sym, ap, ◌∙◌}
use Rattle.std.specs.List.{list_any}
use Rattle.sqlite.specs.declared.types.Value.TheVariants.{Null, Text}
use Rattle.sqlite.specs.Edit.{next_rowid}
use Rattle.sqlite.specs.Effect.{Database}
use Rattle.sqlite.specs.Listing.{understood}
use Rattle.sqlite.specs.Order.{Row}
use Rattle.sqlite.specs.Term.{lit, col}
use Rattle.sqlite.specs.Tree.{Trees}
use Rattle.sqlite_sql.specs.declared.ops.CompareOp.TheVariants.{Eq}
use Rattle.sqlite_value.specs.Keys.{plain, first_key}
use Rattle.sqlite_schema.specs.Rules.{agree}
use Rattle.sqlite_tied.specs.Compute.{everything}
use Rattle.sqlite_typed.proofs.TestLemmas.{at_texts, at_ints, last_term, then_term}
use Rattle.bh_rows.specs.Form.{put, typed}
use Rattle.bh_rows.specs.Keys.{AreUnused}
use Rattle.bh_rows.specs.Scan.{no_limit}
use Rattle.bh_rows.specs.Texts.{MayAdd, MayChange, InsertText, UpdateText, DeleteText, SelectText}
use Rattle.bh_rows.proofs.FormLemmas.{any_typed}
use Rattle.bh_tables.specs.Schema.{Octets, host_schema, retains_table, at}
use Rattle.bh_tables.specs.Bodies.{bare}
use Rattle.bh_tables.specs.Typed.{Totals, RetainRow, retain_form, version_form, number, IsHostBy, tables_in}
use Rattle.bh_tables.specs.Shown.{is_retain, is_entry, shown_until}
use Rattle.bh_tables.proofs.Checked.{retain_checked}
use Rattle.bh_tables.proofs.ResolvedLemmas.{any_resolved}
use Rattle.bh_tables.proofs.Terms.{is}

-- ---- a version that has no date may get one

retain_agrees : (i j : ℤ) (a b : RetainRow) → agree plain (1 ∷ 2 ∷ []) (put retain_form (i, a)) (1 ∷ 2 ∷ []) (put retain_form (j, b)) ≡ is_retain b.tenant b.seq a
unfolding first_key
retain_agrees i j a b = then_term (at_texts false Eq a.tenant b.tenant) (last_term (at_ints false Eq (pos a.seq) (pos b.seq)))

pub new_retain : {sums : Totals} (db : Database) → IsHostBy sums db → (r : RetainRow) → list_any (is_retain r.tenant r.seq) (tables_in db).retains ≡ false → list_any (is_entry r.tenant r.seq) (tables_in db).versions ≡ true
    → MayAdd retain_form host_schema (at 28 retains_table) db.trees r
unfolding everything
new_retain db host r free owned = record {
  suits = record { typed = refl; present = refl; checked = retain_checked (next_rowid (db.trees 28)) r };
  free = (any_typed retain_form _ (is_retain r.tenant r.seq) (λ id a. retain_agrees id (next_rowid (db.trees 28)) a r) (db.trees 28) host.held.retains ∙ free, tt);
  parents = ap (λ b. b && true) (any_typed version_form _ (λ v. is_entry r.tenant r.seq (bare v)) (λ id v. then_term (at_texts false Eq v.tenant r.tenant) (last_term (at_ints false Eq (pos v.seq) (pos r.seq)))) (db.trees 7) host.held.versions
      ∙ sym (any_resolved (tables_in db).refs (tables_in db).blocks (is_entry r.tenant r.seq) (typed version_form (db.trees 7))) ∙ owned);
}

pub retains_unused : (db : Trees) (rows : List Row) → AreUnused host_schema db 28 rows
unfolding everything
retains_unused db rows = tt

pub until_may : (tenant : Octets) (seq until : ℕ) → MayChange retain_form host_schema (at 28 retains_table) (is_retain tenant seq) (λ r. record r { until = until })
unfolding everything
until_may tenant seq until = record { suits = λ id r found was. record { typed = refl; present = refl; checked = retain_checked id (record r { until = until }) }; unwatched = λ id r found. refl }

-- ---- the texts

pub until_shown : (tenant : Octets) (seq : ℕ) → SelectText retain_form host_schema 28 (codes "SELECT until FROM retains WHERE tenant = ?1 AND seq = ?2 ORDER BY rowid") (Text tenant ∷ number seq ∷ []) (is_retain tenant seq) shown_until no_limit
unfolding understood everything
until_shown tenant seq = record {
  test = is 1 0 ∷ is 2 1 ∷ [];
  show = col 1 3 ∷ [];
  names = codes "until" ∷ [];
  means = record { is = refl; plain = (refl, refl); unlisted = refl; whole = refl; given = refl };
  low = refl;
  accepts = refl;
  tests = λ id r. then_term (at_texts false Eq r.tenant tenant) (last_term (at_ints false Eq (pos r.seq) (pos seq)));
  shows = λ id r. refl;
}

pub retain_inserted : (tenant : Octets) (seq until : ℕ) → InsertText retain_form host_schema 11 (at 28 retains_table) (codes "INSERT INTO retains (tenant, seq, until) VALUES (?1, ?2, ?3)") (Text tenant ∷ number seq ∷ number until ∷ [])
    (record { tenant = tenant; seq = seq; until = until })
unfolding understood everything
retain_inserted tenant seq until = record {
  terms = lit Null ∷ col 0 0 ∷ col 0 1 ∷ col 0 2 ∷ [];
  width = 4;
  means = record { is = refl; plain = (refl, refl); unlisted = refl; whole = refl; given = refl };
  gives = refl;
  accepts = refl;
}

pub until_set : (tenant : Octets) (seq until : ℕ) → UpdateText retain_form host_schema 11 (at 28 retains_table) (codes "UPDATE retains SET until = ?3 WHERE tenant = ?1 AND seq = ?2") (Text tenant ∷ number seq ∷ number until ∷ []) (is_retain tenant seq) (λ r. record r { until = until })
unfolding understood everything
until_set tenant seq until = record {
  test = is 1 0 ∷ is 2 1 ∷ [];
  show = col 1 0 ∷ col 1 0 ∷ col 1 1 ∷ col 1 2 ∷ col 0 2 ∷ [];
  means = record { is = refl; plain = (refl, refl); unlisted = refl; whole = refl; given = refl };
  accepts = refl;
  tests = λ id r. then_term (at_texts false Eq r.tenant tenant) (last_term (at_ints false Eq (pos r.seq) (pos seq)));
  shows = λ id r found was. refl;
}

pub retain_deleted : (tenant : Octets) (seq : ℕ) → DeleteText retain_form host_schema 11 (at 28 retains_table) (codes "DELETE FROM retains WHERE tenant = ?1 AND seq = ?2") (Text tenant ∷ number seq ∷ []) (is_retain tenant seq)
unfolding understood everything
retain_deleted tenant seq = record {
  test = is 1 0 ∷ is 2 1 ∷ [];
  means = record { is = refl; plain = (refl, refl); unlisted = refl; whole = refl; given = refl };
  accepts = refl;
  tests = λ id r. then_term (at_texts false Eq r.tenant tenant) (last_term (at_ints false Eq (pos r.seq) (pos seq)));
}
