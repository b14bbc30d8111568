-- The texts over the tallies of tenants: a new tenant's, one that is set, one that is changed, and one that is told.
use Rattle.std.proofs.Common.{inl, inr, ◌≡◌, ◌≤◌, ◌<◌, ◌^◌, ℕ, ℤ, pos, codes, List, [], ◌∷◌, ◌&&◌, true, false, refl, ap, ◌∙◌}
use Rattle.std.specs.List.{list_any}
use Rattle.sqlite.specs.declared.types.Value.TheVariants.{Null, Int, Text}
use Rattle.sqlite.specs.Edit.{next_rowid}
use Rattle.sqlite.specs.Effect.{Database}
use Rattle.sqlite.specs.Listing.{understood}
use Rattle.sqlite.specs.Order.{Row}
use Rattle.sqlite.specs.Term.{lit, col, op2}
use Rattle.sqlite.specs.Tree.{Trees}
use Rattle.sqlite_sql.specs.declared.ops.ArithOp.TheVariants.{Add, Sub}
use Rattle.sqlite_sql.specs.declared.ops.BinaryOp.TheVariants.{Arith}
use Rattle.sqlite_sql.specs.declared.ops.CompareOp.TheVariants.{Eq}
use Rattle.sqlite_value.specs.Keys.{plain, first_key}
use Rattle.sqlite_schema.specs.Rules.{agree, passes_checks}
use Rattle.sqlite_tied.specs.Compute.{everything}
use Rattle.sqlite_typed.proofs.TestLemmas.{at_texts, last_term}
use Rattle.bh_rows.specs.Form.{put}
use Rattle.bh_rows.specs.Keys.{AreUnused}
use Rattle.bh_rows.specs.Scan.{no_limit}
use Rattle.bh_rows.specs.Texts.{MayAdd, MayChange, InsertText, UpdateText, SelectText}
use Rattle.bh_rows.proofs.FormLemmas.{any_typed}
use Rattle.bh_tables.specs.Schema.{Octets, is_natural, is_small, host_schema, tallies_table, at}
use Rattle.bh_tables.specs.Typed.{Totals, TallyRow, tally, set_to, tally_columns, recounted, tally_form, tenant_form, is_tally, number, IsHostBy, tables_in}
use Rattle.bh_tables.specs.Shown.{is_tenant, shown_tally}
use Rattle.bh_tables.proofs.Checked.{tally_checked, check_at}
use Rattle.bh_tables.proofs.UseTexts.{IsKept, kept_by}
use Rattle.bh_tables.proofs.UsedTexts.{changed}
use Rattle.bh_tables.proofs.Terms.{is}

-- ---- a tally of a tenant who has none may be added

pub tally_agrees : (i j : ℤ) (a b : TallyRow) → agree plain (1 ∷ []) (put tally_form (i, a)) (1 ∷ []) (put tally_form (j, b)) ≡ is_tally b.tenant a
unfolding first_key
tally_agrees i j a b = last_term (at_texts false Eq a.tenant b.tenant)

pub new_tally : {sums : Totals} (db : Database) → IsHostBy sums db → (tenant : Octets) (versions markers objects : ℕ) → versions ≤ 4611686018427387904 → markers ≤ 4611686018427387904 → objects ≤ 4611686018427387904
    → list_any (is_tally tenant) sums.tallies ≡ false → list_any (is_tenant tenant) (tables_in db).tenants ≡ true → MayAdd tally_form host_schema (at 30 tallies_table) db.trees (tally tenant versions markers objects)
unfolding everything
new_tally {sums} db host tenant versions markers objects few fewer fewest free owned = record {
  suits = record { typed = refl; present = refl; checked = tally_checked (next_rowid (db.trees 30)) tenant versions markers objects few fewer fewest };
  free = (any_typed tally_form _ (is_tally tenant) (λ id a. tally_agrees id (next_rowid (db.trees 30)) a (tally tenant versions markers objects)) (db.trees 30) host.held.tallies ∙ ap (list_any (is_tally tenant)) host.held.tallied ∙ free, tt);
  parents = ap (λ b. b && true) (any_typed (tenant_form sums) _ (is_tenant tenant) (λ id t. last_term (at_texts false Eq t.tenant tenant)) (db.trees 1) host.held.tenants ∙ owned);
}

-- no table refers to tallies
pub tallies_unused : (db : Trees) (rows : List Row) → AreUnused host_schema db 30 rows
unfolding everything
tallies_unused db rows = tt

-- ---- the texts

-- a new tenant has nothing
pub tally_inserted : (tenant : Octets) → InsertText tally_form host_schema 12 (at 30 tallies_table) (codes "INSERT INTO tallies (tenant, versions, markers, objects) VALUES (?1, 0, 0, 0)") (Text tenant ∷ []) (tally tenant 0 0 0)
unfolding understood everything
tally_inserted tenant = record {
  terms = lit Null ∷ col 0 0 ∷ lit (Int (pos 0)) ∷ lit (Int (pos 0)) ∷ lit (Int (pos 0)) ∷ [];
  width = 5;
  means = record { is = refl; plain = (refl, refl); unlisted = refl; whole = refl; given = refl };
  gives = refl;
  accepts = refl;
}

-- one who comes with rows, or whose rows are counted as their host is brought over
pub tally_copied : (tenant : Octets) (versions markers objects : ℕ)
    → InsertText tally_form host_schema 12 (at 30 tallies_table) (codes "INSERT INTO tallies (tenant, versions, markers, objects) VALUES (?1, ?2, ?3, ?4)") (Text tenant ∷ number versions ∷ number markers ∷ number objects ∷ []) (tally tenant versions markers objects)
unfolding understood everything
tally_copied tenant versions markers objects = record {
  terms = lit Null ∷ col 0 0 ∷ col 0 1 ∷ col 0 2 ∷ col 0 3 ∷ [];
  width = 5;
  means = record { is = refl; plain = (refl, refl); unlisted = refl; whole = refl; given = refl };
  gives = refl;
  accepts = refl;
}

pub tally_set : (tenant : Octets) (versions markers objects : ℕ)
    → UpdateText tally_form host_schema 12 (at 30 tallies_table) (codes "UPDATE tallies SET versions = ?2, markers = ?3, objects = ?4 WHERE tenant = ?1") (Text tenant ∷ number versions ∷ number markers ∷ number objects ∷ []) (is_tally tenant) (set_to versions markers objects)
unfolding understood everything
tally_set tenant versions markers objects = record {
  test = is 1 0 ∷ [];
  show = col 1 0 ∷ col 1 0 ∷ col 1 1 ∷ col 0 1 ∷ col 0 2 ∷ col 0 3 ∷ [];
  means = record { is = refl; plain = (refl, refl); unlisted = refl; whole = refl; given = refl };
  accepts = refl;
  tests = λ id t. last_term (at_texts false Eq t.tenant tenant);
  shows = λ id t found was. refl;
}

pub tally_may : (tenant : Octets) (versions markers objects : ℕ) → versions ≤ 4611686018427387904 → markers ≤ 4611686018427387904 → objects ≤ 4611686018427387904
    → MayChange tally_form host_schema (at 30 tallies_table) (is_tally tenant) (set_to versions markers objects)
unfolding everything
tally_may tenant versions markers objects few fewer fewest = record { suits = λ id t found was. record { typed = refl; present = refl; checked = tally_checked id t.tenant versions markers objects few fewer fewest }; unwatched = λ id t found. refl }

-- ---- a tally that the CHECKs let through has numbers that can be added to and taken from

tally_kept : (id : ℤ) (t : TallyRow) → passes_checks tallies_table (Int id ∷ tally_columns t) ≡ true → IsKept t.versions × (IsKept t.markers × IsKept t.objects)
tally_kept id t h =
    let row = Int id ∷ tally_columns t in (
      kept_by t.versions (check_at tallies_table row (is_natural 2) (inl refl) h) (check_at tallies_table row (is_small 2) (inr (inl refl)) h),
      (
        kept_by t.markers (check_at tallies_table row (is_natural 3) (inr (inr (inl refl))) h) (check_at tallies_table row (is_small 3) (inr (inr (inr (inl refl)))) h),
        kept_by t.objects (check_at tallies_table row (is_natural 4) (inr (inr (inr (inr (inl refl))))) h) (check_at tallies_table row (is_small 4) (inr (inr (inr (inr (inr (inl refl)))))) h),
      ),
    )

-- so many more and so many fewer of each
abbrev pub AreSmall : ℕ × ℕ → Type 0
AreSmall n = (n.0 < 2 ^ 62) × (n.1 < 2 ^ 62)

pub tally_changed_by : (tenant : Octets) (versions markers objects : ℕ × ℕ) → AreSmall versions → AreSmall markers → AreSmall objects
    → UpdateText tally_form host_schema 12 (at 30 tallies_table) (codes "UPDATE tallies SET versions = versions + ?2 - ?3, markers = markers + ?4 - ?5, objects = objects + ?6 - ?7 WHERE tenant = ?1")
    (Text tenant ∷ number versions.0 ∷ number versions.1 ∷ number markers.0 ∷ number markers.1 ∷ number objects.0 ∷ number objects.1 ∷ []) (is_tally tenant) (recounted versions markers objects)
unfolding understood everything
tally_changed_by tenant versions markers objects few fewer fewest = record {
  test = is 1 0 ∷ [];
  show = col 1 0 ∷ col 1 0 ∷ col 1 1 ∷ op2 (Arith Sub) (op2 (Arith Add) (col 1 2) (col 0 1)) (col 0 2) ∷ op2 (Arith Sub) (op2 (Arith Add) (col 1 3) (col 0 3)) (col 0 4)
      ∷ op2 (Arith Sub) (op2 (Arith Add) (col 1 4) (col 0 5)) (col 0 6) ∷ [];
  means = record { is = refl; plain = (refl, refl); unlisted = refl; whole = refl; given = refl };
  accepts = refl;
  tests = λ id t. last_term (at_texts false Eq t.tenant tenant);
  shows = λ id t found was.
      let kept = tally_kept id t was.checked in
      λ i. Int id ∷ Int id ∷ Text t.tenant ∷ changed t.versions versions.0 versions.1 kept.0 few.0 few.1 i ∷ changed t.markers markers.0 markers.1 kept.1.0 fewer.0 fewer.1 i ∷ changed t.objects objects.0 objects.1 kept.1.1 fewest.0 fewest.1 i ∷ [];
}

pub tally_shown : (tenant : Octets) → SelectText tally_form host_schema 30 (codes "SELECT versions, markers, objects FROM tallies WHERE tenant = ?1 ORDER BY rowid") (Text tenant ∷ []) (is_tally tenant) shown_tally no_limit
unfolding understood everything
tally_shown tenant = record {
  test = is 1 0 ∷ [];
  show = col 1 2 ∷ col 1 3 ∷ col 1 4 ∷ [];
  names = codes "versions" ∷ codes "markers" ∷ codes "objects" ∷ [];
  means = record { is = refl; plain = (refl, refl); unlisted = refl; whole = refl; given = refl };
  low = refl;
  accepts = refl;
  tests = λ id t. last_term (at_texts false Eq t.tenant tenant);
  shows = λ id t. refl;
}
