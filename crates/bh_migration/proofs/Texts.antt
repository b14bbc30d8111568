-- The texts by which tenants are tallied, and what nobody needs is counted.
use Rattle.std.proofs.Common.{ℕ, pos, codes, List, [], ◌∷◌, length, ◌/◌, ◌≡◌, true, false, refl}
use Rattle.sqlite.specs.declared.types.Value.{Value}
use Rattle.sqlite.specs.declared.types.Value.TheVariants.{Null, Int, Text}
use Rattle.sqlite.specs.Collation.TheVariants.{Binary}
use Rattle.sqlite.specs.Effect.{value_rows}
use Rattle.sqlite.specs.Listing.{understood}
use Rattle.sqlite.specs.Rows.{stamped}
use Rattle.sqlite.specs.Command.TheVariants.{Insert}
use Rattle.sqlite.specs.Source.TheVariants.{Values}
use Rattle.sqlite.specs.Term.{Term, lit, col, op2}
use Rattle.sqlite.proofs.Callers.{command_of}
use Rattle.sqlite_sql.specs.declared.ops.BinaryOp.TheVariants.{Compare}
use Rattle.sqlite_sql.specs.declared.ops.CompareOp.TheVariants.{Eq}
use Rattle.sqlite_tied.specs.Compute.{everything}
use Rattle.sqlite_typed.proofs.TestLemmas.{at_texts, at_ints, last_term, then_term}
use Rattle.bh_rows.specs.Means.{Means}
use Rattle.bh_rows.specs.Scan.{no_limit}
use Rattle.bh_rows.specs.Texts.{SelectText, SumText, plainly}
use Rattle.bh_tables.specs.Schema.{Octets, host_schema, tallies_table, unneeded_table, at}
use Rattle.bh_tables.specs.Bodies.{bare}
use Rattle.bh_tables.specs.Typed.{Totals, tenant_form, version_form, number}
use Rattle.bh_tables.specs.Shown.{has_marker}
use Rattle.bh_tables.proofs.Terms.{is}
use Rattle.bh_migration.specs.Tallying.{count_text, shown_name}
use Rattle.bh_migration.specs.declared.tallying.Count.{Count}
use Rattle.bh_migration.specs.declared.tallying.Count.TheVariants as count

abbrev pub names_text : List ℕ
names_text = codes "SELECT tenant FROM tenants ORDER BY rowid"

pub names_shown : (sums : Totals) → SelectText (tenant_form sums) host_schema 1 names_text [] (λ _. true) shown_name no_limit
unfolding understood everything
names_shown sums = record {
  test = [];
  show = col 1 1 ∷ [];
  names = codes "tenant" ∷ [];
  means = record { is = refl; plain = (refl, refl); unlisted = refl; whole = refl; given = refl };
  low = refl;
  accepts = refl;
  tests = λ id t. refl;
  shows = λ id t. refl;
}

-- whatever is given for the tenant
pub count_means : (what : Count) → Means host_schema (count_text what) (command_of (understood host_schema (count_text what))) 1
unfolding understood everything
count_means count.Versions = record { is = refl; plain = (refl, refl); unlisted = refl; whole = refl; given = refl }
count_means count.Markers = record { is = refl; plain = (refl, refl); unlisted = refl; whole = refl; given = refl }
count_means count.Objects = record { is = refl; plain = (refl, refl); unlisted = refl; whole = refl; given = refl }

pub versions_counted : (tenant : Octets) → SumText version_form host_schema 7 (count_text count.Versions) (Text tenant ∷ []) (λ v. has_marker tenant 0 (bare v)) (λ _. 1)
unfolding understood everything
versions_counted tenant = record {
  test = is 1 0 ∷ op2 (Compare Eq Binary) (col 1 6) (lit (Int (pos 0))) ∷ [];
  argument = lit (Int (pos 1));
  names = codes "coalesce(sum(1), 0)" ∷ [];
  means = record { is = refl; plain = (refl, refl); unlisted = refl; whole = refl; given = refl };
  low = refl;
  accepts = refl;
  tests = λ id v. then_term (at_texts false Eq v.tenant tenant) (last_term (at_ints false Eq (pos v.marker) (pos 0)));
  reads = λ id v. refl;
}

pub markers_counted : (tenant : Octets) → SumText version_form host_schema 7 (count_text count.Markers) (Text tenant ∷ []) (λ v. has_marker tenant 1 (bare v)) (λ _. 1)
unfolding understood everything
markers_counted tenant = record {
  test = is 1 0 ∷ op2 (Compare Eq Binary) (col 1 6) (lit (Int (pos 1))) ∷ [];
  argument = lit (Int (pos 1));
  names = codes "coalesce(sum(1), 0)" ∷ [];
  means = record { is = refl; plain = (refl, refl); unlisted = refl; whole = refl; given = refl };
  low = refl;
  accepts = refl;
  tests = λ id v. then_term (at_texts false Eq v.tenant tenant) (last_term (at_ints false Eq (pos v.marker) (pos 1)));
  reads = λ id v. refl;
}

abbrev pub insert_text : List ℕ
insert_text = codes "INSERT INTO tallies (tenant, versions, markers, objects) VALUES (?1, ?2, ?3, ?4)"

abbrev pub insert_terms : List Term
insert_terms = lit Null ∷ col 0 0 ∷ col 0 1 ∷ col 0 2 ∷ col 0 3 ∷ []

pub insert_means : Means host_schema insert_text (Insert 12 (Values insert_terms 5)) 4
unfolding understood everything
insert_means = record { is = refl; plain = (refl, refl); unlisted = refl; whole = refl; given = refl }

-- the row that is given, whatever its first column
pub insert_gives : (v : Value) (a b c : ℕ) → value_rows (stamped (plainly (at 30 tallies_table)) (v ∷ number a ∷ number b ∷ number c ∷ [])) 5 (length insert_terms / 5) insert_terms ≡ (Null ∷ v ∷ number a ∷ number b ∷ number c ∷ []) ∷ []
unfolding everything
insert_gives v a b c = refl

abbrev pub weight_text : List ℕ
weight_text = codes "INSERT INTO unneeded (bytes) VALUES (?1)"

abbrev pub weight_terms : List Term
weight_terms = lit Null ∷ lit Null ∷ col 0 0 ∷ []

pub weight_means : Means host_schema weight_text (Insert 19 (Values weight_terms 3)) 1
unfolding understood everything
weight_means = record { is = refl; plain = (refl, refl); unlisted = refl; whole = refl; given = refl }

pub weight_gives : (n : ℕ) → value_rows (stamped (plainly (at 44 unneeded_table)) (number n ∷ [])) 3 (length weight_terms / 3) weight_terms ≡ (Null ∷ Null ∷ number n ∷ []) ∷ []
unfolding everything
weight_gives n = refl
