-- The texts over the row of what nobody needs, and the one that reads the count of a block.
use Rattle.std.proofs.Common.{◌≡◌, ◌≤◌, ℕ, pos, codes, List, [], ◌∷◌, true, false, refl, sym, subst}
use Rattle.sqlite.specs.declared.types.Value.TheVariants.{Null, Int, Blob}
use Rattle.sqlite.specs.Edit.{next_rowid}
use Rattle.sqlite.specs.Effect.{Database}
use Rattle.sqlite.specs.Listing.{understood}
use Rattle.sqlite.specs.Order.{Row}
use Rattle.sqlite.specs.Term.{lit, col}
use Rattle.sqlite_sql.specs.declared.ops.CompareOp.TheVariants.{Eq}
use Rattle.sqlite_tied.specs.Compute.{everything}
use Rattle.sqlite_typed.proofs.TestLemmas.{at_blobs, at_ints, last_term, then_term}
use Rattle.sqlite_schema.specs.Rules.{passes_checks}
use Rattle.bh_rows.specs.Form.{Form, typed}
use Rattle.bh_rows.specs.Scan.{no_limit}
use Rattle.bh_rows.specs.Texts.{MayAdd, MayChange, InsertText, UpdateText, SelectText}
use Rattle.bh_tables.specs.Schema.{host_schema, unneeded_table, at}
use Rattle.bh_tables.specs.Bodies.{Name}
use Rattle.bh_tables.specs.Garbage.{shown_uses}
use Rattle.bh_tables.specs.Typed.{garbage_columns, garbage_form, weight, use_form, is_named, number}
use Rattle.bh_tables.specs.Shown.{shown_garbage}
use Rattle.bh_tables.proofs.Checked.{garbage_checked, garbage_checked_still}
use Rattle.bh_tables.proofs.Terms.{is}

-- ---- the row of a new host: its number is 1 where no row is there

none_stored : {T : Type 0} (form : Form T) (rows : List Row) → typed form rows ≡ [] → rows ≡ []
none_stored form [] h = refl
none_stored form (r ∷ rows) h = absurd (cc)

first_checked : (rows : List Row) (n : ℕ) → n ≤ 4611686018427387904 → typed garbage_form rows ≡ [] → passes_checks (at 44 unneeded_table) (Int (next_rowid rows) ∷ garbage_columns (weight n)) ≡ true
first_checked rows n low none = subst (λ l. passes_checks unneeded_table (Int (next_rowid l) ∷ garbage_columns (weight n)) ≡ true) (sym (none_stored garbage_form rows none)) (garbage_checked n low)

-- no key has columns of it
pub first_garbage : (db : Database) (n : ℕ) → n ≤ 4611686018427387904 → typed garbage_form (db.trees 44) ≡ [] → MayAdd garbage_form host_schema (at 44 unneeded_table) db.trees (weight n)
unfolding everything
first_garbage db n low none = record { suits = record { typed = refl; present = refl; checked = first_checked (db.trees 44) n low none }; free = tt; parents = refl }

-- ---- the texts

pub garbage_inserted : (n : ℕ) → InsertText garbage_form host_schema 19 (at 44 unneeded_table) (codes "INSERT INTO unneeded (bytes) VALUES (?1)") (number n ∷ []) (weight n)
unfolding understood everything
garbage_inserted n = record {
  terms = lit Null ∷ lit Null ∷ col 0 0 ∷ [];
  width = 3;
  means = record { is = refl; plain = (refl, refl); unlisted = refl; whole = refl; given = refl };
  gives = refl;
  accepts = refl;
}

pub garbage_set : (n : ℕ) → UpdateText garbage_form host_schema 19 (at 44 unneeded_table) (codes "UPDATE unneeded SET bytes = ?1") (number n ∷ []) (λ _. true) (λ _. weight n)
unfolding understood everything
garbage_set n = record {
  test = [];
  show = col 1 0 ∷ col 1 0 ∷ lit Null ∷ col 0 0 ∷ [];
  means = record { is = refl; plain = (refl, refl); unlisted = refl; whole = refl; given = refl };
  accepts = refl;
  tests = λ id g. refl;
  shows = λ id g found was. refl;
}

pub garbage_may : (n : ℕ) → n ≤ 4611686018427387904 → MayChange garbage_form host_schema (at 44 unneeded_table) (λ _. true) (λ _. weight n)
unfolding everything
garbage_may n low = record { suits = λ id g found was. record { typed = refl; present = refl; checked = garbage_checked_still id g n low was.checked }; unwatched = λ id g found. refl }

pub garbage_shown : SelectText garbage_form host_schema 44 (codes "SELECT bytes FROM unneeded ORDER BY rowid") [] (λ _. true) shown_garbage no_limit
unfolding understood everything
garbage_shown = record {
  test = [];
  show = col 1 2 ∷ [];
  names = codes "bytes" ∷ [];
  means = record { is = refl; plain = (refl, refl); unlisted = refl; whole = refl; given = refl };
  low = refl;
  accepts = refl;
  tests = λ id g. refl;
  shows = λ id g. refl;
}

-- the count of a block
pub uses_shown : (q : Name) → SelectText use_form host_schema 23 (codes "SELECT uses FROM uses WHERE digest = ?1 AND ord = ?2 ORDER BY rowid") (Blob q.0 ∷ number q.1 ∷ []) (is_named q) shown_uses no_limit
unfolding understood everything
uses_shown q = record {
  test = is 1 0 ∷ is 2 1 ∷ [];
  show = col 1 3 ∷ [];
  names = codes "uses" ∷ [];
  means = record { is = refl; plain = (refl, refl); unlisted = refl; whole = refl; given = refl };
  low = refl;
  accepts = refl;
  tests = λ id u. then_term (at_blobs false Eq u.digest q.0) (last_term (at_ints false Eq (pos u.ord) (pos q.1)));
  shows = λ id u. refl;
}
