-- The texts over the host's row.
use Rattle.std.proofs.Common.{◌≡◌, ℕ, pos, codes, List, [], ◌∷◌, true, refl, sym, subst}
use Rattle.sqlite.specs.declared.types.Value.TheVariants.{Null, Int}
use Rattle.sqlite.specs.Edit.{next_rowid}
use Rattle.sqlite.specs.Effect.{Database}
use Rattle.sqlite.specs.Listing.{understood}
use Rattle.sqlite.specs.Order.{Row}
use Rattle.sqlite.specs.Term.{lit, col}
use Rattle.sqlite_tied.specs.Compute.{everything}
use Rattle.sqlite_schema.specs.Rules.{passes_checks}
use Rattle.bh_rows.specs.Form.{Form, typed}
use Rattle.bh_rows.specs.Scan.{no_limit}
use Rattle.bh_rows.specs.Texts.{MayAdd, MayChange, InsertText, UpdateText, SelectText}
use Rattle.bh_tables.specs.Schema.{host_schema, host_table, at}
use Rattle.bh_tables.specs.Hosts.{with_version}
use Rattle.bh_tables.specs.Typed.{HostRow, host_columns, host_form, number, tables_in}
use Rattle.bh_tables.specs.Shown.{shown_latest}
use Rattle.bh_tables.proofs.Checked.{host_checked, host_checked_still, version_checked_still}

-- ---- the row of a new host: its number is 1 where no row is there

none_stored : {T : Type 0} (form : Form T) (rows : List Row) → typed form rows ≡ [] → rows ≡ []
none_stored form [] h = refl
none_stored form (r ∷ rows) h = absurd (cc)

first_checked : (rows : List Row) (h : HostRow) → typed host_form rows ≡ [] → passes_checks (at 0 host_table) (Int (next_rowid rows) ∷ host_columns h) ≡ true
first_checked rows h none = subst (λ l. passes_checks host_table (Int (next_rowid l) ∷ host_columns h) ≡ true) (sym (none_stored host_form rows none)) (host_checked h)

-- no key has columns of it
pub first_host : (db : Database) (h : HostRow) → (tables_in db).host ≡ [] → MayAdd host_form host_schema (at 0 host_table) db.trees h
unfolding everything
first_host db h none = record { suits = record { typed = refl; present = refl; checked = first_checked (db.trees 0) h none }; free = tt; parents = refl }

-- ---- the texts

pub latest_shown : SelectText host_form host_schema 0 (codes "SELECT latest FROM host ORDER BY rowid") [] (λ _. true) shown_latest no_limit
unfolding understood everything
latest_shown = record {
  test = [];
  show = col 1 3 ∷ [];
  names = codes "latest" ∷ [];
  means = record { is = refl; plain = (refl, refl); unlisted = refl; whole = refl; given = refl };
  low = refl;
  accepts = refl;
  tests = λ id h. refl;
  shows = λ id h. refl;
}

pub latest_set : (n : ℕ) → UpdateText host_form host_schema 0 (at 0 host_table) (codes "UPDATE host SET latest = ?1") (number n ∷ []) (λ _. true) (λ h. record h { latest = n })
unfolding understood everything
latest_set n = record {
  test = [];
  show = col 1 0 ∷ col 1 0 ∷ lit Null ∷ col 1 2 ∷ col 0 0 ∷ col 1 4 ∷ col 1 5 ∷ col 1 6 ∷ [];
  means = record { is = refl; plain = (refl, refl); unlisted = refl; whole = refl; given = refl };
  accepts = refl;
  tests = λ id h. refl;
  shows = λ id h found was. refl;
}

pub latest_may : (n : ℕ) → MayChange host_form host_schema (at 0 host_table) (λ _. true) (λ h. record h { latest = n })
unfolding everything
latest_may n = record { suits = λ id h found was. record { typed = refl; present = refl; checked = host_checked_still id h n was.checked }; unwatched = λ id h found. refl }

-- of version 5
pub host_inserted : (min_part max_body digest : ℕ) → InsertText host_form host_schema 0 (at 0 host_table) (codes "INSERT INTO host (version, latest, min_part, max_body, digest) VALUES (5, 0, ?1, ?2, ?3)") (number min_part ∷ number max_body ∷ number digest ∷ [])
    (record { version = 5; latest = 0; min_part = min_part; max_body = max_body; digest = digest })
unfolding understood everything
host_inserted min_part max_body digest = record {
  terms = lit Null ∷ lit Null ∷ lit (Int (pos 5)) ∷ lit (Int (pos 0)) ∷ col 0 0 ∷ col 0 1 ∷ col 0 2 ∷ [];
  width = 7;
  means = record { is = refl; plain = (refl, refl); unlisted = refl; whole = refl; given = refl };
  gives = refl;
  accepts = refl;
}

-- ---- the version of a host that is brought over

pub version_set : UpdateText host_form host_schema 0 (at 0 host_table) (codes "UPDATE host SET version = 5") [] (λ _. true) (with_version 5)
unfolding understood everything
version_set = record {
  test = [];
  show = col 1 0 ∷ col 1 0 ∷ lit Null ∷ lit (Int (pos 5)) ∷ col 1 3 ∷ col 1 4 ∷ col 1 5 ∷ col 1 6 ∷ [];
  means = record { is = refl; plain = (refl, refl); unlisted = refl; whole = refl; given = refl };
  accepts = refl;
  tests = λ id h. refl;
  shows = λ id h found was. refl;
}

pub version_may : MayChange host_form host_schema (at 0 host_table) (λ _. true) (with_version 5)
unfolding everything
version_may = record { suits = λ id h found was. record { typed = refl; present = refl; checked = version_checked_still id h 5 was.checked }; unwatched = λ id h found. refl }
