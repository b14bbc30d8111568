-- The text that reads the host's row.
use Rattle.std.proofs.Common.{◌≡◌, ℕ, codes, List, [], ◌∷◌, map, true, Ok, Err, Result, IfOk, IfErr, refl, ap, ◌∙◌}
use Rattle.sqlite.specs.Listing.{understood}
use Rattle.sqlite.specs.Order.{Row}
use Rattle.sqlite.specs.Term.{col}
use Rattle.sqlite.specs.State.{State, HasCleanDisk, Survives, CommitsShowing, Shown, FailsToQuery}
use Rattle.sqlite.specs.declared.error.Error.{Error}
use Rattle.sqlite_tied.specs.Compute.{everything}
use Rattle.bh_rows.specs.Form.{AreRows}
use Rattle.bh_rows.specs.Means.{Asks}
use Rattle.bh_rows.specs.Scan.{no_limit, by_rowid}
use Rattle.bh_rows.specs.Texts.{SelectText}
use Rattle.bh_rows.proofs.ScanLemmas.{scan_asks, scan_rows}
use Rattle.sqlite.specs.Effect.{Database}
use Rattle.bh_tables.specs.Typed.{host_form, tables_in}
use Rattle.bh_tables.proofs.Statements.{all_pass}
use Rattle.bh_base.specs.Layer.{standing, IsStateClean, IsIntact, IsOpen}
use Rattle.bh_open.specs.Opening.{shown_row}
use Rattle.bh_open.specs.Versions.{schema_of, IsHostWith}
use Rattle.bh_open.specs.declared.found.HostVersion.{HostVersion}
use Rattle.bh_open.specs.declared.found.HostVersion.TheVariants.{First, Second, Third, Fourth, Fifth}

abbrev pub row_text : List ℕ
row_text = codes "SELECT version, latest, min_part, max_body, digest FROM host ORDER BY rowid"

row_shown : (v : HostVersion) → SelectText host_form (schema_of v) 0 row_text [] (λ _. true) shown_row no_limit
unfolding understood everything
row_shown First = record {
  test = [];
  show = col 1 2 ∷ col 1 3 ∷ col 1 4 ∷ col 1 5 ∷ col 1 6 ∷ [];
  names = codes "version" ∷ codes "latest" ∷ codes "min_part" ∷ codes "max_body" ∷ codes "digest" ∷ [];
  means = record { is = refl; plain = (refl, refl); unlisted = refl; whole = refl; given = refl };
  low = refl;
  accepts = refl;
  tests = λ id h. refl;
  shows = λ id h. refl;
}
row_shown Second = record {
  test = [];
  show = col 1 2 ∷ col 1 3 ∷ col 1 4 ∷ col 1 5 ∷ col 1 6 ∷ [];
  names = codes "version" ∷ codes "latest" ∷ codes "min_part" ∷ codes "max_body" ∷ codes "digest" ∷ [];
  means = record { is = refl; plain = (refl, refl); unlisted = refl; whole = refl; given = refl };
  low = refl;
  accepts = refl;
  tests = λ id h. refl;
  shows = λ id h. refl;
}
row_shown Third = record {
  test = [];
  show = col 1 2 ∷ col 1 3 ∷ col 1 4 ∷ col 1 5 ∷ col 1 6 ∷ [];
  names = codes "version" ∷ codes "latest" ∷ codes "min_part" ∷ codes "max_body" ∷ codes "digest" ∷ [];
  means = record { is = refl; plain = (refl, refl); unlisted = refl; whole = refl; given = refl };
  low = refl;
  accepts = refl;
  tests = λ id h. refl;
  shows = λ id h. refl;
}
row_shown Fourth = record {
  test = [];
  show = col 1 2 ∷ col 1 3 ∷ col 1 4 ∷ col 1 5 ∷ col 1 6 ∷ [];
  names = codes "version" ∷ codes "latest" ∷ codes "min_part" ∷ codes "max_body" ∷ codes "digest" ∷ [];
  means = record { is = refl; plain = (refl, refl); unlisted = refl; whole = refl; given = refl };
  low = refl;
  accepts = refl;
  tests = λ id h. refl;
  shows = λ id h. refl;
}
row_shown Fifth = record {
  test = [];
  show = col 1 2 ∷ col 1 3 ∷ col 1 4 ∷ col 1 5 ∷ col 1 6 ∷ [];
  names = codes "version" ∷ codes "latest" ∷ codes "min_part" ∷ codes "max_body" ∷ codes "digest" ∷ [];
  means = record { is = refl; plain = (refl, refl); unlisted = refl; whole = refl; given = refl };
  low = refl;
  accepts = refl;
  tests = λ id h. refl;
  shows = λ id h. refl;
}

-- the host's table has typed rows
pub typed_host : (v : HostVersion) (db : Database) → IsHostWith v db → (db.schema ≡ schema_of v) × AreRows host_form (db.trees 0)
typed_host First db host = (host.schema, host.held.host)
typed_host Second db host = (host.schema, host.held.host)
typed_host Third db host = (host.schema, host.held.host)
typed_host Fourth db host = (host.schema, host.held.host)
typed_host Fifth db host = (host.schema, host.held.host)

module _ (v : HostVersion) {X : Type 0} (old new : State) (schema : IsStateClean old → (standing old).now.schema ≡ schema_of v) (rows_in : X → List Row) (result : Result X Error)
    (ok : HasCleanDisk new → IfOk result (λ x. Shown row_text [] old new (rows_in x))) (survives : Survives old new (CommitsShowing row_text [] old)) where
  pub row_asks : (HasCleanDisk new → IfErr result (FailsToQuery row_text [] old new)) → Asks old new result
  unfolding standing IsIntact IsOpen
  row_asks err = let it = row_shown v in scan_asks row_text (schema_of v) 0 it.test it.show by_rowid no_limit it.names 0 it.means [] old new (λ clean up. schema (record { intact = clean; is_open = up })) refl it.accepts rows_in result ok err survives

  pub row_rows : IfOk result (λ x. IsStateClean new → AreRows host_form ((standing old).now.trees 0) → rows_in x ≡ map shown_row (tables_in (standing old).now).host)
  unfolding standing IsIntact IsOpen
  row_rows = go result ok
    where
      go : (r : Result X Error) → (HasCleanDisk new → IfOk r (λ x. Shown row_text [] old new (rows_in x))) → IfOk r (λ x. IsStateClean new → AreRows host_form (old.now.trees 0) → rows_in x ≡ map shown_row (tables_in old.now).host)
      go (Err e) h = tt
      go (Ok x) h = λ clean typed.
          let it = row_shown v in
          scan_rows host_form row_text (schema_of v) 0 it.test it.show no_limit it.names 0 it.means it.low [] (λ _. true) it.tests shown_row it.shows old new (λ intact up. (schema (record { intact = intact; is_open = up }), typed)) rows_in (Ok x) h survives clean.intact
          ∙ ap (map shown_row) (all_pass (tables_in old.now).host)
