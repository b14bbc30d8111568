-- The text that reads the rows of packs.
use Rattle.std.proofs.Common.{◌≡◌, ℕ, codes, true, List, [], ◌∷◌, map, Ok, Err, Result, IfOk, IfErr, refl, ap, ◌∙◌}
use Rattle.sqlite.specs.Listing.{understood}
use Rattle.sqlite.specs.Order.{Row}
use Rattle.sqlite.specs.Term.{col}
use Rattle.sqlite.specs.State.{State, HasCleanDisk, Survives, CommitsShowing, Shown, FailsToQuery}
use Rattle.sqlite.specs.declared.error.Error.{Error}
use Rattle.sqlite_tied.specs.Compute.{everything}
use Rattle.bh_rows.specs.Form.{AreRows}
use Rattle.bh_rows.specs.Means.{Asks}
use Rattle.bh_rows.specs.Scan.{no_limit, by_rowid}
use Rattle.bh_rows.specs.Texts.{SelectText}
use Rattle.bh_rows.proofs.ScanLemmas.{scan_asks, scan_rows}
use Rattle.bh_tables.specs.Packs.{packs_in}
use Rattle.bh_tables.specs.Rows.{pack_form}
use Rattle.bh_tables.specs.Schema.{host_schema}
use Rattle.bh_tables.proofs.Statements.{all_pass}
use Rattle.bh_base.specs.Layer.{standing, IsStateClean, IsIntact, IsOpen}
use Rattle.bh_migration.specs.Listing.{shown_listed}

abbrev pub packs_text : List ℕ
packs_text = codes "SELECT pack, length FROM packs ORDER BY rowid"

packs_shown : SelectText pack_form host_schema 32 packs_text [] (λ _. true) shown_listed no_limit
unfolding understood everything
packs_shown = record {
  test = [];
  show = col 1 1 ∷ col 1 2 ∷ [];
  names = codes "pack" ∷ codes "length" ∷ [];
  means = record { is = refl; plain = (refl, refl); unlisted = refl; whole = refl; given = refl };
  low = refl;
  accepts = refl;
  tests = λ id p. refl;
  shows = λ id p. refl;
}

module _ {X : Type 0} (old new : State) (schema : IsStateClean old → (standing old).now.schema ≡ host_schema) (rows_in : X → List Row) (result : Result X Error)
    (ok : HasCleanDisk new → IfOk result (λ x. Shown packs_text [] old new (rows_in x))) (survives : Survives old new (CommitsShowing packs_text [] old)) where
  pub packs_asks : (HasCleanDisk new → IfErr result (FailsToQuery packs_text [] old new)) → Asks old new result
  unfolding standing IsIntact IsOpen
  packs_asks err =
      let it = packs_shown in
      scan_asks packs_text host_schema 32 it.test it.show by_rowid no_limit it.names 0 it.means [] old new (λ clean up. schema (record { intact = clean; is_open = up })) refl it.accepts rows_in result ok err survives

  pub packs_rows : IfOk result (λ x. IsStateClean new → AreRows pack_form ((standing old).now.trees 32) → rows_in x ≡ map shown_listed (packs_in (standing old).now.trees))
  unfolding standing IsIntact IsOpen
  packs_rows = go result ok
    where
      go : (r : Result X Error) → (HasCleanDisk new → IfOk r (λ x. Shown packs_text [] old new (rows_in x))) → IfOk r (λ x. IsStateClean new → AreRows pack_form (old.now.trees 32) → rows_in x ≡ map shown_listed (packs_in old.now.trees))
      go (Err e) h = tt
      go (Ok x) h = λ clean typed.
          let it = packs_shown in
          scan_rows pack_form packs_text host_schema 32 it.test it.show no_limit it.names 0 it.means it.low [] (λ _. true) it.tests shown_listed it.shows old new (λ intact up. (schema (record { intact = intact; is_open = up }), typed)) rows_in (Ok x) h survives clean.intact
          ∙ ap (map shown_listed) (all_pass (packs_in old.now.trees))
