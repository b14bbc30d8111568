-- What is told of a sparse pack, and of the blocks in a pack: the same with the bytes of packs.
use Rattle.std.proofs.Common.{ℕ, List, [], ◌∷◌, map, filter, take, Result, IfOk, IfErr}
use Rattle.sqlite.specs.Order.{Row}
use Rattle.sqlite.specs.State.{State, HasCleanDisk, Survives, CommitsShowing, Shown, FailsToQuery}
use Rattle.sqlite.specs.Term.{col}
use Rattle.sqlite.specs.declared.error.Error.{Error}
use Rattle.sqlite_keyed.specs.Lists.{sort_by}
use Rattle.bh_rows.proofs.TextLemmas as text
use Rattle.bh_tables.specs.Packs.{is_in_pack, places_in, packs_in}
use Rattle.bh_tables.specs.Rows.{number, place_form, pack_form}
use Rattle.bh_tables.specs.Schema.{host_schema, packs_table, placed_table, at}
use Rattle.bh_tables.proofs.Terms.{one_row}
use Rattle.bh_base.specs.Layer.{standing, IsStateClean, IsReadableBy}
use Rattle.bh_base.specs.Removal.{shown_number}
use Rattle.bh_base.specs.Shown.{Backing, shown}
use Rattle.bh_base.proofs.Beneath as beneath
use Rattle.bh_compaction.specs.declared.compaction.Sparse.{Sparse}
use Rattle.bh_compaction.specs.Moves.{is_sparse, shown_name, by_offset}
use Rattle.bh_compaction.proofs.Texts.{sparse_text, sparse_found, names_text, names_found}

module _ (a : Backing) (old new : State) (reads : IsStateClean (shown a old) → IsReadableBy (standing (shown a old))) {X : Type 0} (rows_in : X → List Row) (result : Result X Error) where
  module _ (s : Sparse) where
    abbrev bounds : Row
    bounds = number s.length ∷ number s.live ∷ []

    pub sparse_told : (HasCleanDisk new → IfOk result (λ x. Shown sparse_text bounds old new (rows_in x))) → (HasCleanDisk new → IfErr result (FailsToQuery sparse_text bounds old new)) → Survives old new (CommitsShowing sparse_text bounds old)
        → beneath.IsTold pack_form (at 32 packs_table) (λ sums db h. h.held.packs) a old new reads rows_in (take 1 (map shown_number (filter (is_sparse s) (packs_in old.now.trees)))) result
    sparse_told ok err survives =
        let ready = beneath.read_ready pack_form (at 32 packs_table) (λ sums db h. h.held.packs) a old new reads in
        beneath.ends_told pack_form (at 32 packs_table) (λ sums db h. h.held.packs) a old new reads rows_in _ result survives
        (λ clean. text.select_asks pack_form host_schema 32 old new (ready clean) sparse_text bounds (is_sparse s) shown_number one_row (sparse_found s) rows_in result ok err survives)
        (λ clean h. text.select_rows pack_form host_schema 32 old new (ready clean) sparse_text bounds (is_sparse s) shown_number one_row (sparse_found s) rows_in result ok survives h)

  module _ (pack limit : ℕ) where
    abbrev wanted : Row
    wanted = number pack ∷ number limit ∷ []

    pub names_told : (HasCleanDisk new → IfOk result (λ x. Shown names_text wanted old new (rows_in x))) → (HasCleanDisk new → IfErr result (FailsToQuery names_text wanted old new)) → Survives old new (CommitsShowing names_text wanted old)
        → beneath.IsTold place_form (at 34 placed_table) (λ sums db h. h.held.places) a old new reads rows_in (take limit (map shown_name (sort_by by_offset (filter (is_in_pack pack) (places_in old.now.trees))))) result
    names_told ok err survives =
        let ready = beneath.read_ready place_form (at 34 placed_table) (λ sums db h. h.held.places) a old new reads in
        beneath.ends_told place_form (at 34 placed_table) (λ sums db h. h.held.places) a old new reads rows_in _ result survives
        (λ clean. text.sorted_asks place_form host_schema 34 old new (ready clean) names_text wanted (is_in_pack pack) shown_name by_offset (col 0 1) (names_found pack limit) rows_in result ok err survives)
        (λ clean h. text.select_sorted place_form host_schema 34 old new (ready clean) names_text wanted (is_in_pack pack) shown_name by_offset (col 0 1) (names_found pack limit) rows_in result ok survives h)
