-- The text that reads the parts of an upload.
use Rattle.std.proofs.Common.{◌≡◌, ℕ, Bool, pos, codes, List, [], ◌∷◌, map, filter, take, refl, sym, ap, ◌∙◌, Result, IfOk, IfErr, Ordering, false, Ok, Err}
use Rattle.sqlite.specs.declared.types.Value.TheVariants.{Text}
use Rattle.sqlite.specs.declared.error.Error.{Error}
use Rattle.sqlite.specs.Order.{Row}
use Rattle.sqlite.specs.Effect.{Database}
use Rattle.sqlite.specs.Collation.TheVariants.{Binary}
use Rattle.sqlite.specs.Term.{col, op2}
use Rattle.sqlite.specs.Listing.{understood}
use Rattle.sqlite.specs.State.{State, Shown, FailsToQuery, HasCleanDisk, Survives, CommitsShowing}
use Rattle.sqlite_sql.specs.declared.ops.BinaryOp.TheVariants.{Compare}
use Rattle.sqlite_sql.specs.declared.ops.CompareOp.TheVariants.{Eq, Gt}
use Rattle.sqlite_value.specs.Keys.{ascending}
use Rattle.sqlite_value.proofs.OrderLemmas.{value_cmp-Int}
use Rattle.sqlite_tied.specs.Compute.{everything}
use Rattle.sqlite_keyed.specs.Lists.{sort_by}
use Rattle.sqlite_typed.proofs.TestLemmas.{at_texts, at_ints, last_term, then_term, then_key, last_key}
use Rattle.bh_rows.specs.Form.{typed}
use Rattle.bh_rows.specs.Scan.{by_rowid}
use Rattle.bh_rows.specs.Texts.{IsReadyAt, SortedText}
use Rattle.bh_rows.proofs.TextLemmas as text
use Rattle.bh_tables.specs.Schema.{Octets, host_schema}
use Rattle.bh_tables.specs.Typed.{Totals, PartColumns, PartRow, part_form, number, IsReadyBy, tables, tables_in}
use Rattle.bh_tables.specs.Bodies.{bare_part, part_columns_of}
use Rattle.bh_tables.specs.Shown.{by_part}
use Rattle.bh_tables.proofs.Places.{parts}
use Rattle.bh_tables.proofs.ResolvedLemmas.{seen_parts_sorted}
use Rattle.bh_tables.proofs.Terms.{is}
use Rattle.bh_tables.proofs.Statements.{Shows}
use Rattle.bh_shelf.specs.Contents.{Contents}
use Rattle.bh_base.specs.Placed.{filled}
use Rattle.bh_base.proofs.Placed.{parts_alike}
use Rattle.bh_listing.proofs.RowLemmas.{take_map}
use Rattle.bh_upload_listing.specs.Rows.{is_part_after, shown_part, parts_from}

abbrev parts_text : Octets
parts_text = codes "SELECT number, size, sum, stamp FROM parts WHERE tenant = ?1 AND upload = ?2 AND number > ?3 ORDER BY number, rowid LIMIT ?4"

module _ (tenant : Octets) (upload n count : ℕ) where
  abbrev part_params : Row
  part_params = Text tenant ∷ number upload ∷ number n ∷ number count ∷ []

  abbrev is_after : PartColumns → Bool
  is_after c = is_part_after tenant upload n (bare_part c)

  abbrev shows_it : PartColumns → Row
  shows_it c = shown_part (bare_part c)

  abbrev before : PartColumns → PartColumns → Ordering
  before a b = by_part (bare_part a) (bare_part b)

  listed_parts : SortedText part_form host_schema 18 parts_text part_params is_after shows_it before (col 0 3)
  unfolding understood everything
  listed_parts = record {
    test = is 1 0 ∷ is 2 1 ∷ op2 (Compare Gt Binary) (col 1 3) (col 0 2) ∷ [];
    show = col 1 3 ∷ col 1 4 ∷ col 1 5 ∷ col 1 6 ∷ [];
    keys = (col 1 3, ascending Binary) ∷ by_rowid;
    names = codes "number" ∷ codes "size" ∷ codes "sum" ∷ codes "stamp" ∷ [];
    means = record { is = refl; plain = (refl, refl); unlisted = refl; whole = refl; given = refl };
    low = refl;
    accepts = refl;
    tests = λ id p. then_term (at_texts false Eq p.tenant tenant) (then_term (at_ints false Eq (pos p.upload) (pos upload)) (last_term (at_ints false Gt (pos p.part) (pos n))));
    shows = λ id p. refl;
    orders = λ a b. then_key (value_cmp-Int (pos a.1.part) (pos b.1.part)) (last_key (value_cmp-Int a.0 b.0));
  }

  pub parts_shown : {sums : Totals} (old new : State) → IsReadyBy sums old → {X : Type 0} (rows_in : X → List Row) (result : Result X Error) → (HasCleanDisk new → IfOk result (λ x. Shown parts_text part_params old new (rows_in x)))
      → (HasCleanDisk new → IfErr result (FailsToQuery parts_text part_params old new)) → Survives old new (CommitsShowing parts_text part_params old)
      → Shows old new rows_in (λ t. map shown_part (parts_from tenant upload n count t.parts)) result
  parts_shown {sums} old new ready rows_in result ok err survives = record {
    asks = text.sorted_asks part_form host_schema 18 old new ready_at parts_text part_params is_after shows_it before (col 0 3) listed_parts rows_in result ok err survives;
    rows = λ clean. go result (text.select_sorted part_form host_schema 18 old new ready_at parts_text part_params is_after shows_it before (col 0 3) listed_parts rows_in result ok survives clean);
  }
    where
      ready_at : IsReadyAt part_form host_schema 18 old
      ready_at clean up = let h = ready clean up in (h.schema, h.held.parts)

      go : (r : Result _ Error) → IfOk r (λ x. rows_in x ≡ take count (map shows_it (sort_by before (filter is_after (typed part_form (old.now.trees 18))))))
          → IfOk r (λ x. rows_in x ≡ map shown_part (parts_from tenant upload n count (tables old).parts))
      go (Ok x) h = h ∙ ap (λ ps. take count (map shows_it (sort_by before (filter is_after ps)))) ((parts sums).rows_are old.now) ∙ ap (take count) (seen_parts_sorted is_after (tables old).parts shows_it before) ∙ take_map shown_part count (sort_by by_part (filter (is_part_after tenant upload n) (tables old).parts))
      go (Err e) h = tt

  of_columns : (ps : List PartRow) → take count (map shows_it (sort_by before (filter is_after (map part_columns_of ps)))) ≡ map shown_part (parts_from tenant upload n count ps)
  of_columns ps = ap (take count) (seen_parts_sorted is_after ps shows_it before) ∙ take_map shown_part count (sort_by by_part (filter (is_part_after tenant upload n) ps))

  -- they are the same with the bytes of packs and without
  pub listed_alike : (packs : Contents) (db : Database) → map shown_part (parts_from tenant upload n count (tables_in db).parts) ≡ map shown_part (parts_from tenant upload n count (tables_in (filled packs db)).parts)
  listed_alike packs db = sym (of_columns (tables_in db).parts) ∙ ap (λ cs. take count (map shows_it (sort_by before (filter is_after cs)))) (parts_alike packs db) ∙ of_columns (tables_in (filled packs db)).parts
