-- The texts that read a chunk of a listing of versions.
use Rattle.std.proofs.Common.{◌≡◌, ℕ, Bool, pos, codes, List, [], ◌∷◌, map, filter, take, refl, sym, ap, ◌∙◌, Result, IfOk, IfErr, Ordering, int_cmp, true, false, Ok, Err}
use Rattle.sqlite.specs.declared.types.Value.TheVariants.{Text, Blob}
use Rattle.sqlite.specs.declared.error.Error.{Error}
use Rattle.sqlite.specs.Order.{Row}
use Rattle.sqlite.specs.Effect.{Database}
use Rattle.sqlite.specs.Collation.TheVariants.{Binary}
use Rattle.sqlite.specs.Term.{col, op2}
use Rattle.sqlite.specs.Listing.{understood}
use Rattle.sqlite.specs.State.{State, Shown, FailsToQuery, HasCleanDisk, Survives, CommitsShowing}
use Rattle.sqlite_sql.specs.declared.ops.BinaryOp.TheVariants.{Compare}
use Rattle.sqlite_sql.specs.declared.ops.CompareOp.TheVariants.{Eq, Ge, Lt}
use Rattle.sqlite_value.specs.Keys.{ascending}
use Rattle.sqlite_value.proofs.OrderLemmas.{value_cmp-Int, value_cmp-Blob}
use Rattle.sqlite_tied.specs.Compute.{everything}
use Rattle.sqlite_keyed.specs.Lists.{sort_by}
use Rattle.sqlite_typed.specs.Tests.{bytes_cmp}
use Rattle.sqlite_typed.proofs.TestLemmas.{at_texts, at_blobs, at_ints, last_term, then_term, then_key, last_key}
use Rattle.bh_rows.specs.Form.{typed}
use Rattle.bh_rows.specs.Scan.{by_rowid}
use Rattle.bh_rows.specs.Texts.{IsReadyAt, SortedText}
use Rattle.bh_rows.proofs.ScanLemmas.{then_assoc}
use Rattle.bh_rows.proofs.TextLemmas as text
use Rattle.bh_tables.specs.Schema.{Octets, host_schema}
use Rattle.bh_tables.specs.Typed.{Totals, VersionColumns, version_form, number, IsReadyBy, tables, tables_in}
use Rattle.bh_tables.specs.Bodies.{bare}
use Rattle.bh_tables.proofs.Places.{versions}
use Rattle.bh_tables.proofs.ResolvedLemmas.{seen_sorted}
use Rattle.bh_tables.proofs.Terms.{is}
use Rattle.bh_tables.proofs.Statements.{Shows}
use Rattle.bh_shelf.specs.Contents.{Contents}
use Rattle.bh_base.specs.Placed.{filled}
use Rattle.bh_listing.specs.Rows.{version_order, is_listed, listed_rows}
use Rattle.bh_listing.specs.Versions.{is_older_of, shown_numbered, older_rows}
use Rattle.bh_listing.proofs.RowLemmas.{take_map, first_alike}

abbrev numbered_text : Octets
numbered_text = codes "SELECT okey, seq, id, marker, stamp, size, sum FROM versions WHERE tenant = ?1 AND bucket = ?2 AND okey >= ?3 AND okey < ?4 ORDER BY okey, seq DESC, rowid LIMIT ?5"

abbrev older_text : Octets
older_text = codes "SELECT okey, seq, id, marker, stamp, size, sum FROM versions WHERE tenant = ?1 AND bucket = ?2 AND okey = ?3 AND seq < ?4 ORDER BY okey, seq DESC, rowid LIMIT ?5"

abbrev shows_it : VersionColumns → Row
shows_it c = shown_numbered (bare c)

abbrev before : VersionColumns → VersionColumns → Ordering
before a b = version_order (bare a) (bare b)

module _ (tenant bucket from upto : Octets) (count : ℕ) where
  abbrev params : Row
  params = Text tenant ∷ Text bucket ∷ Blob from ∷ Blob upto ∷ number count ∷ []

  abbrev passes : VersionColumns → Bool
  passes c = is_listed tenant bucket from upto (bare c)

  numbered : SortedText version_form host_schema 7 numbered_text params passes shows_it before (col 0 4)
  unfolding understood everything
  numbered = record {
    test = is 1 0 ∷ is 3 1 ∷ op2 (Compare Ge Binary) (col 1 4) (col 0 2) ∷ op2 (Compare Lt Binary) (col 1 4) (col 0 3) ∷ [];
    show = col 1 4 ∷ col 1 2 ∷ col 1 5 ∷ col 1 6 ∷ col 1 7 ∷ col 1 8 ∷ col 1 9 ∷ [];
    keys = (col 1 4, ascending Binary) ∷ (col 1 2, record { collation = Binary; descending = true }) ∷ by_rowid;
    names = codes "okey" ∷ codes "seq" ∷ codes "id" ∷ codes "marker" ∷ codes "stamp" ∷ codes "size" ∷ codes "sum" ∷ [];
    means = record { is = refl; plain = (refl, refl); unlisted = refl; whole = refl; given = refl };
    low = refl;
    accepts = refl;
    tests = λ id v. then_term (at_texts false Eq v.tenant tenant) (then_term (at_texts false Eq v.bucket bucket) (then_term (at_blobs false Ge v.okey from) (last_term (at_blobs false Lt v.okey upto))));
    shows = λ id v. refl;
    orders = λ a b. then_key (value_cmp-Blob a.1.okey b.1.okey) (then_key (value_cmp-Int (pos b.1.seq) (pos a.1.seq)) (last_key (value_cmp-Int a.0 b.0))) ∙ sym (then_assoc (bytes_cmp a.1.okey b.1.okey) (int_cmp (pos b.1.seq) (pos a.1.seq)) (int_cmp a.0 b.0));
  }

  pub numbered_shown : {sums : Totals} (old new : State) → IsReadyBy sums old → {X : Type 0} (rows_in : X → List Row) (result : Result X Error) → (HasCleanDisk new → IfOk result (λ x. Shown numbered_text params old new (rows_in x)))
      → (HasCleanDisk new → IfErr result (FailsToQuery numbered_text params old new)) → Survives old new (CommitsShowing numbered_text params old)
      → Shows old new rows_in (λ t. map shown_numbered (listed_rows tenant bucket from upto count t.versions)) result
  numbered_shown {sums} old new ready rows_in result ok err survives = record {
    asks = text.sorted_asks version_form host_schema 7 old new ready_at numbered_text params passes shows_it before (col 0 4) numbered rows_in result ok err survives;
    rows = λ clean. go result (text.select_sorted version_form host_schema 7 old new ready_at numbered_text params passes shows_it before (col 0 4) numbered rows_in result ok survives clean);
  }
    where
      ready_at : IsReadyAt version_form host_schema 7 old
      ready_at clean up = let h = ready clean up in (h.schema, h.held.versions)

      go : (r : Result _ Error) → IfOk r (λ x. rows_in x ≡ take count (map shows_it (sort_by before (filter passes (typed version_form (old.now.trees 7))))))
          → IfOk r (λ x. rows_in x ≡ map shown_numbered (listed_rows tenant bucket from upto count (tables old).versions))
      go (Ok x) h = h ∙ ap (λ cs. take count (map shows_it (sort_by before (filter passes cs)))) ((versions sums).rows_are old.now) ∙ ap (take count) (seen_sorted passes (tables old).versions shows_it before) ∙ take_map shown_numbered count (sort_by version_order (filter (is_listed tenant bucket from upto) (tables old).versions))
      go (Err e) h = tt

  -- they are the same with the bytes of packs and without
  pub numbered_alike : (packs : Contents) (db : Database) → map shown_numbered (listed_rows tenant bucket from upto count (tables_in db).versions) ≡ map shown_numbered (listed_rows tenant bucket from upto count (tables_in (filled packs db)).versions)
  numbered_alike = first_alike passes shows_it before count

module _ (tenant bucket okey : Octets) (seq count : ℕ) where
  abbrev older_params : Row
  older_params = Text tenant ∷ Text bucket ∷ Blob okey ∷ number seq ∷ number count ∷ []

  abbrev is_older : VersionColumns → Bool
  is_older c = is_older_of tenant bucket okey seq (bare c)

  older : SortedText version_form host_schema 7 older_text older_params is_older shows_it before (col 0 4)
  unfolding understood everything
  older = record {
    test = is 1 0 ∷ is 3 1 ∷ is 4 2 ∷ op2 (Compare Lt Binary) (col 1 2) (col 0 3) ∷ [];
    show = col 1 4 ∷ col 1 2 ∷ col 1 5 ∷ col 1 6 ∷ col 1 7 ∷ col 1 8 ∷ col 1 9 ∷ [];
    keys = (col 1 4, ascending Binary) ∷ (col 1 2, record { collation = Binary; descending = true }) ∷ by_rowid;
    names = codes "okey" ∷ codes "seq" ∷ codes "id" ∷ codes "marker" ∷ codes "stamp" ∷ codes "size" ∷ codes "sum" ∷ [];
    means = record { is = refl; plain = (refl, refl); unlisted = refl; whole = refl; given = refl };
    low = refl;
    accepts = refl;
    tests = λ id v. then_term (at_texts false Eq v.tenant tenant) (then_term (at_texts false Eq v.bucket bucket) (then_term (at_blobs false Eq v.okey okey) (last_term (at_ints false Lt (pos v.seq) (pos seq)))));
    shows = λ id v. refl;
    orders = λ a b. then_key (value_cmp-Blob a.1.okey b.1.okey) (then_key (value_cmp-Int (pos b.1.seq) (pos a.1.seq)) (last_key (value_cmp-Int a.0 b.0))) ∙ sym (then_assoc (bytes_cmp a.1.okey b.1.okey) (int_cmp (pos b.1.seq) (pos a.1.seq)) (int_cmp a.0 b.0));
  }

  pub older_shown : {sums : Totals} (old new : State) → IsReadyBy sums old → {X : Type 0} (rows_in : X → List Row) (result : Result X Error) → (HasCleanDisk new → IfOk result (λ x. Shown older_text older_params old new (rows_in x)))
      → (HasCleanDisk new → IfErr result (FailsToQuery older_text older_params old new)) → Survives old new (CommitsShowing older_text older_params old)
      → Shows old new rows_in (λ t. map shown_numbered (older_rows tenant bucket okey seq count t.versions)) result
  older_shown {sums} old new ready rows_in result ok err survives = record {
    asks = text.sorted_asks version_form host_schema 7 old new ready_at older_text older_params is_older shows_it before (col 0 4) older rows_in result ok err survives;
    rows = λ clean. go result (text.select_sorted version_form host_schema 7 old new ready_at older_text older_params is_older shows_it before (col 0 4) older rows_in result ok survives clean);
  }
    where
      ready_at : IsReadyAt version_form host_schema 7 old
      ready_at clean up = let h = ready clean up in (h.schema, h.held.versions)

      go : (r : Result _ Error) → IfOk r (λ x. rows_in x ≡ take count (map shows_it (sort_by before (filter is_older (typed version_form (old.now.trees 7))))))
          → IfOk r (λ x. rows_in x ≡ map shown_numbered (older_rows tenant bucket okey seq count (tables old).versions))
      go (Ok x) h = h ∙ ap (λ cs. take count (map shows_it (sort_by before (filter is_older cs)))) ((versions sums).rows_are old.now) ∙ ap (take count) (seen_sorted is_older (tables old).versions shows_it before) ∙ take_map shown_numbered count (sort_by version_order (filter (is_older_of tenant bucket okey seq) (tables old).versions))
      go (Err e) h = tt

  pub older_alike : (packs : Contents) (db : Database) → map shown_numbered (older_rows tenant bucket okey seq count (tables_in db).versions) ≡ map shown_numbered (older_rows tenant bucket okey seq count (tables_in (filled packs db)).versions)
  older_alike = first_alike is_older shows_it before count
