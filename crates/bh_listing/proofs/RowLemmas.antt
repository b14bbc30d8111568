-- The text that reads a chunk of a listing.
use Rattle.std.proofs.Common.{◌≡◌, Bool, ℕ, pos, codes, List, [], ◌∷◌, map, filter, take, refl, sym, ap, ◌∙◌, Result, IfOk, IfErr, Ordering, int_cmp, zero, suc, true, false, Ok, Err}
use Rattle.sqlite.specs.declared.types.Value.TheVariants.{Text, Blob}
use Rattle.sqlite.specs.declared.error.Error.{Error}
use Rattle.sqlite.specs.Order.{Row}
use Rattle.sqlite.specs.Effect.{Database}
use Rattle.sqlite.specs.Collation.TheVariants.{Binary}
use Rattle.sqlite.specs.Term.{col, op2}
use Rattle.sqlite.specs.Listing.{understood}
use Rattle.sqlite.specs.State.{State, Shown, FailsToQuery, HasCleanDisk, Survives, CommitsShowing}
use Rattle.sqlite_sql.specs.declared.ops.BinaryOp.TheVariants.{Compare}
use Rattle.sqlite_sql.specs.declared.ops.CompareOp.TheVariants.{Eq, Ge, Lt}
use Rattle.sqlite_value.specs.Keys.{ascending}
use Rattle.sqlite_value.proofs.OrderLemmas.{value_cmp-Int, value_cmp-Blob}
use Rattle.sqlite_tied.specs.Compute.{everything}
use Rattle.sqlite_keyed.specs.Lists.{sort_by}
use Rattle.sqlite_typed.specs.Tests.{bytes_cmp}
use Rattle.sqlite_typed.proofs.TestLemmas.{at_texts, at_blobs, last_term, then_term, then_key, last_key}
use Rattle.bh_rows.specs.Form.{typed}
use Rattle.bh_rows.specs.Scan.{by_rowid}
use Rattle.bh_rows.specs.Texts.{IsReadyAt, SortedText}
use Rattle.bh_rows.proofs.ScanLemmas.{then_assoc}
use Rattle.bh_rows.proofs.TextLemmas as text
use Rattle.bh_tables.specs.Schema.{Octets, host_schema}
use Rattle.bh_tables.specs.Typed.{Totals, VersionColumns, VersionRow, version_form, number, IsReadyBy, tables, tables_in}
use Rattle.bh_tables.specs.Bodies.{bare, columns_of}
use Rattle.bh_tables.proofs.Places.{versions}
use Rattle.bh_tables.proofs.ResolvedLemmas.{seen_sorted}
use Rattle.bh_tables.proofs.Terms.{is}
use Rattle.bh_tables.proofs.Statements.{Shows}
use Rattle.bh_shelf.specs.Contents.{Contents}
use Rattle.bh_base.specs.Placed.{filled}
use Rattle.bh_base.proofs.Placed.{versions_alike}
use Rattle.bh_listing.specs.Rows.{version_order, is_listed, shown_listed, listed_rows}

abbrev listed_text : Octets
listed_text = codes "SELECT okey, marker, stamp, size, sum FROM versions WHERE tenant = ?1 AND bucket = ?2 AND okey >= ?3 AND okey < ?4 ORDER BY okey, seq DESC, rowid LIMIT ?5"

pub take_map : {A B : Type 0} (f : A → B) (n : ℕ) (xs : List A) → take n (map f xs) ≡ map f (take n xs)
take_map f zero xs = refl
take_map f (suc n) [] = refl
take_map f (suc n) (x ∷ xs) = ap (λ l. f x ∷ l) (take_map f n xs)

-- what a text shows of versions is the same with the bytes of packs and without
module _ (passes : VersionColumns → Bool) (shows : VersionColumns → Row) (order : VersionColumns → VersionColumns → Ordering) (count : ℕ) where
  abbrev first_rows : List VersionRow → List Row
  first_rows vs = map (λ v. shows (columns_of v)) (take count (sort_by (λ a b. order (columns_of a) (columns_of b)) (filter (λ v. passes (columns_of v)) vs)))

  of_columns : (vs : List VersionRow) → take count (map shows (sort_by order (filter passes (map columns_of vs)))) ≡ first_rows vs
  of_columns vs = ap (take count) (seen_sorted passes vs shows order) ∙ take_map (λ v. shows (columns_of v)) count _

  pub first_alike : (packs : Contents) (db : Database) → first_rows (tables_in db).versions ≡ first_rows (tables_in (filled packs db)).versions
  first_alike packs db = sym (of_columns (tables_in db).versions) ∙ ap (λ cs. take count (map shows (sort_by order (filter passes cs)))) (versions_alike packs db) ∙ of_columns (tables_in (filled packs db)).versions

module _ (tenant bucket from upto : Octets) (count : ℕ) where
  abbrev params : Row
  params = Text tenant ∷ Text bucket ∷ Blob from ∷ Blob upto ∷ number count ∷ []

  abbrev passes : VersionColumns → Bool
  passes c = is_listed tenant bucket from upto (bare c)

  abbrev shows_it : VersionColumns → Row
  shows_it c = shown_listed (bare c)

  abbrev before : VersionColumns → VersionColumns → Ordering
  before a b = version_order (bare a) (bare b)

  listed : SortedText version_form host_schema 7 listed_text params passes shows_it before (col 0 4)
  unfolding understood everything
  listed = record {
    test = is 1 0 ∷ is 3 1 ∷ op2 (Compare Ge Binary) (col 1 4) (col 0 2) ∷ op2 (Compare Lt Binary) (col 1 4) (col 0 3) ∷ [];
    show = col 1 4 ∷ col 1 6 ∷ col 1 7 ∷ col 1 8 ∷ col 1 9 ∷ [];
    keys = (col 1 4, ascending Binary) ∷ (col 1 2, record { collation = Binary; descending = true }) ∷ by_rowid;
    names = codes "okey" ∷ codes "marker" ∷ codes "stamp" ∷ codes "size" ∷ codes "sum" ∷ [];
    means = record { is = refl; plain = (refl, refl); unlisted = refl; whole = refl; given = refl };
    low = refl;
    accepts = refl;
    tests = λ id v. then_term (at_texts false Eq v.tenant tenant) (then_term (at_texts false Eq v.bucket bucket) (then_term (at_blobs false Ge v.okey from) (last_term (at_blobs false Lt v.okey upto))));
    shows = λ id v. refl;
    orders = λ a b. then_key (value_cmp-Blob a.1.okey b.1.okey) (then_key (value_cmp-Int (pos b.1.seq) (pos a.1.seq)) (last_key (value_cmp-Int a.0 b.0))) ∙ sym (then_assoc (bytes_cmp a.1.okey b.1.okey) (int_cmp (pos b.1.seq) (pos a.1.seq)) (int_cmp a.0 b.0));
  }

  -- how the text may end, and which rows it shows
  pub listed_shown : {sums : Totals} (old new : State) → IsReadyBy sums old → {X : Type 0} (rows_in : X → List Row) (result : Result X Error) → (HasCleanDisk new → IfOk result (λ x. Shown listed_text params old new (rows_in x)))
      → (HasCleanDisk new → IfErr result (FailsToQuery listed_text params old new)) → Survives old new (CommitsShowing listed_text params old)
      → Shows old new rows_in (λ t. map shown_listed (listed_rows tenant bucket from upto count t.versions)) result
  listed_shown {sums} old new ready rows_in result ok err survives = record {
    asks = text.sorted_asks version_form host_schema 7 old new ready_at listed_text params passes shows_it before (col 0 4) listed rows_in result ok err survives;
    rows = λ clean. go result (text.select_sorted version_form host_schema 7 old new ready_at listed_text params passes shows_it before (col 0 4) listed rows_in result ok survives clean);
  }
    where
      ready_at : IsReadyAt version_form host_schema 7 old
      ready_at clean up = let h = ready clean up in (h.schema, h.held.versions)

      go : (r : Result _ Error) → IfOk r (λ x. rows_in x ≡ take count (map shows_it (sort_by before (filter passes (typed version_form (old.now.trees 7))))))
          → IfOk r (λ x. rows_in x ≡ map shown_listed (listed_rows tenant bucket from upto count (tables old).versions))
      go (Ok x) h = h ∙ ap (λ cs. take count (map shows_it (sort_by before (filter passes cs)))) ((versions sums).rows_are old.now) ∙ ap (take count) (seen_sorted passes (tables old).versions shows_it before) ∙ take_map shown_listed count (sort_by version_order (filter (is_listed tenant bucket from upto) (tables old).versions))
      go (Err e) h = tt

  -- they are the same with the bytes of packs and without
  pub listed_alike : (packs : Contents) (db : Database) → map shown_listed (listed_rows tenant bucket from upto count (tables_in db).versions) ≡ map shown_listed (listed_rows tenant bucket from upto count (tables_in (filled packs db)).versions)
  listed_alike = first_alike passes shows_it before count
