-- The texts that read a chunk of a listing of uploads.
use Rattle.std.proofs.Common.{◌≡◌, ℕ, Bool, pos, codes, List, [], ◌∷◌, map, filter, take, refl, sym, ap, ◌∙◌, Result, IfOk, IfErr, int_cmp, false, Ok, Err}
use Rattle.sqlite.specs.declared.types.Value.TheVariants.{Text, Blob}
use Rattle.sqlite.specs.declared.error.Error.{Error}
use Rattle.sqlite.specs.Order.{Row}
use Rattle.sqlite.specs.Collation.TheVariants.{Binary}
use Rattle.sqlite.specs.Term.{col, op2}
use Rattle.sqlite.specs.Listing.{understood}
use Rattle.sqlite.specs.State.{State, Shown, FailsToQuery, HasCleanDisk, Survives, CommitsShowing}
use Rattle.sqlite_sql.specs.declared.ops.BinaryOp.TheVariants.{Compare}
use Rattle.sqlite_sql.specs.declared.ops.CompareOp.TheVariants.{Eq, Ge, Gt, Lt}
use Rattle.sqlite_value.specs.Keys.{ascending}
use Rattle.sqlite_value.proofs.OrderLemmas.{value_cmp-Int, value_cmp-Blob}
use Rattle.sqlite_tied.specs.Compute.{everything}
use Rattle.sqlite_keyed.specs.Lists.{sort_by}
use Rattle.sqlite_typed.specs.Tests.{bytes_cmp}
use Rattle.sqlite_typed.proofs.TestLemmas.{at_texts, at_blobs, at_ints, last_term, then_term, then_key, last_key}
use Rattle.bh_rows.specs.Form.{typed}
use Rattle.bh_rows.specs.Scan.{by_rowid}
use Rattle.bh_rows.specs.Texts.{IsReadyAt, SortedText}
use Rattle.bh_rows.proofs.ScanLemmas.{then_assoc}
use Rattle.bh_rows.proofs.TextLemmas as text
use Rattle.bh_tables.specs.Schema.{Octets, host_schema}
use Rattle.bh_tables.specs.Typed.{Totals, UploadRow, upload_form, number, IsReadyBy, tables}
use Rattle.bh_tables.specs.Shown.{by_key}
use Rattle.bh_tables.proofs.Places.{uploads}
use Rattle.bh_tables.proofs.Terms.{is}
use Rattle.bh_tables.proofs.Statements.{Shows}
use Rattle.bh_listing.proofs.RowLemmas.{take_map}
use Rattle.bh_listing.specs.Uploads.{is_listed, is_later_of, shown_listed, listed_rows, later_rows}

abbrev listed_text : Octets
listed_text = codes "SELECT okey, upload, begun FROM uploads WHERE tenant = ?1 AND bucket = ?2 AND okey >= ?3 AND okey < ?4 ORDER BY okey, upload, rowid LIMIT ?5"

abbrev later_text : Octets
later_text = codes "SELECT okey, upload, begun FROM uploads WHERE tenant = ?1 AND bucket = ?2 AND okey = ?3 AND upload > ?4 ORDER BY okey, upload, rowid LIMIT ?5"

module _ (tenant bucket from upto : Octets) (count : ℕ) where
  abbrev params : Row
  params = Text tenant ∷ Text bucket ∷ Blob from ∷ Blob upto ∷ number count ∷ []

  abbrev passes : UploadRow → Bool
  passes = is_listed tenant bucket from upto

  listed : (sums : Totals) → SortedText (upload_form sums) host_schema 16 listed_text params passes shown_listed by_key (col 0 4)
  unfolding understood everything
  listed sums = record {
    test = is 1 0 ∷ is 3 1 ∷ op2 (Compare Ge Binary) (col 1 4) (col 0 2) ∷ op2 (Compare Lt Binary) (col 1 4) (col 0 3) ∷ [];
    show = col 1 4 ∷ col 1 2 ∷ col 1 5 ∷ [];
    keys = (col 1 4, ascending Binary) ∷ (col 1 2, ascending Binary) ∷ by_rowid;
    names = codes "okey" ∷ codes "upload" ∷ codes "begun" ∷ [];
    means = record { is = refl; plain = (refl, refl); unlisted = refl; whole = refl; given = refl };
    low = refl;
    accepts = refl;
    tests = λ id u. then_term (at_texts false Eq u.tenant tenant) (then_term (at_texts false Eq u.bucket bucket) (then_term (at_blobs false Ge u.okey from) (last_term (at_blobs false Lt u.okey upto))));
    shows = λ id u. refl;
    orders = λ a b. then_key (value_cmp-Blob a.1.okey b.1.okey) (then_key (value_cmp-Int (pos a.1.upload) (pos b.1.upload)) (last_key (value_cmp-Int a.0 b.0))) ∙ sym (then_assoc (bytes_cmp a.1.okey b.1.okey) (int_cmp (pos a.1.upload) (pos b.1.upload)) (int_cmp a.0 b.0));
  }

  pub listed_shown : {sums : Totals} (old new : State) → IsReadyBy sums old → {X : Type 0} (rows_in : X → List Row) (result : Result X Error) → (HasCleanDisk new → IfOk result (λ x. Shown listed_text params old new (rows_in x)))
      → (HasCleanDisk new → IfErr result (FailsToQuery listed_text params old new)) → Survives old new (CommitsShowing listed_text params old)
      → Shows old new rows_in (λ t. map shown_listed (listed_rows tenant bucket from upto count t.uploads)) result
  listed_shown {sums} old new ready rows_in result ok err survives = record {
    asks = text.sorted_asks (upload_form sums) host_schema 16 old new ready_at listed_text params passes shown_listed by_key (col 0 4) (listed sums) rows_in result ok err survives;
    rows = λ clean. go result (text.select_sorted (upload_form sums) host_schema 16 old new ready_at listed_text params passes shown_listed by_key (col 0 4) (listed sums) rows_in result ok survives clean);
  }
    where
      ready_at : IsReadyAt (upload_form sums) host_schema 16 old
      ready_at clean up = let h = ready clean up in (h.schema, h.held.uploads)

      go : (r : Result _ Error) → IfOk r (λ x. rows_in x ≡ take count (map shown_listed (sort_by by_key (filter passes (typed (upload_form sums) (old.now.trees 16))))))
          → IfOk r (λ x. rows_in x ≡ map shown_listed (listed_rows tenant bucket from upto count (tables old).uploads))
      go (Ok x) h = h ∙ ap (λ us. take count (map shown_listed (sort_by by_key (filter passes us)))) ((uploads sums).rows_are old.now) ∙ take_map shown_listed count (sort_by by_key (filter passes (tables old).uploads))
      go (Err e) h = tt

module _ (tenant bucket okey : Octets) (n count : ℕ) where
  abbrev later_params : Row
  later_params = Text tenant ∷ Text bucket ∷ Blob okey ∷ number n ∷ number count ∷ []

  abbrev is_later : UploadRow → Bool
  is_later = is_later_of tenant bucket okey n

  later : (sums : Totals) → SortedText (upload_form sums) host_schema 16 later_text later_params is_later shown_listed by_key (col 0 4)
  unfolding understood everything
  later sums = record {
    test = is 1 0 ∷ is 3 1 ∷ is 4 2 ∷ op2 (Compare Gt Binary) (col 1 2) (col 0 3) ∷ [];
    show = col 1 4 ∷ col 1 2 ∷ col 1 5 ∷ [];
    keys = (col 1 4, ascending Binary) ∷ (col 1 2, ascending Binary) ∷ by_rowid;
    names = codes "okey" ∷ codes "upload" ∷ codes "begun" ∷ [];
    means = record { is = refl; plain = (refl, refl); unlisted = refl; whole = refl; given = refl };
    low = refl;
    accepts = refl;
    tests = λ id u. then_term (at_texts false Eq u.tenant tenant) (then_term (at_texts false Eq u.bucket bucket) (then_term (at_blobs false Eq u.okey okey) (last_term (at_ints false Gt (pos u.upload) (pos n)))));
    shows = λ id u. refl;
    orders = λ a b. then_key (value_cmp-Blob a.1.okey b.1.okey) (then_key (value_cmp-Int (pos a.1.upload) (pos b.1.upload)) (last_key (value_cmp-Int a.0 b.0))) ∙ sym (then_assoc (bytes_cmp a.1.okey b.1.okey) (int_cmp (pos a.1.upload) (pos b.1.upload)) (int_cmp a.0 b.0));
  }

  pub later_shown : {sums : Totals} (old new : State) → IsReadyBy sums old → {X : Type 0} (rows_in : X → List Row) (result : Result X Error) → (HasCleanDisk new → IfOk result (λ x. Shown later_text later_params old new (rows_in x)))
      → (HasCleanDisk new → IfErr result (FailsToQuery later_text later_params old new)) → Survives old new (CommitsShowing later_text later_params old)
      → Shows old new rows_in (λ t. map shown_listed (later_rows tenant bucket okey n count t.uploads)) result
  later_shown {sums} old new ready rows_in result ok err survives = record {
    asks = text.sorted_asks (upload_form sums) host_schema 16 old new ready_at later_text later_params is_later shown_listed by_key (col 0 4) (later sums) rows_in result ok err survives;
    rows = λ clean. go result (text.select_sorted (upload_form sums) host_schema 16 old new ready_at later_text later_params is_later shown_listed by_key (col 0 4) (later sums) rows_in result ok survives clean);
  }
    where
      ready_at : IsReadyAt (upload_form sums) host_schema 16 old
      ready_at clean up = let h = ready clean up in (h.schema, h.held.uploads)

      go : (r : Result _ Error) → IfOk r (λ x. rows_in x ≡ take count (map shown_listed (sort_by by_key (filter is_later (typed (upload_form sums) (old.now.trees 16))))))
          → IfOk r (λ x. rows_in x ≡ map shown_listed (later_rows tenant bucket okey n count (tables old).uploads))
      go (Ok x) h = h ∙ ap (λ us. take count (map shown_listed (sort_by by_key (filter is_later us)))) ((uploads sums).rows_are old.now) ∙ take_map shown_listed count (sort_by by_key (filter is_later (tables old).uploads))
      go (Err e) h = tt
