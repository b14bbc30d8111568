-- The text that asks for the uploads of all tenants that are older than the rules of their buckets let them be, by tenant and
-- number and up to a limit.
use Rattle.std.proofs.Common.{◌≡◌, inl, inr, ℕ, pos, codes, Bool, true, false, List, [], ◌∷◌, ◌||◌, ◌&&◌, map, map-id, filter, take, Option, None, unwrap_or, Ok, Err, Result, IfOk, IfErr, refl, sym, ap, ◌∙◌, int_cmp, Ordering}
use Rattle.std.specs.List.{list_any, list_all}
use Rattle.std.specs.Ordering.{ordering_then}
use Rattle.std.proofs.lemmas.List.{take-map}
use Rattle.sqlite.specs.declared.types.Value.TheVariants.{Null, Int}
use Rattle.sqlite.specs.declared.error.Error.{Error}
use Rattle.sqlite.specs.Collation.TheVariants.{Binary}
use Rattle.sqlite.specs.Command.TheVariants.{Select}
use Rattle.sqlite.specs.Order.{Row}
use Rattle.sqlite.specs.Tree.{Trees}
use Rattle.sqlite.specs.Term.{Term, lit, col, op2, holds}
use Rattle.sqlite.specs.Query.{Query, inner, counted, end, IsAnswer, page}
use Rattle.sqlite.specs.Program.{overlay, ProgramOverflows}
use Rattle.sqlite.specs.Listing.{understood}
use Rattle.sqlite.specs.State.{State, HasCleanDisk, Survives, Shown, FailsToQuery, CommitsShowing}
use Rattle.sqlite.proofs.Callers.{reads_as}
use Rattle.sqlite_sql.specs.Ops.{truth, binary}
use Rattle.sqlite_sql.specs.declared.ops.ArithOp.TheVariants.{Add, Mul}
use Rattle.sqlite_sql.specs.declared.ops.BinaryOp.TheVariants.{Compare, Arith}
use Rattle.sqlite_sql.specs.declared.ops.CompareOp.TheVariants.{Eq, Lt}
use Rattle.sqlite_value.specs.Keys.{ascending}
use Rattle.sqlite_value.proofs.OrderLemmas.{value_cmp-Int, value_cmp-Text}
use Rattle.sqlite_keyed.specs.Lists.{sort_by}
use Rattle.sqlite_rules.proofs.ListLemmas.{any_has}
use Rattle.sqlite_typing.specs.Types.{accepts_program}
use Rattle.sqlite_typed.specs.Columns.{or_null}
use Rattle.sqlite_typed.specs.Tests.{bytes_eq, bytes_cmp}
use Rattle.sqlite_typed.proofs.AnswerLemmas.{Source, at_end, last_table, then_exists, at_exists, answer_sorted, no_tie, no_tie_after}
use Rattle.sqlite_typed.proofs.TestLemmas.{at_texts, last_term, then_term, then_key, last_key}
use Rattle.sqlite_tied.specs.Compute.{everything}
use Rattle.bh_rows.specs.Form.{AreRows, Entry, put, entries, typed}
use Rattle.bh_rows.specs.Means.{Means}
use Rattle.bh_rows.proofs.CallLemmas.{clean_before, shown_open}
use Rattle.bh_rows.proofs.FormLemmas.{stored, keyed}
use Rattle.bh_rows.proofs.ScanLemmas.{then_assoc, sorted_typed}
use Rattle.bh_rows.proofs.TotalLemmas.{body_asks}
use Rattle.bh_tables.specs.Schema.{host_schema}
use Rattle.bh_tables.specs.Typed.{Totals, BucketRow, UploadRow, bucket_form, upload_form, number, IsHostBy, IsReadyBy, tables}
use Rattle.bh_tables.specs.Due.{by_owner, shown_owner}
use Rattle.bh_tables.proofs.Statements.{Shows}

abbrev sql : List ℕ
sql = codes "SELECT tenant, upload FROM uploads WHERE EXISTS (SELECT 1 FROM buckets WHERE buckets.tenant = uploads.tenant AND buckets.bucket = uploads.bucket AND uploads.begun + 86400 * buckets.days < ?1) ORDER BY tenant, upload, rowid LIMIT ?2"

-- ---- what SQL makes of it: an integer that is too wide is none, and `days` may be NULL

abbrev pub is_past_asked : ℕ → ℕ → Option ℕ → Bool
is_past_asked moment begun days = unwrap_or (truth (binary (Compare Lt Binary) (binary (Arith Add) (number begun) (binary (Arith Mul) (number 86400) (or_null number days))) (number moment))) false

abbrev pub is_past_asked_in : ℕ → List BucketRow → UploadRow → Bool
is_past_asked_in moment buckets u = list_any (λ (b : BucketRow). bytes_eq b.tenant u.tenant && (bytes_eq b.bucket u.bucket && is_past_asked moment u.begun b.days)) buckets

abbrev pub asked_uploads : ℕ → ℕ → List BucketRow → List UploadRow → List UploadRow
asked_uploads limit moment buckets uploads = take limit (sort_by by_owner (filter (is_past_asked_in moment buckets) uploads))

abbrev rules_it : List Term
rules_it =
    op2 (Compare Eq Binary) (col 2 1) (col 1 1)
    ∷ op2 (Compare Eq Binary) (col 2 2) (col 1 3)
    ∷ op2 (Compare Lt Binary) (op2 (Arith Add) (col 1 5) (op2 (Arith Mul) (lit (Int (pos 86400))) (col 2 5))) (col 0 0)
    ∷ []

abbrev past : Query
past = record {
  from = inner 16 (counted 1 (inner 5 end) rules_it end);
  filter = col 2 0 ∷ [];
  group = None;
  project = col 1 1 ∷ col 1 2 ∷ [];
  distinct = false;
  collations = [];
  order = (col 1 1, ascending Binary) ∷ (col 1 2, ascending Binary) ∷ (col 1 0, ascending Binary) ∷ [];
  limit = col 0 1;
  offset = lit (Int (pos 0));
}

means : Means host_schema sql (Select (record { lets = []; body = past }) (codes "tenant" ∷ codes "upload" ∷ [])) 2
unfolding understood everything
means = record { is = refl; plain = (refl, refl); unlisted = refl; whole = refl; given = refl }

accepted : (moment limit : ℕ) → accepts_program host_schema [] past (number moment ∷ number limit ∷ []) ≡ true
unfolding everything
accepted moment limit = refl

-- it sums nothing
never_wide : (db : Trees) (params : Row) → ¬ ProgramOverflows db params [] [] past
never_wide db params (inl h) = h
never_wide db params (inr h) = elim (any_has _ _ h).2 [ inl inside ↦ (any_has _ _ inside).2 | inr never ↦ never ]

module _ (sums : Totals) (db : Trees) (uploads : AreRows (upload_form sums) (db 16)) (buckets : AreRows bucket_form (db 5)) (moment limit : ℕ) where
  abbrev given : Row
  given = number moment ∷ number limit ∷ []

  abbrev passes : UploadRow → Bool
  passes = is_past_asked_in moment (typed bucket_form (db 5))

  abbrev rules : UploadRow → BucketRow → Bool
  rules u b = bytes_eq b.tenant u.tenant && (bytes_eq b.bucket u.bucket && is_past_asked moment u.begun b.days)

  abbrev source : Source db past.from (Entry UploadRow)
  source = last_table db 16 (put (upload_form sums)) (λ e. e.0) (entries (upload_form sums) (db 16)) (stored (upload_form sums) (db 16) uploads) (keyed (upload_form sums) (db 16) uploads) (then_exists db 5 rules_it (at_end db))

  in_entries : (u : UploadRow) → list_any (λ (r : Entry BucketRow). rules u r.1) (entries bucket_form (db 5)) ≡ list_any (rules u) (typed bucket_form (db 5))
  in_entries u = go (db 5)
    where
      go : (rows : List Row) → list_any (λ (r : Entry BucketRow). rules u r.1) (entries bucket_form rows) ≡ list_any (rules u) (typed bucket_form rows)
      go [] = refl
      go (r ∷ rows) = ap (λ b. rules u (bucket_form.decode r) || b) (go rows)

  tests : (e : Entry UploadRow) → list_all (holds (given ∷ source.env (given ∷ []) e)) past.filter ≡ passes e.1
  tests e = last_term (at_exists db 5 (put bucket_form) (λ r. r.0) (entries bucket_form (db 5)) (stored bucket_form (db 5) buckets) (keyed bucket_form (db 5) buckets) false rules_it (given ∷ put (upload_form sums) e ∷ []) (λ r. rules e.1 r.1)
      (λ r. then_term (at_texts false Eq r.1.tenant e.1.tenant) (then_term (at_texts false Eq r.1.bucket e.1.bucket) (last_term refl))) ∙ in_entries e.1)

  abbrev by_parts : Entry UploadRow → Entry UploadRow → Ordering
  by_parts a b = ordering_then (bytes_cmp a.1.tenant b.1.tenant) (ordering_then (int_cmp (pos a.1.upload) (pos b.1.upload)) (int_cmp a.0 b.0))

  answered : (rows : List Row) → IsAnswer past db given rows → rows ≡ page past given (map (λ (e : Entry UploadRow). shown_owner e.1) (sort_by by_parts (filter (λ e. passes e.1) (entries (upload_form sums) (db 16)))))
  answered rows h =
      sym (map-id rows)
      ∙ answer_sorted past db given source (λ e. passes e.1) tests (λ r. r) (λ e. shown_owner e.1) (λ e. refl) refl refl by_parts
      (λ a b less. no_tie_after (bytes_cmp a.1.tenant b.1.tenant) (no_tie_after (int_cmp (pos a.1.upload) (pos b.1.upload)) (no_tie less)))
      (λ a b. then_key (value_cmp-Text a.1.tenant b.1.tenant) (then_key (value_cmp-Int (pos a.1.upload) (pos b.1.upload)) (last_key (value_cmp-Int a.0 b.0)))) rows h

  in_order : (es : List (Entry UploadRow)) → sort_by by_parts es ≡ sort_by (λ a b. ordering_then (by_owner a.1 b.1) (int_cmp a.0 b.0)) es
  in_order es = ap (λ c. sort_by c es) (λ i a b. sym (then_assoc (bytes_cmp a.1.tenant b.1.tenant) (int_cmp (pos a.1.upload) (pos b.1.upload)) (int_cmp a.0 b.0)) i)

module _ {sums : Totals} (old new : State) (ready : IsReadyBy sums old) (moment limit : ℕ) where
  abbrev params : Row
  params = number moment ∷ number limit ∷ []

  shows : (rows : List Row) → IsHostBy sums old.now → Shown sql params old new rows → rows ≡ map shown_owner (asked_uploads limit moment (tables old).buckets (tables old).uploads)
  shows rows was h =
      let db = old.now.trees in
      let m = is_past_asked_in moment (tables old).buckets in
      let read = reads_as sql params old new host_schema was.schema _ means.is means.plain means.unlisted rows h in
      answered sums (overlay db []) was.held.uploads was.held.buckets moment limit rows (read.answer Null)
      ∙ ap (λ l. take limit (map (λ (e : Entry UploadRow). shown_owner e.1) l)) (in_order sums (overlay db []) was.held.uploads was.held.buckets moment limit (filter (λ e. m e.1) (entries (upload_form sums) (db 16))))
      ∙ ap (take limit) (sorted_typed (upload_form sums) (db 16) was.held.uploads by_owner m shown_owner)
      ∙ take-map shown_owner limit _

  -- whose they are, and their numbers
  pub past_shown : {X : Type 0} (rows_in : X → List Row) (result : Result X Error) → (HasCleanDisk new → IfOk result (λ x. Shown sql params old new (rows_in x))) → (HasCleanDisk new → IfErr result (FailsToQuery sql params old new))
      → Survives old new (CommitsShowing sql params old) → Shows old new rows_in (λ t. map shown_owner (asked_uploads limit moment t.buckets t.uploads)) result
  past_shown rows_in result ok err survives = record {
    asks = body_asks sql host_schema past _ 2 means params old new (λ clean up. (ready clean up).schema) refl (accepted moment limit) (λ clean up. never_wide old.now.trees params) rows_in result ok err survives;
    rows = λ clean. go result ok clean;
  }
    where
      go : (r : Result _ Error) → (HasCleanDisk new → IfOk r (λ x. Shown sql params old new (rows_in x))) → HasCleanDisk new → IfOk r (λ x. rows_in x ≡ map shown_owner (asked_uploads limit moment (tables old).buckets (tables old).uploads))
      go (Err e) ok clean = tt
      go (Ok x) ok clean = shows (rows_in x) (ready (clean_before old new _ survives clean) (shown_open sql params old new _ (ok clean))) (ok clean)
