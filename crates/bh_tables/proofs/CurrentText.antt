-- The text that counts the versions that are the newest entries of their keys.
use Rattle.std.proofs.Common.{◌≡◌, ◌⊎◌, inl, inr, ℕ, false, suc, ◌+◌, ◌≤◌, ◌^◌, min, unwrap_or, pos, ◌+ℤ◌, codes, Bool, true, not, ◌&&◌, map-id, List, [], ◌∷◌, ◌||◌, length, map, filter, sum_by, unsigned_abs, Some, None, Ok, Err, Result, IfOk, IfErr, refl, sym, ap, ◌∙◌, arith}
use Rattle.std.specs.List.{list_any, list_all}
use Rattle.std.specs.Ordering.{int_eq}
use Rattle.std.proofs.lemmas.List.{length-map}
use Rattle.std.proofs.lemmas.List.Sums.{sum_by-cons}
use Rattle.sqlite.specs.declared.types.Value.TheVariants.{Null, Int, Text}
use Rattle.sqlite.specs.declared.error.Error.{Error}
use Rattle.sqlite.specs.declared.error.Error.TheVariants.{SqliteFailure}
use Rattle.sqlite.specs.declared.error.ErrorCode.TheVariants.{IntegerOverflow}
use Rattle.sqlite.specs.Collation.TheVariants.{Binary}
use Rattle.sqlite.specs.Command.TheVariants.{Select}
use Rattle.sqlite.specs.Order.{Row}
use Rattle.sqlite.specs.Tree.{Trees}
use Rattle.sqlite.specs.Term.{Term, lit, col, op1, op2, holds}
use Rattle.sqlite.specs.Query.{Query, inner, counted, end, matches, IsAnswer}
use Rattle.sqlite.specs.Program.{overlay, ProgramOverflows}
use Rattle.sqlite.specs.Listing.{understood}
use Rattle.sqlite.specs.State.{State, HasCleanDisk, Survives, Shown, FailsToQuery, CommitsShowing}
use Rattle.sqlite.proofs.Callers.{reads_as}
use Rattle.sqlite_sql.specs.declared.aggregate.AggregateOp.TheVariants.{Sum}
use Rattle.sqlite_sql.specs.declared.ops.UnaryOp.TheVariants.{Not}
use Rattle.sqlite_sql.specs.declared.ops.BinaryOp.TheVariants.{Compare, Coalesce}
use Rattle.sqlite_sql.specs.declared.ops.CompareOp.TheVariants.{Eq, Gt}
use Rattle.sqlite_sql.specs.Group.{Overflows}
use Rattle.sqlite_sql.specs.Ops.{truth}
use Rattle.sqlite_sql.specs.Query.{FoldOverflows}
use Rattle.sqlite_sql.proofs.AggregateLemmas.{present}
use Rattle.sqlite_keyed.specs.Lists.{sum_of}
use Rattle.sqlite_keyed.proofs.ListLemmas.{filter-map}
use Rattle.sqlite_rules.proofs.ListLemmas.{any_has}
use Rattle.sqlite_typing.specs.Types.{accepts_program}
use Rattle.sqlite_typed.proofs.AnswerLemmas.{Source, at_end, last_table, then_exists, at_exists, sum_is, sum_of_all, sum_too_wide}
use Rattle.sqlite_typed.specs.Tests.{bytes_eq}
use Rattle.sqlite_typed.proofs.TestLemmas.{at_texts, at_blobs, at_ints, at_not, last_term, then_term}
use Rattle.sqlite_tied.specs.Compute.{everything}
use Rattle.bh_rows.specs.Form.{AreRows, Entry, put, entries, typed}
use Rattle.bh_rows.specs.Means.{Means, is_trouble}
use Rattle.bh_rows.specs.Scan.{no_limit}
use Rattle.bh_rows.proofs.CallLemmas.{clean_before, shown_open, query_open}
use Rattle.bh_rows.proofs.TotalLemmas.{query_cause}
use Rattle.bh_rows.proofs.FormLemmas.{stored, keyed, picked}
use Rattle.bh_tables.specs.Schema.{Octets, host_schema}
use Rattle.bh_tables.specs.Typed.{Totals, VersionColumns, VersionRow, version_form, IsHostBy, IsReadyBy, tables}
use Rattle.bh_tables.specs.Bodies.{bare, columns_of}
use Rattle.bh_tables.specs.Shown.{is_later, current_versions}
use Rattle.bh_tables.proofs.Places.{versions}
use Rattle.bh_tables.proofs.ResolvedLemmas.{any_stored}
use Rattle.bh_tables.proofs.Statements.{Sums, sum_ends, if_narrow}
use Rattle.bh_tables.proofs.Terms.{is}

abbrev sql : List ℕ
sql = codes "SELECT coalesce(sum(1), 0) FROM versions WHERE tenant = ?1 AND marker = 0 AND NOT EXISTS (SELECT 1 FROM versions AS later WHERE later.tenant = versions.tenant AND later.bucket = versions.bucket AND later.okey = versions.okey AND later.seq > versions.seq)"

abbrev outlives : List Term
outlives = op2 (Compare Eq Binary) (col 2 1) (col 1 1) ∷ op2 (Compare Eq Binary) (col 2 3) (col 1 3) ∷ op2 (Compare Eq Binary) (col 2 4) (col 1 4) ∷ op2 (Compare Gt Binary) (col 2 2) (col 1 2) ∷ []

abbrev counting : Query
counting = record {
  from = inner 7 (counted 1 (inner 7 end) outlives end);
  filter = is 1 0 ∷ op2 (Compare Eq Binary) (col 1 6) (lit (Int (pos 0))) ∷ op1 Not (col 2 0) ∷ [];
  group = Some (record { keys = []; collations = []; aggregates = record { op = Sum; distinct = false; collation = Binary; argument = lit (Int (pos 1)) } ∷ []; having = [] });
  project = op2 Coalesce (col 1 0) (lit (Int (pos 0))) ∷ [];
  distinct = false;
  collations = [];
  order = [];
  limit = no_limit;
  offset = lit (Int (pos 0));
}

means : Means host_schema sql (Select (record { lets = []; body = counting }) (codes "coalesce(sum(1), 0)" ∷ [])) 1
unfolding understood everything
means = record { is = refl; plain = (refl, refl); unlisted = refl; whole = refl; given = refl }

accepted : (tenant : Octets) → accepts_program host_schema [] counting (Text tenant ∷ []) ≡ true
unfolding everything
accepted tenant = refl

-- ---- what it answers

-- over one table no other part of it sums
unsummed : (db : Trees) (params : Row) → ¬ FoldOverflows db counting.from (params ∷ [])
unsummed db params h = elim (any_has _ _ h).2 [ inl inside ↦ (any_has _ _ inside).2 | inr never ↦ never ]

one_more : (n : ℕ) → 1 + n ≡ suc n
one_more n = omega arith

ones : {X : Type 0} (xs : List X) → sum_of (λ (_ : X). pos 1) xs ≡ pos (length xs)
ones [] = refl
ones {X} (x ∷ xs) = ap (λ z. pos 1 +ℤ z) (ones xs) ∙ ap pos (one_more (length xs))

ones_wide : {X : Type 0} (xs : List X) → sum_by unsigned_abs (present (map (λ (_ : X). Some (pos 1)) xs)) ≡ length xs
ones_wide [] = refl
ones_wide {X} (x ∷ xs) = sum_by-cons unsigned_abs (pos 1) (present (map (λ (_ : X). Some (pos 1)) xs)) ∙ ap (λ n. 1 + n) (ones_wide xs) ∙ one_more (length xs)

-- of the columns as they are stored
abbrev later : VersionColumns → VersionColumns → Bool
later v other = is_later (bare v) (bare other)

abbrev current : Octets → List VersionColumns → VersionColumns → Bool
current tenant all v = bytes_eq v.tenant tenant && (int_eq (pos v.marker) (pos 0) && not (list_any (later v) all))

module _ (db : Trees) (held : AreRows version_form (db 7)) (tenant : Octets) where
  abbrev params : Row
  params = Text tenant ∷ []

  abbrev all : List VersionColumns
  all = typed version_form (db 7)

  abbrev passes : VersionColumns → Bool
  passes = current tenant all

  abbrev source : Source db counting.from (Entry VersionColumns)
  source = last_table db 7 (put version_form) (λ e. e.0) (entries version_form (db 7)) (stored version_form (db 7) held) (keyed version_form (db 7) held) (then_exists db 7 outlives (at_end db))

  in_entries : (v : VersionColumns) → list_any (λ (e : Entry VersionColumns). later v e.1) (entries version_form (db 7)) ≡ list_any (later v) all
  in_entries v = go (db 7)
    where
      go : (rows : List Row) → list_any (λ (e : Entry VersionColumns). later v e.1) (entries version_form rows) ≡ list_any (later v) (typed version_form rows)
      go [] = refl
      go (r ∷ rows) = ap (λ b. later v (version_form.decode r) || b) (go rows)

  outlived : (e : Entry VersionColumns) → unwrap_or (truth (Int (pos (min 1 (length (matches db outlives (inner 7 end) (params ∷ put version_form e ∷ []))))))) true ≡ list_any (later e.1) all
  outlived e = at_exists db 7 (put version_form) (λ r. r.0) (entries version_form (db 7)) (stored version_form (db 7) held) (keyed version_form (db 7) held) true outlives (params ∷ put version_form e ∷ []) (λ r. later e.1 r.1)
      (λ r. then_term (at_texts false Eq r.1.tenant e.1.tenant) (then_term (at_texts false Eq r.1.bucket e.1.bucket) (then_term (at_blobs false Eq r.1.okey e.1.okey) (last_term (at_ints false Gt (pos r.1.seq) (pos e.1.seq))))))
      ∙ in_entries e.1

  tests : (e : Entry VersionColumns) → list_all (holds (params ∷ source.env (params ∷ []) e)) counting.filter ≡ passes e.1
  tests e = then_term (at_texts false Eq e.1.tenant tenant) (then_term (at_ints false Eq (pos e.1.marker) (pos 0)) (last_term (at_not false _ (outlived e))))

  abbrev hits : List (Entry VersionColumns)
  hits = filter (λ e. passes e.1) (entries version_form (db 7))

  many : length hits ≡ length (filter passes all)
  many = sym (length-map hits (λ (e : Entry VersionColumns). e.1)) ∙ ap length (picked version_form passes (λ x. x) (db 7) ∙ map-id _)

  answered : (rows : List Row) → IsAnswer counting db params rows → rows ≡ (Int (pos (length (filter passes all))) ∷ []) ∷ []
  answered rows h =
      sum_is counting db params source (λ e. passes e.1) tests (lit (Int (pos 1))) (λ _. Some (pos 1)) (λ _. refl) refl refl refl rows h
      ∙ ap (λ n. (Int n ∷ []) ∷ []) (sum_of_all (λ (e : Entry VersionColumns). pos 1) hits ∙ ones hits ∙ ap (λ n. pos n) many)

  -- where it overflows, 2^63 rows pass at least
  wide : Overflows counting.group (matches db counting.filter counting.from (params ∷ [])) → 2 ^ 63 ≤ length (filter passes all)
  wide h =
      let big = sum_too_wide counting db params source (λ e. passes e.1) tests (lit (Int (pos 1))) (λ _. Some (pos 1)) (λ _. refl) refl h in
      let same = ones_wide hits ∙ many in
      omega (arith, big, same)

-- ---- of the tables, in which each version has the bytes of its body

seen : (tenant : Octets) (rows : List VersionRow) → length (filter (current tenant (map columns_of rows)) (map columns_of rows)) ≡ length (current_versions tenant rows)
seen tenant rows =
    ap length (filter-map (current tenant (map columns_of rows)) columns_of rows) ∙ length-map _ columns_of
    ∙ ap (λ (m : VersionRow → Bool). length (filter m rows)) (λ i v. bytes_eq v.tenant tenant && (int_eq (pos v.marker) (pos 0) && not (any_stored (later (columns_of v)) rows i)))

module _ {sums : Totals} (old new : State) (ready : IsReadyBy sums old) (tenant : Octets) where
  abbrev number : ℕ
  number = length (current_versions tenant (tables old).versions)

  stored_number : length (filter (current tenant (typed version_form (old.now.trees 7))) (typed version_form (old.now.trees 7))) ≡ number
  stored_number = ap (λ l. length (filter (current tenant l) l)) ((versions sums).rows_are old.now) ∙ seen tenant (tables old).versions

  shows : (rows : List Row) → IsHostBy sums old.now → Shown sql (Text tenant ∷ []) old new rows → rows ≡ (Int (pos number) ∷ []) ∷ []
  shows rows was h =
      let read = reads_as sql (Text tenant ∷ []) old new host_schema was.schema _ means.is means.plain means.unlisted rows h in
      answered (overlay old.now.trees []) was.held.versions tenant rows (read.answer Null) ∙ ap (λ n. (Int (pos n) ∷ []) ∷ []) stored_number

  too_many : IsHostBy sums old.now → ProgramOverflows old.now.trees (Text tenant ∷ []) [] [] counting → 2 ^ 63 ≤ number
  too_many was (inr h) = absurd (unsummed (overlay old.now.trees []) (Text tenant ∷ []) h)
  too_many was (inl h) = let big = wide (overlay old.now.trees []) was.held.versions tenant h in let same = stored_number in omega (arith, big, same)

  -- how many of a tenant's versions are the newest entries of their keys
  pub current_counted : {X : Type 0} (rows_in : X → List Row) (result : Result X Error) → (HasCleanDisk new → IfOk result (λ x. Shown sql (Text tenant ∷ []) old new (rows_in x)))
      → (HasCleanDisk new → IfErr result (FailsToQuery sql (Text tenant ∷ []) old new)) → Survives old new (CommitsShowing sql (Text tenant ∷ []) old)
      → Sums old new rows_in (λ t. length (current_versions tenant t.versions)) result
  current_counted {X} rows_in result ok err survives = record {
    asks = λ other bad. sum_ends old new ready sql (Text tenant ∷ []) means rows_in survives other bad result ok err;
    rows = λ clean. answer result ok clean;
    trouble = λ clean unlimited. if_narrow number result (cause result err clean unlimited);
  }
    where
      answer : (r : Result X Error) → (HasCleanDisk new → IfOk r (λ x. Shown sql (Text tenant ∷ []) old new (rows_in x))) → HasCleanDisk new → IfOk r (λ x. rows_in x ≡ (Int (pos number) ∷ []) ∷ [])
      answer (Err e) ok clean = tt
      answer (Ok x) ok clean = shows (rows_in x) (ready (clean_before old new _ survives clean) (shown_open sql (Text tenant ∷ []) old new _ (ok clean))) (ok clean)

      cause : (r : Result X Error) → (HasCleanDisk new → IfErr r (FailsToQuery sql (Text tenant ∷ []) old new)) → HasCleanDisk new → old.step_limit ≡ None → IfErr r (λ e. (is_trouble e ≡ true) ⊎ ((e ≡ SqliteFailure IntegerOverflow) × (2 ^ 63 ≤ number)))
      cause (Ok x) err clean unlimited = tt
      cause (Err e) err clean unlimited = elim (query_open sql (Text tenant ∷ []) old new e (err clean)) [
        | inr bad ↦ inl bad
        | inl up ↦
            let was = ready (clean_before old new _ survives clean) up in
            elim (query_cause sql host_schema counting _ 1 means (Text tenant ∷ []) old new was.schema refl (accepted tenant) unlimited e (err clean)) [
              | inl bad ↦ inl bad
              | inr wide ↦ inr (wide.0, too_many was wide.1)
            ]
      ]
