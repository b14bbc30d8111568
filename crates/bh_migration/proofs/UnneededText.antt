-- The text that sums the bytes of the blocks that no reference names.
use Rattle.std.proofs.Common.{◌≡◌, ◌⊎◌, inl, inr, ℕ, false, ◌+◌, ◌≤◌, ◌^◌, min, unwrap_or, pos, ◌+ℤ◌, codes, true, map-id, List, [], ◌∷◌, ◌||◌, length, map, filter, sum_by, unsigned_abs, Some, None, Ok, Err, Result, IfOk, IfErr, refl, sym, ap, ◌∙◌, arith}
use Rattle.std.specs.List.{list_any, list_all}
use Rattle.std.proofs.lemmas.List.Sums.{sum_by-cons}
use Rattle.sqlite.specs.declared.types.Value.TheVariants.{Null, Int}
use Rattle.sqlite.specs.declared.error.Error.{Error}
use Rattle.sqlite.specs.declared.error.Error.TheVariants.{SqliteFailure}
use Rattle.sqlite.specs.declared.error.ErrorCode.TheVariants.{IntegerOverflow}
use Rattle.sqlite.specs.Collation.TheVariants.{Binary}
use Rattle.sqlite.specs.Command.TheVariants.{Select}
use Rattle.sqlite.specs.Order.{Row}
use Rattle.sqlite.specs.Tree.{Trees}
use Rattle.sqlite.specs.Term.{Term, lit, col, op1, op2, holds}
use Rattle.sqlite.specs.Query.{Query, inner, counted, end, matches, IsAnswer}
use Rattle.sqlite.specs.Program.{overlay, ProgramOverflows}
use Rattle.sqlite.specs.Listing.{understood}
use Rattle.sqlite.specs.State.{State, HasCleanDisk, Survives, Shown, FailsToQuery, CommitsShowing}
use Rattle.sqlite.proofs.Callers.{reads_as}
use Rattle.sqlite_sql.specs.declared.aggregate.AggregateOp.TheVariants.{Sum}
use Rattle.sqlite_sql.specs.declared.ops.UnaryOp.TheVariants.{Not, Length}
use Rattle.sqlite_sql.specs.declared.ops.BinaryOp.TheVariants.{Compare, Coalesce}
use Rattle.sqlite_sql.specs.declared.ops.CompareOp.TheVariants.{Eq}
use Rattle.sqlite_sql.specs.Group.{Overflows}
use Rattle.sqlite_sql.specs.Ops.{truth, unary}
use Rattle.sqlite_sql.specs.Query.{FoldOverflows}
use Rattle.sqlite_sql.proofs.AggregateLemmas.{present}
use Rattle.sqlite_keyed.specs.Lists.{sum_of}
use Rattle.sqlite_rules.proofs.ListLemmas.{any_has}
use Rattle.sqlite_typing.specs.Types.{accepts_program}
use Rattle.sqlite_typed.proofs.AnswerLemmas.{Source, at_end, last_table, then_exists, at_exists, sum_is, sum_of_all, sum_too_wide}
use Rattle.sqlite_typed.proofs.TestLemmas.{at_blobs, at_ints, at_not, last_term, then_term}
use Rattle.sqlite_tied.specs.Compute.{everything}
use Rattle.bh_rows.specs.Form.{AreRows, Entry, put, entries, typed}
use Rattle.bh_rows.specs.Means.{Means, is_trouble}
use Rattle.bh_rows.specs.Scan.{no_limit}
use Rattle.bh_rows.proofs.CallLemmas.{clean_before, shown_open, query_open}
use Rattle.bh_rows.proofs.TotalLemmas.{query_cause}
use Rattle.bh_rows.proofs.FormLemmas.{stored, keyed, picked}
use Rattle.bh_tables.specs.Schema.{host_schema}
use Rattle.bh_tables.specs.Typed.{Totals, BlockRow, RefRow, block_form, ref_form, IsHostBy, IsReadyBy, tables}
use Rattle.bh_tables.specs.Bodies.{block_name, is_use, is_unreferenced, unneeded}
use Rattle.bh_tables.proofs.Statements.{Sums, sum_ends, if_narrow}

abbrev pub unneeded_text : List ℕ
unneeded_text = codes "SELECT coalesce(sum(length(bytes)), 0) FROM blocks WHERE NOT EXISTS (SELECT 1 FROM refs WHERE refs.digest = blocks.digest AND refs.ord = blocks.ord)"

abbrev names : List Term
names = op2 (Compare Eq Binary) (col 2 4) (col 1 1) ∷ op2 (Compare Eq Binary) (col 2 5) (col 1 2) ∷ []

abbrev summing : Query
summing = record {
  from = inner 10 (counted 1 (inner 12 end) names end);
  filter = op1 Not (col 2 0) ∷ [];
  group = Some (record { keys = []; collations = []; aggregates = record { op = Sum; distinct = false; collation = Binary; argument = op1 Length (col 1 3) } ∷ []; having = [] });
  project = op2 Coalesce (col 1 0) (lit (Int (pos 0))) ∷ [];
  distinct = false;
  collations = [];
  order = [];
  limit = no_limit;
  offset = lit (Int (pos 0));
}

pub unneeded_means : Means host_schema unneeded_text (Select (record { lets = []; body = summing }) (codes "coalesce(sum(length(bytes)), 0)" ∷ [])) 0
unfolding understood everything
unneeded_means = record { is = refl; plain = (refl, refl); unlisted = refl; whole = refl; given = refl }

accepted : accepts_program host_schema [] summing [] ≡ true
unfolding everything
accepted = refl

-- ---- what it answers

-- over one table no other part of it sums
unsummed : (db : Trees) → ¬ FoldOverflows db summing.from ([] ∷ [])
unsummed db h = elim (any_has _ _ h).2 [ inl inside ↦ (any_has _ _ inside).2 | inr never ↦ never ]

abbrev size : Entry BlockRow → ℕ
size e = length e.1.bytes

lengths : (xs : List (Entry BlockRow)) → sum_of (λ e. pos (size e)) xs ≡ pos (sum_by (λ (b : BlockRow). length b.bytes) (map (λ e. e.1) xs))
lengths [] = refl
lengths (x ∷ xs) = ap (λ z. pos (size x) +ℤ z) (lengths xs) ∙ ap pos (sym (sum_by-cons (λ (b : BlockRow). length b.bytes) x.1 (map (λ e. e.1) xs)))

lengths_wide : (xs : List (Entry BlockRow)) → sum_by unsigned_abs (present (map (λ e. Some (pos (size e))) xs)) ≡ sum_by (λ (b : BlockRow). length b.bytes) (map (λ e. e.1) xs)
lengths_wide [] = refl
lengths_wide (x ∷ xs) =
    sum_by-cons unsigned_abs (pos (size x)) (present (map (λ e. Some (pos (size e))) xs)) ∙ ap (λ n. size x + n) (lengths_wide xs)
    ∙ sym (sum_by-cons (λ (b : BlockRow). length b.bytes) x.1 (map (λ e. e.1) xs))

module _ (db : Trees) (held : AreRows block_form (db 10)) (refs_held : AreRows ref_form (db 12)) where
  abbrev refs : List RefRow
  refs = typed ref_form (db 12)

  abbrev source : Source db summing.from (Entry BlockRow)
  source = last_table db 10 (put block_form) (λ e. e.0) (entries block_form (db 10)) (stored block_form (db 10) held) (keyed block_form (db 10) held) (then_exists db 12 names (at_end db))

  in_entries : (b : BlockRow) → list_any (λ (e : Entry RefRow). is_use (block_name b) e.1) (entries ref_form (db 12)) ≡ list_any (is_use (block_name b)) refs
  in_entries b = go (db 12)
    where
      go : (rows : List Row) → list_any (λ (e : Entry RefRow). is_use (block_name b) e.1) (entries ref_form rows) ≡ list_any (is_use (block_name b)) (typed ref_form rows)
      go [] = refl
      go (r ∷ rows) = ap (λ s. is_use (block_name b) (ref_form.decode r) || s) (go rows)

  named : (e : Entry BlockRow) → unwrap_or (truth (Int (pos (min 1 (length (matches db names (inner 12 end) ([] ∷ put block_form e ∷ []))))))) true ≡ list_any (is_use (block_name e.1)) refs
  named e = at_exists db 12 (put ref_form) (λ r. r.0) (entries ref_form (db 12)) (stored ref_form (db 12) refs_held) (keyed ref_form (db 12) refs_held) true names ([] ∷ put block_form e ∷ []) (λ r. is_use (block_name e.1) r.1)
      (λ r. then_term (at_blobs false Eq r.1.digest e.1.digest) (last_term (at_ints false Eq (pos r.1.ord) (pos e.1.ord))))
      ∙ in_entries e.1

  tests : (e : Entry BlockRow) → list_all (holds ([] ∷ source.env ([] ∷ []) e)) summing.filter ≡ is_unreferenced refs e.1
  tests e = last_term (at_not false _ (named e))

  abbrev hits : List (Entry BlockRow)
  hits = filter (λ e. is_unreferenced refs e.1) (entries block_form (db 10))

  sum : sum_by (λ (b : BlockRow). length b.bytes) (map (λ e. e.1) hits) ≡ unneeded refs (typed block_form (db 10))
  sum = ap (sum_by (λ (b : BlockRow). length b.bytes)) (picked block_form (is_unreferenced refs) (λ x. x) (db 10) ∙ map-id _)

  answered : (rows : List Row) → IsAnswer summing db [] rows → rows ≡ (Int (pos (unneeded refs (typed block_form (db 10)))) ∷ []) ∷ []
  unfolding unary
  answered rows h =
      sum_is summing db [] source (λ e. is_unreferenced refs e.1) tests (op1 Length (col 1 3)) (λ e. Some (pos (size e))) (λ _. refl) refl refl refl rows h
      ∙ ap (λ n. (Int n ∷ []) ∷ []) (sum_of_all (λ (e : Entry BlockRow). pos (size e)) hits ∙ lengths hits ∙ ap (λ n. pos n) sum)

  -- where it overflows, they have 2^63 bytes at least
  wide : Overflows summing.group (matches db summing.filter summing.from ([] ∷ [])) → 2 ^ 63 ≤ unneeded refs (typed block_form (db 10))
  unfolding unary
  wide h =
      let big = sum_too_wide summing db [] source (λ e. is_unreferenced refs e.1) tests (op1 Length (col 1 3)) (λ e. Some (pos (size e))) (λ _. refl) refl h in
      let same = lengths_wide hits ∙ sum in
      omega (arith, big, same)

module _ {sums : Totals} (old new : State) (ready : IsReadyBy sums old) where
  abbrev number : ℕ
  number = unneeded (tables old).refs (tables old).blocks

  shows : (rows : List Row) → IsHostBy sums old.now → Shown unneeded_text [] old new rows → rows ≡ (Int (pos number) ∷ []) ∷ []
  shows rows was h =
      let read = reads_as unneeded_text [] old new host_schema was.schema _ unneeded_means.is unneeded_means.plain unneeded_means.unlisted rows h in
      answered (overlay old.now.trees []) was.held.blocks was.held.refs rows (read.answer Null)

  too_many : IsHostBy sums old.now → ProgramOverflows old.now.trees [] [] [] summing → 2 ^ 63 ≤ number
  too_many was (inr h) = absurd (unsummed (overlay old.now.trees []) h)
  too_many was (inl h) = wide (overlay old.now.trees []) was.held.blocks was.held.refs h

  -- how many bytes nobody needs
  pub unneeded_summed : {X : Type 0} (rows_in : X → List Row) (result : Result X Error) → (HasCleanDisk new → IfOk result (λ x. Shown unneeded_text [] old new (rows_in x)))
      → (HasCleanDisk new → IfErr result (FailsToQuery unneeded_text [] old new)) → Survives old new (CommitsShowing unneeded_text [] old)
      → Sums old new rows_in (λ t. unneeded t.refs t.blocks) result
  unneeded_summed {X} rows_in result ok err survives = record {
    asks = λ other bad. sum_ends old new ready unneeded_text [] unneeded_means rows_in survives other bad result ok err;
    rows = λ clean. answer result ok clean;
    trouble = λ clean unlimited. if_narrow number result (cause result err clean unlimited);
  }
    where
      answer : (r : Result X Error) → (HasCleanDisk new → IfOk r (λ x. Shown unneeded_text [] old new (rows_in x))) → HasCleanDisk new → IfOk r (λ x. rows_in x ≡ (Int (pos number) ∷ []) ∷ [])
      answer (Err e) ok clean = tt
      answer (Ok x) ok clean = shows (rows_in x) (ready (clean_before old new _ survives clean) (shown_open unneeded_text [] old new _ (ok clean))) (ok clean)

      cause : (r : Result X Error) → (HasCleanDisk new → IfErr r (FailsToQuery unneeded_text [] old new)) → HasCleanDisk new → old.step_limit ≡ None → IfErr r (λ e. (is_trouble e ≡ true) ⊎ ((e ≡ SqliteFailure IntegerOverflow) × (2 ^ 63 ≤ number)))
      cause (Ok x) err clean unlimited = tt
      cause (Err e) err clean unlimited = elim (query_open unneeded_text [] old new e (err clean)) [
        | inr bad ↦ inl bad
        | inl up ↦
            let was = ready (clean_before old new _ survives clean) up in
            elim (query_cause unneeded_text host_schema summing _ 0 unneeded_means [] old new was.schema refl accepted unlimited e (err clean)) [
              | inl bad ↦ inl bad
              | inr wide ↦ inr (wide.0, too_many was wide.1)
            ]
      ]
