-- What each call leaves that tallies tenants. What it says of a host's rows it says where they are one's; the schema stays whatever
-- they are.
use Rattle.std.proofs.Common.{◌≡◌, inl, ℕ, pos, zero, suc, ◌<◌, List, [], ◌∷◌, ◌++◌, map, filter, length, get_or, Bool, true, Some, Ok, Err, Result, OnOk, IfOk, IfErr, IsTrue, arith, refl, sym, ap, subst, ◌∙◌}
use Rattle.std.proofs.lemmas.List.{length-map}
use Rattle.sqlite.specs.Command.{Command}
use Rattle.sqlite.specs.Effect.{Database}
use Rattle.sqlite.specs.Order.{Row}
use Rattle.sqlite.specs.State.{State, HasCleanDisk, IsLive, Survives, Executes, CommitsBy, CommitsShowing, Shown, FailsToQuery}
use Rattle.sqlite.specs.declared.error.Error.{Error}
use Rattle.sqlite.specs.declared.error.Error.TheVariants.{SqliteFailure}
use Rattle.sqlite.specs.declared.error.ErrorCode.TheVariants.{OutOfMemory}
use Rattle.sqlite.specs.declared.types.Value.{Value}
use Rattle.sqlite.specs.declared.types.Value.TheVariants.{Int, Text}
use Rattle.sqlite_keyed.proofs.ListLemmas.{filter-map}
use Rattle.bh_rows.specs.Means.{Means, Asks, Changes}
use Rattle.bh_rows.proofs.CallLemmas.{clean_before, shown_open, shown_same, shows_nothing, query_up, query_undone, write_changes}
use Rattle.bh_rows.proofs.InsertLemmas.{inserts}
use Rattle.bh_tables.specs.Schema.{Octets, host_schema, tallies_table, unneeded_table, at}
use Rattle.bh_tables.specs.Bodies.{columns_of, unneeded}
use Rattle.bh_tables.specs.Typed.{Totals, totals_of, unweighed, weight, TallyRow, TenantRow, VersionColumns, VersionRow, Tables, tables_in, IsHostBy, tally, number}
use Rattle.bh_tables.specs.Shown.{has_marker}
use Rattle.bh_tables.proofs.CurrentText.{current_counted}
use Rattle.bh_tables.proofs.Places.{tenants, versions, tallies_is, garbage_is}
use Rattle.bh_tables.proofs.GarbageTexts.{garbage_inserted}
use Rattle.bh_migration.proofs.UnneededText.{unneeded_text, unneeded_means, unneeded_summed}
use Rattle.bh_tables.proofs.Statements.{told_as, ones, all_pass, selected, summed}
use Rattle.bh_tables.proofs.TallyTexts.{tally_copied}
use Rattle.bh_base.specs.Layer.{standing, IsIntact, IsOpen, IsStateClean, KeepsDisk, StateWithin, HoldsBy}
use Rattle.bh_base.proofs.Calls.{asks_within, asks_opens, asks_same, changes_inside}
use Rattle.bh_migration.proofs.Adding.{tally_adds, weight_adds as weight_turns}
use Rattle.bh_migration.specs.Migration.{HasSchema}
use Rattle.bh_migration.specs.Tallying.{count_text, how_many, shown_name, HoldsTallies, HoldsUnweighed}
use Rattle.bh_migration.specs.declared.tallying.Count.{Count}
use Rattle.bh_migration.specs.declared.tallying.Count.TheVariants as count
use Rattle.bh_migration.proofs.Texts.{names_text, names_shown, count_means, versions_counted, markers_counted, insert_text, insert_terms, insert_means, insert_gives, weight_text, weight_terms, weight_means, weight_gives}

-- a question leaves the schema
pub carried : (old new : State) → KeepsDisk old new → (IsStateClean old → HasSchema host_schema (standing old)) → (IsIntact new → standing new ≡ standing old) → IsStateClean new → HasSchema host_schema (standing new)
carried old new follows has same clean = subst (HasSchema host_schema) (sym (same clean.intact)) (has (follows.clean clean))

-- any error that is trouble
abbrev any_trouble : Error
any_trouble = SqliteFailure OutOfMemory

module _ (old new : State) (has : IsStateClean old → HasSchema host_schema (standing old)) where
  schema_is : HasCleanDisk old → IsTrue old.is_open → old.now.schema ≡ host_schema
  unfolding standing IsIntact IsOpen
  schema_is clean up = (has (record { intact = clean; is_open = up })).schema

  -- ---- questions

  module _ {X : Type 0} (rows_in : X → List Row) (result : Result X Error) where
    -- nothing changes
    pub record Quiet : Type 0 where
      pub within : StateWithin old new
      pub opens : OnOk result (IsIntact new → IsOpen old × IsOpen new)
      pub same : OnOk result (IsIntact new → standing new ≡ standing old)

    module _ (sql : List ℕ) (params : Row) (ok : HasCleanDisk new → IfOk result (λ x. Shown sql params old new (rows_in x))) (err : HasCleanDisk new → IfErr result (FailsToQuery sql params old new)) (survives : Survives old new (CommitsShowing sql params old)) where
      quiet : (command : Command) (parameters : ℕ) → Means host_schema sql command parameters → Quiet
      quiet command parameters means = record {
        within = asks_within old new (λ c. inl (has c).inside) (told_as any_trouble result) asks;
        opens = answered _ result (asks_opens old new (λ c. inl (has c).inside) (told_as any_trouble result) asks);
        same = answered _ result (asks_same old new (λ c. inl (has c).inside) (told_as any_trouble result) asks);
      }
        where
          answered : (P : Type 0) (r : Result X Error) → OnOk (told_as any_trouble r) P → OnOk r P
          answered P (Ok x) h = h
          answered P (Err e) h = tt

          go : (r : Result X Error) → (HasCleanDisk new → IfOk r (λ x. Shown sql params old new (rows_in x))) → (HasCleanDisk new → IfErr r (FailsToQuery sql params old new)) → Asks old new (told_as any_trouble r)
          go (Ok x) is fails = record {
            same = λ clean. shown_same sql params old new host_schema (schema_is (clean_before old new _ survives clean) (shown_open sql params old new _ (is clean))) command parameters means (rows_in x) (is clean);
            undone = λ _. tt;
            trouble = λ _ _. tt;
            up = query_up sql params old new rows_in (Ok x) is fails;
            survives = shows_nothing sql params old new host_schema command parameters means schema_is survives;
          }
          go (Err e) is fails = record {
            same = λ _. tt;
            undone = λ clean. query_undone sql params old new e (fails clean);
            trouble = λ _ _. refl;
            up = query_up sql params old new rows_in (Err e) is fails;
            survives = shows_nothing sql params old new host_schema command parameters means schema_is survives;
          }

          asks : Asks old new (told_as any_trouble result)
          asks = go result ok err

  -- the names of all tenants
  module _ {X : Type 0} (rows_in : X → List Row) (result : Result X Error) (ok : HasCleanDisk new → IfOk result (λ x. Shown names_text [] old new (rows_in x))) (err : HasCleanDisk new → IfErr result (FailsToQuery names_text [] old new))
      (survives : Survives old new (CommitsShowing names_text [] old)) where
    pub names_quiet : Quiet rows_in result
    names_quiet = quiet rows_in result names_text [] ok err survives _ 0 (names_shown (totals_of (tables_in old.now))).means

    pub names_told : IfOk result (λ x. IsStateClean new → (sums : Totals) → IsHostBy sums (standing old).now → rows_in x ≡ map shown_name (tables_in (standing old).now).tenants)
    unfolding standing IsIntact
    names_told = go result ok
      where
        go : (r : Result X Error) → (HasCleanDisk new → IfOk r (λ x. Shown names_text [] old new (rows_in x))) → IfOk r (λ x. IsStateClean new → (sums : Totals) → IsHostBy sums old.now → rows_in x ≡ map shown_name (tables_in old.now).tenants)
        go (Err e) is = tt
        go (Ok x) is = λ clean sums host.
            (selected (tenants sums) old new (λ _ _. host) rows_in (Ok x) names_text [] (λ _. true) shown_name (names_shown sums) is (λ _. tt) survives).rows clean.intact ∙ ap (map shown_name) (all_pass (tables_in old.now).tenants)

  -- how many of a tenant's entries are of a kind
  module _ (what : Count) (value : Value) {X : Type 0} (rows_in : X → List Row) (result : Result X Error) (ok : HasCleanDisk new → IfOk result (λ x. Shown (count_text what) (value ∷ []) old new (rows_in x)))
      (err : HasCleanDisk new → IfErr result (FailsToQuery (count_text what) (value ∷ []) old new)) (survives : Survives old new (CommitsShowing (count_text what) (value ∷ []) old)) where
    pub count_quiet : Quiet rows_in result
    count_quiet = quiet rows_in result (count_text what) (value ∷ []) ok err survives _ 1 (count_means what)

    as_many : (m : VersionRow → Bool) (f : VersionColumns → Bool) → ((v : VersionRow) → f (columns_of v) ≡ m v) → (vs : List VersionRow) → length (filter f (map columns_of vs)) ≡ length (filter m vs)
    as_many m f same vs = ap length (filter-map f columns_of vs) ∙ length-map _ columns_of ∙ ap (λ (p : VersionRow → Bool). length (filter p vs)) (λ i v. same v i)

    one_number : (which : Count) (name : Octets) (sums : Totals) → IsHostBy sums old.now → (x : X) → (HasCleanDisk new → Shown (count_text which) (Text name ∷ []) old new (rows_in x)) → Survives old new (CommitsShowing (count_text which) (Text name ∷ []) old) → HasCleanDisk new
        → rows_in x ≡ (number (how_many which name (tables_in old.now)) ∷ []) ∷ []
    one_number count.Versions name sums host x is s clean =
        (summed (versions sums) old new (λ _ _. host) rows_in (Ok x) _ _ _ _ (versions_counted name) is (λ _. tt) s).rows clean
        ∙ ap (λ n. (Int (pos n) ∷ []) ∷ []) (ones _ ∙ as_many (has_marker name 0) _ (λ v. refl) (tables_in old.now).versions)
    one_number count.Markers name sums host x is s clean =
        (summed (versions sums) old new (λ _ _. host) rows_in (Ok x) _ _ _ _ (markers_counted name) is (λ _. tt) s).rows clean
        ∙ ap (λ n. (Int (pos n) ∷ []) ∷ []) (ones _ ∙ as_many (has_marker name 1) _ (λ v. refl) (tables_in old.now).versions)
    one_number count.Objects name sums host x is s clean = (current_counted {sums = sums} old new (λ _ _. host) name rows_in (Ok x) is (λ _. tt) s).rows clean

    pub count_told : IfOk result (λ x. IsStateClean new → (sums : Totals) → IsHostBy sums (standing old).now → (name : Octets) → value ≡ Text name → rows_in x ≡ (number (how_many what name (tables_in (standing old).now)) ∷ []) ∷ [])
    unfolding standing IsIntact
    count_told = go result ok
      where
        go : (r : Result X Error) → (HasCleanDisk new → IfOk r (λ x. Shown (count_text what) (value ∷ []) old new (rows_in x)))
            → IfOk r (λ x. IsStateClean new → (sums : Totals) → IsHostBy sums old.now → (name : Octets) → value ≡ Text name → rows_in x ≡ (number (how_many what name (tables_in old.now)) ∷ []) ∷ [])
        go (Err e) is = tt
        go (Ok x) is = λ clean sums host name named.
            one_number what name sums host x (subst (λ v. HasCleanDisk new → Shown (count_text what) (v ∷ []) old new (rows_in x)) named is) (subst (λ v. Survives old new (CommitsShowing (count_text what) (v ∷ []) old)) named survives) clean.intact

  -- ---- a tally is added

  module _ (value : Value) (a b c : ℕ) (result : Result ℕ Error) (live : IsLive old) (runs : HasCleanDisk new → Executes insert_text (value ∷ number a ∷ number b ∷ number c ∷ []) old new result)
      (survives : Survives old new (CommitsBy insert_text (value ∷ number a ∷ number b ∷ number c ∷ []) old)) where
    abbrev params : Row
    params = value ∷ number a ∷ number b ∷ number c ∷ []

    pub insert_changes : Changes old new result
    insert_changes = write_changes insert_text params old new host_schema _ 4 insert_means refl schema_is result runs survives

    -- no table comes or goes, whatever the rows are
    pub insert_keeps : OnOk result (IsStateClean new → HasSchema host_schema (standing new))
    unfolding IsIntact IsOpen standing
    insert_keeps = go result runs (changes_inside old new (λ clean. (has clean).inside) result insert_changes)
      where
        go : (r : Result ℕ Error) → (HasCleanDisk new → Executes insert_text params old new r) → OnOk r (IsStateClean new → new.in_transaction ≡ true) → OnOk r (IsStateClean new → HasSchema host_schema (standing new))
        go (Err e) ran stays = tt
        go (Ok n) ran stays = λ clean.
            let was = schema_is (clean_before old new _ survives clean.intact) (insert_changes.up clean.intact clean.is_open) in
            let done = inserts insert_text host_schema (at 30 tallies_table) 12 insert_terms 5 4 insert_means (tallies_is.is_table ∙ ap Some (sym tallies_is.plain)) params _ (insert_gives value a b c) old new was n (ran clean.intact) in
            record { inside = stays clean; schema = ap (λ (d : Database). d.schema) done.1.now }

    pub insert_adds : OnOk result (IsStateClean new → (t : Tables) (done : List TallyRow) → HoldsTallies t done (standing old) → (name : Octets) → value ≡ Text name → HoldsTallies t (done ++ tally name a b c ∷ []) (standing new))
    insert_adds = go result runs
      where
        go : (r : Result ℕ Error) → (HasCleanDisk new → Executes insert_text params old new r) → OnOk r (IsStateClean new → (t : Tables) (done : List TallyRow) → HoldsTallies t done (standing old) → (name : Octets) → value ≡ Text name → HoldsTallies t (done ++ tally name a b c ∷ []) (standing new))
        go (Err e) ran = tt
        go (Ok n) ran = λ clean t done h name named.
            let turn = tally_adds old new (λ _. record { sums = record (unweighed (totals_of t)) { tallies = done }; by = h.within }) (Ok n)
            (subst (λ v. HasCleanDisk new → Executes insert_text (v ∷ number a ∷ number b ∷ number c ∷ []) old new (Ok n)) named ran) (subst (λ v. Survives old new (CommitsBy insert_text (v ∷ number a ∷ number b ∷ number c ∷ []) old)) named survives) (tally_copied name a b c) in
            let it = turn.rewrites clean (record (unweighed (totals_of t)) { tallies = done }) h.within in
            record { within = it.within; is = it.is ∙ h.is }

  -- ---- what nobody needs is summed, and its row is added

  module _ {X : Type 0} (rows_in : X → List Row) (result : Result X Error) (ok : HasCleanDisk new → IfOk result (λ x. Shown unneeded_text [] old new (rows_in x))) (err : HasCleanDisk new → IfErr result (FailsToQuery unneeded_text [] old new))
      (survives : Survives old new (CommitsShowing unneeded_text [] old)) where
    pub sum_quiet : Quiet rows_in result
    sum_quiet = quiet rows_in result unneeded_text [] ok err survives _ 0 unneeded_means

    pub sum_told : IfOk result (λ x. IsStateClean new → (sums : Totals) → IsHostBy sums (standing old).now → rows_in x ≡ (number (unneeded (tables_in (standing old).now).refs (tables_in (standing old).now).blocks) ∷ []) ∷ [])
    unfolding standing IsIntact
    sum_told = go result ok
      where
        go : (r : Result X Error) → (HasCleanDisk new → IfOk r (λ x. Shown unneeded_text [] old new (rows_in x))) → IfOk r (λ x. IsStateClean new → (sums : Totals) → IsHostBy sums old.now → rows_in x ≡ (number (unneeded (tables_in old.now).refs (tables_in old.now).blocks) ∷ []) ∷ [])
        go (Err e) is = tt
        go (Ok x) is = λ clean sums host. (unneeded_summed {sums = sums} old new (λ _ _. host) rows_in (Ok x) is (λ _. tt) survives).rows clean.intact

  module _ (n : ℕ) (result : Result ℕ Error) (live : IsLive old) (runs : HasCleanDisk new → Executes weight_text (number n ∷ []) old new result) (survives : Survives old new (CommitsBy weight_text (number n ∷ []) old)) where
    pub weight_changes : Changes old new result
    weight_changes = write_changes weight_text (number n ∷ []) old new host_schema _ 1 weight_means refl schema_is result runs survives

    -- no table comes or goes, whatever the rows are
    pub weight_keeps : OnOk result (IsStateClean new → HasSchema host_schema (standing new))
    unfolding IsIntact IsOpen standing
    weight_keeps = go result runs (changes_inside old new (λ clean. (has clean).inside) result weight_changes)
      where
        go : (r : Result ℕ Error) → (HasCleanDisk new → Executes weight_text (number n ∷ []) old new r) → OnOk r (IsStateClean new → new.in_transaction ≡ true) → OnOk r (IsStateClean new → HasSchema host_schema (standing new))
        go (Err e) ran stays = tt
        go (Ok m) ran stays = λ clean.
            let was = schema_is (clean_before old new _ survives clean.intact) (weight_changes.up clean.intact clean.is_open) in
            let done = inserts weight_text host_schema (at 44 unneeded_table) 19 weight_terms 3 1 weight_means (garbage_is.is_table ∙ ap Some (sym garbage_is.plain)) (number n ∷ []) _ (weight_gives n) old new was m (ran clean.intact) in
            record { inside = stays clean; schema = ap (λ (d : Database). d.schema) done.1.now }

    pub weight_adds : OnOk result (IsStateClean new → (t : Tables) → HoldsUnweighed t (standing old) → HoldsBy (record (totals_of t) { garbage = weight n ∷ [] }) t (standing new))
    weight_adds = go result runs
      where
        go : (r : Result ℕ Error) → (HasCleanDisk new → Executes weight_text (number n ∷ []) old new r) → OnOk r (IsStateClean new → (t : Tables) → HoldsUnweighed t (standing old) → HoldsBy (record (totals_of t) { garbage = weight n ∷ [] }) t (standing new))
        go (Err e) ran = tt
        go (Ok m) ran = λ clean t h.
            let turn = weight_turns old new (λ _. record { sums = unweighed (totals_of t); by = h.within }) (Ok m) ran survives (garbage_inserted n) in
            let it = turn.rewrites clean (unweighed (totals_of t)) h.within in
            record { within = it.within; is = it.is ∙ h.is }

-- ---- one tenant after another

-- any tenant
pub no_tenant : TenantRow
no_tenant = record { tenant = []; quota = 0; next_version = 0; next_upload = 0; next_entry = 0 }

pub at_mapped : {X Y : Type 0} (f : X → Y) (xs : List X) (i : ℕ) (d : X) (y : Y) → i < length xs → get_or (map f xs) i y ≡ f (get_or xs i d)
at_mapped f [] i d y low = absurd (omega (arith, low))
at_mapped f (x ∷ xs) zero d y low = refl
at_mapped f (x ∷ xs) (suc i) d y low = at_mapped f xs i d y (omega (arith, low))
