-- A call inside a transaction, in the words of the layer; of texts, with the bytes of packs.
use Rattle.std.proofs.Common.{◌≡◌, inl, inr, ℕ, ℤ, List, [], ◌∷◌, ◌++◌, map, filter, Bool, true, false, IsTrue, None, Ok, Err, Result, OnOk, OnErr, IfOk, IfErr, Ordering, refl, sym, ap, ◌∙◌, true≢false, subst, take, length, pos, ◌<◌, ◌^◌, sum_by}
use Rattle.std.specs.List.{AllByRecursion}
use Rattle.std.proofs.lemmas.Result.{on_ok_weaker}
use Rattle.sqlite.specs.Order.{Row, column}
use Rattle.sqlite.specs.Table.{Table}
use Rattle.sqlite.specs.Tree.{Trees}
use Rattle.sqlite.specs.Effect.{Database}
use Rattle.sqlite.specs.State.{State, HasCleanDisk, IsLive, IsUnchanged, Survives, Executes, CommitsBy, CommitsShowing, Shown, FailsToQuery}
use Rattle.sqlite.specs.declared.error.Error.{Error}
use Rattle.sqlite.specs.declared.error.Error.TheVariants.{SqliteFailure}
use Rattle.sqlite.specs.declared.error.ErrorCode.TheVariants.{OutOfMemory}
use Rattle.sqlite.specs.declared.types.Value.TheVariants.{Int}
use Rattle.sqlite_keyed.specs.Lists.{update_where, delete_where, sort_by}
use Rattle.sqlite_rules.specs.Lists.{Has}
use Rattle.bh_rows.specs.Keys.{AreUnused, Suits, watched}
use Rattle.bh_rows.specs.Means.{is_trouble, IsUndone, IsOutside, Asks, StaysInside, Changes}
use Rattle.bh_rows.specs.Scan.{no_limit}
use Rattle.bh_rows.specs.Form.{Form, AreRows, Entry, put, entries, typed}
use Rattle.bh_rows.specs.Texts.{IsReadyAt, IsTableOf, Leaves as Becomes, MayAdd, MayChange, InsertText, UpdateText, DeleteText, SelectText, SortedText, SumText}
use Rattle.bh_tables.specs.Schema.{host_schema}
use Rattle.bh_tables.specs.Typed.{Totals, totals_of, IsHost, IsHostBy, IsReady, Tables, tables_in, tables}
use Rattle.bh_rows.proofs.TextLemmas as text
use Rattle.bh_tables.proofs.Places.{Place, Goes, orderly}
use Rattle.bh_tables.proofs.Terms.{one_row}
use Rattle.bh_tables.proofs.Statements.{Writes, Shows, Sums, told_as, ones}
use Rattle.bh_base.proofs.Statements as statement
use Rattle.bh_base.proofs.Statements.{IsApart, here, ready_here, leaves_on}
use Rattle.bh_base.proofs.Endings.{disk_clean, changes_shown}
use Rattle.bh_base.proofs.Lifting.{doubtless}
use Rattle.bh_shelf.specs.Contents.{Contents}
use Rattle.bh_base.specs.Placed.{filled_trees}
use Rattle.bh_base.specs.Shown.{Backing, named, shown}
use Rattle.bh_rows.proofs.CallLemmas.{clean_before}
use Rattle.bh_base.specs.Layer.{Standing, standing, IsIntact, IsOpen, IsStateClean, Leaves, IsInside, IsInsideBy, IsMidst, Holds, HoldsBy, KeepsDisk, LeavesNothingNew, IsStandingSettled, IsReadable, IsReadableBy, StateWithin, Unwinds}
use Rattle.bh_base.proofs.TurnLemmas.{follows, unwinds}

pub ready : (old : State) → (IsStateClean old → IsInside (standing old)) → IsReady old
unfolding standing IsIntact IsOpen
ready old inside clean up = (inside (record { intact = clean; is_open = up })).host

-- a host's database in a transaction can be read
pub reads_inside : (x : Standing) → IsInside x → IsReadable x
reads_inside x inside = record { settled = inl inside.inside; host = inside.host }

-- so can one in the midst of a write
pub reads_by : (x : Standing) → IsReadable x → IsReadableBy x
reads_by x reads = record { settled = reads.settled; sums = totals_of (tables_in x.now); host = reads.host }

pub midst_by : (x : Standing) → IsMidst x → IsReadableBy x
midst_by x midst = record { settled = inl midst.by.inside; sums = midst.sums; host = midst.by.host }

pub readable : (old : State) → (IsStateClean old → IsReadable (standing old)) → IsReady old
unfolding standing IsIntact IsOpen
readable old reads clean up = (reads (record { intact = clean; is_open = up })).host

-- what an error leaves
undone_leaves : (old new : State) → IsStandingSettled (standing old) → Unwinds (standing old) (standing new) → ((standing new).kept ≡ (standing old).kept) × IsStandingSettled (standing new)
undone_leaves old new was (inl same) = (ap (λ (x : Standing). x.kept) same, subst IsStandingSettled (sym same) was)
undone_leaves old new was (inr back) = (ap (λ (x : Standing). x.kept) back, subst IsStandingSettled (sym back) (inr refl))

module _ (old new : State) (settled : IsStateClean old → IsStandingSettled (standing old)) where
  -- ---- a question

  -- it leaves nothing new, inside a transaction or outside
  asks_crash : Survives old new (λ _. old.is_open ≡ false) → IsOpen old → LeavesNothingNew old new
  unfolding IsIntact IsOpen Leaves
  asks_crash s up clean db h = elim (s.crash clean db h) [
    | inl was ↦ was
    | inr shut ↦ absurd (true≢false (sym up ∙ shut))
  ]

  module _ {X : Type 0} (result : Result X Error) (asks : Asks old new result) where
    asks_follows : KeepsDisk old new
    asks_follows = follows old new asks.survives asks.up

    pub asks_same : OnOk result (IsIntact new → standing new ≡ standing old)
    unfolding IsIntact standing
    asks_same = go result asks.same
      where
        go : (r : Result X Error) → (HasCleanDisk new → OnOk r (IsUnchanged old new)) → OnOk r (HasCleanDisk new → standing new ≡ standing old)
        go (Err e) h = tt
        go (Ok x) h = λ clean. λ i. record { now = (h clean).0.now_is i; kept = (h clean).0.committed_is i; inside = (h clean).0.mode i; limit = asks.survives.limit i }

    pub asks_opens : OnOk result (IsIntact new → IsOpen old × IsOpen new)
    unfolding IsIntact IsOpen
    asks_opens = go result asks.same
      where
        go : (r : Result X Error) → (HasCleanDisk new → OnOk r (IsUnchanged old new)) → OnOk r (HasCleanDisk new → IsTrue old.is_open × IsTrue new.is_open)
        go (Err e) h = tt
        go (Ok x) h = λ clean. ((h clean).0.was_open, (h clean).0.is_open)

    pub asks_trouble : IfErr result (λ e. IsIntact new → (standing old).limit ≡ None → is_trouble e ≡ true)
    unfolding IsIntact standing
    asks_trouble = go result asks.trouble
      where
        go : (r : Result X Error) → (HasCleanDisk new → old.step_limit ≡ None → IfErr r (λ e. is_trouble e ≡ true)) → IfErr r (λ e. HasCleanDisk new → old.step_limit ≡ None → is_trouble e ≡ true)
        go (Ok x) h = tt
        go (Err e) h = h

    asks_unwinds : OnErr result (IsStateClean new → Unwinds (standing old) (standing new))
    unfolding IsIntact IsOpen
    asks_unwinds = go result asks.undone
      where
        go : (r : Result X Error) → (HasCleanDisk new → OnErr r (IsUndone old new)) → OnErr r (IsStateClean new → Unwinds (standing old) (standing new))
        go (Ok x) h = tt
        go (Err e) h = λ c. unwinds old new asks.survives c.is_open (h c.intact)

    pub asks_within : StateWithin old new
    asks_within = record {
      follows = asks_follows;
      kept = λ c. (go result asks_same asks_unwinds c).0;
      settled = λ c. (go result asks_same asks_unwinds c).1;
      survives = asks_crash asks.survives;
    }
      where
        go : (r : Result X Error) → OnOk r (IsIntact new → standing new ≡ standing old) → OnErr r (IsStateClean new → Unwinds (standing old) (standing new)) → IsStateClean new → ((standing new).kept ≡ (standing old).kept) × IsStandingSettled (standing new)
        go (Ok x) ok err c = undone_leaves old new (settled (asks_follows.clean c)) (inl (ok c.intact))
        go (Err e) ok err c = undone_leaves old new (settled (asks_follows.clean c)) (err c)

module _ (old new : State) (inside : IsStateClean old → (standing old).inside ≡ true) where
  -- ---- a write

  crash_within : KeepsDisk old new → Survives old new (λ _. IsOutside old) → IsOpen old → LeavesNothingNew old new
  unfolding IsIntact IsOpen Leaves standing
  crash_within f s up clean db h = elim (s.crash clean db h) [
    | inl was ↦ was
    | inr (inl outside) ↦ absurd (true≢false (sym (inside (record { intact = f.intact clean; is_open = up })) ∙ outside))
    | inr (inr shut) ↦ absurd (true≢false (sym up ∙ shut))
  ]

  module _ {X : Type 0} (result : Result X Error) (changes : Changes old new result) where
    changes_follows : KeepsDisk old new
    changes_follows = follows old new changes.survives changes.up

    pub changes_opens : OnOk result (IsIntact new → IsOpen old → IsOpen new)
    unfolding IsIntact IsOpen
    changes_opens = go result changes.inside
      where
        go : (r : Result X Error) → (HasCleanDisk new → IsTrue old.is_open → OnOk r (StaysInside old new)) → OnOk r (HasCleanDisk new → IsTrue old.is_open → IsTrue new.is_open)
        go (Err e) h = tt
        go (Ok x) h = λ clean up. (h clean up).is_open

    changes_stays : OnOk result (IsStateClean new → StaysInside old new)
    unfolding IsIntact IsOpen
    changes_stays = go result changes.inside
      where
        go : (r : Result X Error) → (HasCleanDisk new → IsTrue old.is_open → OnOk r (StaysInside old new)) → OnOk r (IsStateClean new → StaysInside old new)
        go (Err e) h = tt
        go (Ok x) h = λ c. h c.intact (changes.up c.intact c.is_open)

    changes_unwinds : OnErr result (IsStateClean new → Unwinds (standing old) (standing new))
    unfolding IsIntact IsOpen
    changes_unwinds = go result changes.undone
      where
        go : (r : Result X Error) → (HasCleanDisk new → OnErr r (IsUndone old new)) → OnErr r (IsStateClean new → Unwinds (standing old) (standing new))
        go (Ok x) h = tt
        go (Err e) h = λ c. unwinds old new changes.survives c.is_open (h c.intact)

    stayed : (standing old).inside ≡ true → StaysInside old new → ((standing new).kept ≡ (standing old).kept) × ((standing new).inside ≡ true)
    unfolding standing
    stayed was stays = (stays.committed was, stays.inside was)

    pub changes_within : StateWithin old new
    changes_within = record {
      follows = changes_follows;
      kept = λ c. (go result changes_stays changes_unwinds c).0;
      settled = λ c. (go result changes_stays changes_unwinds c).1;
      survives = crash_within changes_follows changes.survives;
    }
      where
        go : (r : Result X Error) → OnOk r (IsStateClean new → StaysInside old new) → OnErr r (IsStateClean new → Unwinds (standing old) (standing new)) → IsStateClean new → ((standing new).kept ≡ (standing old).kept) × IsStandingSettled (standing new)
        go (Ok x) ok err c = let it = stayed (inside (changes_follows.clean c)) (ok c) in (it.0, inl it.1)
        go (Err e) ok err c = undone_leaves old new (inl (inside (changes_follows.clean c))) (err c)

    -- the transaction goes on
    pub changes_inside : OnOk result (IsStateClean new → (standing new).inside ≡ true)
    changes_inside = go result changes_stays
      where
        go : (r : Result X Error) → OnOk r (IsStateClean new → StaysInside old new) → OnOk r (IsStateClean new → (standing new).inside ≡ true)
        go (Err e) h = tt
        go (Ok x) h = λ c. (stayed (inside (changes_follows.clean c)) (h c)).1

    -- the equation of a write's tables
    pub changes_holds : (tables : Tables) → (HasCleanDisk new → IsTrue old.is_open → OnOk result (IsHost new.now × (tables_in new.now ≡ tables))) → OnOk result (IsStateClean new → Holds tables (standing new))
    unfolding IsIntact IsOpen standing
    changes_holds tables = go result changes_stays
      where
        go : (r : Result X Error) → OnOk r (IsStateClean new → StaysInside old new) → (HasCleanDisk new → IsTrue old.is_open → OnOk r (IsHost new.now × (tables_in new.now ≡ tables))) → OnOk r (IsStateClean new → Holds tables (standing new))
        go (Err e) stays h = tt
        go (Ok x) stays h = λ c.
            let was = changes_follows.clean c in
            let it = h c.intact was.is_open in
            record { within = record { inside = (stayed (inside was) (stays c)).1; host = it.0 }; is = it.1 }

-- what holds of a value on an intact disk holds on a clean connection
pub if_clean : {X E : Type 0} (new : State) (result : Result X E) (P : X → Type 0) → (HasCleanDisk new → IfOk result P) → IfOk result (λ x. IsStateClean new → P x)
unfolding IsIntact
if_clean new (Ok x) P h = λ c. h c.intact
if_clean new (Err e) P h = tt

-- ---- all that is said of a question, and of a write

-- an error that is of this kind on an intact disk, where no limit stops a text
pub if_error : {X : Type 0} (old new : State) (result : Result X Error) (P : Error → Type 0) → (HasCleanDisk new → old.step_limit ≡ None → IfErr result P) → IfErr result (λ e. IsIntact new → (standing old).limit ≡ None → P e)
unfolding IsIntact standing
if_error old new (Ok x) P h = tt
if_error old new (Err e) P h = h

pub record Question {X : Type 0} (old new : State) (rows_in : X → List Row) (shown : Tables → List Row) (result : Result X Error) : Type 0 where
  pub within : StateWithin old new
  pub opens : OnOk result (IsIntact new → IsOpen old × IsOpen new)
  pub same : OnOk result (IsIntact new → standing new ≡ standing old)
  pub rows : IfOk result (λ x. IsStateClean new → rows_in x ≡ shown (tables_in (standing old).now))
  pub trouble : IfErr result (λ e. IsIntact new → (standing old).limit ≡ None → is_trouble e ≡ true)

-- it may be asked in a transaction or outside
pub question_read : {X : Type 0} (old new : State) (rows_in : X → List Row) (shown : Tables → List Row) (result : Result X Error) → (IsStateClean old → IsReadable (standing old)) → Shows old new rows_in shown result → Question old new rows_in shown result
unfolding standing
question_read old new rows_in shown result reads it = record {
  within = asks_within old new (λ c. (reads c).settled) result it.asks;
  opens = asks_opens old new (λ c. (reads c).settled) result it.asks;
  same = asks_same old new (λ c. (reads c).settled) result it.asks;
  rows = if_clean new result (λ x. rows_in x ≡ shown (tables old)) it.rows;
  trouble = asks_trouble old new (λ c. (reads c).settled) result it.asks;
}

pub question : {X : Type 0} (old new : State) (rows_in : X → List Row) (shown : Tables → List Row) (result : Result X Error) → (IsStateClean old → IsInside (standing old)) → Shows old new rows_in shown result → Question old new rows_in shown result
question old new rows_in shown result inside it = question_read old new rows_in shown result (λ c. reads_inside (standing old) (inside c)) it

pub record Write (old new : State) (change : Tables → Tables) (allowed : Error → Type 0) (result : Result ℕ Error) : Type 0 where
  pub within : StateWithin old new
  pub opens : OnOk result (IsIntact new → IsOpen old → IsOpen new)
  pub inside : OnOk result (IsStateClean new → IsInside (standing new))
  pub holds : OnOk result (IsStateClean new → Holds (change (tables_in (standing old).now)) (standing new))
  pub trouble : IfErr result (λ e. IsIntact new → (standing old).limit ≡ None → allowed e)

-- what is kept of other rows is what those have after the change too
kept_host : (old new : State) (change : Tables → Tables) → totals_of (change (tables old)) ≡ totals_of (tables old) → IsHostBy (totals_of (tables old)) new.now × (tables new ≡ change (tables old)) → IsHost new.now × (tables new ≡ change (tables old))
kept_host old new change same it = (subst (λ s. IsHostBy s new.now) (sym (ap totals_of it.1 ∙ same)) it.0, it.1)

pub write : (old new : State) (change : Tables → Tables) (allowed : Error → Type 0) (result : Result ℕ Error) → (IsStateClean old → IsInside (standing old)) → totals_of (change (tables old)) ≡ totals_of (tables old) → Writes (totals_of (tables old)) old new change allowed result
    → Write old new change allowed result
unfolding standing
write old new change allowed result inside same it = record {
  within = changes_within old new (λ c. (inside c).inside) result it.changes;
  opens = changes_opens old new (λ c. (inside c).inside) result it.changes;
  inside = on_ok_weaker result (λ held clean. (held clean).within) held;
  holds = held;
  trouble = if_error old new result allowed it.errors;
}
  where
    kept : (r : Result ℕ Error) → OnOk r (IsHostBy (totals_of (tables old)) new.now × (tables new ≡ change (tables old))) → OnOk r (IsHost new.now × (tables new ≡ change (tables old)))
    kept (Ok n) h = kept_host old new change same h
    kept (Err e) h = tt

    held : OnOk result (IsStateClean new → Holds (change (tables old)) (standing new))
    held = changes_holds old new (λ c. (inside c).inside) result it.changes (change (tables old)) (λ clean up. kept result (it.leaves clean up))

-- the first text of a write after which other rows are to follow: what is kept is what the tables had
pub record Entering (old new : State) (change : Tables → Tables) (allowed : Error → Type 0) (result : Result ℕ Error) : Type 0 where
  pub within : StateWithin old new
  pub opens : OnOk result (IsIntact new → IsOpen old → IsOpen new)
  pub midst : OnOk result (IsStateClean new → IsMidst (standing new))
  pub enters : OnOk result (IsStateClean new → HoldsBy (totals_of (tables_in (standing old).now)) (change (tables_in (standing old).now)) (standing new))
  pub trouble : IfErr result (λ e. IsIntact new → (standing old).limit ≡ None → allowed e)

pub entering : (old new : State) (change : Tables → Tables) (allowed : Error → Type 0) (result : Result ℕ Error) → (IsStateClean old → IsInside (standing old)) → Writes (totals_of (tables old)) old new change allowed result → Entering old new change allowed result
unfolding standing IsIntact IsOpen
entering old new change allowed result inside it = record {
  within = changes_within old new was_inside result it.changes;
  opens = changes_opens old new was_inside result it.changes;
  midst = on_ok_weaker result (λ held clean. record { sums = totals_of (tables old); by = (held clean).within }) held;
  enters = held;
  trouble = if_error old new result allowed it.errors;
}
  where
    was_inside : IsStateClean old → (standing old).inside ≡ true
    was_inside c = (inside c).inside

    was : IsStateClean new → IsStateClean old
    was = (changes_within old new was_inside result it.changes).follows.clean

    go : (r : Result ℕ Error) → OnOk r (IsStateClean new → (standing new).inside ≡ true) → (HasCleanDisk new → IsTrue old.is_open → OnOk r (IsHostBy (totals_of (tables old)) new.now × (tables new ≡ change (tables old))))
        → OnOk r (IsStateClean new → HoldsBy (totals_of (tables old)) (change (tables old)) (standing new))
    go (Err e) stays h = tt
    go (Ok n) stays h = λ c. let it = h c.intact (was c).is_open in record { within = record { inside = stays c; host = it.0 }; is = it.1 }

    held : OnOk result (IsStateClean new → HoldsBy (totals_of (tables old)) (change (tables old)) (standing new))
    held = go result (changes_inside old new was_inside result it.changes) it.leaves

-- what is said of a sum: an error is trouble where it is not too wide
pub record Total {X : Type 0} (old new : State) (rows_in : X → List Row) (total : Tables → ℕ) (result : Result X Error) : Type 0 where
  pub within : StateWithin old new
  pub opens : OnOk result (IsIntact new → IsOpen old × IsOpen new)
  pub same : OnOk result (IsIntact new → standing new ≡ standing old)
  pub rows : IfOk result (λ x. IsStateClean new → rows_in x ≡ (Int (pos (total (tables_in (standing old).now))) ∷ []) ∷ [])
  pub trouble : IfErr result (λ e. IsIntact new → (standing old).limit ≡ None → total (tables_in (standing old).now) < 2 ^ 63 → is_trouble e ≡ true)

-- any error that is trouble
abbrev any_trouble : Error
any_trouble = SqliteFailure OutOfMemory

pub totalled : {X : Type 0} (old new : State) (rows_in : X → List Row) (total : Tables → ℕ) (result : Result X Error) → (IsStateClean old → IsInside (standing old)) → Sums old new rows_in total result → Total old new rows_in total result
unfolding standing
totalled old new rows_in total result inside it =
    let asks = it.asks any_trouble refl in
    record {
      within = asks_within old new (λ c. inl (inside c).inside) (told_as any_trouble result) asks;
      opens = answered _ result (asks_opens old new (λ c. inl (inside c).inside) (told_as any_trouble result) asks);
      same = answered _ result (asks_same old new (λ c. inl (inside c).inside) (told_as any_trouble result) asks);
      rows = if_clean new result (λ x. rows_in x ≡ (Int (pos (total (tables old))) ∷ []) ∷ []) it.rows;
      trouble = if_error old new result (λ e. total (tables old) < 2 ^ 63 → is_trouble e ≡ true) it.trouble;
    }
  where
    answered : {X : Type 0} (P : Type 0) (r : Result X Error) → OnOk (told_as any_trouble r) P → OnOk r P
    answered P (Ok x) h = h
    answered P (Err e) h = tt

-- ---- the same, said in other words

pub asked : {X : Type 0} {old new : State} {rows_in : X → List Row} {result : Result X Error} (f g : Tables → List Row) → ((t : Tables) → f t ≡ g t) → Question old new rows_in f result → Question old new rows_in g result
asked {X} {old} {new} {rows_in} {result} f g same = subst (λ shown. Question old new rows_in shown result) (λ i t. same t i)

pub totalled_so : {X : Type 0} {old new : State} {rows_in : X → List Row} {result : Result X Error} (f g : Tables → ℕ) → ((t : Tables) → f t ≡ g t) → Total old new rows_in f result → Total old new rows_in g result
totalled_so {X} {old} {new} {rows_in} {result} f g same = subst (λ total. Total old new rows_in total result) (λ i t. same t i)

pub written : {old new : State} {allowed : Error → Type 0} {result : Result ℕ Error} (f g : Tables → Tables) → ((db : Database) → f (tables_in db) ≡ g (tables_in db)) → Write old new f allowed result → Write old new g allowed result
written {old} {new} {allowed} {result} f g same w = record {
  within = w.within;
  opens = w.opens;
  inside = w.inside;
  holds = subst (λ t. OnOk result (IsStateClean new → Holds t (standing new))) (same (standing old).now) w.holds;
  trouble = w.trouble;
}

-- ---- the kinds of texts, over any of the tables

-- rows that are read in a transaction or outside
pub selected_read : {T : Type 0} (place : (sums : Totals) → Place sums T) (apart : (sums : Totals) → IsApart (place sums).table.tree) (a : Backing) (old new : State) → (IsStateClean (shown a old) → IsReadable (standing (shown a old))) → {X : Type 0} (rows_in : X → List Row) (result : Result X Error) {sql : List ℕ} {params : Row} {m : T → Bool} {view : T → Row}
    → SelectText (place (totals_of (tables (shown a old)))).form host_schema (place (totals_of (tables (shown a old)))).table.tree sql params m view no_limit
    → (HasCleanDisk new → IfOk result (λ x. Shown sql params old new (rows_in x))) → (HasCleanDisk new → IfErr result (FailsToQuery sql params old new)) → Survives old new (CommitsShowing sql params old)
    → Question (shown a old) (shown a new) rows_in (λ t. map view (filter m ((place (totals_of (tables (shown a old)))).rows t))) result
selected_read place apart a old new reads rows_in result it ok err survives =
    question_read (shown a old) (shown a new) rows_in _ result reads (statement.selected (place (totals_of (tables (shown a old)))) (apart _) a old new (readable (shown a old) reads) rows_in result _ _ _ _ it ok err survives)

module _ {T : Type 0} (place : (sums : Totals) → Place sums T) (apart : (sums : Totals) → IsApart (place sums).table.tree) (a : Backing) (old new : State) (inside : IsStateClean (shown a old) → IsInside (standing (shown a old))) where
  abbrev p : Place (totals_of (tables (shown a old))) T
  p = place (totals_of (tables (shown a old)))

  was_inside : HasCleanDisk (shown a old) → IsTrue old.is_open → old.in_transaction ≡ true
  unfolding standing IsIntact IsOpen
  was_inside h up = (inside (record { intact = h; is_open = up })).inside

  pub selected : {X : Type 0} (rows_in : X → List Row) (result : Result X Error) {sql : List ℕ} {params : Row} {m : T → Bool} {view : T → Row} → SelectText p.form host_schema p.table.tree sql params m view no_limit
      → (HasCleanDisk new → IfOk result (λ x. Shown sql params old new (rows_in x))) → (HasCleanDisk new → IfErr result (FailsToQuery sql params old new)) → Survives old new (CommitsShowing sql params old)
      → Question (shown a old) (shown a new) rows_in (λ t. map view (filter m (p.rows t))) result
  selected rows_in result it ok err survives = question (shown a old) (shown a new) rows_in _ result inside (statement.selected p (apart _) a old new (ready (shown a old) inside) rows_in result _ _ _ _ it ok err survives)

  pub sorted : {X : Type 0} (rows_in : X → List Row) (result : Result X Error) {sql : List ℕ} {params : Row} {m : T → Bool} {view : T → Row} {order : T → T → Ordering} → SortedText p.form host_schema p.table.tree sql params m view order no_limit
      → (HasCleanDisk new → IfOk result (λ x. Shown sql params old new (rows_in x))) → (HasCleanDisk new → IfErr result (FailsToQuery sql params old new)) → Survives old new (CommitsShowing sql params old)
      → Question (shown a old) (shown a new) rows_in (λ t. map view (sort_by order (filter m (p.rows t)))) result
  sorted rows_in result it ok err survives = question (shown a old) (shown a new) rows_in _ result inside (statement.sorted p (apart _) a old new (ready (shown a old) inside) rows_in result _ _ _ _ _ it ok err survives)

  pub selected_first : {X : Type 0} (rows_in : X → List Row) (result : Result X Error) {sql : List ℕ} {params : Row} {m : T → Bool} {view : T → Row} {order : T → T → Ordering}
      → SortedText p.form host_schema p.table.tree sql params m view order one_row
      → (HasCleanDisk new → IfOk result (λ x. Shown sql params old new (rows_in x))) → (HasCleanDisk new → IfErr result (FailsToQuery sql params old new)) → Survives old new (CommitsShowing sql params old)
      → Question (shown a old) (shown a new) rows_in (λ t. take 1 (map view (sort_by order (filter m (p.rows t))))) result
  selected_first rows_in result it ok err survives = question (shown a old) (shown a new) rows_in _ result inside (statement.selected_first p (apart _) a old new (ready (shown a old) inside) rows_in result _ _ _ _ _ it ok err survives)

  pub summed : {X : Type 0} (rows_in : X → List Row) (result : Result X Error) {sql : List ℕ} {params : Row} {m : T → Bool} {size : T → ℕ} → SumText p.form host_schema p.table.tree sql params m size
      → (HasCleanDisk new → IfOk result (λ x. Shown sql params old new (rows_in x))) → (HasCleanDisk new → IfErr result (FailsToQuery sql params old new)) → Survives old new (CommitsShowing sql params old)
      → Total (shown a old) (shown a new) rows_in (λ t. sum_by size (filter m (p.rows t))) result
  summed rows_in result it ok err survives = totalled (shown a old) (shown a new) rows_in _ result inside (statement.summed p (apart _) a old new (ready (shown a old) inside) rows_in result _ _ _ _ it ok err survives)

  -- how many pass, by a text that sums 1 for each
  pub counted : {X : Type 0} (rows_in : X → List Row) (result : Result X Error) {sql : List ℕ} {params : Row} {m : T → Bool} → SumText p.form host_schema p.table.tree sql params m (λ _. 1)
      → (HasCleanDisk new → IfOk result (λ x. Shown sql params old new (rows_in x))) → (HasCleanDisk new → IfErr result (FailsToQuery sql params old new)) → Survives old new (CommitsShowing sql params old)
      → Total (shown a old) (shown a new) rows_in (λ t. length (filter m (p.rows t))) result
  counted rows_in result {sql} {params} {m} it ok err survives = totalled_so _ _ (λ t. ones (filter m (p.rows t))) (summed rows_in result it ok err survives)

  -- the rows that pass, changed, after which the same is kept
  pub updated_so : (result : Result ℕ Error) (live : IsLive old) {sql : List ℕ} {params : Row} {m : T → Bool} {f : T → T} → totals_of (p.set (tables (shown a old)) (update_where m f (p.rows (tables (shown a old))))) ≡ totals_of (tables (shown a old))
      → UpdateText p.form host_schema p.number p.table sql params m f → MayChange p.form host_schema p.table m f → (HasCleanDisk new → Executes sql params old new result) → Survives old new (CommitsBy sql params old)
      → Write (shown a old) (shown a new) (λ t. p.set t (update_where m f (p.rows t))) (λ e. is_trouble e ≡ true) result
  updated_so result live same it may runs survives = write (shown a old) (shown a new) _ _ result inside same (statement.updated p (apart _) a old new (ready (shown a old) inside) was_inside result _ _ runs survives live _ _ it may)

  -- writes to a table of whose rows nothing is kept
  module _ (same : (t : Tables) (l : List T) → totals_of ((place (totals_of t)).set t l) ≡ totals_of t) (result : Result ℕ Error) (live : IsLive old) where
    pub inserted : {sql : List ℕ} {params : Row} {x : T} {A : Type 0} → InsertText p.form host_schema p.number p.table sql params x
        → ((packs : Contents) (db : Trees) → MayAdd p.form host_schema p.table (filled_trees packs db) x → MayAdd p.form host_schema p.table db x) → (IsStateClean (shown a old) → A → MayAdd p.form host_schema p.table (standing (shown a old)).now.trees x)
        → (HasCleanDisk new → Executes sql params old new result) → Survives old new (CommitsBy sql params old)
        → Write (shown a old) (shown a new) (λ t. p.set t (p.rows t ++ x ∷ [])) (λ e. A → is_trouble e ≡ true) result
    unfolding IsIntact IsOpen standing
    inserted it bare may runs survives = write (shown a old) (shown a new) _ _ result inside (same (tables (shown a old)) _) (statement.inserted p (apart _) a old new (ready (shown a old) inside) was_inside result _ _ runs survives live _ it (λ clean up so. bare (named a old.in_transaction) old.now.trees (may (record { intact = clean; is_open = up }) so)))

    pub updated : {sql : List ℕ} {params : Row} {m : T → Bool} {f : T → T} → UpdateText p.form host_schema p.number p.table sql params m f → MayChange p.form host_schema p.table m f
        → (HasCleanDisk new → Executes sql params old new result) → Survives old new (CommitsBy sql params old)
        → Write (shown a old) (shown a new) (λ t. p.set t (update_where m f (p.rows t))) (λ e. is_trouble e ≡ true) result
    updated it may runs survives = updated_so result live (same (tables (shown a old)) _) it may runs survives

    pub deleted : {sql : List ℕ} {params : Row} {m : T → Bool} → DeleteText p.form host_schema p.number p.table sql params m → ((sums : Totals) (db : Database) → IsHostBy sums db → (rows : List Row) → AreUnused host_schema db.trees p.table.tree rows)
        → (HasCleanDisk new → Executes sql params old new result) → Survives old new (CommitsBy sql params old)
        → Write (shown a old) (shown a new) (λ t. p.set t (delete_where m (p.rows t))) (λ e. is_trouble e ≡ true) result
    deleted it unused runs survives = write (shown a old) (shown a new) _ _ result inside (same (tables (shown a old)) _) (statement.deleted p (apart _) a old new (ready (shown a old) inside) was_inside result _ _ runs survives live _ it (unused _))

    pub removed : {sql : List ℕ} {params : Row} {m : T → Bool} {A : Type 0} → DeleteText p.form host_schema p.number p.table sql params m
        → ((packs : Contents) (db : Trees) → Goes p (filled_trees packs db) m → Goes p db m) → (IsStateClean (shown a old) → A → Goes p (standing (shown a old)).now.trees m)
        → (HasCleanDisk new → Executes sql params old new result) → Survives old new (CommitsBy sql params old)
        → Write (shown a old) (shown a new) (λ t. p.set t (delete_where m (p.rows t))) (λ e. A → is_trouble e ≡ true) result
    unfolding IsIntact IsOpen standing
    removed it bare goes runs survives = write (shown a old) (shown a new) _ _ result inside (same (tables (shown a old)) _) (statement.removed p (apart _) a old new (ready (shown a old) inside) was_inside result _ _ runs survives live _ it (λ clean up so. bare (named a old.in_transaction) old.now.trees (goes (record { intact = clean; is_open = up }) so)))

-- ---- texts in the midst of a write

pub record Turn (old new : State) (after : Totals → Totals) (change : Tables → Tables) (result : Result ℕ Error) : Type 0 where
  pub within : StateWithin old new
  pub opens : OnOk result (IsIntact new → IsOpen old → IsOpen new)
  pub midst : OnOk result (IsStateClean new → IsMidst (standing new))
  pub rewrites : OnOk result (IsStateClean new → (sums : Totals) → IsInsideBy sums (standing old) → HoldsBy (after sums) (change (tables_in (standing old).now)) (standing new))

pub turn : (old new : State) (after : Totals → Totals) (change : Tables → Tables) (result : Result ℕ Error) → (IsStateClean old → IsMidst (standing old)) → Changes old new result
    → (HasCleanDisk new → IsTrue old.is_open → OnOk result ((sums : Totals) → IsHostBy sums old.now → IsHostBy (after sums) new.now × (tables new ≡ change (tables old)))) → Turn old new after change result
unfolding standing IsIntact IsOpen
turn old new after change result midst changes each = record {
  within = changes_within old new inside result changes;
  opens = changes_opens old new inside result changes;
  midst = whole result turned;
  rewrites = turned;
}
  where
    inside : IsStateClean old → (standing old).inside ≡ true
    inside c = (midst c).by.inside

    was : IsStateClean new → IsStateClean old
    was = (changes_within old new inside result changes).follows.clean

    go : (r : Result ℕ Error) → OnOk r (IsStateClean new → (standing new).inside ≡ true) → (HasCleanDisk new → IsTrue old.is_open → OnOk r ((sums : Totals) → IsHostBy sums old.now → IsHostBy (after sums) new.now × (tables new ≡ change (tables old))))
        → OnOk r (IsStateClean new → (sums : Totals) → IsInsideBy sums (standing old) → HoldsBy (after sums) (change (tables old)) (standing new))
    go (Err e) stays h = tt
    go (Ok n) stays h = λ c sums by. let it = h c.intact (was c).is_open sums by.host in record { within = record { inside = stays c; host = it.0 }; is = it.1 }

    turned : OnOk result (IsStateClean new → (sums : Totals) → IsInsideBy sums (standing old) → HoldsBy (after sums) (change (tables old)) (standing new))
    turned = go result (changes_inside old new inside result changes) each

    whole : (r : Result ℕ Error) → OnOk r (IsStateClean new → (sums : Totals) → IsInsideBy sums (standing old) → HoldsBy (after sums) (change (tables old)) (standing new)) → OnOk r (IsStateClean new → IsMidst (standing new))
    whole (Err e) h = tt
    whole (Ok n) h = λ c. let m = midst (was c) in record { sums = after m.sums; by = (h c m.sums m.by).within }

pub only_if : {A : Type 0} (r : Result ℕ Error) → (A → IfErr r (λ e. is_trouble e ≡ true)) → IfErr r (λ e. A → is_trouble e ≡ true)
only_if (Ok n) h = tt
only_if (Err e) h = h

-- over a table whose rows are stored so whatever is kept
module _ {T : Type 0} (form : Form T) (number : ℕ) (table : Table) (is : IsTableOf form host_schema number table) (held : (sums : Totals) (db : Database) → IsHostBy sums db → AreRows form (db.trees table.tree))
    (apart : IsApart table.tree) (a : Backing) (old new : State) (midst : IsStateClean (shown a old) → IsMidst (standing (shown a old))) where
  midst_ready : IsReadyAt form host_schema table.tree (shown a old)
  unfolding standing IsIntact IsOpen
  midst_ready clean up = let m = midst (record { intact = clean; is_open = up }) in (m.by.host.schema, held m.sums (shown a old).now m.by.host)

  -- what a write of these rows leaves
  abbrev pub Turned : (Totals → Totals) → (Tables → Tables) → List T → Type 0
  Turned after change rows = (sums : Totals) → IsHostBy sums (shown a old).now → Becomes form host_schema table.tree (shown a old) (shown a new) rows → IsHostBy (after sums) (shown a new).now × (tables (shown a new) ≡ change (tables (shown a old)))

  on_ok : {A B : Type 0} (r : Result ℕ Error) → (A → B) → OnOk r A → OnOk r B
  on_ok (Ok n) f h = f h
  on_ok (Err e) f h = tt

  bare_ready : IsTrue a.is_clean → IsReadyAt form host_schema table.tree old
  bare_ready clean = ready_here table.tree apart form a old clean midst_ready

  was_within : HasCleanDisk (shown a old) → IsTrue old.is_open → old.in_transaction ≡ true
  unfolding standing IsIntact IsOpen
  was_within h up = (midst (record { intact = h; is_open = up })).by.inside

  clean_old : IsTrue a.is_clean → HasCleanDisk old → IsTrue old.is_open → IsStateClean (shown a old)
  unfolding IsIntact IsOpen
  clean_old clean was up = record { intact = doubtless old.is_clean a.is_clean was clean; is_open = up }

  -- what it leaves of the rows that there were, with the bytes of packs
  pub leaves : (rows : List T → List T) (result : Result ℕ Error) {P : Trees → Type 0} → Survives old new P → (IsTrue a.is_clean → Changes old new result)
      → (IsTrue a.is_clean → HasCleanDisk new → IsTrue old.is_open → OnOk result (Becomes form host_schema table.tree old new (rows (typed form (old.now.trees table.tree)))))
      → HasCleanDisk (shown a new) → IsTrue old.is_open → OnOk result (Becomes form host_schema table.tree (shown a old) (shown a new) (rows (typed form ((shown a old).now.trees table.tree))))
  leaves rows (Err e) survives changes h clean up = tt
  leaves rows (Ok n) survives changes h clean up =
      let it = disk_clean a old new new clean in
      let was = doubtless old.is_clean a.is_clean (clean_before old new _ survives it.0) it.1 in
      leaves_on table.tree apart form a old new rows (((changes it.1).inside it.0 up).inside (was_within was up) ∙ sym (was_within was up)) (h it.1 it.0 up)

  module _ (result : Result ℕ Error) (live : IsLive old) {sql : List ℕ} {params : Row} (after : Totals → Totals) (change : Tables → Tables) where
    pub adds : {x : T} → InsertText form host_schema number table sql params x → Turned after change (typed form ((shown a old).now.trees table.tree) ++ x ∷ [])
        → (HasCleanDisk new → Executes sql params old new result) → Survives old new (CommitsBy sql params old) → Turn (shown a old) (shown a new) after change result
    adds {x} it turned runs survives = turn (shown a old) (shown a new) after change result midst (changes_shown a old new result survives (λ clean. text.insert_changes form host_schema orderly number table is old new (bare_ready clean) sql params x it result runs survives))
        (λ clean up. on_ok result (λ l sums host. turned sums host l) (leaves (λ rows. rows ++ x ∷ []) result survives (λ clean. text.insert_changes form host_schema orderly number table is old new (bare_ready clean) sql params x it result runs survives) (λ clean. text.insert_adds form host_schema orderly number table is old new (bare_ready clean) sql params x it result runs survives) clean up))

    pub sets : {m : T → Bool} {f : T → T} → UpdateText form host_schema number table sql params m f → Turned after change (update_where m f (typed form ((shown a old).now.trees table.tree)))
        → (HasCleanDisk new → Executes sql params old new result) → Survives old new (CommitsBy sql params old) → Turn (shown a old) (shown a new) after change result
    sets {m} {f} it turned runs survives = turn (shown a old) (shown a new) after change result midst (changes_shown a old new result survives (λ clean. text.update_changes form host_schema orderly number table is old new (bare_ready clean) sql params m f it result runs survives))
        (λ clean up. on_ok result (λ l sums host. turned sums host l) (leaves (update_where m f) result survives (λ clean. text.update_changes form host_schema orderly number table is old new (bare_ready clean) sql params m f it result runs survives) (λ clean. text.update_sets form host_schema orderly number table is old new (bare_ready clean) sql params m f it live result runs survives) clean up))

    pub drops : {m : T → Bool} → DeleteText form host_schema number table sql params m → Turned after change (delete_where m (typed form ((shown a old).now.trees table.tree)))
        → (HasCleanDisk new → Executes sql params old new result) → Survives old new (CommitsBy sql params old) → Turn (shown a old) (shown a new) after change result
    drops {m} it turned runs survives = turn (shown a old) (shown a new) after change result midst (changes_shown a old new result survives (λ clean. text.delete_changes form host_schema orderly number table is old new (bare_ready clean) sql params m it result runs survives))
        (λ clean up. on_ok result (λ l sums host. turned sums host l) (leaves (delete_where m) result survives (λ clean. text.delete_changes form host_schema orderly number table is old new (bare_ready clean) sql params m it result runs survives) (λ clean. text.delete_removes form host_schema orderly number table is old new (bare_ready clean) sql params m it result runs survives) clean up))

    -- where the store is whole and no limit stops a text, its error is trouble alone
    pub adds_trouble : {x : T} {A : Type 0} → InsertText form host_schema number table sql params x
        → ((packs : Contents) (db : Trees) → MayAdd form host_schema table (filled_trees packs db) x → MayAdd form host_schema table db x) → (IsStateClean (shown a old) → A → MayAdd form host_schema table (standing (shown a old)).now.trees x)
        → (HasCleanDisk new → Executes sql params old new result) → Survives old new (CommitsBy sql params old) → IfErr result (λ e. IsIntact (shown a new) → (standing (shown a old)).limit ≡ None → A → is_trouble e ≡ true)
    unfolding standing
    adds_trouble {x} {A} it bare may runs survives = if_error (shown a old) (shown a new) result (λ e. A → is_trouble e ≡ true) (λ h unlimited. let clean = disk_clean a old new new h in only_if result (λ so.
        text.insert_only_trouble form host_schema orderly number table is old new (bare_ready clean.1) sql params x it live result runs survives clean.0 unlimited
        (λ was up. bare (named a old.in_transaction) old.now.trees (may (clean_old clean.1 was up) so))))

    pub sets_trouble : {m : T → Bool} {f : T → T} {A : Type 0} → UpdateText form host_schema number table sql params m f
        → ((id : ℤ) (y : T) → m y ≡ true → map (column (put form (id, f y))) (watched host_schema table) ≡ map (column (put form (id, y))) (watched host_schema table))
        → (IsStateClean (shown a old) → A → (e : Entry T) → Has (filter (λ (d : Entry T). m d.1) (entries form ((standing (shown a old)).now.trees table.tree))) e → Suits table (put form e) → Suits table (put form (e.0, f e.1)))
        → (HasCleanDisk new → Executes sql params old new result) → Survives old new (CommitsBy sql params old) → IfErr result (λ e. IsIntact (shown a new) → (standing (shown a old)).limit ≡ None → A → is_trouble e ≡ true)
    unfolding standing
    sets_trouble {m} {f} {A} it unwatched suits runs survives = if_error (shown a old) (shown a new) result (λ e. A → is_trouble e ≡ true) (λ h unlimited. let clean = disk_clean a old new new h in only_if result (λ so.
        text.update_there_trouble form host_schema orderly number table is old new (bare_ready clean.1) sql params m f it live unwatched
        (λ was up. subst (λ rows. (e : Entry T) → Has (filter (λ (d : Entry T). m d.1) (entries form rows)) e → Suits table (put form e) → Suits table (put form (e.0, f e.1)))
        (here table.tree apart (named a old.in_transaction) old.now.trees) (suits (clean_old clean.1 was up) so)) result runs survives clean.0 unlimited))

    pub drops_trouble : {m : T → Bool} {A : Type 0} → DeleteText form host_schema number table sql params m
        → ((packs : Contents) (db : Trees) (rows : List Row) → AreUnused host_schema (filled_trees packs db) table.tree rows → AreUnused host_schema db table.tree rows)
        → (IsStateClean (shown a old) → A → AreUnused host_schema (standing (shown a old)).now.trees table.tree (map (put form) (filter (λ (d : Entry T). m d.1) (entries form ((standing (shown a old)).now.trees table.tree)))))
        → (HasCleanDisk new → Executes sql params old new result) → Survives old new (CommitsBy sql params old) → IfErr result (λ e. IsIntact (shown a new) → (standing (shown a old)).limit ≡ None → A → is_trouble e ≡ true)
    unfolding standing
    drops_trouble {m} {A} it bare unused runs survives = if_error (shown a old) (shown a new) result (λ e. A → is_trouble e ≡ true) (λ h unlimited. let clean = disk_clean a old new new h in only_if result (λ so.
        text.delete_only_trouble form host_schema orderly number table is old new (bare_ready clean.1) sql params m it live result runs survives clean.0 unlimited
        (λ was up. subst (λ rows. AreUnused host_schema old.now.trees table.tree (map (put form) (filter (λ (d : Entry T). m d.1) (entries form rows))))
        (here table.tree apart (named a old.in_transaction) old.now.trees) (bare (named a old.in_transaction) old.now.trees _ (unused (clean_old clean.1 was up) so)))))

-- what holds of each typed row holds of each entry
pub at_entry : {T : Type 0} (form : Form T) (P : T → Type 0) (rows : List Row) → AllByRecursion P (typed form rows) → (e : Entry T) → Has (entries form rows) e → P e.1
at_entry form P [] all e there = absurd there
at_entry {T} form P (r ∷ rows) all e there = elim there [
  | inl is ↦ subst (λ (x : Entry T). P x.1) (sym is) all.0
  | inr more ↦ at_entry form P rows all.1 e more
]

-- ---- from the midst of a write to its end

-- a host's database is one in the midst of a write
pub in_midst : (x : Standing) → IsInside x → IsMidst x
in_midst x h = record { sums = totals_of (tables_in x.now); by = h }

-- what is kept is what the tables have
pub whole_again : (sums : Totals) (t : Tables) (x : Standing) → HoldsBy sums t x → sums ≡ totals_of t → Holds t x
whole_again sums t x h same = record { within = subst (λ s. IsInsideBy s x) (same ∙ ap totals_of (sym h.is)) h.within; is = h.is }
