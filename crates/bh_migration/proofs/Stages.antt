-- What each call that brings a database over leaves.
use Rattle.std.proofs.Common.{◌≡◌, ◌⊎◌, inl, inr, ℕ, codes, List, [], true, None, Ok, Err, Result, OnOk, IfErr, IsTrue, refl, sym, ap, subst, ◌∙◌}
use Rattle.sqlite.specs.Tree.{Trees}
use Rattle.sqlite.specs.Effect.{Database}
use Rattle.sqlite.specs.Held.{Held, state}
use Rattle.sqlite_trees.specs.declared.store.Store.{Ghosts}
use Rattle.sqlite.specs.State.{State, HasCleanDisk, IsLive, Survives, Executes, CommitsBy}
use Rattle.sqlite.specs.declared.error.Error.{Error}
use Rattle.bh_rows.specs.Means.{Changes, is_trouble}
use Rattle.bh_rows.proofs.CallLemmas.{clean_before, write_changes}
use Rattle.bh_rows.proofs.WriteLemmas.{updates_quiet}
use Rattle.bh_rows.specs.Form.{AreRows}
use Rattle.bh_tables.specs.Rows.{pack_form}
use Rattle.bh_tables.specs.Hosts.{brought_over, tables_shown, tables_opened}
use Rattle.bh_tables.specs.Schema.{host_schema, host_table, at}
use Rattle.bh_tables.specs.Typed.{raw, Tables, tables_in, tables_of, first_tables_in, totals_of, unweighed, untallied, AreHeld, IsHost}
use Rattle.bh_tables.proofs.HostTests.{host_shows, first_opens, second_opens, third_opens, fourth_opens, second_unlike_first, third_unlike_first, third_unlike_second, fourth_unlike_first, fourth_unlike_second, fourth_unlike_third}
use Rattle.bh_tables.proofs.HostTexts.{version_set, version_may}
use Rattle.bh_tables.proofs.Places.{host as hosts, host_is, orderly}
use Rattle.bh_base.specs.Layer.{Standing, standing, IsIntact, IsOpen, IsStateClean, IsInside, Holds, KeepsDisk, StateWithin, LeavesNothingNew, Leaves}
use Rattle.bh_base.proofs.Calls.{Write, write, ready, changes_inside}
use Rattle.bh_tables.proofs.Statements.{updated}
use Rattle.bh_migration.specs.Migration.{earlier_schema, earlier_raw, IsEarlierHost, IsOfEarlier, IsBroughtOver, IsChanged, LeavesChanged, HasSchema, HasRows, HoldsUntallied, Brings}
use Rattle.bh_migration.specs.declared.Earlier.{Earlier}
use Rattle.bh_migration.specs.declared.Earlier.TheVariants.{First, Second, Third, Fourth}

abbrev pub version_text : List ℕ
version_text = codes "UPDATE host SET version = 5"

-- a premise of what holds after an answer, and after an error
given_ok : (C P X : Type 0) (r : Result ℕ Error) → (P → OnOk r (C → X)) → OnOk r (C → P → X)
given_ok C P X (Ok n) f = λ c p. f p c
given_ok C P X (Err e) f = tt

given_err : (A B P : Type 0) (T : Error → Type 0) (r : Result ℕ Error) → (P → IfErr r (λ e. A → B → T e)) → IfErr r (λ e. A → B → P → T e)
given_err A B P T (Ok n) f = tt
given_err A B P T (Err e) f = λ a b p. f p a b

-- ---- the version of the host's row

module _ (old new : State) where
  module _ (all : IsStateClean old → HasSchema host_schema (standing old)) (result : Result ℕ Error) (live : IsLive old) (runs : HasCleanDisk new → Executes version_text [] old new result) (s : Survives old new (CommitsBy version_text [] old)) where
    all_ready : HasCleanDisk old → IsTrue old.is_open → old.now.schema ≡ host_schema
    unfolding IsIntact IsOpen standing
    all_ready clean up = (all (record { intact = clean; is_open = up })).schema

    pub version_changes : Changes old new result
    version_changes = write_changes version_text [] old new host_schema _ _ version_set.means refl all_ready result runs s

    -- no table comes or goes, whatever the rows are
    pub version_keeps : OnOk result (IsStateClean new → HasSchema host_schema (standing new))
    unfolding IsIntact IsOpen standing
    version_keeps = go result runs (changes_inside old new (λ c. (all c).inside) result version_changes)
      where
        go : (r : Result ℕ Error) → (HasCleanDisk new → Executes version_text [] old new r) → OnOk r (IsStateClean new → new.in_transaction ≡ true) → OnOk r (IsStateClean new → HasSchema host_schema (standing new))
        go (Err e) ran stays = tt
        go (Ok n) ran stays = λ c.
            let has = all_ready (clean_before old new _ s c.intact) (version_changes.up c.intact c.is_open) in
            let done = updates_quiet version_text host_schema (at 0 host_table) 0 version_set.test version_set.show 0 host_is.is_table [] old new has version_set.means orderly.ignores n (ran c.intact) in
            record { inside = stays c; schema = ap (λ (d : Database). d.schema) done.3.now }

    -- of a host's rows
    wrote : (IsStateClean old → IsHost (standing old).now) → Write old new brought_over (λ e. is_trouble e ≡ true) result
    wrote host =
        let inside : IsStateClean old → IsInside (standing old) = λ c. record { inside = (all c).inside; host = host c } in
        write old new _ _ result inside refl (updated (hosts (totals_of (tables_in old.now))) old new (ready old inside) result _ _ runs s live _ _ version_set version_may)

    pub version_holds : OnOk result (IsStateClean new → (IsStateClean old → IsHost (standing old).now) → Holds (brought_over (tables_in (standing old).now)) (standing new))
    version_holds = given_ok (IsStateClean new) (IsStateClean old → IsHost (standing old).now) (Holds (brought_over (tables_in (standing old).now)) (standing new)) result (λ host. (wrote host).holds)

    pub version_trouble : IfErr result (λ e. IsIntact new → (standing old).limit ≡ None → (IsStateClean old → IsHost (standing old).now) → is_trouble e ≡ true)
    version_trouble = given_err (IsIntact new) ((standing old).limit ≡ None) (IsStateClean old → IsHost (standing old).now) (λ e. is_trouble e ≡ true) result (λ host. (wrote host).trouble)

-- ---- all of them

-- with the missing tables, a host of an earlier version has its rows
pub holds_untallied : (version : Earlier) (a b : Standing) → HasRows host_schema raw (earlier_raw version a.now.trees) b → IsEarlierHost version a.now → HoldsUntallied version (tables_of (earlier_raw version a.now.trees)) b
holds_untallied First a b it host = record { within = record { inside = it.inside; host = record { schema = it.schema; held = subst (AreHeld (untallied (totals_of (first_tables_in a.now)))) (sym it.rows) host.held } }; is = ap tables_of it.rows }
holds_untallied Second a b it host = record { within = record { inside = it.inside; host = record { schema = it.schema; held = subst (AreHeld (untallied (totals_of (tables_in a.now)))) (sym it.rows) host.held } }; is = ap tables_of it.rows }
holds_untallied Third a b it host = record { within = record { inside = it.inside; host = record { schema = it.schema; held = subst (AreHeld (unweighed (totals_of (tables_in a.now)))) (sym it.rows) host.held } }; is = ap tables_of it.rows }
holds_untallied Fourth a b it host = record { within = record { inside = it.inside; host = record { schema = it.schema; held = subst (AreHeld (unweighed (totals_of (tables_in a.now)))) (sym it.rows) host.held } }; is = ap tables_of it.rows }

module _ (version : Earlier) (a b c d : Standing) (made : HasRows host_schema raw (earlier_raw version a.now.trees) b) (holds : (t : Tables) → HoldsUntallied version t b → Holds t c) where
  -- it is a host's, if it was one of this version
  pub is_tallied : IsEarlierHost version a.now → Holds (tables_of (earlier_raw version a.now.trees)) c
  is_tallied host = holds (tables_of (earlier_raw version a.now.trees)) (holds_untallied version a b made host)

  brought : (IsHost c.now → Holds (brought_over (tables_in c.now)) d) → IsEarlierHost version a.now → IsBroughtOver (tables_of (earlier_raw version a.now.trees)) d.now
  brought set host = let it = is_tallied host in let now = set it.within.host in record { host = now.within.host; rows = now.is ∙ ap brought_over it.is }

-- a database of one schema is a host's of no other version
changed : (version : Earlier) (a d : Standing) → a.now.schema ≡ earlier_schema version → d.now.schema ≡ host_schema → (IsEarlierHost version a.now → IsBroughtOver (tables_of (earlier_raw version a.now.trees)) d.now) → IsChanged a.now d.now
changed First a d was is over = record { schema = is; first = over; second = λ host. absurd (second_unlike_first a.now host.schema was); third = λ host. absurd (third_unlike_first a.now host.schema was); fourth = λ host. absurd (fourth_unlike_first a.now host.schema was) }
changed Second a d was is over = record { schema = is; first = λ host. absurd (second_unlike_first a.now was host.schema); second = over; third = λ host. absurd (third_unlike_second a.now host.schema was); fourth = λ host. absurd (fourth_unlike_second a.now host.schema was) }
changed Third a d was is over = record { schema = is; first = λ host. absurd (third_unlike_first a.now was host.schema); second = λ host. absurd (third_unlike_second a.now was host.schema); third = over; fourth = λ host. absurd (fourth_unlike_third a.now host.schema was) }
changed Fourth a d was is over = record { schema = is; first = λ host. absurd (fourth_unlike_first a.now was host.schema); second = λ host. absurd (fourth_unlike_second a.now was host.schema); third = λ host. absurd (fourth_unlike_third a.now was host.schema); fourth = over }

pub all_brought : (version : Earlier) (a b c d : Standing) → HasSchema (earlier_schema version) a → HasRows host_schema raw (earlier_raw version a.now.trees) b → ((t : Tables) → HoldsUntallied version t b → Holds t c) → HasSchema host_schema d
    → (IsHost c.now → Holds (brought_over (tables_in c.now)) d) → Brings a d
all_brought version a b c d was made holds is set = record {
  inside = is.inside;
  changed = changed version a d was.schema is.schema (brought version a b c d made holds set);
}

-- its packs have typed rows
pub packs_after : (version : Earlier) (old new : Database) → IsChanged old new → IsEarlierHost version old → AreRows pack_form (new.trees 32)
packs_after First old new it host = (it.first host).host.held.packs
packs_after Second old new it host = (it.second host).host.held.packs
packs_after Third old new it host = (it.third host).host.held.packs
packs_after Fourth old new it host = (it.fourth host).host.held.packs

-- what it shows stays
pub shows_same : (old new : Database) → IsOfEarlier old → IsChanged old new → tables_shown new ≡ tables_opened old
shows_same old new (inl was) it = let over = it.first was.first in host_shows new over.host ∙ over.rows ∙ sym (first_opens old was)
shows_same old new (inr (inl was)) it = let over = it.second was.second in host_shows new over.host ∙ over.rows ∙ sym (second_opens old was)
shows_same old new (inr (inr (inl was))) it = let over = it.third was.third in host_shows new over.host ∙ over.rows ∙ sym (third_opens old was)
shows_same old new (inr (inr (inr was))) it = let over = it.fourth was.fourth in host_shows new over.host ∙ over.rows ∙ sym (fourth_opens old was)

-- ---- what a crash leaves once the change is committed, or may be

pub may_leave : (a b c d : State) → (standing b).now ≡ (standing a).now → (IsIntact b → IsOpen a × IsOpen b) → LeavesNothingNew a b → (IsIntact c → IsOpen b → IsOpen c) → StateWithin b c
    → (IsStateClean c → Brings (standing b) (standing c)) → KeepsDisk c d
    → (IsIntact d → (standing c).inside ≡ true → (db : Trees) → Leaves d db → Leaves c db ⊎ (db ≡ (standing c).now.trees))
    → IsIntact d → (db : Trees) → Leaves d db → Leaves a db ⊎ (IsOpen a × LeavesChanged (standing a).now db)
may_leave a b c d same begun first opens within brings follows commits intact db left =
    let i2 = follows.intact intact in
    let i1 = within.follows.intact i2 in
    let up = opens i2 (begun i1).1 in
    let it = brings (record { intact = i2; is_open = up }) in
    elim (commits intact it.inside db left) [
      | inl was ↦ inl (first i1 db (within.survives (begun i1).1 i2 db was))
      | inr now ↦ inr ((begun i1).0, ((standing c).now, subst (λ (x : Database). IsChanged x (standing c).now) same it.changed, now))
    ]

-- what a crash leaves of an open connection is what was committed
pub left_kept : {S : Type 0} (g : Ghosts S) (settles : (s : S) (db : Trees) → IsTrue (g.view s).is_open → g.recovers s db → db ≡ (g.view s).committed) (h : Held S) → IsOpen (state g h)
    → (db : Trees) → Leaves (state g h) db → db ≡ (standing (state g h)).kept.trees
unfolding standing Leaves IsOpen
left_kept g settles h up db may = settles h.store db up may
