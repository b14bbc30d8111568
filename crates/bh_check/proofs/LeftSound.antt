-- What a check of the store that a connection leaves says of the connection's tables.
use Rattle.std.proofs.Common.{arith, ◌≡◌, ◌⊎◌, ◌≤◌, length, IsTrue, Result, Ok, Err, IfOk, sym, ap, ◌∙◌, subst}
use Rattle.sqlite.specs.Effect.{Database, IsDatabase}
use Rattle.sqlite.specs.Held.{Held, state}
use Rattle.sqlite.specs.State.{IsLive}
use Rattle.sqlite.specs.Tree.{Trees}
use Rattle.sqlite_schema.specs.declared.schema.Schema.{Schema}
use Rattle.sqlite_trees.specs.View.{IsClean, IsRolledBack, doubt}
use Rattle.sqlite_trees.specs.declared.store.Store.{Ghosts}
use Rattle.bh_shelf.specs.Contents.{Contents}
use Rattle.bh_rows.specs.Form.{AreRows}
use Rattle.bh_tables.specs.Hosts.{tables_opened}
use Rattle.bh_tables.specs.Packs.{packs_in, places_in}
use Rattle.bh_tables.specs.Rows.{pack_form}
use Rattle.bh_tables.specs.Schema.{Octets, first_schema, second_schema, third_schema, fourth_schema, host_schema}
use Rattle.bh_view.specs.Bodies.{IsSoundHost}
use Rattle.bh_open.specs.Packed.{tables_beside}
use Rattle.bh_check.specs.Awaits.{HasReached}
use Rattle.bh_check.proofs.ListedPacks.{opened_beside}
use Rattle.bh_base.specs.Layer.{IsStateClean, IsIntact, IsOpen}
use Rattle.bh_base.specs.Placed.{filled_trees}
use Rattle.bh_stored.specs.Stored.{seen}
use Rattle.bh_stored.specs.declared.stored.Edition.{Edition}
use Rattle.bh_stored.specs.declared.stored.Edition.TheVariants.{Fifth}
use Rattle.bh_stored.specs.Stores.{KeepsTrees}
use Rattle.bh_check.specs.Checked.{schema_of, edition_with, IsChecked}
use Rattle.bh_check.proofs.FilledSound.{filled_sound}
use Rattle.bh_check.proofs.Schemas.{told}
use Rattle.bh_check.proofs.Sound.{makes_sound}

-- what follows from two facts on a value that is there
pub ok_both : {T E : Type 0} (r : Result T E) (P Q R : T → Type 0) → ((x : T) → P x → Q x → R x) → IfOk r P → IfOk r Q → IfOk r R
ok_both (Ok x) P Q R f p q = f x p q
ok_both (Err e) P Q R f p q = tt

module _ {S : Type 0} (g : Ghosts S) (connection : Held S) (bare last : S) (edition : Edition) (schema : IsStateClean (state g connection) → (state g connection).now.schema ≡ schema_of edition) (live : IsLive (state g connection))
    (settled : IsTrue (state g connection).is_open → (state g connection).now ≡ (state g connection).committed) (undone : IsRolledBack (g.view connection.store) (g.view bare))
    (less : doubt (g.view connection.store).is_clean ≤ doubt (g.view bare).is_clean) (keeps : KeepsTrees (g.view bare) (g.view last)) (clean : IsClean (g.view last)) (opened : IsTrue (g.view last).is_open) where
  bare_clean : IsClean (g.view bare)
  bare_clean = keeps.clean clean

  bare_open : IsTrue (g.view bare).is_open
  bare_open = subst IsTrue (keeps.opened clean) opened

  was_open : IsTrue (g.view connection.store).is_open
  was_open = (undone.kept bare_clean).was_open bare_open

  was_clean : IsClean (g.view connection.store)
  was_clean = omega (arith, less, bare_clean)

  pub state_clean : IsStateClean (state g connection)
  unfolding IsIntact IsOpen
  state_clean = record { intact = was_clean; is_open = was_open }

  abbrev trees : Trees
  trees = (g.view connection.store).trees

  same_trees : (g.view bare).trees ≡ trees
  same_trees = (undone.undone bare_open).0 ∙ sym (ap (λ (db : Database). db.trees) (settled was_open))

  schema_is : (state g connection).now.schema ≡ schema_of edition
  schema_is = schema state_clean

  database : IsDatabase (record { schema = schema_of edition; trees = trees })
  database = subst (λ (s : Schema). IsDatabase (record { schema = s; trees = trees })) schema_is (live was_open).0

  pub judged : (digest : Octets → Octets) → (IsClean (g.view last) → IsChecked edition digest (seen edition (g.view bare).trees)) → IsStateClean (state g connection) × IsSoundHost digest (tables_opened (state g connection).now)
  judged digest checked =
      let sound : IsSoundHost digest (tables_opened (record { schema = schema_of edition; trees = trees })) = makes_sound edition digest trees database (subst (λ (t : Trees). IsChecked edition digest (seen edition t)) same_trees (checked clean)) in
      (state_clean, subst (λ (s : Schema). IsSoundHost digest (tables_opened (record { schema = s; trees = trees }))) (sym schema_is) sound)

  -- rows that are typed in the store that is left are so in the connection's
  pub typed_left : (IsClean (g.view last) → AreRows pack_form ((g.view bare).trees 32)) → AreRows pack_form ((state g connection).now.trees 32)
  typed_left typed = subst (λ (t : Trees). AreRows pack_form (t 32)) same_trees (typed clean)

  -- what follows of a database's trees in the store that is left, of one with the present schema
  pub so_left : edition ≡ Fifth → (Q : Trees → Type 0) → (IsClean (g.view last) → IsDatabase (record { schema = host_schema; trees = (g.view bare).trees }) → Q (g.view bare).trees) → Q (state g connection).now.trees
  so_left fifth Q its =
      let whole : IsDatabase (record { schema = host_schema; trees = trees }) = subst (λ (e : Edition). IsDatabase (record { schema = schema_of e; trees = trees })) fifth database in
      subst Q same_trees (its clean (subst (λ (t : Trees). IsDatabase (record { schema = host_schema; trees = t })) (sym same_trees) whole))

  -- with the bytes of packs
  pub judged_with : edition ≡ Fifth → (digest : Octets → Octets) (packs : Contents) → (IsClean (g.view last) → IsDatabase (record { schema = host_schema; trees = (g.view bare).trees }) → HasReached packs (packs_in (g.view bare).trees) (places_in (g.view bare).trees) → IsChecked Fifth digest (filled_trees packs (g.view bare).trees))
      → HasReached packs (packs_in (state g connection).now.trees) (places_in (state g connection).now.trees) → IsStateClean (state g connection) × IsSoundHost digest (tables_beside packs (state g connection).now)
  judged_with fifth digest packs checked sizes =
      let is : (state g connection).now.schema ≡ host_schema = schema_is ∙ ap schema_of fifth in
      let whole : IsDatabase (record { schema = host_schema; trees = trees }) = subst (λ (e : Edition). IsDatabase (record { schema = schema_of e; trees = trees })) fifth database in
      let all : IsDatabase (record { schema = host_schema; trees = trees }) → HasReached packs (packs_in trees) (places_in trees) → IsChecked Fifth digest (filled_trees packs trees) =
      subst (λ (t : Trees). IsDatabase (record { schema = host_schema; trees = t }) → HasReached packs (packs_in t) (places_in t) → IsChecked Fifth digest (filled_trees packs t)) same_trees (checked clean) in
      (state_clean, subst (IsSoundHost digest) (opened_beside packs (state g connection).now is) (subst (λ (s : Schema). IsSoundHost digest (tables_opened (record { schema = s; trees = filled_trees packs trees }))) (sym is) (filled_sound trees whole digest packs (all whole sizes))))

pub sound_left : {S : Type 0} (g : Ghosts S) (connection : Held S) (bare last : S) (edition : Edition) (digest : Octets → Octets) → (IsStateClean (state g connection) → ((state g connection).now.schema ≡ first_schema) ⊎ (((state g connection).now.schema ≡ second_schema) ⊎ (((state g connection).now.schema ≡ third_schema) ⊎ (((state g connection).now.schema ≡ fourth_schema) ⊎ ((state g connection).now.schema ≡ host_schema)))))
    → edition ≡ edition_with (length (state g connection).now.schema.tables) → IsLive (state g connection)
    → (IsTrue (state g connection).is_open → (state g connection).now ≡ (state g connection).committed) → IsRolledBack (g.view connection.store) (g.view bare)
    → doubt (g.view connection.store).is_clean ≤ doubt (g.view bare).is_clean → KeepsTrees (g.view bare) (g.view last) → (IsClean (g.view last) → IsChecked edition digest (seen edition (g.view bare).trees))
    → IsClean (g.view last) → IsTrue (g.view last).is_open → IsStateClean (state g connection) × IsSoundHost digest (tables_opened (state g connection).now)
sound_left g connection bare last edition digest schema tells live settled undone less keeps checked clean opened =
    judged g connection bare last edition (λ was. told (state g connection).now.schema edition tells (schema was)) live settled undone less keeps clean opened digest checked
