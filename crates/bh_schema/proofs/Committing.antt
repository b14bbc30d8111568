-- BEGIN, COMMIT and ROLLBACK, in the words of a host's storage.
use Rattle.std.proofs.Common.{◌≡◌, ◌⊎◌, inl, inr, Result, Ok, Err, OnErr, IsTrue, refl, sym, ap, ◌∙◌, subst}
use Rattle.std.specs.Result.{IsErrAnd}
use Rattle.sqlite.specs.Tree.{Trees}
use Rattle.sqlite.specs.Effect.{Database}
use Rattle.bh_base.specs.Connections.{state}
use Rattle.bh_shelf.specs.Contents.{Within}
use Rattle.bh_base.specs.Placed.{IsWhole}
use Rattle.sqlite.specs.State.{State}
use Rattle.sqlite_trees.specs.Objects.{catalog_tree}
use Rattle.sqlite_trees.specs.declared.store.Store.{Ghosts}
use Rattle.bh_shelf.specs.declared.shelf.Shelf.{Ghosts as Shelves}
use Rattle.bh_base.specs.declared.connection.Connection.{Connection}
use Rattle.sqlite_catalog.specs.Listing.{Lists}
use Rattle.sqlite_catalog.proofs.ReadLemmas.{lists_once}
use Rattle.bh_types.specs.Limits.{HostLimits}
use Rattle.bh_model.specs.State.{Octets}
use Rattle.bh_tables.specs.Typed.{Tables}
use Rattle.bh_tables.specs.Hosts.{tables_shown}
use Rattle.bh_view.specs.Bodies.{IsSoundHost}
use Rattle.bh_storage.specs.Calls.{IsAtRest, IsWorking, Commits, TakesBack}
use Rattle.bh_cache.specs.Kept.{KeptBlocks, no_blocks}
use Rattle.bh_base.specs.Layer.{Standing, standing, IsOpen, Leaves, begun, committed, taken_back, Unwinds}
use Rattle.bh_schema.specs.Storage.{shown, seen_in, beside, left_in}
use Rattle.bh_schema.proofs.Storing.{left_kept, plain, plain_after}

-- what a `?` hands on after an error
pub fails_on : {X E : Type 0} (r : Result X E) (P : Type 0) → P → OnErr r P
fails_on (Ok x) P h = tt
fails_on (Err e) P h = h

pub on_err : {X E : Type 0} (r : Result X E) (Q : E → Type 0) (P : Type 0) → IsErrAnd r Q → OnErr r P → P
on_err (Ok x) Q P h p = absurd h
on_err (Err e) Q P h p = p

-- ---- states

module _ (kept : KeptBlocks) (l : HostLimits) (old new : State) where
  pub begun_works : {digest : Octets → Octets} → IsAtRest (IsSoundHost digest) (beside kept (seen_in l old)) → standing new ≡ begun (standing old) → IsWorking (IsSoundHost digest) (beside kept (seen_in l new))
  unfolding seen_in beside
  begun_works {digest} rest is = subst (λ x. IsWorking (IsSoundHost digest) (beside kept (shown l x))) (sym is) (record { inside = refl; sound = rest.sound; limits = rest.limits })

  pub begun_shows : standing new ≡ begun (standing old) → (beside kept (seen_in l new)).now ≡ (beside kept (seen_in l old)).now
  unfolding seen_in beside
  begun_shows is = ap (λ (x : Standing). (beside kept (shown l x)).now) is

  pub unwound_kept : Unwinds (standing old) (standing new) → (beside kept (seen_in l new)).kept ≡ (beside kept (seen_in l old)).kept
  unfolding seen_in beside
  unwound_kept (inl same) = ap (λ (x : Standing). tables_shown x.kept) same
  unwound_kept (inr back) = ap (λ (x : Standing). tables_shown x.kept) back

  commit_shown : standing new ≡ committed (standing old) → Commits (seen_in l old) (seen_in l new)
  unfolding seen_in
  commit_shown is = record { now = ap (λ (x : Standing). tables_shown x.now) is; kept = ap (λ (x : Standing). tables_shown x.kept) is; outside = ap (λ (x : Standing). x.inside) is }

  pub commit_shows : {digest : Octets → Octets} → IsWorking (IsSoundHost digest) (beside kept (seen_in l old)) → standing new ≡ committed (standing old) → Commits (beside kept (seen_in l old)) (beside kept (seen_in l new))
  commit_shows working is =
      let shown = commit_shown is in
      rw (plain _ _ working, plain_after _ _ working (seen_in l new) (ap (λ (t : Tables). t.blocks) shown.now)) shown

  back_shown : standing new ≡ taken_back (standing old) → TakesBack (seen_in l old) (seen_in l new)
  unfolding seen_in
  back_shown is = record { now = ap (λ (x : Standing). tables_shown x.now) is; kept = ap (λ (x : Standing). tables_shown x.kept) is; outside = ap (λ (x : Standing). x.inside) is }

  -- none is kept beside what is taken back
  pub back_shows : standing new ≡ taken_back (standing old) → TakesBack (beside kept (seen_in l old)) (beside (no_blocks kept.tuning) (seen_in l new))
  unfolding beside
  back_shows is = let shown = back_shown is in record { now = shown.now; kept = shown.kept; outside = shown.outside }

-- ---- crashes

-- a database's trees list its schema, so that they are no other's
pub same_database : (a b : Database) → Lists (a.trees catalog_tree) a.schema → Lists (b.trees catalog_tree) b.schema → a.trees ≡ b.trees → a ≡ b
same_database a b one two same =
    let lists : Lists (a.trees catalog_tree) b.schema = subst (λ (t : Trees). Lists (t catalog_tree) b.schema) (sym same) two in
    let schema : a.schema ≡ b.schema = lists_once (a.trees catalog_tree) a.schema b.schema one lists in
    λ i. record { schema = schema i; trees = same i }

-- of these trees a crash leaves the tables of the database that stood
left_shows : (l : HostLimits) (s : State) (x : Tables) (db : Database) → Lists ((standing s).now.trees catalog_tree) (standing s).now.schema → Lists (db.trees catalog_tree) db.schema → x ≡ tables_shown db → db.trees ≡ (standing s).now.trees → x ≡ (seen_in l s).now
unfolding seen_in
left_shows l s x db stood is shows same = shows ∙ ap tables_shown (same_database db (standing s).now is stood same)

pub commit_stands : {S P : Type 0} (g : Ghosts S) (k : Shelves P) (settles : (s : S) (db : Trees) → IsTrue (g.view s).is_open → g.recovers s db → db ≡ (g.view s).committed) (stands : (p : P) → Within (k.kept p) (k.stood p)) (l : HostLimits)
    (old new : Connection S P) → IsOpen (state g k new) → Lists ((standing (state g k old)).now.trees catalog_tree) (standing (state g k old)).now.schema → IsWhole (standing (state g k old)).now → standing (state g k new) ≡ committed (standing (state g k old)) → (x : Tables) → left_in (state g k new) x → x ≡ (seen_in l (state g k old)).now
unfolding left_in
commit_stands g k settles stands l old new up stood whole is x it =
    left_shows l (state g k old) x it.0 stood it.2 it.3 (left_kept g k settles stands new up (subst (λ (y : Standing). IsWhole y.kept) (sym is) whole) it.0.trees it.1 ∙ ap (λ (y : Standing). y.kept.trees) is)

pub commit_crashes : (l : HostLimits) (old new : State) → Lists ((standing old).now.trees catalog_tree) (standing old).now.schema → ((db : Trees) → Leaves new db → Leaves old db ⊎ (db ≡ (standing old).now.trees))
    → (x : Tables) → left_in new x → left_in old x ⊎ (x ≡ (seen_in l old).now)
unfolding left_in
commit_crashes l old new stood leaves x it = elim (leaves it.0.trees it.1) [
  | inl was ↦ inl (it.0, was, it.2, it.3)
  | inr same ↦ inr (left_shows l old x it.0 stood it.2 it.3 same)
]
