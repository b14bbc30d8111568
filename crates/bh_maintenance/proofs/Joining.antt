-- A host whose database was opened, joined with the packs that its rows list.
use Rattle.std.proofs.Common.{◌≡◌, map, IsTrue, refl, sym, ap, ap₂, ◌∙◌, subst}
use Rattle.sqlite_trees.specs.declared.store.Store.{Ghosts}
use Rattle.sqlite.specs.Effect.{Database}
use Rattle.sqlite.specs.Held.{Held, state}
use Rattle.sqlite.specs.State.{State}
use Rattle.bh_shelf.specs.Contents.{Contents}
use Rattle.bh_shelf.specs.Listed.{HasListed}
use Rattle.bh_shelf.specs.declared.shelf.Shelf.{Ghosts as Shelves}
use Rattle.bh_types.specs.Limits.{HostLimits}
use Rattle.bh_tables.specs.Hosts.{tables_shown}
use Rattle.bh_tables.specs.Packs.{packs_in}
use Rattle.bh_tables.specs.Schema.{Octets}
use Rattle.bh_view.specs.Bodies.{IsSoundHost}
use Rattle.bh_view.specs.View.{latest_of}
use Rattle.bh_storage.specs.Calls.{Seen, IsAtRest}
use Rattle.bh_base.specs.Connections.{backing}
use Rattle.bh_base.specs.Layer.{standing, IsStateClean}
use Rattle.bh_base.specs.Placed.{filled}
use Rattle.bh_base.specs.Shown.{Backing, shown}
use Rattle.bh_base.proofs.Lifting.{shown_clean}
use Rattle.bh_schema.specs.Storage.{seen_in}
use Rattle.bh_open.specs.Opening.{digest_in}
use Rattle.bh_open.specs.Packed.{seen_beside, listed_of}
use Rattle.bh_open.specs.declared.open.Opened.{Opened}
use Rattle.bh_open.proofs.Beside.{beside_is, beside_backing, filled_listed}
use Rattle.bh_blocks.specs.Digests.{digest_by}
use Rattle.bh_maintenance.specs.Found.{IsReadyBy, IsReadyByRow, IsHostIn, IsJoinedBy, IsJoinedByRow, IsJoinedIn}
use Rattle.bh_maintenance.specs.Joined.{joined}

-- packs at rest that have what the rows list show what their files show, if all is committed
module _ (packs : Contents) (p : Backing) (limits : HostLimits) (s : State) (committed : (standing s).kept ≡ (standing s).now)
    (has : HasListed (map listed_of (packs_in (standing s).now.trees)) packs p.kept) (seen : p.seen ≡ p.kept) where
  same_now : filled p.kept (standing s).now ≡ filled packs (standing s).now
  same_now = filled_listed (standing s).now packs p.kept has

  same_kept : filled p.kept (standing s).kept ≡ filled packs (standing s).kept
  same_kept = ap (filled p.kept) committed ∙ same_now ∙ ap (filled packs) (sym committed)

  abbrev seen_as : Database → Database → Seen
  seen_as now kept = record { now = tables_shown now; kept = tables_shown kept; inside = (standing s).inside; limits = limits }

  pub seen_same : seen_in limits (shown p s) ≡ seen_beside packs limits s
  seen_same = beside_backing p p.kept limits s seen refl ∙ beside_is p.kept limits s ∙ ap₂ seen_as same_now same_kept ∙ sym (beside_is packs limits s)

  pub now_same : tables_shown (standing (shown p s)).now ≡ tables_shown (filled packs (standing s).now)
  unfolding seen_in
  now_same = ap (λ (x : Seen). x.now) (seen_same ∙ beside_is packs limits s)

module _ {S P : Type 0} (g : Ghosts S) (p : Shelves P) (packs : Contents) (opened : Opened S) (shelf : P)
    (has : IsTrue (p.is_clean shelf) → HasListed opened.listed.items packs (p.kept shelf)) (seen : IsTrue (p.is_clean shelf) → p.seen shelf ≡ p.kept shelf) where
  abbrev s : State
  s = state g opened.connection

  abbrev b : Backing
  b = backing p shelf

  module _ (digest : Octets → Octets) (ready : IsReadyBy g packs digest opened) (clean : IsStateClean (shown b s)) where
    both : IsStateClean s × IsTrue (p.is_clean shelf)
    both = shown_clean b s clean

    listed : HasListed (map listed_of (packs_in (standing s).now.trees)) packs (p.kept shelf)
    listed = subst (λ rows. HasListed rows packs (p.kept shelf)) (ready.listed both.0) (has both.1)

    pub joined_seen : seen_in opened.limits (shown b s) ≡ seen_beside packs opened.limits s
    joined_seen = seen_same packs b opened.limits s (ready.committed both.0) listed (seen both.1)

    pub joined_now : tables_shown (standing (shown b s)).now ≡ tables_shown (filled packs (standing s).now)
    joined_now = now_same packs b opened.limits s (ready.committed both.0) listed (seen both.1)

  pub joined_ready : (digest : Octets → Octets) → IsReadyBy g packs digest opened → IsJoinedBy g p digest (joined opened shelf)
  joined_ready digest ready = record {
    rest = λ clean. subst (IsAtRest (IsSoundHost digest)) (sym (joined_seen digest ready clean)) (ready.rest (both digest ready clean).0);
    latest = λ clean. ready.latest (both digest ready clean).0 ∙ sym (ap (λ (x : Seen). latest_of x.now) (joined_seen digest ready clean));
  }

  pub joined_by_row : IsReadyByRow g packs opened → IsJoinedByRow g p (joined opened shelf)
  joined_by_row ready = record {
    ready = joined_ready (digest_by opened.digest) ready.ready;
    row = λ clean. ready.row (both (digest_by opened.digest) ready.ready clean).0 ∙ sym (ap digest_in (joined_now (digest_by opened.digest) ready.ready clean));
  }

  pub joined_in : (old : Held S) → IsHostIn g packs old opened → IsJoinedIn g p packs old (joined opened shelf)
  joined_in old it = record {
    opened = it.opened;
    shows = λ clean. joined_now (digest_by opened.digest) it.ready.ready clean ∙ it.shows (both (digest_by opened.digest) it.ready.ready clean).0;
    ready = joined_by_row it.ready;
  }
