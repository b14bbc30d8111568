-- A host that was put together from its database and its packs, opened by the rows that list them.
use Rattle.std.proofs.Common.{◌≡◌, ◌∙◌, ℕ, List, map, IsTrue, refl, sym, ap, subst}
use Rattle.sqlite.specs.State.{State}
use Rattle.bh_types.specs.Limits.{HostLimits, HostTuning}
use Rattle.bh_rows.specs.Form.{AreRows}
use Rattle.bh_tables.specs.Hosts.{tables_shown}
use Rattle.bh_tables.specs.Packs.{packs_in}
use Rattle.bh_tables.specs.Rows.{pack_form}
use Rattle.bh_tables.specs.Schema.{Octets}
use Rattle.bh_tables.specs.Typed.{Tables}
use Rattle.bh_view.specs.Bodies.{IsSoundHost}
use Rattle.bh_view.specs.View.{latest_of}
use Rattle.bh_storage.specs.Calls.{Seen, IsAtRest}
use Rattle.bh_cache.specs.Kept.{no_blocks}
use Rattle.bh_shelf.specs.Contents.{Contents}
use Rattle.bh_shelf.specs.Listed.{HasListed}
use Rattle.bh_shelf.specs.declared.closed.Listed.{Listed}
use Rattle.bh_shelf.specs.declared.shelf.Shelf.{Ghosts as Shelves}
use Rattle.bh_base.specs.Connections.{backing}
use Rattle.bh_base.specs.Layer.{standing, IsStateClean}
use Rattle.bh_base.specs.Placed.{filled}
use Rattle.bh_base.specs.Shown.{shown}
use Rattle.bh_base.proofs.Lifting.{shown_clean}
use Rattle.bh_schema.specs.Storage.{seen_in, beside}
use Rattle.bh_schema.proofs.Storing.{beside_agreed, sound_host}
use Rattle.bh_open.specs.Packed.{seen_beside, listed_of}
use Rattle.bh_open.specs.Versions.{IsTypedIfEarlier}
use Rattle.bh_open.proofs.Beside.{beside_is, beside_backing, filled_listed, packs_typed}

module _ {P : Type 0} (p : Shelves P) (has : Contents) (digest : Octets → Octets) (limits : HostLimits) (tuning : HostTuning) (rows : List Listed) (old new : State) (packs : P)
    (typed : IsStateClean new → IsTypedIfEarlier (standing old).now) (sound : IsStateClean new → IsSoundHost digest (seen_beside has limits new).now)
    (listed : IsStateClean new → AreRows pack_form ((standing new).now.trees 32) → rows ≡ map listed_of (packs_in (standing new).now.trees))
    (kept : IsTrue (p.is_clean packs) → HasListed rows has (p.kept packs)) (seen : IsTrue (p.is_clean packs) → p.seen packs ≡ p.kept packs) where
  -- what the host shows, its cache empty
  abbrev here : Seen
  here = beside (no_blocks tuning) (seen_in limits (shown (backing p packs) new))

  -- a sound host's rows of packs are typed rows
  rows_typed : IsStateClean new → AreRows pack_form ((standing new).now.trees 32)
  rows_typed clean =
      packs_typed has (standing new).now (sound_host (filled has (standing new).now) (subst (IsSoundHost digest) (ap (λ (x : Seen). x.now) (beside_is has limits new)) (sound clean)).sound)

  module _ (clean : IsStateClean (shown (backing p packs) new)) where
    alone : IsStateClean new
    alone = (shown_clean (backing p packs) new clean).0

    packs_clean : IsTrue (p.is_clean packs)
    packs_clean = (shown_clean (backing p packs) new clean).1

    -- that is what its database shows beside what is kept
    seen_kept : here ≡ seen_beside (p.kept packs) limits new
    seen_kept =
        beside_agreed (no_blocks tuning) (seen_in limits (shown (backing p packs) new)) refl ∙ beside_backing (backing p packs) (p.kept packs) limits new (seen packs_clean) refl

    -- the same tables as beside what the files of the packs have
    now_kept : (seen_beside (p.kept packs) limits new).now ≡ (seen_beside has limits new).now
    now_kept =
        let rows_has = subst (λ (r : List Listed). HasListed r has (p.kept packs)) (listed alone (rows_typed alone)) (kept packs_clean) in
        ap (λ (x : Seen). x.now) (beside_is (p.kept packs) limits new) ∙ ap tables_shown (filled_listed (standing new).now has (p.kept packs) rows_has) ∙ sym (ap (λ (x : Seen). x.now) (beside_is has limits new))

    sound_kept : IsSoundHost digest (seen_beside (p.kept packs) limits new).now
    sound_kept = subst (IsSoundHost digest) (sym now_kept) (sound alone)

    pub shows_here : (tables : Tables) → (IsStateClean new → (seen_beside has limits new).now ≡ tables) → here.now ≡ tables
    shows_here tables is = ap (λ (x : Seen). x.now) seen_kept ∙ now_kept ∙ is alone

    -- it is at rest, with the last stamp that was read
    pub rests_here : ((c : Contents) (d : Octets → Octets) → IsStateClean new → IsTypedIfEarlier (standing old).now → IsSoundHost d (seen_beside c limits new).now → IsAtRest (IsSoundHost d) (seen_beside c limits new))
        → IsAtRest (IsSoundHost digest) here
    rests_here rest = subst (IsAtRest (IsSoundHost digest)) (sym seen_kept) (rest (p.kept packs) digest alone (typed alone) sound_kept)

    pub reads_here : (latest : ℕ) → ((c : Contents) (d : Octets → Octets) → IsStateClean new → IsTypedIfEarlier (standing old).now → IsSoundHost d (seen_beside c limits new).now → latest ≡ latest_of (seen_beside c limits new).now)
        → latest ≡ latest_of here.now
    reads_here latest read = read (p.kept packs) digest alone (typed alone) sound_kept ∙ sym (ap (λ (x : Seen). latest_of x.now) seen_kept)
