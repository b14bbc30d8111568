-- A database without packs. What it shows is what it shows alone, if nothing is placed, and also if it is a host's: a block that has a place
-- would have no bytes, so its row would be no block's.
use Rattle.std.proofs.Common.{◌≡◌, inl, inr, ℕ, ◌+◌, Bool, true, false, cond, List, [], ◌∷◌, map, map-id, Option, Some, None, refl, sym, ap, ap₂, ◌∙◌, subst}
use Rattle.std.specs.List.{AllByRecursion}
use Rattle.std.proofs.lemmas.Bool.{cases_eq, eq-eqb, ne_eqb}
use Rattle.sqlite.specs.Effect.{Database}
use Rattle.sqlite.specs.Order.{Row}
use Rattle.sqlite.specs.State.{State}
use Rattle.sqlite.specs.Tree.{Trees}
use Rattle.sqlite_trees.specs.Objects.{catalog_tree}
use Rattle.sqlite_trees.specs.Tree.{with_tree}
use Rattle.sqlite_catalog.specs.Listing.{Lists}
use Rattle.bh_types.specs.Limits.{HostLimits}
use Rattle.bh_rows.specs.Form.{typed}
use Rattle.bh_tables.specs.Bodies.{block_name}
use Rattle.bh_tables.specs.Hosts.{tables_shown}
use Rattle.bh_tables.specs.Packs.{place_at, places_in, packs_in, is_reached}
use Rattle.bh_tables.specs.Rows.{PlaceRow, place_form, PackRow, block_of}
use Rattle.bh_tables.specs.Schema.{Octets}
use Rattle.bh_tables.specs.Typed.{Totals, Tables, IsHost, IsHostBy}
use Rattle.bh_view.specs.Bodies.{IsSoundHost}
use Rattle.bh_storage.specs.Calls.{IsAtRest}
use Rattle.bh_shelf.specs.Contents.{Contents, nothing}
use Rattle.bh_base.specs.Layer.{Standing, standing, taken_back, Leaves}
use Rattle.bh_base.specs.Placed.{sized, below, put_bytes, put_in, filled_row, filled_trees, filled}
use Rattle.bh_base.specs.Shown.{named, shown}
use Rattle.bh_base.proofs.Stored.{IsBlock}
use Rattle.bh_schema.specs.Storage.{seen_in, left_in}
use Rattle.bh_schema.specs.Storage as storage
use Rattle.bh_schema.proofs.Storing.{sound_host}
use Rattle.bh_bare.specs.Bare.{no_packs, IsBare}

-- ---- the database is as it is

-- a tree put back as it was
put_back : (trees : Trees) (tree : ℕ) → with_tree trees tree (trees tree) ≡ trees
put_back trees tree = λ i. λ t. at t i
  where
    at : (t : ℕ) → with_tree trees tree (trees tree) t ≡ trees t
    at t = elim (cases_eq t tree) [
      | inl is ↦ ap (λ b. cond b (trees tree) (trees t)) (eq-eqb t tree is) ∙ ap trees (sym is)
      | inr other ↦ ap (λ b. cond b (trees tree) (trees t)) (ne_eqb t tree other)
    ]

-- with the bytes of any packs, if nothing is placed
pub unplaced_same : (packs : Contents) (db : Database) → db.trees 34 ≡ [] → filled packs db ≡ db
unfolding filled_trees
unplaced_same packs db none =
    let put : List Row → List Row = λ rows. map (filled_row (below (packs_in db.trees) packs) (typed place_form rows)) (db.trees 10) in
    ap (λ (t : Trees). record { schema = db.schema; trees = t }) (ap (with_tree db.trees 10) (ap put none ∙ map-id (db.trees 10)) ∙ put_back db.trees 10)

no_block : IsBlock [] → ⊥
no_block is = absurd (cc)

module _ (packs : Contents) (none : (pack offset size : ℕ) → packs pack offset size ≡ None) (places : List PlaceRow) where
  same_row : (place : Option PlaceRow) (r : Row) → IsBlock (put_in packs place r) → put_in packs place r ≡ r
  same_row None r is = refl
  same_row (Some p) r is = absurd (no_block (subst (λ o. IsBlock (put_bytes o r)) (none p.pack p.offset p.size) is))

  same_rows : (rows : List Row) → AllByRecursion IsBlock (map (filled_row packs places) rows) → map (filled_row packs places) rows ≡ rows
  same_rows [] all = refl
  same_rows (r ∷ rows) all = ap₂ ◌∷◌ (same_row (place_at places (block_name (block_of r))) r all.0) (same_rows rows all.1)

below_nothing : (rows : List PackRow) (pack offset size : ℕ) → below rows nothing pack offset size ≡ None
unfolding below
below_nothing rows pack offset size = go (is_reached rows pack (offset + size))
  where
    go : (t : Bool) → cond t (sized size None) None ≡ None
    go true = refl
    go false = refl

-- with the bytes of no packs, if it is a host's then
pub host_same : {sums : Totals} (db : Database) → IsHostBy sums (filled nothing db) → filled nothing db ≡ db
unfolding filled_trees
host_same db host =
    let rows : map (filled_row (below (packs_in db.trees) nothing) (places_in db.trees)) (db.trees 10) ≡ db.trees 10 = same_rows (below (packs_in db.trees) nothing) (below_nothing (packs_in db.trees)) (places_in db.trees) (db.trees 10) host.held.blocks.each in
    ap (λ (t : Trees). record { schema = db.schema; trees = t }) (ap (with_tree db.trees 10) rows ∙ put_back db.trees 10)

-- ---- so is what stands

module _ (x : Standing) where
  -- if nothing is placed
  pub unplaced_bare : x.now.trees 34 ≡ [] → x.kept.trees 34 ≡ [] → IsBare x
  unplaced_bare now kept = record { now = unplaced_same nothing x.now now; kept = unplaced_same nothing x.kept kept }

  -- once a transaction was rolled back, too
  pub back_bare : IsBare x → IsBare (taken_back x)
  back_bare bare = record { now = bare.kept; kept = bare.kept }

now_filled : (inside : Bool) (db : Database) → filled (named no_packs inside) db ≡ filled nothing db
now_filled true db = refl
now_filled false db = refl

module _ (s : State) where
  -- if both databases are a host's without packs
  pub host_bare : IsHost (standing (shown no_packs s)).now → IsHost (standing (shown no_packs s)).kept → IsBare (standing s)
  unfolding standing
  host_bare now kept = record { now = host_same s.now (subst IsHost (now_filled s.in_transaction s.now) now); kept = host_same s.committed kept }

  -- the committed database alone
  pub kept_bare : IsHost (standing (shown no_packs s)).kept → (standing (shown no_packs s)).kept ≡ (standing s).kept
  unfolding standing
  kept_bare host = host_same s.committed host

  -- as they are once it is at rest
  pub rest_bare : {digest : Octets → Octets} (l : HostLimits) → IsAtRest (IsSoundHost digest) (seen_in l (shown no_packs s)) → IsBare (standing s)
  unfolding seen_in
  rest_bare {digest} l rest = host_bare (sound_host (standing (shown no_packs s)).now rest.sound.sound)
      (sound_host (standing (shown no_packs s)).kept (subst (IsSoundHost digest) (sym rest.committed) rest.sound).sound)

  pub stands_bare : IsBare (standing s) → standing (shown no_packs s) ≡ standing s
  unfolding standing
  stands_bare bare =
      let now = now_filled s.in_transaction s.now ∙ bare.now in
      let kept = bare.kept in
      λ i. record { now = now i; kept = kept i; inside = s.in_transaction; limit = s.step_limit }

  pub seen_bare : IsBare (standing s) → (l : HostLimits) → seen_in l (shown no_packs s) ≡ seen_in l s
  unfolding seen_in
  seen_bare bare l = ap (storage.shown l) (stands_bare bare)

  -- ---- and what a crash leaves

  pub left_bare : (db : Database) → Leaves s db.trees → Lists (db.trees catalog_tree) db.schema → left_in (shown no_packs s) (tables_shown (filled nothing db))
  unfolding left_in Leaves filled_trees
  left_bare db may lists = (filled nothing db, (db.trees, nothing, may, (λ pack offset size bytes has. has), refl), lists, refl)

  -- what is said of all that a crash may leave without packs, if it says that there is a host
  pub left_alone : (P : Tables → Type 0) → ((db : Database) → P (tables_shown db) → IsHost db) → ((x : Tables) → left_in (shown no_packs s) x → P x) → (x : Tables) → left_in s x → P x
  unfolding left_in
  left_alone P hosts all x (db, may, lists, is) =
      let it : P (tables_shown (filled nothing db)) = all (tables_shown (filled nothing db)) (left_bare db may lists) in
      subst P (ap tables_shown (host_same db (hosts (filled nothing db) it)) ∙ sym is) it
