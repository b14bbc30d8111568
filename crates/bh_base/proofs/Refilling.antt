-- A host's database with the bytes of packs, once a block, a place or a pack came or went, or packs have more.
use Rattle.std.proofs.Common.{◌≡◌, ◌≢◌, inl, inr, ℕ, ◌≤◌, nat_le, pos, arith, Bool, true, false, cond, List, [], ◌∷◌, ◌++◌, map, Some, None, refl, sym, ap, subst, ◌∙◌}
use Rattle.std.specs.List.{AllByRecursion, list_any}
use Rattle.std.specs.Ordering.{int_eq}
use Rattle.std.specs.Cmp.Derive.{both_true}
use Rattle.std.proofs.lemmas.Bool.{and_parts, leb-true, le-leb}
use Rattle.sqlite.specs.Effect.{Database}
use Rattle.sqlite.specs.State.{State}
use Rattle.sqlite.specs.Table.{Table}
use Rattle.sqlite.specs.Tree.{Trees}
use Rattle.sqlite_keyed.specs.Lists.{update_where, delete_where}
use Rattle.sqlite_rules.specs.Lists.{Has}
use Rattle.sqlite_rules.proofs.ListLemmas.{some_has, some_from, has_left}
use Rattle.bh_rows.specs.Form.{AreRows, typed}
use Rattle.bh_rows.specs.Texts.{Leaves}
use Rattle.bh_shelf.specs.Contents.{Contents, Within}
use Rattle.bh_tables.specs.Schema.{Octets, host_schema}
use Rattle.bh_tables.specs.Bodies.{Name, block_name}
use Rattle.bh_tables.specs.Rows.{BlockRow, block_form, PlaceRow, place_form, PackRow, pack_form}
use Rattle.bh_tables.specs.Packs.{place_name, place_at, is_place, places_in, packs_in, is_pack, reaches, is_reached}
use Rattle.bh_tables.specs.Shown.{is_block}
use Rattle.bh_tables.specs.Typed.{Totals, Raw, raw, AreHeld, IsHostBy, Tables, tables_of, tables_in, rebodied}
use Rattle.bh_tables.proofs.Places.{put_packs}
use Rattle.bh_tables.proofs.ResolvedLemmas.{own_bodies}
use Rattle.bh_tables.proofs.Places as places
use Rattle.bh_tables.proofs.RawLemmas.{raw_changed}
use Rattle.bh_tables.proofs.TotalLemmas.{name_Decides}
use Rattle.bh_base.specs.Placed.{below, with_place, filled_block, filled_blocks, filled_trees, filled}
use Rattle.bh_base.proofs.Filling.{AreHad, had_others, shown_others, had_comes, shown_comes, had_goes, shown_goes, had_placed, shown_placed, had_displaced, shown_displaced, first_none}
use Rattle.bh_base.proofs.Placing.{below_within}
use Rattle.bh_base.proofs.Stored.{all_had, shown_blocks, filled_whole, stored_blocks}

-- these blocks, each with all its bytes, are shown as those
pub record Fills (packs : Contents) (rows : List PackRow) (places : List PlaceRow) (blocks shown : List BlockRow) : Type 0 where
  pub had : AreHad (below rows packs) places blocks
  pub is : filled_blocks (below rows packs) places blocks ≡ shown

pub has_mapped : {X Y : Type 0} (f : X → Y) (xs : List X) (x : X) → Has xs x → Has (map f xs) (f x)
has_mapped f [] x has = absurd has
has_mapped f (y ∷ xs) x (inl is) = inl (ap f is)
has_mapped f (y ∷ xs) x (inr has) = inr (has_mapped f xs x has)

same_named : (b : BlockRow) (q : Name) → is_block q b ≡ true → block_name b ≡ q
same_named b q its = (name_Decides (block_name b) q).0 its

-- ---- what is filled

module _ {packs : Contents} {rows : List PackRow} {places : List PlaceRow} {blocks shown : List BlockRow} (f : Fills packs rows places blocks shown) where
  -- a block that has no place comes
  pub block_comes : (b : BlockRow) → list_any (is_place (block_name b)) places ≡ false → Fills packs rows places (blocks ++ b ∷ []) (shown ++ b ∷ [])
  block_comes b free = record {
    had = had_comes (below rows packs) places blocks b free f.had;
    is = shown_comes (below rows packs) places blocks b free ∙ ap (λ l. l ++ b ∷ []) f.is;
  }

  -- a block goes
  pub block_goes : (q : Name) → Fills packs rows places (delete_where (is_block q) blocks) (delete_where (is_block q) shown)
  block_goes q = record {
    had = had_goes (below rows packs) places blocks q f.had;
    is = shown_goes (below rows packs) places blocks q ∙ ap (delete_where (is_block q)) f.is;
  }

  -- a block without a place is shown as it is
  empty_bare : (q : Name) → list_any (is_place q) places ≡ false → ((b : BlockRow) → Has shown b → is_block q b ≡ true → b.bytes ≡ []) → (b : BlockRow) → Has blocks b → is_block q b ≡ true → b.bytes ≡ []
  empty_bare q free empty b has its =
      let c = below rows packs in
      let none : place_at places (block_name b) ≡ None = first_none (is_place (block_name b)) places (subst (λ n. list_any (is_place n) places ≡ false) (sym (same_named b q its)) free) in
      let same : filled_block c places b ≡ b = ap (λ o. with_place c o b) none in
      empty b (subst (λ l. Has l b) f.is (subst (λ x. Has (filled_blocks c places blocks) x) same (has_mapped (filled_block c places) blocks b has))) its

  -- the place of a block that has no bytes comes
  pub place_comes : (p : PlaceRow) (bytes : Octets) → below rows packs p.pack p.offset p.size ≡ Some bytes → list_any (is_place (place_name p)) places ≡ false → ((b : BlockRow) → Has shown b → is_block (place_name p) b ≡ true → b.bytes ≡ [])
      → Fills packs rows (places ++ p ∷ []) blocks (update_where (is_block (place_name p)) (λ b. record b { bytes = bytes }) shown)
  place_comes p bytes there free empty =
      let none = empty_bare (place_name p) free empty in
      record {
        had = had_placed (below rows packs) places p bytes there free blocks none f.had;
        is = shown_placed (below rows packs) places p bytes there free blocks none f.had ∙ ap (update_where (is_block (place_name p)) (λ b. record b { bytes = bytes })) f.is;
      }

  -- the place of a block goes: it has no bytes then
  pub place_goes : (q : Name) (p : PlaceRow) → place_at places q ≡ Some p → Fills packs rows (delete_where (is_place q) places) blocks (update_where (is_block q) (λ b. record b { bytes = [] }) shown)
  place_goes q p placed = record {
    had = had_displaced (below rows packs) places q p placed blocks f.had;
    is = shown_displaced (below rows packs) places q p placed blocks f.had ∙ ap (update_where (is_block q) (λ b. record b { bytes = [] })) f.is;
  }

  -- packs have as much at each place
  pub same_places : (others : Contents) (more : List PackRow) → ((p : PlaceRow) → Has places p → (bytes : Octets) → below rows packs p.pack p.offset p.size ≡ Some bytes → below more others p.pack p.offset p.size ≡ Some bytes) → Fills others more places blocks shown
  same_places others more same = record {
    had = had_others (below rows packs) (below more others) places same blocks f.had;
    is = shown_others (below rows packs) (below more others) places same blocks f.had ∙ f.is;
  }

  -- packs have more
  pub appended : (others : Contents) → Within packs others → Fills others rows places blocks shown
  appended others within = same_places others rows (λ p has. below_within rows rows packs others (λ pack end on. on) within p.pack p.offset p.size)

  -- their rows say no less
  pub lengthened : (more : List PackRow) → ((pack end : ℕ) → is_reached rows pack end ≡ true → is_reached more pack end ≡ true) → Fills packs more places blocks shown
  lengthened more rises = same_places packs more (λ p has. below_within rows more packs packs rises (λ pack offset size bytes there. there) p.pack p.offset p.size)

-- ---- the database

-- the trees of blocks, of packs and of places are three
blocks_packs : ◌≢◌ {A = ℕ} 10 32
blocks_packs is = absurd (cc)

blocks_places : ◌≢◌ {A = ℕ} 10 34
blocks_places is = absurd (cc)

packs_blocks : ◌≢◌ {A = ℕ} 32 10
packs_blocks is = absurd (cc)

packs_places : ◌≢◌ {A = ℕ} 32 34
packs_places is = absurd (cc)

places_blocks : ◌≢◌ {A = ℕ} 34 10
places_blocks is = absurd (cc)

places_packs : ◌≢◌ {A = ℕ} 34 32
places_packs is = absurd (cc)

-- a database's rows, of which those of one tree are others
module _ (db next : Trees) where
  abbrev three : Raw
  three = record (raw db) { blocks = next 10; packs = next 32; places = next 34 }

  three_by : (r : Raw) → raw next ≡ r → record r { blocks = next 10; packs = next 32; places = next 34 } ≡ three → raw next ≡ three
  three_by r is same = (λ i. record (is i) { blocks = next 10; packs = next 32; places = next 34 }) ∙ same

  blocks_three : AllByRecursion (λ (t : Table). t.tree ≢ 10 → next t.tree ≡ db t.tree) host_schema.tables → raw next ≡ three
  blocks_three h = three_by _ (raw_changed 10 db next h) refl

  places_three : AllByRecursion (λ (t : Table). t.tree ≢ 34 → next t.tree ≡ db t.tree) host_schema.tables → raw next ≡ three
  places_three h = three_by _ (raw_changed 34 db next h) refl

  packs_three : AllByRecursion (λ (t : Table). t.tree ≢ 32 → next t.tree ≡ db t.tree) host_schema.tables → raw next ≡ three
  packs_three h = three_by _ (raw_changed 32 db next h) refl

-- what a host's database shows of blocks
pub was_filled : {sums : Totals} (packs : Contents) (db : Database) → IsHostBy sums (filled packs db) → Fills packs (packs_in db.trees) (places_in db.trees) (typed block_form (db.trees 10)) (tables_in (filled packs db)).blocks
was_filled packs db host = record { had = all_had packs db.trees host.held.blocks; is = sym (shown_blocks packs db.trees host.held.blocks) }

module _ {sums : Totals} (packs others : Contents) (old : Database) (host : IsHostBy sums (filled packs old)) where
  abbrev was : Tables
  was = tables_in (filled packs old)

  bare_packs : AreRows pack_form (old.trees 32)
  unfolding filled_trees
  bare_packs = host.held.packs

  bare_places : AreRows place_form (old.trees 34)
  unfolding filled_trees
  bare_places = host.held.places

  bare_blocks : AreRows block_form (old.trees 10)
  bare_blocks = stored_blocks packs old.trees host.held.blocks

  -- what it is with other rows of blocks, packs and places
  pub refilled : (next : Trees) → raw next ≡ three old.trees next → AreRows block_form (next 10) → AreRows pack_form (next 32) → AreRows place_form (next 34) → (shown : List BlockRow)
      → Fills others (packs_in next) (places_in next) (typed block_form (next 10)) shown → (now : Database) → now ≡ record { schema = host_schema; trees = next }
      → IsHostBy sums (filled others now) × (tables_in (filled others now) ≡ rebodied was was.refs shown)
  unfolding filled_trees
  refilled next same blocks lengths placed shown f now is =
      let r = raw (filled packs old).trees in
      let whole = filled_whole others next blocks f.had in
      let rows = filled_trees others next 10 in
      let its : raw (filled_trees others next) ≡ record r { blocks = rows; packs = next 32; places = next 34 } = ap (λ (x : Raw). record x { blocks = rows }) same in
      let held : AreHeld sums (record r { blocks = rows; packs = next 32; places = next 34 }) = put_packs sums (record r { blocks = rows }) (next 32) (next 34) ((places.blocks sums).put_held r rows host.held whole) lengths placed in
      let there : IsHostBy sums (record { schema = host_schema; trees = filled_trees others next }) = record { schema = refl; held = subst (AreHeld sums) (sym its) held } in
      let reads : tables_of (raw (filled_trees others next)) ≡ rebodied was was.refs shown =
      ap tables_of its ∙ (places.blocks sums).put_reads r rows ∙ ap (rebodied was was.refs) (shown_blocks others next whole ∙ f.is) in
      subst (λ (db : Database). IsHostBy sums (filled others db) × (tables_in (filled others db) ≡ rebodied was was.refs shown)) (sym is) (there, reads)

  module _ (before after : State) (stood : before.now ≡ old) where
    -- a write of blocks
    pub blocks_turned : (bs shown : List BlockRow) → Leaves block_form host_schema 10 before after bs → Fills others (packs_in old.trees) (places_in old.trees) bs shown → IsHostBy sums (filled others after.now) × (tables_in (filled others after.now) ≡ rebodied was was.refs shown)
    blocks_turned bs shown l f =
        let same : AllByRecursion (λ (t : Table). t.tree ≢ 10 → l.next t.tree ≡ old.trees t.tree) host_schema.tables = subst (λ (db : Database). AllByRecursion (λ (t : Table). t.tree ≢ 10 → l.next t.tree ≡ db.trees t.tree) host_schema.tables) stood l.others in
        let is = blocks_three old.trees l.next same in
        let lengths : l.next 32 ≡ old.trees 32 = same.1.1.1.1.1.1.1.1.1.1.1.1.1.0 packs_blocks in
        let placed : l.next 34 ≡ old.trees 34 = same.1.1.1.1.1.1.1.1.1.1.1.1.1.1.0 places_blocks in
        refilled l.next is l.held (subst (AreRows pack_form) (sym lengths) bare_packs) (subst (AreRows place_form) (sym placed) bare_places) shown
        (subst (λ k. Fills others (typed pack_form k) (places_in l.next) (typed block_form (l.next 10)) shown) (sym lengths)
        (subst (λ k. Fills others (packs_in old.trees) (typed place_form k) (typed block_form (l.next 10)) shown) (sym placed)
        (subst (λ k. Fills others (packs_in old.trees) (places_in old.trees) k shown) (sym l.rows) f))) after.now l.now

    -- a write of places
    pub places_turned : (ps : List PlaceRow) (shown : List BlockRow) → Leaves place_form host_schema 34 before after ps → Fills others (packs_in old.trees) ps (typed block_form (old.trees 10)) shown → IsHostBy sums (filled others after.now) × (tables_in (filled others after.now) ≡ rebodied was was.refs shown)
    places_turned ps shown l f =
        let same : AllByRecursion (λ (t : Table). t.tree ≢ 34 → l.next t.tree ≡ old.trees t.tree) host_schema.tables = subst (λ (db : Database). AllByRecursion (λ (t : Table). t.tree ≢ 34 → l.next t.tree ≡ db.trees t.tree) host_schema.tables) stood l.others in
        let is = places_three old.trees l.next same in
        let lengths : l.next 32 ≡ old.trees 32 = same.1.1.1.1.1.1.1.1.1.1.1.1.1.0 packs_places in
        let blocks : l.next 10 ≡ old.trees 10 = same.1.1.1.1.1.0 blocks_places in
        refilled l.next is (subst (AreRows block_form) (sym blocks) bare_blocks) (subst (AreRows pack_form) (sym lengths) bare_packs) l.held shown
        (subst (λ k. Fills others (typed pack_form k) (places_in l.next) (typed block_form (l.next 10)) shown) (sym lengths)
        (subst (λ k. Fills others (packs_in old.trees) (places_in l.next) (typed block_form k) shown) (sym blocks)
        (subst (λ k. Fills others (packs_in old.trees) k (typed block_form (old.trees 10)) shown) (sym l.rows) f))) after.now l.now

    -- a write of packs, after which all is shown as it was
    pub packs_turned : (ks : List PackRow) → Leaves pack_form host_schema 32 before after ks → Fills others ks (places_in old.trees) (typed block_form (old.trees 10)) was.blocks → IsHostBy sums (filled others after.now) × (tables_in (filled others after.now) ≡ was)
    packs_turned ks l f =
        let same : AllByRecursion (λ (t : Table). t.tree ≢ 32 → l.next t.tree ≡ old.trees t.tree) host_schema.tables = subst (λ (db : Database). AllByRecursion (λ (t : Table). t.tree ≢ 32 → l.next t.tree ≡ db.trees t.tree) host_schema.tables) stood l.others in
        let is = packs_three old.trees l.next same in
        let placed : l.next 34 ≡ old.trees 34 = same.1.1.1.1.1.1.1.1.1.1.1.1.1.1.0 places_packs in
        let blocks : l.next 10 ≡ old.trees 10 = same.1.1.1.1.1.0 blocks_packs in
        let it = refilled l.next is (subst (AreRows block_form) (sym blocks) bare_blocks) l.held (subst (AreRows place_form) (sym placed) bare_places) was.blocks
        (subst (λ k. Fills others (packs_in l.next) (typed place_form k) (typed block_form (l.next 10)) was.blocks) (sym placed)
        (subst (λ k. Fills others (packs_in l.next) (places_in old.trees) (typed block_form k) was.blocks) (sym blocks)
        (subst (λ k. Fills others k (places_in old.trees) (typed block_form (old.trees 10)) was.blocks) (sym l.rows) f))) after.now l.now in
        (it.0, it.1 ∙ own_bodies (filled packs old))

-- ---- which rows a write leaves

module _ (old new : State) where
  pub blocks_left : {bs : List BlockRow} → Leaves block_form host_schema 10 old new bs → (typed block_form (new.now.trees 10) ≡ bs) × (places_in new.now.trees ≡ places_in old.now.trees) × (packs_in new.now.trees ≡ packs_in old.now.trees)
  blocks_left l = (
    ap (λ (db : Database). typed block_form (db.trees 10)) l.now ∙ l.rows,
    ap (λ (db : Database). places_in db.trees) l.now ∙ ap (typed place_form) (l.others.1.1.1.1.1.1.1.1.1.1.1.1.1.1.0 places_blocks),
    ap (λ (db : Database). packs_in db.trees) l.now ∙ ap (typed pack_form) (l.others.1.1.1.1.1.1.1.1.1.1.1.1.1.0 packs_blocks),
  )

  pub places_left : {ps : List PlaceRow} → Leaves place_form host_schema 34 old new ps → (places_in new.now.trees ≡ ps) × (packs_in new.now.trees ≡ packs_in old.now.trees) × (typed block_form (new.now.trees 10) ≡ typed block_form (old.now.trees 10))
  places_left l = (
    ap (λ (db : Database). places_in db.trees) l.now ∙ l.rows,
    ap (λ (db : Database). packs_in db.trees) l.now ∙ ap (typed pack_form) (l.others.1.1.1.1.1.1.1.1.1.1.1.1.1.0 packs_places),
    ap (λ (db : Database). typed block_form (db.trees 10)) l.now ∙ ap (typed block_form) (l.others.1.1.1.1.1.0 blocks_places),
  )

  pub packs_left : {ks : List PackRow} → Leaves pack_form host_schema 32 old new ks → (packs_in new.now.trees ≡ ks) × (places_in new.now.trees ≡ places_in old.now.trees) × (typed block_form (new.now.trees 10) ≡ typed block_form (old.now.trees 10))
  packs_left l = (
    ap (λ (db : Database). packs_in db.trees) l.now ∙ l.rows,
    ap (λ (db : Database). places_in db.trees) l.now ∙ ap (typed place_form) (l.others.1.1.1.1.1.1.1.1.1.1.1.1.1.1.0 places_packs),
    ap (λ (db : Database). typed block_form (db.trees 10)) l.now ∙ ap (typed block_form) (l.others.1.1.1.1.1.0 blocks_packs),
  )

-- ---- the lengths of packs

not_less : (m n end : ℕ) → nat_le end m ≡ true → m ≤ n → nat_le end n ≡ true
not_less m n end on rises = le-leb end n (let low = leb-true end m on in omega (arith, low, rises))

-- another pack is added
pub reached_added : (rows : List PackRow) (k : PackRow) (pack end : ℕ) → is_reached rows pack end ≡ true → is_reached (rows ++ k ∷ []) pack end ≡ true
reached_added rows k pack end on = let it = some_has (reaches pack end) rows on in some_from (reaches pack end) (rows ++ k ∷ []) it.0 (has_left rows (k ∷ []) it.0 it.1) it.2

-- those of one pack are set to no less
module _ (pack : ℕ) (set : PackRow → PackRow) (its : (k : PackRow) → (set k).pack ≡ k.pack) where
  reached_one : (k : PackRow) → k.length ≤ (set k).length → (n end : ℕ) → reaches n end k ≡ true → reaches n end (set k) ≡ true
  reached_one k rises n end on =
      let both = and_parts _ _ on in
      both_true (ap (λ m. int_eq (pos m) (pos n)) (its k) ∙ both.0) (not_less k.length (set k).length end both.1 rises)

  pub reached_set : (rows : List PackRow) → ((k : PackRow) → Has rows k → is_pack pack k ≡ true → k.length ≤ (set k).length) → (n end : ℕ) → is_reached rows n end ≡ true → is_reached (update_where (is_pack pack) set rows) n end ≡ true
  reached_set rows rises n end on =
      let it = some_has (reaches n end) rows on in
      some_from (reaches n end) (update_where (is_pack pack) set rows) _ (has_mapped (λ k. cond (is_pack pack k) (set k) k) rows it.0 it.1) (go it.0 (is_pack pack it.0) refl (rises it.0 it.1) it.2)
    where
      go : (k : PackRow) (t : Bool) → is_pack pack k ≡ t → (is_pack pack k ≡ true → k.length ≤ (set k).length) → reaches n end k ≡ true → reaches n end (cond (is_pack pack k) (set k) k) ≡ true
      go k true mine rises on = ap (λ b. reaches n end (cond b (set k) k)) mine ∙ reached_one k (rises mine) n end on
      go k false other rises on = ap (λ b. reaches n end (cond b (set k) k)) other ∙ on
