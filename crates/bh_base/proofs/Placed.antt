-- The one block of a name, as it is stored and as it is shown: with the bytes in its row, or with those of its place.
use Rattle.std.proofs.Common.{◌≡◌, ◌≢◌, inl, inr, Bool, true, false, not, cond, List, [], ◌∷◌, map, map-id, filter, length, Option, Some, None, refl, sym, ap, subst, ◌∙◌}
use Rattle.std.specs.declared.cmp.Ordering.{Ordering}
use Rattle.sqlite.specs.declared.types.Value.TheVariants.{Blob}
use Rattle.sqlite.specs.Order.{Row, column}
use Rattle.sqlite_typed.specs.Columns.{bytes_of}
use Rattle.sqlite.specs.Effect.{Database}
use Rattle.sqlite_keyed.specs.Lists.{sort_by}
use Rattle.sqlite_keyed.proofs.ListLemmas.{map-map}
use Rattle.sqlite_keyed.proofs.SortLemmas.{sort_by-map}
use Rattle.sqlite_rules.specs.Lists.{Has}
use Rattle.sqlite_rules.proofs.ListLemmas.{has_filtered, has_kept}
use Rattle.bh_shelf.specs.Contents.{Contents}
use Rattle.bh_tables.specs.Schema.{Octets}
use Rattle.bh_tables.specs.Bodies.{Name, same_name, block_name}
use Rattle.bh_tables.specs.Rows.{BlockRow, PlaceRow, PackRow}
use Rattle.bh_tables.specs.Packs.{place_at}
use Rattle.bh_tables.specs.Shown.{is_block, shown_bytes}
use Rattle.bh_tables.specs.Typed.{Totals, IsHostBy, tables_in}
use Rattle.bh_tables.proofs.TotalLemmas.{name_Decides}
use Rattle.bh_rows.specs.Form.{typed}
use Rattle.bh_tables.specs.Bodies.{columns_of, part_columns_of}
use Rattle.bh_tables.specs.Typed.{version_form, part_form}
use Rattle.bh_tables.proofs.ResolvedLemmas.{stored_versions, stored_parts}
use Rattle.bh_base.specs.Placed.{filled, filled_trees}
use Rattle.bh_base.proofs.Stored.{same_names}
use Rattle.bh_base.specs.Placed.{below, with_bytes, with_place, filled_block}
use Rattle.bh_base.proofs.Filling.{HasBytes, IsHad, name_kept}
use Rattle.bh_base.proofs.Placing.{below_has}
use Rattle.bh_base.proofs.Refilling.{Fills}

-- what is told of names alone
pub named_rows : {Y : Type 0} (m : Name → Bool) (f : Name → Y) (bs : List BlockRow) → map (λ b. f (block_name b)) (filter (λ b. m (block_name b)) bs) ≡ map f (filter m (map block_name bs))
named_rows m f [] = refl
named_rows {Y} m f (b ∷ bs) = go (m (block_name b)) (named_rows m f bs)
  where
    go : (t : Bool) → map (λ b. f (block_name b)) (filter (λ b. m (block_name b)) bs) ≡ map f (filter m (map block_name bs))
        → map (λ b. f (block_name b)) (cond t (b ∷ filter (λ b. m (block_name b)) bs) (filter (λ b. m (block_name b)) bs)) ≡ map f (cond t (block_name b ∷ filter m (map block_name bs)) (filter m (map block_name bs)))
    go true rest = ap (λ l. f (block_name b) ∷ l) rest
    go false rest = rest

module _ {sums : Totals} (packs : Contents) (db : Database) (host : IsHostBy sums (filled packs db)) {Y : Type 0} (m : Name → Bool) (f : Name → Y) where
  -- names are the same as they are stored and as they are shown
  pub names_alike : map (λ b. f (block_name b)) (filter (λ b. m (block_name b)) (tables_in db).blocks) ≡ map (λ b. f (block_name b)) (filter (λ b. m (block_name b)) (tables_in (filled packs db)).blocks)
  names_alike = named_rows m f (tables_in db).blocks ∙ ap (λ ns. map f (filter m ns)) (sym (same_names packs db.trees host.held.blocks)) ∙ sym (named_rows m f (tables_in (filled packs db)).blocks)

  -- so they are in order
  ordered : (cmp : Name → Name → Ordering) (bs : List BlockRow) → map (λ b. f (block_name b)) (sort_by (λ a b. cmp (block_name a) (block_name b)) (filter (λ b. m (block_name b)) bs)) ≡ map f (sort_by cmp (filter m (map block_name bs)))
  ordered cmp bs = sym (map-map f block_name (sort_by (λ a b. cmp (block_name a) (block_name b)) (filter (λ b. m (block_name b)) bs)))
      ∙ ap (map f) (sym (sort_by-map cmp block_name (filter (λ b. m (block_name b)) bs)) ∙ ap (sort_by cmp) (named_rows m (λ n. n) bs ∙ map-id (filter m (map block_name bs))))

  pub order_alike : (cmp : Name → Name → Ordering) → map (λ b. f (block_name b)) (sort_by (λ a b. cmp (block_name a) (block_name b)) (filter (λ b. m (block_name b)) (tables_in db).blocks))
      ≡ map (λ b. f (block_name b)) (sort_by (λ a b. cmp (block_name a) (block_name b)) (filter (λ b. m (block_name b)) (tables_in (filled packs db)).blocks))
  order_alike cmp = ordered cmp (tables_in db).blocks ∙ ap (λ ns. map f (sort_by cmp (filter m ns))) (sym (same_names packs db.trees host.held.blocks)) ∙ sym (ordered cmp (tables_in (filled packs db)).blocks)

pub only_one : {X Y : Type 0} (f : X → Y) (xs : List X) (y : Y) → map f xs ≡ y ∷ [] → (x : X) × (xs ≡ x ∷ []) × (f x ≡ y)
only_one f [] y is = absurd (cc)
only_one f (x ∷ []) y is = (x, refl, (let same : f x ≡ y = cc in same))
only_one f (x ∷ z ∷ xs) y is = absurd (cc)

-- the bytes in the one row of a block
pub one_bytes : (bs : List BlockRow) (row : Row) (bytes : Octets) → map shown_bytes bs ≡ row ∷ [] → column row 0 ≡ Blob bytes → map (λ (b : BlockRow). b.bytes) bs ≡ bytes ∷ []
one_bytes bs row bytes is told =
    let it = only_one shown_bytes bs row is in
    ap (map (λ (b : BlockRow). b.bytes)) it.1 ∙ ap (λ v. bytes_of v ∷ []) (ap (λ r. column r 0) it.2 ∙ told)

filtered_map : {X : Type 0} (f : X → X) (m : X → Bool) (xs : List X) → ((x : X) → m (f x) ≡ m x) → filter m (map f xs) ≡ map f (filter m xs)
filtered_map f m [] keeps = refl
filtered_map {X} f m (x ∷ xs) keeps = ap (λ t. cond t (f x ∷ filter m (map f xs)) (filter m (map f xs))) (keeps x) ∙ go (m x) (filtered_map f m xs keeps)
  where
    go : (t : Bool) → filter m (map f xs) ≡ map f (filter m xs) → cond t (f x ∷ filter m (map f xs)) (filter m (map f xs)) ≡ map f (cond t (x ∷ filter m xs) (filter m xs))
    go true rest = ap (λ l. f x ∷ l) rest
    go false rest = rest

module _ {packs : Contents} {rows : List PackRow} {places : List PlaceRow} {blocks shown : List BlockRow} (f : Fills packs rows places blocks shown) (q : Name) (own : Octets)
    (one : map (λ (b : BlockRow). b.bytes) (filter (is_block q) blocks) ≡ own ∷ []) where
  abbrev c : Contents
  c = below rows packs

  its : (b : BlockRow) × (filter (is_block q) blocks ≡ b ∷ []) × (b.bytes ≡ own)
  its = only_one (λ (b : BlockRow). b.bytes) (filter (is_block q) blocks) own one

  among : Has blocks its.0 × (is_block q its.0 ≡ true)
  among = has_filtered (is_block q) blocks its.0 (subst (λ l. Has l its.0) (sym its.1) (inl refl))

  its_name : block_name its.0 ≡ q
  its_name = (name_Decides (block_name its.0) q).0 among.1

  one_shown : filter (is_block q) shown ≡ filled_block c places its.0 ∷ []
  one_shown = ap (filter (is_block q)) (sym f.is)
      ∙ filtered_map (filled_block c places) (is_block q) blocks (λ b. ap (λ n. same_name n q) (name_kept c (place_at places (block_name b)) b)) ∙ ap (map (filled_block c places)) its.1

  shown_at : (o : Option PlaceRow) → place_at places q ≡ o → map (λ (b : BlockRow). b.bytes) (filter (is_block q) shown) ≡ (with_place c o its.0).bytes ∷ []
  shown_at o is = ap (map (λ (b : BlockRow). b.bytes)) one_shown ∙ ap (λ o. (with_place c o its.0).bytes ∷ []) (ap (place_at places) its_name ∙ is)

  had_at : (o : Option PlaceRow) → place_at places q ≡ o → IsHad c o its.0
  had_at o is = subst (λ o. IsHad c o its.0) (ap (place_at places) its_name ∙ is) (f.had its.0 among.0)

  -- it has no place
  pub bytes_own : place_at places q ≡ None → map (λ (b : BlockRow). b.bytes) (filter (is_block q) shown) ≡ own ∷ []
  bytes_own none = shown_at None none ∙ ap (λ x. x ∷ []) its.2

  -- nor has one with bytes in its row
  pub no_place : own ≢ [] → place_at places q ≡ None
  no_place some = go (place_at places q) refl
    where
      go : (o : Option PlaceRow) → place_at places q ≡ o → o ≡ None
      go None is = refl
      go (Some p) is = absurd (some (sym its.2 ∙ (had_at (Some p) is).own))

  -- it has a place: packs have so many bytes there
  pub bytes_placed : (p : PlaceRow) → place_at places q ≡ Some p → (bytes : Octets) × (packs p.pack p.offset p.size ≡ Some bytes) × (p.size ≡ length bytes) × (map (λ (b : BlockRow). b.bytes) (filter (is_block q) shown) ≡ bytes ∷ [])
  bytes_placed p is =
      let had : HasBytes c p its.0 = had_at (Some p) is in
      let there = below_has rows packs p.pack p.offset p.size had.bytes had.there in
      (had.bytes, there.0, there.1, shown_at (Some p) is ∙ ap (λ o. (with_bytes o its.0).bytes ∷ []) had.there)

-- bytes that aren't none
pub some_bytes : (bytes : Octets) → length bytes ≢ 0 → bytes ≢ []
some_bytes bytes some none = some (ap length none)

-- sizes, of bytes
pub sizes_are : (bs : List BlockRow) (bytes : Octets) → map (λ (b : BlockRow). b.bytes) bs ≡ bytes ∷ [] → map (λ (b : BlockRow). length b.bytes) bs ≡ length bytes ∷ []
sizes_are bs bytes is = sym (map-map length (λ (b : BlockRow). b.bytes) bs) ∙ ap (map length) is

-- each block of this name is the one that has these bytes
pub bytes_of_one : (q : Name) (blocks : List BlockRow) (bytes : Octets) → map (λ (b : BlockRow). b.bytes) (filter (is_block q) blocks) ≡ bytes ∷ [] → (b : BlockRow) → Has blocks b → is_block q b ≡ true → b.bytes ≡ bytes
bytes_of_one q blocks bytes is b has its =
    let one = only_one (λ (x : BlockRow). x.bytes) (filter (is_block q) blocks) bytes is in
    elim (subst (λ l. Has l b) one.1 (has_kept (is_block q) blocks b has its)) [ inl same ↦ ap (λ (x : BlockRow). x.bytes) same ∙ one.2 | inr none ↦ absurd none ]

pub negated : (b : Bool) → not b ≡ true → b ≡ false
negated true is = absurd (cc)
negated false is = refl

-- ---- versions and parts, of which no column depends on bytes

pub versions_alike : (packs : Contents) (db : Database) → map columns_of (tables_in db).versions ≡ map columns_of (tables_in (filled packs db)).versions
unfolding filled_trees
versions_alike packs db =
    stored_versions (tables_in db).refs (tables_in db).blocks (typed version_form (db.trees 7))
    ∙ sym (stored_versions (tables_in (filled packs db)).refs (tables_in (filled packs db)).blocks (typed version_form (db.trees 7)))

pub parts_alike : (packs : Contents) (db : Database) → map part_columns_of (tables_in db).parts ≡ map part_columns_of (tables_in (filled packs db)).parts
unfolding filled_trees
parts_alike packs db =
    stored_parts (tables_in db).refs (tables_in db).blocks (typed part_form (db.trees 18))
    ∙ sym (stored_parts (tables_in (filled packs db)).refs (tables_in (filled packs db)).blocks (typed part_form (db.trees 18)))
