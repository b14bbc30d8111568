-- Bytes of packs put in a database's rows: the same from any contents that have them at its places.
use Rattle.std.proofs.Common.{◌≡◌, ◌≢◌, ℕ, ◌+◌, Bool, true, false, List, Option, Some, None, length, ◌==◌, cond, refl, ap, ◌∙◌}
use Rattle.std.proofs.lemmas.Bool.{eqb-true, eq-eqb}
use Rattle.sqlite.specs.Effect.{Database}
use Rattle.sqlite.specs.Order.{Row}
use Rattle.sqlite.specs.Tree.{Trees}
use Rattle.sqlite_trees.specs.Tree.{with_tree}
use Rattle.sqlite_rules.specs.Lists.{Has}
use Rattle.bh_rows.specs.Form.{AreRows}
use Rattle.bh_tables.specs.Schema.{Octets}
use Rattle.bh_tables.specs.Rows.{PlaceRow, PackRow, block_of, block_form}
use Rattle.bh_tables.specs.Bodies.{block_name}
use Rattle.bh_tables.specs.Packs.{place_at, is_place, places_in, packs_in, is_reached}
use Rattle.bh_shelf.specs.Contents.{Contents, Within, AreSameBut}
use Rattle.bh_base.specs.Placed.{sized, below, put_bytes, put_in, filled_row, filled_trees, filled, IsWhole}
use Rattle.bh_base.proofs.Filling.{first_has, same_map}
use Rattle.bh_base.proofs.Stored.{rows_same}

-- ---- contents that have what others have

pub within_then : (a b c : Contents) → Within a b → Within b c → Within a c
within_then a b c one two pack offset size bytes has = two pack offset size bytes (one pack offset size bytes has)

-- so many bytes of what others have
sized_within : (size : ℕ) (a b : Option Octets) (bytes : Octets) → ((found : Octets) → a ≡ Some found → b ≡ Some found) → sized size a ≡ Some bytes → sized size b ≡ Some bytes
sized_within size None b bytes within has = absurd (cc)
sized_within size (Some found) b bytes within has = ap (sized size) (within found refl) ∙ has

-- where packs are as long or longer
pub below_within : (rows others : List PackRow) (a b : Contents) → ((pack end : ℕ) → is_reached rows pack end ≡ true → is_reached others pack end ≡ true) → Within a b → Within (below rows a) (below others b)
unfolding below
below_within rows others a b rises within pack offset size bytes has = go (is_reached rows pack (offset + size)) refl has
  where
    go : (t : Bool) → is_reached rows pack (offset + size) ≡ t → cond t (sized size (a pack offset size)) None ≡ Some bytes → cond (is_reached others pack (offset + size)) (sized size (b pack offset size)) None ≡ Some bytes
    go true on is = ap (λ c. cond c (sized size (b pack offset size)) None) (rises pack (offset + size) on) ∙ sized_within size (a pack offset size) (b pack offset size) bytes (within pack offset size) is
    go false off is = absurd (cc)

sized_has : (size : ℕ) (found : Option Octets) (bytes : Octets) → sized size found ≡ Some bytes → (found ≡ Some bytes) × (size ≡ length bytes)
sized_has size None bytes is = absurd (cc)
sized_has size (Some had) bytes is = go (size == length had) refl is
  where
    go : (t : Bool) → (size == length had) ≡ t → cond t (Some had) None ≡ Some bytes → (Some had ≡ Some bytes) × (size ≡ length bytes)
    go true on h = let same : had ≡ bytes = cc in (h, eqb-true size (length had) on ∙ ap length same)
    go false off h = absurd (cc)

-- what is found has so many bytes, packs have them, and they end below the pack's length
pub below_has : (rows : List PackRow) (a : Contents) (pack offset size : ℕ) (bytes : Octets) → below rows a pack offset size ≡ Some bytes → (a pack offset size ≡ Some bytes) × (size ≡ length bytes) × (is_reached rows pack (offset + size) ≡ true)
unfolding below
below_has rows a pack offset size bytes is = go (is_reached rows pack (offset + size)) refl is
  where
    go : (t : Bool) → is_reached rows pack (offset + size) ≡ t → cond t (sized size (a pack offset size)) None ≡ Some bytes → (a pack offset size ≡ Some bytes) × (size ≡ length bytes) × (is_reached rows pack (offset + size) ≡ true)
    go true on h = let it = sized_has size (a pack offset size) bytes h in (it.0, it.1, on)
    go false off h = absurd (cc)

-- and so many bytes that packs have below the length of a pack are found
pub below_is : (rows : List PackRow) (a : Contents) (pack offset size : ℕ) (bytes : Octets) → is_reached rows pack (offset + size) ≡ true → a pack offset size ≡ Some bytes → size ≡ length bytes → below rows a pack offset size ≡ Some bytes
unfolding below
below_is rows a pack offset size bytes on there same =
    ap (λ c. cond c (sized size (a pack offset size)) None) on ∙ ap (sized size) there ∙ ap (λ c. cond c (Some bytes) None) (eq-eqb size (length bytes) same)

-- contents that have what is found in others
pub below_kept : (rows : List PackRow) (a b : Contents) → Within (below rows a) b → Within (below rows a) (below rows b)
below_kept rows a b within pack offset size bytes is =
    let it = below_has rows a pack offset size bytes is in
    below_is rows b pack offset size bytes it.2 (within pack offset size bytes is) it.1

-- ---- the same bytes put in

module _ (a b : Contents) (trees : Trees) (whole : AreRows block_form (filled_trees a trees 10)) where
  -- contents that have the same at each place
  pub places_same : ((p : PlaceRow) → Has (places_in trees) p → (bytes : Octets) → below (packs_in trees) a p.pack p.offset p.size ≡ Some bytes → below (packs_in trees) b p.pack p.offset p.size ≡ Some bytes) → filled_trees a trees ≡ filled_trees b trees
  unfolding filled_trees
  places_same same = ap (with_tree trees 10) (rows_same (below (packs_in trees) a) (below (packs_in trees) b) (places_in trees) same (trees 10) whole.each)

  -- contents that have more
  pub same_trees : Within a b → filled_trees a trees ≡ filled_trees b trees
  same_trees within = places_same (λ p has. below_within (packs_in trees) (packs_in trees) a b (λ pack end on. on) within p.pack p.offset p.size)

  -- those that have as much below the lengths of packs, as an opening finds them
  pub trees_again : Within (below (packs_in trees) a) b → filled_trees a trees ≡ filled_trees b trees
  trees_again within = places_same (λ p has. below_kept (packs_in trees) a b within p.pack p.offset p.size)

-- ---- a pack goes in which nothing is placed

module _ (a b : Contents) (trees : Trees) (same : (p : PlaceRow) → Has (places_in trees) p → a p.pack p.offset p.size ≡ b p.pack p.offset p.size) where
  below_alike : (rows : List PackRow) (p : PlaceRow) → Has (places_in trees) p → below rows a p.pack p.offset p.size ≡ below rows b p.pack p.offset p.size
  unfolding below
  below_alike rows p has = ap (λ o. cond (is_reached rows p.pack (p.offset + p.size)) (sized p.size o) None) (same p has)

  row_alike : (r : Row) (o : Option PlaceRow) → place_at (places_in trees) (block_name (block_of r)) ≡ o → put_in (below (packs_in trees) a) o r ≡ put_in (below (packs_in trees) b) o r
  row_alike r None at = refl
  row_alike r (Some p) at = ap (λ o. put_bytes o r) (below_alike (packs_in trees) p (first_has (is_place (block_name (block_of r))) (places_in trees) p at))

  -- contents that are the same at each place, whatever they have there
  pub trees_alike : filled_trees a trees ≡ filled_trees b trees
  unfolding filled_trees
  trees_alike = ap (with_tree trees 10) (same_map (filled_row (below (packs_in trees) a) (places_in trees)) (filled_row (below (packs_in trees) b) (places_in trees)) (trees 10)
      (λ r has. row_alike r (place_at (places_in trees) (block_name (block_of r))) refl))

pub trees_without : (pack : ℕ) (a b : Contents) (trees : Trees) → AreSameBut pack a b → ((p : PlaceRow) → Has (places_in trees) p → p.pack ≢ pack) → filled_trees a trees ≡ filled_trees b trees
trees_without pack a b trees same none = trees_alike a b trees (λ p has. same p.pack (none p has) p.offset p.size)

-- ---- databases

pub same_filled : (a b : Contents) → Within a b → (db : Database) → IsWhole (filled a db) → filled a db ≡ filled b db
same_filled a b within db whole = ap (λ (t : Trees). record { schema = db.schema; trees = t }) (same_trees a b db.trees whole within)

-- a database that is opened shows what a crash left
pub opened_filled : (a b : Contents) (db : Database) → Within (below (packs_in db.trees) a) b → IsWhole (filled a db) → filled a db ≡ filled b db
opened_filled a b db within whole = ap (λ (t : Trees). record { schema = db.schema; trees = t }) (trees_again a b db.trees whole within)

-- one of which a pack goes that no place names shows what it showed
pub gone_filled : (pack : ℕ) (a b : Contents) (db : Database) → AreSameBut pack a b → ((p : PlaceRow) → Has (places_in db.trees) p → p.pack ≢ pack) → filled a db ≡ filled b db
gone_filled pack a b db same none = ap (λ (t : Trees). record { schema = db.schema; trees = t }) (trees_without pack a b db.trees same none)
