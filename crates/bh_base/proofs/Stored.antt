-- The rows of blocks as they are stored, and with the bytes of packs: either are blocks' rows if the other are and each place has its bytes.
use Rattle.std.proofs.Common.{◌≡◌, List, [], ◌∷◌, map, Option, Some, None, refl, sym, ap, ap₂, ◌∙◌, subst}
use Rattle.std.specs.List.{AllByRecursion}
use Rattle.std.specs.declared.cmp.Ordering.TheVariants.{Less}
use Rattle.sqlite.specs.declared.types.Value.{Value}
use Rattle.sqlite.specs.declared.types.Value.TheVariants.{Null, Int, Real, Text, Blob}
use Rattle.sqlite.specs.Edit.{id_in}
use Rattle.sqlite.specs.Effect.{Database}
use Rattle.sqlite.specs.Order.{Row, column, value_cmp}
use Rattle.sqlite.specs.Tree.{Trees, rowid, IsTable}
use Rattle.sqlite_rules.specs.Lists.{Has}
use Rattle.sqlite_rules.proofs.ListLemmas.{all_has, all_from}
use Rattle.sqlite_typed.specs.Columns.{bytes_of}
use Rattle.bh_rows.specs.Form.{AreRows, typed}
use Rattle.bh_tables.specs.Schema.{Octets}
use Rattle.bh_tables.specs.Bodies.{Name, block_name}
use Rattle.bh_tables.specs.Rows.{PlaceRow, block_of, block_form, number, column_number}
use Rattle.bh_tables.specs.Packs.{place_at, is_place, places_in, packs_in}
use Rattle.bh_tables.specs.Typed.{Totals, raw, IsHostBy}
use Rattle.bh_tables.proofs.Places.{blocks}
use Rattle.bh_shelf.specs.Contents.{Contents}
use Rattle.bh_base.specs.Placed.{with_blob, put_bytes, put_in, filled_row, below, with_bytes, with_place, filled_blocks, filled_trees, filled}
use Rattle.bh_base.proofs.Filling.{IsHad, AreHad, first_has}

-- ---- one row

-- a block's row
abbrev pub IsBlock : Row → Type 0
IsBlock r = r ≡ Int (id_in (rowid r)) ∷ block_form.encode (block_form.decode r)

-- the columns of a block's row, whatever its bytes are
abbrev IsNamed : Row → Type 0
IsNamed r = (column r 0 ≡ Int (id_in (column r 0))) × (column r 1 ≡ Blob (bytes_of (column r 1))) × (column r 2 ≡ number (column_number (column r 2)))

named : (r : Row) → IsBlock r → IsNamed r
named r is = (ap (λ (l : Row). column l 0) is, ap (λ (l : Row). column l 1) is, ap (λ (l : Row). column l 2) is)

four : (id digest ord : Value) (own : Octets) → IsNamed (id ∷ digest ∷ ord ∷ Blob own ∷ []) → IsBlock (id ∷ digest ∷ ord ∷ Blob own ∷ [])
four id digest ord own is = λ i. is.0 i ∷ is.1 i ∷ is.2 i ∷ Blob own ∷ []

-- no row with bytes put in is a block's, but of a block without bytes
pub record IsOwn (bytes : Octets) (r : Row) : Type 0 where
  pub stored : IsBlock r
  pub id : rowid (with_blob bytes r) ≡ rowid r
  pub name : block_name (block_of (with_blob bytes r)) ≡ block_name (block_of r)
  pub none : (block_of r).bytes ≡ []
  -- it is its block with these bytes
  pub is : block_of (with_blob bytes r) ≡ record (block_of r) { bytes = bytes }

own_row : (bytes : Octets) (r : Row) → IsBlock (with_blob bytes r) → IsOwn bytes r
own_row bytes [] is = absurd (cc)
own_row bytes (id ∷ []) is = absurd (cc)
own_row bytes (id ∷ digest ∷ []) is = absurd (cc)
own_row bytes (id ∷ digest ∷ ord ∷ []) is = absurd (cc)
own_row bytes (id ∷ digest ∷ ord ∷ Null ∷ rest) is = absurd (cc)
own_row bytes (id ∷ digest ∷ ord ∷ Int n ∷ rest) is = absurd (cc)
own_row bytes (id ∷ digest ∷ ord ∷ Real x ∷ rest) is = absurd (cc)
own_row bytes (id ∷ digest ∷ ord ∷ Text t ∷ rest) is = absurd (cc)
own_row bytes (id ∷ digest ∷ ord ∷ Blob [] ∷ []) is = record { stored = four id digest ord [] (named (id ∷ digest ∷ ord ∷ Blob bytes ∷ []) is); id = refl; name = refl; none = refl; is = refl }
own_row bytes (id ∷ digest ∷ ord ∷ Blob (x ∷ own) ∷ []) is = absurd (cc)
own_row bytes (id ∷ digest ∷ ord ∷ Blob [] ∷ more ∷ rest) is = absurd (cc)
own_row bytes (id ∷ digest ∷ ord ∷ Blob (x ∷ own) ∷ more ∷ rest) is = absurd (cc)

module _ (packs : Contents) where
  -- what is known of a row by that with the bytes of its place
  pub record IsStored (place : Option PlaceRow) (r : Row) : Type 0 where
    pub stored : IsBlock r
    pub id : rowid (put_in packs place r) ≡ rowid r
    pub name : block_name (block_of (put_in packs place r)) ≡ block_name (block_of r)
    pub had : IsHad packs place (block_of r)
    pub is : block_of (put_in packs place r) ≡ with_place packs place (block_of r)

  stored_row : (place : Option PlaceRow) (r : Row) → IsBlock (put_in packs place r) → IsStored place r
  stored_row None r is = record { stored = is; id = refl; name = refl; had = tt; is = refl }
  stored_row (Some p) r is = go (packs p.pack p.offset p.size) refl is
    where
      go : (found : Option Octets) → packs p.pack p.offset p.size ≡ found → IsBlock (put_bytes found r) → IsStored (Some p) r
      go None there its = absurd (cc)
      go (Some bytes) there its =
          let own = own_row bytes r its in
          let put : put_in packs (Some p) r ≡ with_blob bytes r = ap (λ o. put_bytes o r) there in
          record {
            stored = own.stored;
            id = ap rowid put ∙ own.id;
            name = ap (λ l. block_name (block_of l)) put ∙ own.name;
            had = record { own = own.none; bytes = bytes; there = there };
            is = ap block_of put ∙ own.is ∙ sym (ap (λ o. with_bytes o (block_of r)) there);
          }

  -- and the other way
  put_row : (place : Option PlaceRow) (r : Row) → IsBlock r → IsHad packs place (block_of r) → IsBlock (put_in packs place r)
  put_row None r is had = is
  put_row (Some p) r is had =
      let whole : r ≡ Int (id_in (rowid r)) ∷ Blob (block_of r).digest ∷ number (block_of r).ord ∷ Blob [] ∷ [] = is ∙ ap (λ o. Int (id_in (rowid r)) ∷ Blob (block_of r).digest ∷ number (block_of r).ord ∷ Blob o ∷ []) had.own in
      let put : put_in packs (Some p) r ≡ Int (id_in (rowid r)) ∷ Blob (block_of r).digest ∷ number (block_of r).ord ∷ Blob had.bytes ∷ [] = ap (λ o. put_bytes o r) had.there ∙ ap (with_blob had.bytes) whole in
      subst IsBlock (sym put) refl

  -- ---- all rows

  module _ (places : List PlaceRow) where
    abbrev at : Row → Option PlaceRow
    at r = place_at places (block_name (block_of r))

    abbrev put : Row → Row
    put r = filled_row packs places r

    stored_each : (rows : List Row) → AllByRecursion IsBlock (map put rows) → AllByRecursion (λ r. IsStored (at r) r) rows
    stored_each [] all = tt
    stored_each (r ∷ rows) all = (stored_row (at r) r all.0, stored_each rows all.1)

    are_blocks : (rows : List Row) → AllByRecursion (λ r. IsStored (at r) r) rows → AllByRecursion IsBlock rows
    are_blocks [] all = tt
    are_blocks (r ∷ rows) all = (all.0.stored, are_blocks rows all.1)

    -- a number is below those of other rows, with bytes and without
    above : (id : Value) (rows : List Row) → AllByRecursion (λ r. IsStored (at r) r) rows → AllByRecursion (λ s. value_cmp id (rowid s) ≡ Less) (map put rows) → AllByRecursion (λ s. value_cmp id (rowid s) ≡ Less) rows
    above id [] all less = tt
    above id (r ∷ rows) all less = (ap (value_cmp id) (sym all.0.id) ∙ less.0, above id rows all.1 less.1)

    above_put : (id : Value) (rows : List Row) → AllByRecursion (λ r. IsStored (at r) r) rows → AllByRecursion (λ s. value_cmp id (rowid s) ≡ Less) rows → AllByRecursion (λ s. value_cmp id (rowid s) ≡ Less) (map put rows)
    above_put id [] all less = tt
    above_put id (r ∷ rows) all less = (ap (value_cmp id) all.0.id ∙ less.0, above_put id rows all.1 less.1)

    rises_bare : (rows : List Row) → AllByRecursion (λ r. IsStored (at r) r) rows → IsTable (map put rows) → IsTable rows
    rises_bare [] all rises = tt
    rises_bare (r ∷ rows) all rises = (
      subst (λ id. AllByRecursion (λ s. value_cmp id (rowid s) ≡ Less) rows) all.0.id (above (rowid (put r)) rows all.1 rises.0),
      rises_bare rows all.1 rises.1,
    )

    rises_put : (rows : List Row) → AllByRecursion (λ r. IsStored (at r) r) rows → IsTable rows → IsTable (map put rows)
    rises_put [] all rises = tt
    rises_put (r ∷ rows) all rises = (
      subst (λ id. AllByRecursion (λ s. value_cmp id (rowid s) ≡ Less) (map put rows)) (sym all.0.id) (above_put (rowid r) rows all.1 rises.0),
      rises_put rows all.1 rises.1,
    )

    names_same : (rows : List Row) → AllByRecursion (λ r. IsStored (at r) r) rows → map block_name (typed block_form (map put rows)) ≡ map block_name (typed block_form rows)
    names_same [] all = refl
    names_same (r ∷ rows) all = ap₂ ◌∷◌ all.0.name (names_same rows all.1)

    blocks_shown : (rows : List Row) → AllByRecursion (λ r. IsStored (at r) r) rows → typed block_form (map put rows) ≡ filled_blocks packs places (typed block_form rows)
    blocks_shown [] all = refl
    blocks_shown (r ∷ rows) all = ap₂ ◌∷◌ all.0.is (blocks_shown rows all.1)

    each_had : (rows : List Row) → AllByRecursion (λ r. IsStored (at r) r) rows → AllByRecursion (λ b. IsHad packs (place_at places (block_name b)) b) (typed block_form rows)
    each_had [] all = tt
    each_had (r ∷ rows) all = (all.0.had, each_had rows all.1)

    each_put : (rows : List Row) → AllByRecursion IsBlock rows → AllByRecursion (λ b. IsHad packs (place_at places (block_name b)) b) (typed block_form rows) → AllByRecursion IsBlock (map put rows)
    each_put [] all had = tt
    each_put (r ∷ rows) all had = (put_row (at r) r all.0 had.0, each_put rows all.1 had.1)

-- ---- contents that have at each place what others have

module _ (a b : Contents) (places : List PlaceRow) (same : (p : PlaceRow) → Has places p → (bytes : Octets) → a p.pack p.offset p.size ≡ Some bytes → b p.pack p.offset p.size ≡ Some bytes) where
  same_row : (q : Name) (place : Option PlaceRow) → place_at places q ≡ place → (r : Row) → IsStored a place r → put_in a place r ≡ put_in b place r
  same_row q None at r is = refl
  same_row q (Some p) at r is = ap (λ o. put_bytes o r) (is.had.there ∙ sym (same p (first_has (is_place q) places p at) is.had.bytes is.had.there))

  same_all : (rows : List Row) → AllByRecursion (λ r. IsStored a (place_at places (block_name (block_of r))) r) rows → map (filled_row a places) rows ≡ map (filled_row b places) rows
  same_all [] all = refl
  same_all (r ∷ rows) all = ap₂ ◌∷◌ (same_row (block_name (block_of r)) (place_at places (block_name (block_of r))) refl r all.0) (same_all rows all.1)

  pub rows_same : (rows : List Row) → AllByRecursion IsBlock (map (filled_row a places) rows) → map (filled_row a places) rows ≡ map (filled_row b places) rows
  rows_same rows all = same_all rows (stored_each a places rows all)

-- ---- the trees

module _ (packs : Contents) (trees : Trees) where
  abbrev here : Contents
  here = below (packs_in trees) packs

  module _ (whole : AreRows block_form (filled_trees packs trees 10)) where
    pub known : AllByRecursion (λ r. IsStored here (place_at (places_in trees) (block_name (block_of r))) r) (trees 10)
    unfolding filled_trees
    known = stored_each here (places_in trees) (trees 10) whole.each

    pub stored_blocks : AreRows block_form (trees 10)
    unfolding filled_trees
    stored_blocks = record { each = are_blocks here (places_in trees) (trees 10) known; rises = rises_bare here (places_in trees) (trees 10) known whole.rises }

    -- each place has its bytes
    pub all_had : AreHad here (places_in trees) (typed block_form (trees 10))
    all_had b has = all_has (λ c. IsHad here (place_at (places_in trees) (block_name c)) c) (typed block_form (trees 10)) b (each_had here (places_in trees) (trees 10) known) has

    -- the blocks that are shown are those that are stored, with the bytes of their places
    pub shown_blocks : typed block_form (filled_trees packs trees 10) ≡ filled_blocks here (places_in trees) (typed block_form (trees 10))
    unfolding filled_trees
    shown_blocks = blocks_shown here (places_in trees) (trees 10) known

    -- names don't depend on where bytes are
    pub same_names : map block_name (typed block_form (filled_trees packs trees 10)) ≡ map block_name (typed block_form (trees 10))
    unfolding filled_trees
    same_names = names_same here (places_in trees) (trees 10) known

  -- blocks that are stored are shown, if each place has its bytes
  pub filled_whole : AreRows block_form (trees 10) → AreHad here (places_in trees) (typed block_form (trees 10)) → AreRows block_form (filled_trees packs trees 10)
  unfolding filled_trees
  filled_whole stored had =
      let all = each_put here (places_in trees) (trees 10) stored.each (all_from (λ c. IsHad here (place_at (places_in trees) (block_name c)) c) (typed block_form (trees 10)) had) in
      record { each = all; rises = rises_put here (places_in trees) (trees 10) (stored_each here (places_in trees) (trees 10) all) stored.rises }

-- a host's database with bytes of packs is one without them: of each of its rows the same is known
pub stored_host : {sums : Totals} (packs : Contents) (db : Database) → IsHostBy sums (filled packs db) → IsHostBy sums db
unfolding filled_trees
stored_host {sums} packs db host = record { schema = host.schema; held = (blocks sums).put_held (raw (filled packs db).trees) (db.trees 10) host.held (stored_blocks packs db.trees host.held.blocks) }
