-- Writes of blocks, of places and of packs in the midst of others, of a database with the bytes of packs.
use Rattle.std.proofs.Common.{◌≡◌, ℕ, ◌≤◌, List, [], ◌∷◌, ◌++◌, true, ◌||◌, map, Some, Ok, Err, Result, OnOk, refl, sym, ap, ◌∙◌, subst}
use Rattle.std.specs.List.{list_any}
use Rattle.std.proofs.lemmas.Result.{on_ok_weaker}
use Rattle.sqlite.specs.Effect.{Database, IsDatabase}
use Rattle.sqlite.specs.Order.{Row}
use Rattle.sqlite.specs.State.{State, HasCleanDisk, IsLive, Survives, Executes, CommitsBy}
use Rattle.sqlite.specs.declared.error.Error.{Error}
use Rattle.sqlite_keyed.specs.Lists.{update_where, delete_where}
use Rattle.sqlite_rules.specs.Lists.{Has}
use Rattle.bh_rows.specs.Form.{typed}
use Rattle.bh_rows.specs.Texts.{InsertText, UpdateText, DeleteText}
use Rattle.bh_shelf.specs.Contents.{Contents}
use Rattle.bh_tables.specs.Schema.{Octets, host_schema, blocks_table, placed_table, packs_table, at}
use Rattle.bh_tables.specs.Bodies.{Name, same_name, block_name}
use Rattle.bh_tables.specs.Rows.{BlockRow, block_form, PlaceRow, place_form, PackRow, pack_form}
use Rattle.bh_tables.specs.Packs.{place_name, place_at, is_place, places_in, packs_in, is_pack}
use Rattle.bh_tables.specs.Shown.{is_block}
use Rattle.bh_tables.specs.Typed.{Totals, IsHostBy, Tables, tables_in, rebodied}
use Rattle.bh_tables.proofs.BlockTexts.{block_free}
use Rattle.bh_tables.proofs.OwnedLemmas.{block_unplaced}
use Rattle.bh_tables.proofs.PlaceTexts.{place_free}
use Rattle.bh_tables.proofs.Places.{blocks_is, places_is, packs_is}
use Rattle.bh_base.specs.Layer.{standing, IsOpen, IsStateClean, IsMidst, IsReadableBy}
use Rattle.bh_base.specs.Placed.{below, filled}
use Rattle.bh_base.specs.Shown.{Backing, named, shown}
use Rattle.bh_base.proofs.Calls.{Turn}
use Rattle.bh_base.proofs.Beneath as beneath
use Rattle.bh_base.proofs.Beneath.{Written, IsFree}
use Rattle.bh_base.proofs.Refilling.{Fills, was_filled, block_comes, block_goes, place_comes, place_goes, lengthened, reached_added, reached_set, blocks_turned, places_turned, packs_turned, blocks_left, places_left, packs_left}
use Rattle.bh_base.proofs.Stored.{stored_host, same_names}

both : {A B C : Type 0} (r : Result ℕ Error) → (A → B → C) → OnOk r A → OnOk r B → OnOk r C
both (Ok n) f one two = f one two
both (Err e) f one two = tt

module _ (a : Backing) (old new : State) (midst : IsStateClean (shown a old) → IsMidst (standing (shown a old))) (result : Result ℕ Error) where
  abbrev packs : Contents
  packs = named a old.in_transaction

  abbrev pub HasBlocks : Type 0 → List BlockRow → (Tables → Tables) → Type 0
  HasBlocks found rows change = Written block_form 5 (at 10 blocks_table) blocks_is (λ sums db h. h.held.blocks) a old new midst (λ sums. sums) change result found rows

  abbrev pub HasPlaces : Type 0 → List PlaceRow → (Tables → Tables) → Type 0
  HasPlaces found rows change = Written place_form 14 (at 34 placed_table) places_is (λ sums db h. h.held.places) a old new midst (λ sums. sums) change result found rows

  abbrev pub HasPacks : Type 0 → List PackRow → Type 0
  HasPacks found rows = Written pack_form 13 (at 32 packs_table) packs_is (λ sums db h. h.held.packs) a old new midst (λ sums. sums) (λ t. t) result found rows

  -- ---- which rows there are then

  pub record RowsAfter (bs : List BlockRow) (ps : List PlaceRow) (ks : List PackRow) : Type 0 where
    pub blocks : typed block_form (new.now.trees 10) ≡ bs
    pub places : places_in new.now.trees ≡ ps
    pub rows : packs_in new.now.trees ≡ ks
    -- they may name the same
    pub named : named a new.in_transaction ≡ packs

  still : {change : Tables → Tables} → Turn (shown a old) (shown a new) (λ sums. sums) change result → OnOk result (IsStateClean (shown a new) → named a new.in_transaction ≡ packs)
  unfolding standing
  still turn = on_ok_weaker result (λ m c. ap (named a) ((m c).by.inside ∙ sym (midst (turn.within.follows.clean c)).by.inside)) turn.midst

  pub blocks_after : {found : Type 0} {bs : List BlockRow} {change : Tables → Tables} → HasBlocks found bs change → OnOk result (IsStateClean (shown a new) → RowsAfter bs (places_in old.now.trees) (packs_in old.now.trees))
  blocks_after w = both result (λ leaves same c. let it = blocks_left old new (leaves c).1 in record { blocks = it.0; places = it.1; rows = it.2; named = same c }) w.leaves (still w.turn)

  pub places_after : {found : Type 0} {ps : List PlaceRow} {change : Tables → Tables} → HasPlaces found ps change → OnOk result (IsStateClean (shown a new) → RowsAfter (typed block_form (old.now.trees 10)) ps (packs_in old.now.trees))
  places_after w = both result (λ leaves same c. let it = places_left old new (leaves c).1 in record { blocks = it.2; places = it.0; rows = it.1; named = same c }) w.leaves (still w.turn)

  pub packs_after : {found : Type 0} {ks : List PackRow} → HasPacks found ks → OnOk result (IsStateClean (shown a new) → RowsAfter (typed block_form (old.now.trees 10)) (places_in old.now.trees) ks)
  packs_after w = both result (λ leaves same c. let it = packs_left old new (leaves c).1 in record { blocks = it.2; places = it.1; rows = it.0; named = same c }) w.leaves (still w.turn)

  -- ---- each write

  -- the rows obey the schema
  sound : IsLive old → IsStateClean (shown a old) → {sums : Totals} → IsHostBy sums (filled packs old.now) → IsDatabase (record { schema = host_schema; trees = old.now.trees })
  unfolding IsOpen
  sound live c host = subst (λ s. IsDatabase (record { schema = s; trees = old.now.trees })) host.schema (live c.is_open).0

  module _ (live : IsLive old) {sql : List ℕ} {params : Row} (runs : HasCleanDisk new → Executes sql params old new result) (survives : Survives old new (CommitsBy sql params old)) where
    -- ---- blocks

    pub block_comes_in : {b : BlockRow} → InsertText block_form host_schema 5 (at 10 blocks_table) sql params b
        → HasBlocks (IsFree block_form 5 (at 10 blocks_table) blocks_is (λ sums db h. h.held.blocks) a old new midst b) (typed block_form (old.now.trees 10) ++ b ∷ []) (λ t. rebodied t t.refs (t.blocks ++ b ∷ []))
    block_comes_in {b} it = beneath.adds block_form 5 (at 10 blocks_table) blocks_is (λ sums db h. h.held.blocks) a old new midst result live (λ sums. sums) (λ t. rebodied t t.refs (t.blocks ++ b ∷ [])) runs survives it (λ free c sums host l.
        let bare = stored_host packs old.now host in
        let none = block_unplaced sums old.now (sound live c host) bare (block_name b) (block_free old.now bare b free) in
        blocks_turned packs packs old.now host old new refl _ _ l (block_comes (was_filled packs old.now host) b none))

    pub block_goes_out : (q : Name) → DeleteText block_form host_schema 5 (at 10 blocks_table) sql params (is_block q)
        → HasBlocks (Unit {0}) (delete_where (is_block q) (typed block_form (old.now.trees 10))) (λ t. rebodied t t.refs (delete_where (is_block q) t.blocks))
    block_goes_out q it = beneath.drops block_form 5 (at 10 blocks_table) blocks_is (λ sums db h. h.held.blocks) a old new midst result live (λ sums. sums) (λ t. rebodied t t.refs (delete_where (is_block q) t.blocks)) runs survives it (λ c sums host l.
        blocks_turned packs packs old.now host old new refl _ _ l (block_goes (was_filled packs old.now host) q))

    -- ---- places

    -- a place of which packs have the bytes, of a block that has none of its own
    pub place_comes_in : {p : PlaceRow} (bytes : Octets) → InsertText place_form host_schema 14 (at 34 placed_table) sql params p
        → (IsStateClean (shown a old) → below (packs_in old.now.trees) packs p.pack p.offset p.size ≡ Some bytes)
        → (IsStateClean (shown a old) → (b : BlockRow) → Has (tables_in (standing (shown a old)).now).blocks b → is_block (place_name p) b ≡ true → b.bytes ≡ [])
        → HasPlaces (IsFree place_form 14 (at 34 placed_table) places_is (λ sums db h. h.held.places) a old new midst p) (places_in old.now.trees ++ p ∷ []) (λ t. rebodied t t.refs (update_where (is_block (place_name p)) (λ b. record b { bytes = bytes }) t.blocks))
    unfolding standing
    place_comes_in {p} bytes it there empty = beneath.adds place_form 14 (at 34 placed_table) places_is (λ sums db h. h.held.places) a old new midst result live (λ sums. sums)
        (λ t. rebodied t t.refs (update_where (is_block (place_name p)) (λ b. record b { bytes = bytes }) t.blocks)) runs survives it (λ free c sums host l.
        let none = place_free old.now (stored_host packs old.now host) p free in
        places_turned packs packs old.now host old new refl _ _ l (place_comes (was_filled packs old.now host) p bytes (there c) none (empty c)))

    -- the place of a block that has one
    pub place_goes_out : (q : Name) → DeleteText place_form host_schema 14 (at 34 placed_table) sql params (is_place q) → (IsStateClean (shown a old) → (p : PlaceRow) × (place_at (places_in old.now.trees) q ≡ Some p))
        → HasPlaces (Unit {0}) (delete_where (is_place q) (places_in old.now.trees)) (λ t. rebodied t t.refs (update_where (is_block q) (λ b. record b { bytes = [] }) t.blocks))
    place_goes_out q it placed = beneath.drops place_form 14 (at 34 placed_table) places_is (λ sums db h. h.held.places) a old new midst result live (λ sums. sums)
        (λ t. rebodied t t.refs (update_where (is_block q) (λ b. record b { bytes = [] }) t.blocks)) runs survives it (λ c sums host l.
        let p = placed c in
        places_turned packs packs old.now host old new refl _ _ l (place_goes (was_filled packs old.now host) q p.0 p.1))

    -- ---- packs

    pub pack_comes_in : {k : PackRow} → InsertText pack_form host_schema 13 (at 32 packs_table) sql params k
        → HasPacks (IsFree pack_form 13 (at 32 packs_table) packs_is (λ sums db h. h.held.packs) a old new midst k) (packs_in old.now.trees ++ k ∷ [])
    pack_comes_in {k} it = beneath.adds pack_form 13 (at 32 packs_table) packs_is (λ sums db h. h.held.packs) a old new midst result live (λ sums. sums) (λ t. t) runs survives it (λ free c sums host l.
        packs_turned packs packs old.now host old new refl _ l (lengthened (was_filled packs old.now host) _ (reached_added (packs_in old.now.trees) k)))

    -- a pack is no shorter than it was
    pub pack_is_set : (pack length much : ℕ) → UpdateText pack_form host_schema 13 (at 32 packs_table) sql params (is_pack pack) (λ k. record k { length = length; live = much })
        → (IsStateClean (shown a old) → (k : PackRow) → Has (packs_in old.now.trees) k → is_pack pack k ≡ true → k.length ≤ length)
        → HasPacks (Unit {0}) (update_where (is_pack pack) (λ k. record k { length = length; live = much }) (packs_in old.now.trees))
    pack_is_set pack length much it rises = beneath.sets pack_form 13 (at 32 packs_table) packs_is (λ sums db h. h.held.packs) a old new midst result live (λ sums. sums) (λ t. t) runs survives it (λ c sums host l.
        packs_turned packs packs old.now host old new refl _ l (lengthened (was_filled packs old.now host) _ (reached_set pack (λ k. record k { length = length; live = much }) (λ k. refl) (packs_in old.now.trees) (rises c))))

-- what a host that may be read shows of blocks
pub fills_at : (a : Backing) (s : State) → IsReadableBy (standing (shown a s)) → Fills (named a s.in_transaction) (packs_in s.now.trees) (places_in s.now.trees) (typed block_form (s.now.trees 10)) (tables_in (standing (shown a s)).now).blocks
unfolding standing
fills_at a s reads = was_filled (named a s.in_transaction) s.now reads.host

-- ---- names

named_among : (q : Name) (bs : List BlockRow) → list_any (is_block q) bs ≡ list_any (λ n. same_name n q) (map block_name bs)
named_among q [] = refl
named_among q (b ∷ bs) = ap (λ t. is_block q b || t) (named_among q bs)

-- a block that is stored is shown, and the other way
pub any_shown : {sums : Totals} (packs : Contents) (db : Database) (q : Name) → IsHostBy sums (filled packs db) → list_any (is_block q) (tables_in (filled packs db)).blocks ≡ list_any (is_block q) (tables_in db).blocks
any_shown packs db q host = named_among q _ ∙ ap (list_any (λ n. same_name n q)) (same_names packs db.trees host.held.blocks) ∙ sym (named_among q _)
