-- Packs of which little is named, and places of blocks that become others.
use Rattle.std.specs.Prelude.{◌≡◌, ◌≢◌, ℕ, zero, suc, pos, int_le, int_lt, Bool, true, ◌&&◌, List, [], ◌∷◌, ◌++◌, length, Some, None}
use Rattle.std.specs.Ordering.{int_cmp}
use Rattle.std.specs.declared.cmp.Ordering.{Ordering}
use Rattle.sqlite.specs.declared.types.Value.TheVariants.{Blob}
use Rattle.sqlite.specs.Order.{Row}
use Rattle.sqlite_keyed.specs.Lists.{delete_where}
use Rattle.sqlite_rules.specs.Lists.{Has}
use Rattle.bh_packs.specs.Sums.{sum_of}
use Rattle.bh_packs.specs.declared.place.Place.{Place}
use Rattle.bh_tables.specs.Packs.{place_at, is_place}
use Rattle.bh_tables.specs.Rows.{number, PlaceRow, PackRow}
use Rattle.bh_tables.specs.Schema.{Octets}
use Rattle.bh_tables.specs.Shown.{Name}
use Rattle.bh_base.specs.Places.{IsFound, row_of_place}
use Rattle.bh_compaction.specs.declared.compaction.Sparse.{Sparse}

-- its row says that it has at least so many bytes, of which places name fewer than that, but some
abbrev pub is_sparse : Sparse → PackRow → Bool
is_sparse s p = int_le (pos s.length) (pos p.length) && (int_lt (pos p.live) (pos s.live) && int_lt (pos 0) (pos p.live))

-- the pack of this number is one
pub record IsSparse (s : Sparse) (packs : List PackRow) (pack : ℕ) : Type 0 where
  pub row : PackRow
  pub among : Has packs row
  pub sparse : is_sparse s row ≡ true
  pub is : row.pack ≡ pack

-- what a text shows of a place: the name of its block
abbrev pub shown_name : PlaceRow → Row
shown_name p = Blob p.digest ∷ number p.ord ∷ []

abbrev pub by_offset : PlaceRow → PlaceRow → Ordering
by_offset a b = int_cmp (pos a.offset) (pos b.offset)

-- a block's place was added: of these bytes, with their sum
pub record IsPut (block : Name) (bytes : Octets) (place : Place) (old new : List PlaceRow) : Type 0 where
  pub size : place.size ≡ length bytes
  pub sum : place.sum ≡ sum_of bytes
  pub is : new ≡ old ++ row_of_place block place ∷ []

-- one block that was in this pack has another place, of as many bytes with the same sum. All other places are as they were
pub record MovesPlace (pack : ℕ) (old new : List PlaceRow) : Type 0 where
  pub block : Name
  pub from : Place
  pub to : Place
  pub placed : IsFound (place_at old block) (Some from)
  pub in_pack : from.pack ≡ pack
  pub size : to.size ≡ from.size
  pub sum : to.sum ≡ from.sum
  pub is : new ≡ delete_where (is_place block) old ++ row_of_place block to ∷ []

-- so many have, one after another
unfoldable pub Moves : ℕ → ℕ → List PlaceRow → List PlaceRow → Type 0
Moves pack zero old new = new ≡ old
Moves pack (suc n) old new = (mid : List PlaceRow) × Moves pack n old mid × MovesPlace pack mid new

-- they were in one pack, which was sparse
pub record Compacts (s : Sparse) (count : ℕ) (packs : List PackRow) (old new : List PlaceRow) : Type 0 where
  pub pack : ℕ
  pub sparse : count ≢ 0 → IsSparse s packs pack
  pub moves : Moves pack count old new
  -- so a block that is in another pack has the place that it had, and no other blocks have one
  pub stays : (q : Name) (p : PlaceRow) → place_at old q ≡ Some p → p.pack ≢ pack → place_at new q ≡ Some p
  pub none : (q : Name) → place_at old q ≡ None → place_at new q ≡ None
  pub some : (q : Name) → place_at old q ≢ None → place_at new q ≢ None
