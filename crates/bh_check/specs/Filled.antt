-- Blocks' rows with the bytes of their places in packs.
use Rattle.std.specs.Prelude.{◌≡◌, ◌+◌, ◌<◌, true, List, [], ◌∷◌, length, Option, Some, None, IsTrue}
use Rattle.std.specs.List.{AllZip}
use Rattle.sqlite.specs.declared.types.Value.TheVariants.{Blob}
use Rattle.sqlite.specs.Order.{Row, column}
use Rattle.sqlite_typed.specs.Columns.{bytes_of}
use Rattle.bh_shelf.specs.Contents.{Contents}
use Rattle.bh_shelf.specs.declared.shelf.Shelf.{Ghosts as Shelves}
use Rattle.bh_tables.specs.Schema.{Octets}
use Rattle.bh_tables.specs.Rows.{PlaceRow, PackRow}
use Rattle.bh_tables.specs.Packs.{place_at, is_reached}
use Rattle.bh_check.specs.Holds.{first_two, one}
use Rattle.bh_check.specs.Sums.{IsSumOf}
use Rattle.bh_check.specs.declared.filled.Known.{Known}

-- it only reads packs
pub record ReadsPacks {P : Type 0} (h : Shelves P) (old new : P) : Type 0 where
  pub clean : IsTrue (h.is_clean new) → IsTrue (h.is_clean old)
  pub seen : IsTrue (h.is_clean new) → h.seen new ≡ h.seen old

-- a block's row with the bytes of a place: the place has some, the row none of its own, and the place ends below its pack's length
abbrev pub IsFilledFrom : List PackRow → Contents → PlaceRow → Row → Row → Type 0
IsFilledFrom rows packs p row filled = (0 < p.size) × (bytes_of (column row 3) ≡ []) × (is_reached rows p.pack (p.offset + p.size) ≡ true)
    × ((bytes : Octets) → packs p.pack p.offset p.size ≡ Some bytes → p.size ≡ length bytes
    → filled ≡ column row 0 ∷ column row 1 ∷ column row 2 ∷ Blob bytes ∷ [])

-- a block without a place has its own
abbrev pub IsFilled : List PackRow → Contents → Option PlaceRow → Row → Row → Type 0
IsFilled rows packs None row filled = filled ≡ row
IsFilled rows packs (Some p) row filled = IsFilledFrom rows packs p row filled

abbrev pub AreFilled : List PackRow → Contents → List PlaceRow → List Row → List Row → Type 0
AreFilled rows packs places blocks filled = AllZip (λ row its. IsFilled rows packs (place_at places (first_two row)) row its) blocks filled

-- how many places each block has
abbrev pub AreKnown : List Row → Known → Type 0
AreKnown places known = IsSumOf first_two one places known.counts
