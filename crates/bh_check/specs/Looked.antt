-- Blocks that were looked at, and what a host shows of them.
use Rattle.std.specs.Prelude.{◌≡◌, List, map}
use Rattle.std.specs.List.{AllByRecursion, AllZip}
use Rattle.sqlite.specs.Order.{Row, column}
use Rattle.sqlite.specs.Tree.{Trees}
use Rattle.sqlite_typed.specs.Columns.{bytes_of}
use Rattle.bh_rows.specs.Form.{typed}
use Rattle.bh_shelf.specs.Contents.{Contents}
use Rattle.bh_tables.specs.Bodies.{Name, block_at}
use Rattle.bh_tables.specs.Packs.{place_at}
use Rattle.bh_tables.specs.Rows.{PlaceRow, PackRow, pack_form, place_form}
use Rattle.bh_tables.specs.Schema.{Octets}
use Rattle.bh_tables.specs.Typed.{block_form}
use Rattle.bh_stored.specs.declared.stored.Stored.{Stored}
use Rattle.bh_check.specs.Blocks.{block_octets, HasDigest, AreNamed}
use Rattle.bh_check.specs.Filled.{IsFilled, AreFilled, AreKnown}
use Rattle.bh_check.specs.Holds.{first_two, block_length, number_at}
use Rattle.bh_check.specs.Sums.{Keeps, total}
use Rattle.bh_check.specs.declared.filled.Known.{Known}
use Rattle.bh_check.specs.declared.looked.Looked.{Looked}

-- with the bytes of their places, each has the digest of its bytes, and these are their lengths
pub record AreLookedAt (rows : List PackRow) (packs : Contents) (places : List PlaceRow) (digest : Octets → Octets) (blocks : List Row)
    (l : Looked) : Type 0 where
  pub filled : List Row
  pub are : AreFilled rows packs places blocks filled
  pub digests : AllByRecursion (HasDigest digest) filled
  pub by_name : Keeps (total first_two block_length filled) l.by_name
  pub lengths : l.lengths.items ≡ map block_length filled

-- a row has another's name
pub record IsNamedAs (row other : Row) : Type 0 where
  pub digest : bytes_of (column row 1) ≡ bytes_of (column other 1)
  pub ord : number_at 2 row ≡ number_at 2 other

-- the rows that were read are a database's, but for the bytes of blocks
pub record AreReadOf (d : Trees) (s : Stored) : Type 0 where
  pub host_is : s.host.items ≡ d 0
  pub tenants_is : s.tenants.items ≡ d 1
  pub keys_is : s.keys.items ≡ d 3
  pub buckets_is : s.buckets.items ≡ d 5
  pub versions_is : s.versions.items ≡ d 7
  pub blocks_are : AllZip IsNamedAs s.blocks.items (d 10)
  pub refs_is : s.refs.items ≡ d 12
  pub uploads_is : s.uploads.items ≡ d 16
  pub parts_is : s.parts.items ≡ d 18
  pub uses_is : s.uses.items ≡ d 23
  pub locks_is : s.locks.items ≡ d 26
  pub retains_is : s.retains.items ≡ d 28
  pub tallies_is : s.tallies.items ≡ d 30
  pub garbage_is : s.garbage.items ≡ d 44

-- a block's row with the bytes of its place is this one
pub record IsShownAs (rows : List PackRow) (packs : Contents) (places : List PlaceRow) (row shown : Row) : Type 0 where
  pub name : IsNamedAs row shown
  pub is : (filled : Row) → IsFilled rows packs (place_at places (first_two row)) row filled → filled ≡ shown

-- of each of these blocks, by the places and packs that were read
pub record AreShown (packs : Contents) (s : Stored) (known : Known) (blocks shown : List Row) : Type 0 where
  pub each : AllZip (IsShownAs (typed pack_form s.packs.items) packs (typed place_form s.places.items)) blocks shown
  pub known_are : AreKnown s.places.items known
  pub named : AreNamed s.places.items

-- one of them has this name
pub record HasBlock (rows : List PackRow) (packs : Contents) (places : List PlaceRow) (shown : List Row) (q : Name) (row : Row)
    : Type 0 where
  pub its : Row
  pub is : IsShownAs rows packs places row its
  pub bytes : block_octets its ≡ block_at (typed block_form shown) q
