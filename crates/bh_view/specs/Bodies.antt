-- Bodies as lists of blocks: the invariants of their references, and the rows after a body is
-- stored, copied, joined or dropped.
use Rattle.std.specs.Prelude.{◌≡◌, ℕ, zero, suc, ◌+◌, false, if◌then◌else◌, List, [], ◌∷◌, ◌++◌, map, filter, flat_map, take, drop, length}
use Rattle.std.specs.List.{AllByRecursion, list_any, range_with_len}
use Rattle.sqlite_keyed.specs.Lists.{delete_where}
use Rattle.bh_model.specs.QuotaLaws.{IsBounded}
use Rattle.bh_model.specs.State.{Octets}
use Rattle.bh_tables.specs.Bodies.{version_name, part_name}
use Rattle.bh_tables.specs.Typed.{VersionRow, PartRow, BlockRow, RefRow, Tables, rebodied}
use Rattle.bh_tables.specs.Shown.{Name, same_name, ref_name, body_name, is_of_body}
use Rattle.bh_view.specs.Grouped.{matching, same_number}
use Rattle.bh_view.specs.Blocks.{block_at, placed, whole, ord_for, blocks_with, AreStored, AreDigests}
use Rattle.bh_view.specs.Sound.{IsSound}
use Rattle.bh_view.specs.View.{view}

-- ---- the invariants of references

-- the bodies: those of versions that are not markers
abbrev pub bodies_of : List VersionRow → List Name
bodies_of versions = map version_name (filter (λ (v : VersionRow). same_number v.marker 0) versions)

-- and those of parts
abbrev pub bodies_in : Tables → List Name
bodies_in tables = bodies_of tables.versions ++ map part_name tables.parts

-- each body's places are 0, 1, .. without gap, and each reference has the size of its block
pub record AreBodies (bodies : List Name) (refs : List RefRow) (blocks : List BlockRow) : Type 0 where
  pub placed : (body : Name) → map (λ (r : RefRow). r.place) (placed refs body)
      ≡ range_with_len 0 (length (matching same_name body_name body refs))
  pub owned : (body : Name) → list_any (same_name body) bodies ≡ false → matching same_name body_name body refs ≡ []
  pub measured : AllByRecursion (λ (r : RefRow). r.size ≡ length (block_at blocks (ref_name r))) refs

abbrev pub HasBodies : Tables → Type 0
HasBodies tables = AreBodies (bodies_in tables) tables.refs tables.blocks

-- each version and each part has the bytes of its body
pub record IsResolved (tables : Tables) : Type 0 where
  pub versions : AllByRecursion (λ (v : VersionRow). v.bytes ≡ whole tables.refs tables.blocks (version_name v)) tables.versions
  pub parts : AllByRecursion (λ (p : PartRow). p.bytes ≡ whole tables.refs tables.blocks (part_name p)) tables.parts

-- within a write: each version and part has the bytes of its body, and references are sound; `more`
-- are bodies whose versions or parts will be added
pub record AreWhole (more : List Name) (tables : Tables) : Type 0 where
  pub resolved : IsResolved tables
  pub stored : AreStored tables.refs tables.blocks
  pub bodies : AreBodies (more ++ bodies_in tables) tables.refs tables.blocks

-- each tenant's quota is at most 2^60 bytes, and so is its use. So the sums of sizes over a
-- tenant's rows stay below 2^63, the limit above which the store could not add them up
abbrev pub AreBounded : Tables → Type 0
AreBounded tables = (t : Octets) → IsBounded (view tables t)

-- all invariants of a host's tables, if blocks are named by this function
pub record IsSoundHost (digest : Octets → Octets) (tables : Tables) : Type 0 where
  pub sound : IsSound tables
  pub bodies : HasBodies tables
  pub digests : AreDigests digest tables.blocks
  pub bounded : AreBounded tables

-- ---- the bytes of all bodies except one

-- no version and no part has the name
pub record IsUnnamed (at : Name) (tables : Tables) : Type 0 where
  pub versions : list_any (same_name at) (map version_name tables.versions) ≡ false
  pub parts : list_any (same_name at) (map part_name tables.parts) ≡ false

abbrev pub set_body : Name → Octets → (Name → Octets) → Name → Octets
set_body at bytes old body = if same_name at body then bytes else old body

-- a body that no version or part has yet is added, with these bytes: all other bodies, and all
-- other tables, are unchanged
pub record AddsBody (digest : Octets → Octets) (at : Name) (given : Octets) (old new : Tables) : Type 0 where
  pub is : new ≡ record old { refs = new.refs; blocks = new.blocks }
  pub bytes : whole new.refs new.blocks ≡ set_body at given (whole old.refs old.blocks)
  pub stored : AreStored new.refs new.blocks
  pub bodies : AreBodies (at ∷ bodies_in old) new.refs new.blocks
  pub digests : AreDigests digest old.blocks → AreDigests digest new.blocks

-- ---- a body is stored

-- pieces of a size in bytes, up to a number; the last has the rest
abbrev pub pieces_in : ℕ → ℕ → Octets → List Octets
pieces_in zero size bytes = []
pieces_in (suc most) size [] = []
pieces_in (suc most) size (x ∷ xs) = take size (x ∷ xs) ∷ pieces_in most size (drop size (x ∷ xs))

-- the pieces of a body
abbrev pub pieces : ℕ → Octets → List Octets
pieces size bytes = pieces_in (length bytes) size bytes

-- the reference of a body to the block of these bytes
abbrev pub ref_to : (Octets → Octets) → Name → ℕ → Octets → List BlockRow → RefRow
ref_to digest body place bytes blocks = record {
  tenant = body.0;
  body = body.1;
  place = place;
  digest = digest bytes;
  ord = ord_for (digest bytes) bytes blocks;
  size = length bytes;
}

-- the rows after pieces are stored, from a place on
abbrev pub blocks_after : (Octets → Octets) → List Octets → List BlockRow → List BlockRow
blocks_after digest [] blocks = blocks
blocks_after digest (c ∷ cs) blocks = blocks_after digest cs (blocks_with (digest c) c blocks)

abbrev pub refs_after : (Octets → Octets) → Name → ℕ → List Octets → List BlockRow → List RefRow → List RefRow
refs_after digest body place [] blocks refs = refs
refs_after digest body place (c ∷ cs) blocks refs =
    refs_after digest body (place + 1) cs (blocks_with (digest c) c blocks) (refs ++ ref_to digest body place c blocks ∷ [])

-- the tables after a body of these pieces is stored, from a place on
abbrev pub body_stored : (Octets → Octets) → Name → ℕ → List Octets → Tables → Tables
body_stored digest body place cs tables =
    rebodied tables (refs_after digest body place cs tables.blocks tables.refs) (blocks_after digest cs tables.blocks)

-- the blocks of the tables after bytes were cut into pieces of a size: the old ones, and each piece
-- that was in none of them
abbrev pub StoresPieces : (Octets → Octets) → ℕ → Octets → Tables → Tables → Type 0
StoresPieces digest size bytes old new = new.blocks ≡ blocks_after digest (pieces size bytes) old.blocks

-- ---- a body of the blocks of others

-- references of a body to these ones' blocks, from a place on
abbrev pub refs_again : Name → ℕ → List RefRow → List RefRow → List RefRow
refs_again body place [] refs = refs
refs_again body place (r ∷ rs) refs =
    refs_again body (place + 1) rs (refs ++ record r { tenant = body.0; body = body.1; place = place } ∷ [])

-- the tables after a body got the blocks of these references
abbrev pub body_again : Name → ℕ → List RefRow → Tables → Tables
body_again body place rs tables = rebodied tables (refs_again body place rs tables.refs) tables.blocks

-- a copy of a body
abbrev pub body_copied : Name → Name → Tables → Tables
body_copied source body tables = body_again body 0 (placed tables.refs source) tables

-- bodies joined in this order
abbrev pub bodies_joined : List Name → Name → Tables → Tables
bodies_joined sources body tables = body_again body 0 (flat_map (placed tables.refs) sources) tables

-- ---- a body is deleted

abbrev pub body_dropped : Name → Tables → Tables
body_dropped body tables = rebodied tables (delete_where (is_of_body body) tables.refs) tables.blocks
