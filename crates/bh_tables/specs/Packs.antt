-- The places of blocks in packs, and what texts find of them.
use Rattle.std.specs.Prelude.{ℕ, Bool, ◌&&◌, nat_le, pos, List, [], ◌∷◌, Option}
use Rattle.std.specs.List.{list_any}
use Rattle.std.specs.Ordering.{int_eq, int_cmp}
use Rattle.std.specs.declared.cmp.Ordering.{Ordering}
use Rattle.sqlite.specs.declared.types.Value.TheVariants.{Int}
use Rattle.sqlite.specs.Order.{Row}
use Rattle.sqlite.specs.Tree.{Trees}
use Rattle.bh_rows.specs.Form.{typed}
use Rattle.bh_tables.specs.Bodies.{Name, first, matching, same_name}
use Rattle.bh_tables.specs.Rows.{number, PlaceRow, place_form, PackRow, pack_form}

-- the block of a place
abbrev pub place_name : PlaceRow → Name
place_name p = (p.digest, p.ord)

-- the place of the block of this name
abbrev pub place_at : List PlaceRow → Name → Option PlaceRow
place_at places q = first (matching same_name place_name q places)

abbrev pub is_place : Name → PlaceRow → Bool
is_place q p = same_name (place_name p) q

-- a database's places, and its packs
abbrev pub places_in : Trees → List PlaceRow
places_in trees = typed place_form (trees 34)

abbrev pub packs_in : Trees → List PackRow
packs_in trees = typed pack_form (trees 32)

abbrev pub is_pack : ℕ → PackRow → Bool
is_pack pack p = int_eq (pos p.pack) (pos pack)

-- it has this pack, with at least so many bytes
abbrev pub reaches : ℕ → ℕ → PackRow → Bool
reaches pack end p = is_pack pack p && nat_le end p.length

-- one has it
abbrev pub is_reached : List PackRow → ℕ → ℕ → Bool
is_reached packs pack end = list_any (reaches pack end) packs

-- ---- what texts find

-- where the bytes are, and their sum
abbrev pub shown_place : PlaceRow → Row
shown_place p = number p.pack ∷ number p.offset ∷ number p.size ∷ Int p.sum ∷ []

abbrev pub is_in_pack : ℕ → PlaceRow → Bool
is_in_pack pack p = int_eq (pos p.pack) (pos pack)

abbrev pub by_pack : PackRow → PackRow → Ordering
by_pack a b = int_cmp (pos a.pack) (pos b.pack)

-- how long a pack is, and how much of it places name
abbrev pub shown_pack : PackRow → Row
shown_pack p = number p.length ∷ number p.live ∷ []
