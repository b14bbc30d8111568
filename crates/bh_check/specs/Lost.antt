-- What can't be read of a host.
use Rattle.std.specs.Prelude.{◌≡◌, ◌⊎◌, Bool, true, false, ℕ, List}
use Rattle.std.specs.List.{AllByRecursion}
use Rattle.sqlite.specs.Order.{Row}
use Rattle.sqlite.specs.Tree.{Trees}
use Rattle.sqlite_rules.specs.Lists.{Has}
use Rattle.bh_shelf.specs.Contents.{Contents}
use Rattle.bh_tables.specs.Bodies.{Name, same_name}
use Rattle.bh_tables.specs.Packs.{place_at, packs_in, places_in}
use Rattle.bh_tables.specs.Rows.{PlaceRow, PackRow}
use Rattle.bh_tables.specs.Schema.{Octets}
use Rattle.bh_stored.specs.declared.stored.Stored.{Stored}
use Rattle.bh_check.specs.Blocks.{HasDigest}
use Rattle.bh_check.specs.Filled.{IsFilled}
use Rattle.bh_check.specs.Holds.{first_two, part_body, ref_block}
use Rattle.bh_check.specs.Sums.{Keeps}
use Rattle.bh_check.specs.declared.flaw.Flaw.{Flaw}
use Rattle.bh_check.specs.declared.flaw.Flaw.TheVariants.{Unread, Digest}
use Rattle.bh_check.specs.declared.lost.Lost.{Lost}
use Rattle.bh_check.specs.declared.sums.Sums.{Sums}

-- a flaw of a block's bytes: packs haven't got them, or they have another digest
abbrev pub is_of_bytes : Flaw → Bool
is_of_bytes (Unread row) = true
is_of_bytes (Digest row) = true
is_of_bytes flaw = false

-- with the bytes of its place, a block has the digest of its bytes
pub record IsReadable (rows : List PackRow) (packs : Contents) (places : List PlaceRow) (digest : Octets → Octets) (block : Row)
    : Type 0 where
  pub filled : Row
  pub is : IsFilled rows packs (place_at places (first_two block)) block filled
  pub named : HasDigest digest filled

-- these are counted by name, but for those that are well
pub record CountsDamaged (IsWell : Row → Type 0) (rows : List Row) (counts : Sums) : Type 0 where
  pub of : Name → ℕ
  pub are : Keeps of counts
  pub others : AllByRecursion (λ r. of (first_two r) ≡ 0 → IsWell r) rows

-- each block that a body's references name is well
abbrev pub IsWhole : (Row → Type 0) → List Row → List Row → Name → Type 0
IsWhole IsWell blocks refs body = (r b : Row) → Has refs r → same_name (first_two r) body ≡ true → Has blocks b
    → same_name (first_two b) (ref_block r) ≡ true → IsWell b

-- each part of an upload is whole
abbrev pub AreWhole : (Row → Type 0) → List Row → List Row → List Row → Name → Type 0
AreWhole IsWell blocks refs parts upload = (p : Row) → Has parts p → same_name (first_two p) upload ≡ true
    → IsWhole IsWell blocks refs (part_body p)

-- each version is whole, or is listed, and each upload is listed unless all its parts are whole
pub record AreLost (IsWell : Row → Type 0) (s : Stored) (lost : Lost) : Type 0 where
  pub versions : AllByRecursion (λ v. IsWhole IsWell s.blocks.items s.refs.items (first_two v)
      ⊎ Has lost.versions.items v) s.versions.items
  pub uploads : AllByRecursion (λ u. AreWhole IsWell s.blocks.items s.refs.items s.parts.items (first_two u)
      ⊎ Has lost.uploads.items u) s.uploads.items

-- of a database, beside packs
pub record AreLostIn (packs : Contents) (digest : Octets → Octets) (d : Trees) (lost : Lost) : Type 0 where
  pub versions : AllByRecursion (λ v. IsWhole (IsReadable (packs_in d) packs (places_in d) digest) (d 10) (d 12) (first_two v)
      ⊎ Has lost.versions.items v) (d 7)
  pub uploads : AllByRecursion (λ u. AreWhole (IsReadable (packs_in d) packs (places_in d) digest) (d 10) (d 12) (d 18) (first_two u)
      ⊎ Has lost.uploads.items u) (d 16)
