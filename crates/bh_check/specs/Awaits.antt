-- A database whose blocks have bytes in packs, without the packs.
use Rattle.std.specs.Prelude.{◌≡◌, ◌+◌, ◌<◌, true, List, length, replicate, Some}
use Rattle.sqlite.specs.Effect.{Database}
use Rattle.sqlite_rules.specs.Lists.{Has}
use Rattle.bh_shelf.specs.Contents.{Contents}
use Rattle.bh_tables.specs.Schema.{Octets}
use Rattle.bh_tables.specs.Packs.{places_in, is_reached}
use Rattle.bh_tables.specs.Rows.{PlaceRow, PackRow}
use Rattle.bh_tables.specs.Typed.{IsHost}
use Rattle.bh_base.specs.Placed.{filled}

-- packs have, at each of these places, as many bytes as its size says
abbrev pub HasSizes : Contents → List PlaceRow → Type 0
HasSizes packs places = (p : PlaceRow) → Has places p
    → (bytes : Octets) × (packs p.pack p.offset p.size ≡ Some bytes) × (p.size ≡ length bytes)

-- the same at each of them that has some and ends below its pack's length, by these rows
abbrev pub HasReached : Contents → List PackRow → List PlaceRow → Type 0
HasReached packs rows places = (p : PlaceRow) → Has places p → 0 < p.size → is_reached rows p.pack (p.offset + p.size) ≡ true
    → (bytes : Octets) × (packs p.pack p.offset p.size ≡ Some bytes) × (p.size ≡ length bytes)

-- zeros at any place
abbrev pub zeros : Contents
zeros pack offset size = Some (replicate size 0)

-- it is a host's once packs have the bytes of its places, whichever they are: it is one with zeros there
abbrev pub AwaitsPacks : Database → Type 0
AwaitsPacks db = IsHost (filled zeros db)

-- a host's database waits for packs, and is a host's with any that have so many bytes at its places
abbrev pub AwaitsBytes : Type 0
AwaitsBytes = (db : Database) → ((packs : Contents) → IsHost (filled packs db) → AwaitsPacks db)
    × (AwaitsPacks db → (packs : Contents) → HasSizes packs (places_in db.trees) → IsHost (filled packs db))
