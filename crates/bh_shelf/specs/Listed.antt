-- What rows list of packs, and packs that were opened by them.
use Rattle.std.specs.Prelude.{◌≡◌, ℕ, ◌+◌, ◌<◌, ◌==◌, ◌&&◌, nat_le, Bool, true, List, length, Some}
use Rattle.std.specs.List.{list_any}
use Rattle.bh_shelf.specs.Contents.{Contents}
use Rattle.bh_shelf.specs.declared.closed.Listed.{Listed}

-- a row lists a pack, with at least so many bytes
abbrev pub lists : ℕ → ℕ → Listed → Bool
lists pack end row = row.pack == pack && nat_le end row.length

-- one of these does
abbrev pub is_listed : List Listed → ℕ → ℕ → Bool
is_listed rows pack end = list_any (lists pack end) rows

-- packs have what is listed as files have it, and all of it
pub record HasListed (rows : List Listed) (files packs : Contents) : Type 0 where
  pub same : (pack offset size : ℕ) → is_listed rows pack (offset + size) ≡ true → packs pack offset size ≡ files pack offset size
  pub whole : (pack offset size : ℕ) → 0 < size → is_listed rows pack (offset + size) ≡ true
      → (bytes : List ℕ) × (packs pack offset size ≡ Some bytes) × (size ≡ length bytes)
