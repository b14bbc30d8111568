-- Blocks of bytes that all tenants share: the bytes of a body, sound blocks, and the rows after a
-- block is stored.
use Rattle.std.specs.Prelude.{◌≡◌, ◌≢◌, ℕ, suc, ◌<◌, ◌==◌, if◌then◌else◌, List, [], ◌∷◌, ◌++◌, filter, find, Option}
use Rattle.std.specs.Option.{option_map_or}
use Rattle.std.specs.List.{AllByRecursion, list_any}
use Rattle.sqlite_keyed.specs.Lists.{sort_by, delete_where}
use Rattle.sqlite_typed.specs.Tests.{bytes_eq}
use Rattle.bh_model.specs.State.{Octets}
use Rattle.bh_tables.specs.Typed.{BlockRow, RefRow}
use Rattle.bh_tables.specs.Shown.{same_name, block_name, ref_name, is_block, is_copy, has_digest, by_ord}
pub use Rattle.bh_tables.specs.Bodies.{row_at, block_at, placed}
unfoldable pub use Rattle.bh_tables.specs.Bodies.{whole}
use Rattle.bh_view.specs.Grouped.{matching, HasUnique, Refers}

-- ---- sound rows

-- no two rows have the same name, no two have equal bytes, and each reference names a row
pub record AreStored (refs : List RefRow) (blocks : List BlockRow) : Type 0 where
  pub one : HasUnique same_name block_name blocks
  pub once : HasUnique bytes_eq (λ (b : BlockRow). b.bytes) blocks
  pub named : Refers same_name block_name blocks ref_name refs

-- each row has the digest of its bytes
abbrev pub AreDigests : (Octets → Octets) → List BlockRow → Type 0
AreDigests digest = AllByRecursion (λ (b : BlockRow). b.digest ≡ digest b.bytes)

-- ---- a block is stored

-- the least number from n on that no row has, of rows by ordinal
abbrev pub least : ℕ → List BlockRow → ℕ
least n [] = n
least n (b ∷ bs) = if b.ord == n then least (suc n) bs else n

-- the least ordinal that no row of the digest has
abbrev pub free_ord : Octets → List BlockRow → ℕ
free_ord digest blocks = least 0 (sort_by by_ord (filter (has_digest digest) blocks))

pub record IsLeastFree (digest : Octets) (blocks : List BlockRow) (n : ℕ) : Type 0 where
  pub free : matching same_name block_name (digest, n) blocks ≡ []
  pub least : (m : ℕ) → m < n → matching same_name block_name (digest, m) blocks ≢ []

-- the row of the digest with these bytes
abbrev pub copy_in : Octets → Octets → List BlockRow → Option BlockRow
copy_in digest bytes blocks = find (is_copy digest bytes) blocks

-- the ordinal of the block with these bytes, or of a new one for them
abbrev pub ord_for : Octets → Octets → List BlockRow → ℕ
ord_for digest bytes blocks = option_map_or (λ (b : BlockRow). b.ord) (copy_in digest bytes blocks) (free_ord digest blocks)

-- the rows after these bytes are stored
abbrev pub blocks_with : Octets → Octets → List BlockRow → List BlockRow
blocks_with digest bytes blocks = option_map_or (λ _. blocks) (copy_in digest bytes blocks)
    (blocks ++ record { digest = digest; ord = free_ord digest blocks; bytes = bytes } ∷ [])

-- ---- blocks are removed

-- the rows without those of some names
abbrev pub blocks_without : List BlockRow → List BlockRow → List BlockRow
blocks_without gone blocks = delete_where (λ b. list_any (λ g. is_block (block_name g) b) gone) blocks
