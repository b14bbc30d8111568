-- A cache of blocks, beside their rows.
use Rattle.std.specs.Prelude.{◌≡◌, ℕ, ◌+◌, ◌*◌, Bool, true, false, List, [], ◌∷◌, length, map, Contains, Option, Some, option_map}
use Rattle.std.specs.List.{list_all}
use Rattle.std.specs.Option.{option_map_or}
use Rattle.lru.specs.LruCache.{LruCache}
use Rattle.sqlite_typed.specs.Tests.{bytes_eq}
use Rattle.bh_types.specs.Limits.{HostTuning}
use Rattle.bh_tables.specs.Schema.{Octets}
use Rattle.bh_tables.specs.Typed.{BlockRow}
use Rattle.bh_tables.specs.Shown.{Name}
use Rattle.bh_tables.specs.Bodies.{row_at}
use Rattle.bh_view.specs.Blocks.{copy_in}

-- a process's settings, and the name and the bytes of each cached block, the last used first
pub record KeptBlocks : Type 0 where
  pub tuning : HostTuning
  pub entries : List (Name × Octets)

-- the cache is empty
abbrev pub no_blocks : HostTuning → KeptBlocks
no_blocks tuning = record { tuning = tuning; entries = [] }

abbrev pub entries_in : {K V : Type 0} → (K → Name) → (V → Octets) → Option (LruCache K V) → List (Name × Octets)
entries_in name bytes blocks = option_map_or (λ c. map (λ e. (name e.0, bytes e.1)) c.entries) blocks []

-- the bytes of all cached blocks
abbrev pub bytes_in : List (Name × Octets) → ℕ
bytes_in [] = 0
bytes_in (e ∷ es) = length e.1 + bytes_in es

-- the maximum bytes of a process's cache: `cache_blocks` blocks of `block_size` bytes
abbrev pub room_of : HostTuning → ℕ
room_of tuning = tuning.block_size * tuning.cache_blocks

-- ---- beside rows

-- it is the name and the bytes of a row
abbrev pub is_row : List BlockRow → Name × Octets → Bool
is_row blocks e = option_map_or (λ (b : BlockRow). bytes_eq b.bytes e.1) (row_at blocks e.0) false

-- so is each cached block
abbrev pub agrees : KeptBlocks → List BlockRow → Bool
agrees kept blocks = list_all (is_row blocks) kept.entries

abbrev pub Agrees : KeptBlocks → List BlockRow → Type 0
Agrees kept blocks = agrees kept blocks ≡ true

-- of the blocks of its digest, each cached one is the first that has its bytes
abbrev pub AreCopies : KeptBlocks → List BlockRow → Type 0
AreCopies kept blocks =
    (e : Name × Octets) → Contains kept.entries e → option_map (λ (b : BlockRow). b.ord) (copy_in e.0.0 e.1 blocks) ≡ Some e.0.1
