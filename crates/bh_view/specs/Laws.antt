-- Evidence that the definitions are the intended ones. A tenant's state depends on its own rows,
-- and a new host is sound. A block takes the least free ordinal, a body adds one block for each
-- distinct piece that had none, and a complete sweep leaves what is needed.
use Rattle.std.specs.Prelude.{◌≡◌, ℕ, ◌≤◌, true, ◌&&◌, List, [], ◌∷◌, ◌++◌, length, filter, None}
use Rattle.std.specs.List.{AllByRecursion, list_any}
use Rattle.sqlite_typed.specs.Tests.{bytes_eq}
use Rattle.bh_types.specs.Limits.{AreLimits}
use Rattle.bh_model.specs.Ids.{IsNumbered}
use Rattle.bh_model.specs.State.{Octets}
use Rattle.bh_tables.specs.Typed.{BlockRow, RefRow, Tables}
use Rattle.bh_tables.specs.Shown.{Name, same_name, block_name, is_use, is_of_body}
use Rattle.bh_view.specs.Grouped.{matching, HasUnique}
use Rattle.bh_view.specs.Blocks.{AreStored, AreDigests, free_ord, IsLeastFree}
use Rattle.bh_view.specs.Bodies.{blocks_after, refs_after}
use Rattle.bh_view.specs.Sweep.{due_uploads, swept, is_complete}
use Rattle.bh_view.specs.View.{rows_of, view, latest_of, limits_in}
use Rattle.bh_view.specs.Sound.{IsSound}

-- a tenant whose rows don't change has the same state, whatever the other rows are
abbrev pub ViewsStandAlone : Type 0
ViewsStandAlone = (t : Octets) (old new : Tables) → rows_of t new ≡ rows_of t old → view new t ≡ view old t

-- in a sound host no two entries of a key of a tenant have the same id, and no entry has the
-- tenant's next version number
abbrev pub ViewsAreNumbered : Type 0
ViewsAreNumbered = (tables : Tables) (t : Octets) → IsSound tables → IsNumbered (view tables t)

-- the tables of a new host, with blocks named by the function of this number
abbrev pub new_host : ℕ → ℕ → ℕ → Tables
new_host min_part max_body digest = record {
  host = record { version = 5; latest = 0; min_part = min_part; max_body = max_body; digest = digest } ∷ [];
  tenants = [];
  keys = [];
  buckets = [];
  versions = [];
  blocks = [];
  refs = [];
  uploads = [];
  parts = [];
  locks = [];
  retains = [];
}

-- a new host is sound; it has no tenant, and the limits that it was created with
abbrev pub NewHostIsSound : Type 0
NewHostIsSound = (min_part max_body digest : ℕ) → AreLimits min_part max_body → digest ≤ 1
    → IsSound (new_host min_part max_body digest) × (latest_of (new_host min_part max_body digest) ≡ 0)
    × ((t : Octets) → view (new_host min_part max_body digest) t ≡ None)
    × (limits_in (new_host min_part max_body digest) ≡ record { min_part = min_part; max_body = max_body })

-- if no two blocks have the same name, no block has the ordinal that a new one of the digest takes,
-- and each smaller one is some block's
abbrev pub FreeIsLeast : Type 0
FreeIsLeast = (digest : Octets) (blocks : List BlockRow) → HasUnique same_name block_name blocks
    → IsLeastFree digest blocks (free_ord digest blocks)

-- the blocks with these bytes
abbrev pub holding : Octets → List BlockRow → List BlockRow
holding = matching bytes_eq (λ (b : BlockRow). b.bytes)

-- each old block is unchanged and at its place. Each new one has a piece that none had, and a
-- reference of the body names it. Each piece is in exactly one block
pub record AddsEachOnce (body : Name) (cs : List Octets) (blocks now : List BlockRow) (refs : List RefRow) : Type 0 where
  pub added : List BlockRow
  pub grown : now ≡ blocks ++ added
  pub pieces : AllByRecursion (λ (b : BlockRow). list_any (bytes_eq b.bytes) cs ≡ true) added
  pub new : AllByRecursion (λ (b : BlockRow). holding b.bytes blocks ≡ []) added
  pub named : AllByRecursion (λ (b : BlockRow). list_any (λ r. is_of_body body r && is_use (block_name b) r) refs ≡ true) added
  pub held : AllByRecursion (λ c. length (holding c now) ≡ 1) cs

-- so it is after a body of these pieces is stored
abbrev pub EachPieceIsOnce : Type 0
EachPieceIsOnce = (digest : Octets → Octets) (body : Name) (cs : List Octets) (refs : List RefRow) (blocks : List BlockRow)
    → AreStored refs blocks → AreDigests digest blocks
    → AddsEachOnce body cs blocks (blocks_after digest cs blocks) (refs_after digest body 0 cs blocks refs)

-- no upload that is stale at the moment is left, and of the blocks exactly those that a reference
-- still names, in their order. So no two of them have equal bytes, and each reference names one of
-- them, if that held before
pub record LeavesNeeded (at : ℕ) (old new : Tables) : Type 0 where
  pub uploads : due_uploads at new ≡ []
  pub blocks : new.blocks ≡ filter (λ (b : BlockRow). list_any (is_use (block_name b)) new.refs) old.blocks
  pub stored : AreStored old.refs old.blocks → AreStored new.refs new.blocks

-- so it is after a complete sweep, even of unsound tables: the references to a block are those to
-- any other of its name
abbrev pub CompleteSweeps : Type 0
CompleteSweeps = (at limit : ℕ) (old : Tables) → is_complete at limit old ≡ true → LeavesNeeded at old (swept at limit old)
