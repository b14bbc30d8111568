-- The remaining bytes of a plan.
use Rattle.std.specs.Prelude.{◌≡◌, ℕ, ◌+◌, ◌-◌, nat_lt, if◌then◌else◌, List, [], ◌∷◌, flat_map, drop, Option, Some, None}
use Rattle.bh_types.specs.declared.range.RangePlan.{RangePlan}
use Rattle.bh_types.specs.declared.range.RangePlan.TheVariants.{Whole, Part}
use Rattle.bh_tables.specs.Schema.{Octets}
use Rattle.bh_tables.specs.Typed.{RefRow, Tables}
use Rattle.bh_tables.specs.Bodies.{placed}
use Rattle.bh_tables.specs.Shown.{Name, ref_name}
use Rattle.bh_blocks.specs.Named.{named_by}
use Rattle.bh_blocks.specs.Windows.{seen_in, piece_of}
use Rattle.bh_blocks.specs.declared.reading.Plan.{Plan}
use Rattle.bh_blocks.specs.declared.reading.Window.{Window}
use Rattle.bh_blocks.specs.declared.refs.BlockRef.{BlockRef}

abbrev pub planned : Plan → Name
planned plan = (plan.tenant.now, plan.body)

-- the bytes in a window on the blocks of a body from a place on
abbrev pub shown_from : Window → ℕ → Name → Tables → Octets
shown_from window place at tables = seen_in window (flat_map (piece_of tables.blocks) (drop place (placed tables.refs at)))

-- the remaining bytes of a plan
abbrev pub coming : Plan → Tables → Octets
coming plan tables = shown_from plan.window plan.place (planned plan) tables

-- the result is the first of these references, or that there is none
abbrev pub IsFirst : Option BlockRef → List RefRow → Type 0
IsFirst None rs = rs ≡ []
IsFirst (Some block) rs = (r : RefRow) × (more : List RefRow) × (rs ≡ r ∷ more) × (named_by block ≡ ref_name r) × (block.size ≡ r.size)

-- the number of bytes in a range of a body of a size
abbrev pub size_of : RangePlan → ℕ → ℕ
size_of Whole total = total
size_of (Part first last) total = (if nat_lt last total then last + 1 else total) - first
