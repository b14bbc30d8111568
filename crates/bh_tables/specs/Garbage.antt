-- How many bytes of blocks lose their last use while references go.
use Rattle.std.specs.Prelude.{◌≡◌, ℕ, ◌+◌, pos, if◌then◌else◌, List, [], ◌∷◌, map, filter}
use Rattle.std.specs.Ordering.{int_eq}
use Rattle.sqlite.specs.declared.types.Value.TheVariants.{Int}
use Rattle.sqlite.specs.Order.{Row}
use Rattle.bh_tables.specs.Bodies.{Name, ref_name}
use Rattle.bh_tables.specs.Typed.{UseRow, RefRow, is_named, lowered}

-- a count, alone
abbrev pub shown_uses : UseRow → Row
shown_uses u = Int u.uses ∷ []

-- one count is of this block, and it is this number
abbrev pub HasUses : Name → ℕ → List UseRow → Type 0
HasUses q n uses = map (λ (u : UseRow). u.uses) (filter (is_named q) uses) ≡ pos n ∷ []

-- of a block with a number of uses, once it loses one
abbrev pub freed_of : ℕ → RefRow → ℕ
freed_of n r = if int_eq (pos n) (pos 1) then r.size else 0

-- so many bytes lose it once these references go, one after another
abbrev pub Frees : List RefRow → List UseRow → ℕ → Type 0
Frees [] uses freed = freed ≡ 0
Frees (r ∷ rs) uses freed = (n : ℕ) × ((rest : ℕ) ×
    (HasUses (ref_name r) n uses × ((freed ≡ freed_of n r + rest) × Frees rs (lowered (ref_name r) uses) rest)))
