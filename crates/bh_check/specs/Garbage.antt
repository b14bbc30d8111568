-- The bytes of the blocks that no reference names, by the counts of uses.
use Rattle.std.specs.Prelude.{◌≡◌, ℕ, ◌+◌, ◌==◌, if◌then◌else◌, List, [], ◌∷◌, map}
use Rattle.sqlite.specs.Order.{Row}
use Rattle.sqlite.specs.Tree.{Trees}
use Rattle.bh_stored.specs.declared.stored.Edition.{Edition}
use Rattle.bh_stored.specs.declared.stored.Edition.TheVariants.{First, Second, Third, Fourth, Fifth}
use Rattle.bh_check.specs.Holds.{number_at, block_length}

-- the length of a block whose count is 0
abbrev pub unused_in : Row → ℕ → ℕ
unused_in used size = if number_at 3 used == 0 then size else 0

-- of all, the counts being in the order of the lengths
abbrev pub unused_size : List Row → List ℕ → ℕ
unused_size [] sizes = 0
unused_size (u ∷ uses) [] = 0
unused_size (u ∷ uses) (n ∷ sizes) = unused_in u n + unused_size uses sizes

-- one row has their number
abbrev pub IsGarbage : List Row → List Row → List Row → Type 0
IsGarbage rows uses blocks = map (number_at 2) rows ≡ unused_size uses (map block_length blocks) ∷ []

-- if a host's edition has that row
abbrev pub AreWeighed : Edition → Trees → Type 0
AreWeighed First d = Unit {0}
AreWeighed Second d = Unit {0}
AreWeighed Third d = Unit {0}
AreWeighed Fourth d = Unit {0}
AreWeighed Fifth d = IsGarbage (d 44) (d 23) (d 10)
