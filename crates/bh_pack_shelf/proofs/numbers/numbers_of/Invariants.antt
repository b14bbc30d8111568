use Rattle.std.proofs.Common.{◌≡◌, ◌≢◌, ℕ, ◌<◌, map, take}
use Rattle.bh_pack_shelf.specs.Rows.{pack_of, row_at}
use Rattle.bh_pack_shelf.proofs.numbers.numbers_of.Given as goal

-- the numbers of the rows so far, each once
abbrev pub invariant-loop-index : goal.invariant-loop-index
invariant-loop-index l =
    (l.numbers.items ≡ map pack_of (take l.index l.listed))
    × ((i j : ℕ) → i < j → j < l.index → (row_at l.listed i).pack ≢ (row_at l.listed j).pack)
