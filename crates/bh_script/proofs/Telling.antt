-- How many lines a script has.
use Rattle.std.proofs.Common.{arith, ℕ, ◌+◌, ◌≤◌, List, length}
use Rattle.std.specs.Prelude.{◌==◌}
use Rattle.std.proofs.lemmas.List.Sums.{count_by-le-length}
use Rattle.std.proofs.lemmas.List.Splits.{length-slice_split}
use Rattle.bh_script.specs.Lines.{lines}

-- an input of n bytes has at most n + 1 lines
pub lines_fit : (input : List ℕ) → length (lines input) ≤ length input + 1
lines_fit input = omega (arith, length-slice_split (λ b. b == 10) input, count_by-le-length (λ b. b == 10) input)
