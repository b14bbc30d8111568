use Rattle.std.proofs.Common.{◌≡◌, ℕ}
use Rattle.bh_shelf.specs.Marks.{ends_of}
use Rattle.bh_shelf.proofs.marks.Marks.reach.Given as goal

abbrev pub invariant-loop-reached : goal.invariant-loop-reached
invariant-loop-reached l = (n : ℕ) → ends_of l.self n ≡ ends_of l.fn.self n
