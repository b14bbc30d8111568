use Rattle.std.proofs.Common.{◌≡◌, length, take}
use Rattle.bh_check.specs.Garbage.{unused_size}
use Rattle.bh_check.proofs.garbage.unused_bytes.Given as goal

-- of the blocks so far
abbrev pub invariant-loop-used : goal.invariant-loop-used
invariant-loop-used l = l.bytes ≡ unused_size (take (length l.yielded) l.uses) (take (length l.yielded) l.lengths)
