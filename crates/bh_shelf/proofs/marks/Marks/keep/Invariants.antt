use Rattle.bh_shelf.specs.Marks.{all_kept}
use Rattle.bh_shelf.proofs.MarkLemmas.{ChangedBelow}
use Rattle.bh_shelf.proofs.marks.Marks.keep.Given as goal

abbrev pub invariant-loop-number : goal.invariant-loop-number
invariant-loop-number l = ChangedBelow all_kept l.number l.fn.self l.self
