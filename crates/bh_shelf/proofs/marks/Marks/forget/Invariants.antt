use Rattle.bh_shelf.specs.Marks.{kept_alone}
use Rattle.bh_shelf.proofs.MarkLemmas.{ChangedBelow}
use Rattle.bh_shelf.proofs.marks.Marks.forget.Given as goal

abbrev pub invariant-loop-number : goal.invariant-loop-number
invariant-loop-number l = ChangedBelow kept_alone l.number l.fn.self l.self
