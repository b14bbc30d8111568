use Rattle.bh_shelf.specs.Marks.{all_stood}
use Rattle.bh_shelf.proofs.MarkLemmas.{ChangedBelow}
use Rattle.bh_shelf.proofs.marks.Marks.stand.Given as goal

abbrev pub invariant-loop-number : goal.invariant-loop-number
invariant-loop-number l = ChangedBelow all_stood l.number l.fn.self l.self
