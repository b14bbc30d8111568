use Rattle.std.proofs.Common.{◌≡◌, map, take}
use Rattle.sqlite_schema.specs.Code.{term_in}
use Rattle.bh_compare.proofs.terms.same_terms.Given as goal

abbrev pub invariant-loop-at : goal.invariant-loop-at
invariant-loop-at l = map (term_in l.left) (take l.at l.roots) ≡ map (term_in l.right) (take l.at l.places)
