use Rattle.std.proofs.Common.{◌≡◌, take, sum_by}
use Rattle.bh_core.specs.declared.parts.PartRow.{PartRow}
use Rattle.bh_uploads.specs.Joining.{taken}
use Rattle.bh_uploads.proofs.joining.size_at.Given as goal

abbrev pub invariant-loop-at : goal.invariant-loop-at
invariant-loop-at l = l.size ≡ sum_by (λ (row : PartRow). row.size) (taken l.rows (take l.at-index l.places))
