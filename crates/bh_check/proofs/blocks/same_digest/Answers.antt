use Rattle.std.proofs.Common.{nat_eq, ◌∙◌}
use Rattle.std.specs.Cmp.Lexicographic.{pointwise}
use Rattle.sqlite.specs.Order.{column}
use Rattle.sqlite_typed.specs.Columns.{bytes_of}
use Rattle.bh_check.proofs.SameLemmas.{same_slices}
use Rattle.bh_check.proofs.blocks.same_digest.Goals as goal

pub returns : goal.returns
returns c = c.eq.ensures ∙ (λ i. pointwise nat_eq (c.bytes_in.ensures i) (c.bytes_in-2.ensures i)) ∙ same_slices (bytes_of (column c.args.block.now 1)) (bytes_of (column c.args.row.now 1))
