use Rattle.std.proofs.Common.{nat_eq, ◌∙◌}
use Rattle.std.specs.Cmp.Lexicographic.{pointwise}
use Rattle.bh_check.specs.Blocks.{block_octets}
use Rattle.bh_check.proofs.SameLemmas.{same_slices}
use Rattle.bh_check.proofs.blocks.holds.Goals as goal

pub returns : goal.returns
returns c = c.eq.ensures ∙ (λ i. pointwise nat_eq (c.bytes_in.ensures i) c.args.bytes.now) ∙ same_slices (block_octets c.args.row.now) c.args.bytes.now
