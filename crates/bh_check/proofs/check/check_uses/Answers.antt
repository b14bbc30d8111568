use Rattle.std.proofs.Common.{subst₂, ◌∙◌}
use Rattle.bh_check.specs.Blocks.{AreUses}
use Rattle.bh_check.specs.Holds.{block_refs}
use Rattle.bh_check.proofs.ShownLemmas.{uses_named}
use Rattle.bh_check.proofs.check.check_uses.Goals as goal

pub returns-in-None : goal.returns-in-None
returns-in-None c d read totals =
    let uses = c.in_ok-first_miscounted.ensures c.in-None.is (block_refs d) totals.block_refs_is in
    uses_named (block_refs d) (d 23) c.args.stored.now.blocks.items (d 10) (subst₂ (AreUses (block_refs d)) (c.deref.ensures.value ∙ read.uses_is) c.deref-2.ensures.value uses) read.blocks_are
