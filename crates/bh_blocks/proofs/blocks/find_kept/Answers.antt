use Rattle.std.proofs.Common.{sym}
use Rattle.bh_blocks.proofs.blocks.find_kept.Goals as goal

pub returns-then-is_kept-clause-found : goal.returns-then-is_kept-clause-found
returns-then-is_kept-clause-found g c clean = sym (c.requires.copies clean ((c.args.digest.now, 0), c.args.bytes.now) (c.is_kept.ensures c.if-is_kept.true))
