use Rattle.std.proofs.Common.{take}
use Rattle.std.specs.List.{AllByRecursion}
use Rattle.bh_schema.specs.Digests.{AreNamed}
use Rattle.bh_check.specs.Blocks.{HasDigest}
use Rattle.bh_check.specs.Groups.{lanes}
use Rattle.bh_check.proofs.groups.first_unlike.Given as goal

-- each block so far has its digest
abbrev pub invariant-loop-at : goal.invariant-loop-at
invariant-loop-at g l = AreNamed g.D.Digester.digest_of l.size (lanes l.size l.blocks) l.digests
    → AllByRecursion (HasDigest g.D.Digester.digest_of) (take l.at l.blocks)
