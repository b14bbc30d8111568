use Rattle.std.proofs.Common.{length}
use Rattle.std.specs.List.{AllByRecursion}
use Rattle.bh_check.specs.Blocks.{HasDigest}
use Rattle.bh_check.proofs.groups.first_misnamed_in.Given as goal

-- if each of the rest has its digest, all have
abbrev pub invariant-groups : goal.invariant-groups
invariant-groups g l = AllByRecursion (HasDigest g.D.Digester.digest_of) l.rest → AllByRecursion (HasDigest g.D.Digester.digest_of) l.fn.blocks

abbrev pub decreases-groups : goal.decreases-groups
decreases-groups g l = length l.rest
