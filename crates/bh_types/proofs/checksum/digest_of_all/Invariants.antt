use Rattle.std.proofs.Common.{take}
use Rattle.std.specs.List.{flat_map}
use Rattle.sha2.specs.Hashers.{Holds256}
use Rattle.bh_types.proofs.checksum.digest_of_all.Given as goal

abbrev pub invariant-loop-digest : goal.invariant-loop-digest
invariant-loop-digest l = Holds256 l.hasher (flat_map (λ d. d) (take l.digest-index l.digests))
