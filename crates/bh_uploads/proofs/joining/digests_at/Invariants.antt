use Rattle.std.proofs.Common.{◌≡◌, List, map, take}
use Rattle.sha2.specs.Sha256.{sha256}
use Rattle.bh_types.specs.Checksums.{checksum_text}
use Rattle.bh_model.specs.State.{Octets}
use Rattle.bh_uploads.specs.Joining.{sums_at}
use Rattle.bh_uploads.proofs.joining.digests_at.Given as goal

abbrev pub invariant-loop-at : goal.invariant-loop-at
invariant-loop-at l = (parts : List Octets) → sums_at l.rows (take l.at-index l.places) ≡ map checksum_text parts → l.digests.items ≡ map sha256 parts
