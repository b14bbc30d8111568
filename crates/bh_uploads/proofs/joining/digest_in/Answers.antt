use Rattle.std.proofs.Common.{sym, ◌∙◌}
use Rattle.sha2.specs.Sha256.{sha256}
use Rattle.sha2.proofs.Facts256.{length-sha256}
use Rattle.bh_view.proofs.FilterLemmas.{same_Some}
use Rattle.bh_uploads.proofs.DigestBytes.{sha256_bytes}
use Rattle.bh_uploads.proofs.joining.digest_in.Goals as goal

pub returns-in-Some : goal.returns-in-Some
returns-in-Some c bytes is = same_Some (sym c.in-Some.is ∙ c.in_ok-digest.ensures.found (sha256 bytes) (length-sha256 bytes) (sha256_bytes bytes) (c.as_str.ensures.value ∙ is))
