use Rattle.bh_check.proofs.AwaitsLemmas.{awaits_bytes}
use Rattle.bh_check.proofs.laws.awaits_bytes.Goals as goal

pub returns : goal.returns
returns c = awaits_bytes
