use Rattle.bh_http.proofs.Refused.{reads_only}
use Rattle.bh_http.proofs.laws.reading_refusals.Goals as goal

pub returns : goal.returns
returns c = reads_only
