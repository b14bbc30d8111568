use Rattle.bh_http.proofs.Readings.{same_reading}
use Rattle.bh_http.proofs.read.one_reading.Goals as goal

pub returns : goal.returns
returns c = same_reading
