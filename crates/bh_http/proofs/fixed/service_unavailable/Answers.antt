use Rattle.std.proofs.Common.{refl}
use Rattle.std.specs.Fmt.{digits}
use Rattle.bh_http.proofs.fixed.service_unavailable.Goals as goal

pub returns : goal.returns
unfolding digits
returns c = refl
