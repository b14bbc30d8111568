use Rattle.std.proofs.Common.{refl}
use Rattle.std.specs.Fmt.{digits}
use Rattle.bh_http.proofs.fixed.clock_out_of_range.Goals as goal

pub returns : goal.returns
unfolding digits
returns c = refl
