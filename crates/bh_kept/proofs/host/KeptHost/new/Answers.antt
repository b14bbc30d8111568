use Rattle.std.proofs.Common.{Some}
use Rattle.bh_kept.proofs.host.KeptHost.new.Goals as goal

pub returns : goal.returns
returns g c = λ i. Some (record { host = c.new.ensures.host i; memo = c.new.ensures.memo i })
