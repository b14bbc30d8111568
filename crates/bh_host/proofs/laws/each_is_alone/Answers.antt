use Rattle.bh_host.proofs.Running.{each_is_alone}
use Rattle.bh_host.proofs.laws.each_is_alone.Goals as goal

pub returns : goal.returns
returns c = each_is_alone
