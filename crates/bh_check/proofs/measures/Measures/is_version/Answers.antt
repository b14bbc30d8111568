use Rattle.bh_check.proofs.Measured.{version_measured}
use Rattle.bh_check.proofs.measures.Measures.is_version.Goals as goal

pub returns : goal.returns
returns c fits d m = version_measured d c.args.self.now.latest c.args.row.now c.in_ok-by.by (c.in_ok-by.ensures d m) (c.is_version.ensures fits)
