use Rattle.std.proofs.Common.{◌/◌, ◌^◌}
use Rattle.bh_lanes.proofs.Lanes.{at_splat}
use Rattle.bh_lanes.proofs.words.shift.Goals as goal

pub returns : goal.returns
returns c j h = at_splat (λ x n. x / 2 ^ n) c.args.x c.args.k j c.fits-x.0 h
