use Rattle.std.proofs.Common.{◌+◌, ◌%◌, ◌^◌}
use Rattle.bh_lanes.proofs.Lanes.{at_splat}
use Rattle.bh_lanes.proofs.words.add_to_each.Goals as goal

pub returns : goal.returns
returns c j h = at_splat (λ x k. (x + k) % 2 ^ 32) c.args.a c.args.k j c.fits-a.0 h
